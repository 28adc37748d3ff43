-- A parser of the rest of a text, from an offset on.
use Rattle.std.specs.Prelude.{ℕ, List, take, true, false, None}
use Rattle.std.specs.Str.{IsCharBoundary}
use Rattle.cmark_block_model.specs.DocumentModel.{document}
use Rattle.cmark_block_model.specs.Tails.{document_after}
use Rattle.cmark_grammar.specs.Answers.{Lookup}
use Rattle.cmark_grammar.specs.Event.{Ranged}
use Rattle.cmark_grammar.specs.Options.{Options}
use Rattle.cmark_grammar.specs.Questions.{Exchange, Plan}
use Rattle.cmark_grammar.specs.Headline.{profile}
use Rattle.cmark_grammar.specs.Readers.{Reader}
use Rattle.cmark_grammar.specs.References.{references}
use Rattle.cmark_grammar.specs.SpanDocuments.{Left, footnote_labels, segments}
use Rattle.cmark_blocks.specs.Footnotes.{HasLabels}
use Rattle.cmark_blocks.specs.Tails.{HasDefinitions}
use Rattle.cmark_references.specs.declared.definitions.RefDefs.{RefDefs}
use Rattle.cmark_references.specs.declared.footnotes.FootnoteDefs.{FootnoteDefs}
use Rattle.cmark_stream_model.specs.Continued.{reader_with}
use Rattle.cmark_stream_model.specs.Tails.{IsJoinedAt}
use Rattle.cmark_parser.specs.declared.parse.Parser.{Parser}
use Rattle.cmark_parser.specs.Parsing.{Remains}
use Rattle.cmark_parser.specs.Walking.{SomeLeft, reader_by}

-- the grammar's reader for leaves of a text, if nothing is defined and there is a callback
abbrev pub undefined_reader : (text : List ℕ) → Options → Lookup → Reader
undefined_reader text options lookup = reader_with (profile text options lookup true) text (λ folded. None) (λ folded. false)

-- The lines of a text from an offset on can be read by themselves. The blocks before the offset are those of these bytes alone, and the
-- tables have their definitions and footnotes. No footnote in them is used yet
pub record CanReadRest (text : List ℕ) (options : Options) (lookup : Lookup) (from : ℕ) (definitions : RefDefs) (footnotes : FootnoteDefs) : Type 0 where
  pub boundary : IsCharBoundary text from
  pub joined : IsJoinedAt options lookup text from
  pub defined : HasDefinitions (references (document (take from text) options lookup)) definitions
  pub labelled : HasLabels (footnote_labels (document (take from text) options lookup)) footnotes

module _ {E F : Type 0} (replacement : E → Lookup) where
  -- the parser is at the start of a walk over the lines of a text from an offset on, with this reference expansion limit. For each plan
  -- some events are left with its answers. Any events that are left are those of the blocks and leaves of these lines. The leaves are read
  -- with the definitions and footnotes of the whole text
  pub record ReadsRest (limit : ℕ) (text : List ℕ) (from : ℕ) (options : Options) (lookup : Lookup) (parser : Parser E F) : Type 0 where
    pub some : (plan : Plan) → SomeLeft (Remains replacement) plan parser
    pub reads : (exchanges : List Exchange) (events : List Ranged) → Remains replacement parser exchanges events
        → Left (reader_by text options lookup) (segments (document_after text options lookup from)) limit exchanges events

  -- the same, but the leaves are read without any definition and any footnote, whatever the other lines of the text define
  pub record ReadsUndefined (limit : ℕ) (text : List ℕ) (from : ℕ) (options : Options) (lookup : Lookup) (parser : Parser E F) : Type 0 where
    pub some : (plan : Plan) → SomeLeft (Remains replacement) plan parser
    pub reads : (exchanges : List Exchange) (events : List Ranged) → Remains replacement parser exchanges events
        → Left (undefined_reader text options lookup) (segments (document_after text options lookup from)) limit exchanges events
