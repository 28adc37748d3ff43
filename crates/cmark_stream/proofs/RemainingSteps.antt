-- A parser of what is not settled.
use Rattle.std.proofs.Common.{◌≡◌, ℕ, List, None, refl, sym, ap, ◌∙◌}
use Rattle.cmark_block_model.specs.Tails.{document_after}
use Rattle.cmark_blocks.proofs.ReferenceSteps.{no_reference}
use Rattle.cmark_blocks.specs.Footnotes.{HasLabels, unused_if}
use Rattle.cmark_blocks.specs.Tails.{HasDefinitions}
use Rattle.cmark_grammar.specs.Answers.{Lookup}
use Rattle.cmark_grammar.specs.BlockDocument.{BlockDocument}
use Rattle.cmark_grammar.specs.References.{references}
use Rattle.cmark_grammar.specs.SpanDocuments.{footnote_labels, segments}
use Rattle.cmark_parser.specs.Tails.{ReadsRest}
use Rattle.cmark_parser.specs.Walking.{reader_by}
use Rattle.cmark_parser.specs.declared.parse.Parser.{Parser}
use Rattle.cmark_references.specs.Definitions.{definition}
use Rattle.cmark_references.specs.Footnotes.{footnote}
use Rattle.cmark_references.specs.declared.definitions.RefDefs.{RefDefs}
use Rattle.cmark_references.specs.declared.footnotes.FootnoteDefs.{FootnoteDefs}
use Rattle.cmark_stream_model.proofs.UndefinedReadings.{undefined-reading}
use Rattle.cmark_stream_model.specs.Tails.{IsJoinedAt}
use Rattle.cmark_stream_model.specs.Undefined.{HasNoDefinitions}
use Rattle.cmark_stream.specs.Streams.{Completes, IsStream, filter_of, lookup_of, options_of, profile_of, text_of}
use Rattle.cmark_stream.specs.declared.stream.Stream.{Stream}
use Rattle.cmark_stream.proofs.PartSteps.{left-silent}
use Rattle.cmark_stream.proofs.RestSteps.{cut-is-joined, undefined-whole}

-- empty tables are those of a document that defines nothing
pub no-definitions : (d : BlockDocument) (table : RefDefs) → HasNoDefinitions d → ((folded : List ℕ) → definition table folded ≡ None) → HasDefinitions (references d) table
no-definitions d table h none = λ folded. no_reference table folded (none folded) ∙ sym (h.definitions folded)

pub no-labels : (d : BlockDocument) (table : FootnoteDefs) → HasNoDefinitions d → ((folded : List ℕ) → footnote table folded ≡ None) → HasLabels (footnote_labels d) table
no-labels d table h none = λ folded. none folded ∙ sym (ap unused_if (h.footnotes folded))

module _ {E : Type 0} (replacement : E → Lookup) (s : Stream E) (h : IsStream replacement s) where
  pub joined-at-cut : IsJoinedAt (options_of s) (lookup_of replacement s) (text_of s) s.cut
  joined-at-cut = cut-is-joined s.limit (options_of s) (lookup_of replacement s) (filter_of s) (text_of s) s.cut h.shown.is_settled

  -- the events that such a parser has left complete the reading
  pub completes : {F : Type 0} (parser : Parser E F) → ReadsRest replacement s.limit (text_of s) s.cut (options_of s) (lookup_of replacement s) parser → Completes replacement s parser
  completes parser reads =
      let options = options_of s in
      let lookup = lookup_of replacement s in
      let text = text_of s in
      let shown = h.shown.html in
      record {
        earlier = shown.events;
        settled_is = shown.shown_is;
        reading = λ exchanges events unanswered remains undefined.
            undefined-reading (profile_of replacement s) refl text s.cut joined-at-cut
            (undefined-whole s.limit options lookup (filter_of s) text s.cut joined-at-cut shown.undefined undefined)
            shown.events events shown.alone
            (left-silent (reader_by text options lookup) (segments (document_after text options lookup s.cut)) s.limit exchanges events unanswered (reads.reads exchanges events remains));
      }
