-- A parser of the lines after an offset, if they define nothing.
use Rattle.std.proofs.Common.{◌≡◌, ◌∙◌, ◌+◌, ◌*◌, ◌<◌, ◌≤◌, ℕ, Bool, true, false, List, [], length, None, inr, refl, sym, ap, subst, arith}
use Rattle.std.specs.Prelude.{IsCharBoundary, IsUtf8}
use Rattle.cmark_block_model.specs.Tails.{document_after}
use Rattle.cmark_block_model.proofs.TailLaws.{after-few}
use Rattle.cmark_grammar.specs.Answers.{Lookup}
use Rattle.cmark_grammar.specs.Event.{Ranged}
use Rattle.cmark_grammar.specs.Options.{Options}
use Rattle.cmark_grammar.specs.Questions.{Exchange}
use Rattle.cmark_grammar.specs.Readers.{Reader}
use Rattle.cmark_grammar.specs.SpanDocuments.{Segment, footnote_labels, has_label, segments}
use Rattle.cmark_grammar.specs.SpanDocuments as documents
use Rattle.cmark_inline_model.proofs.PlannedReadings.{left-planned}
use Rattle.cmark_inline_model.proofs.TailLeaves.{after-no-pipes, after-placed, after-ranges}
use Rattle.cmark_blocks.specs.Footnotes.{unused_if}
use Rattle.cmark_blocks.specs.Tails.{LeavesRest}
use Rattle.cmark_blocks.specs.declared.first_pass.FirstPass.{FirstPass}
use Rattle.cmark_event_walk.specs.Walking as walking
use Rattle.cmark_event_walk.specs.Walking.{ArePlaced}
use Rattle.cmark_references.specs.Definitions.{reference_at}
use Rattle.cmark_references.specs.Footnotes.{footnote}
use Rattle.cmark_references.specs.declared.definitions.RefDefs.{RefDefs}
use Rattle.cmark_references.specs.declared.footnotes.FootnoteDefs.{FootnoteDefs}
use Rattle.cmark_stream_model.specs.Undefined.{HasNoDefinitions}
use Rattle.cmark_parser.specs.declared.parse.Parser.{Parser}
use Rattle.cmark_parser.specs.Parsing.{CanGo, IsCounted, Left, definitions, footnotes, lookup_of, options_of, reader_for, text_of}
use Rattle.cmark_parser.specs.Tails.{ReadsUndefined, undefined_reader}
use Rattle.cmark_parser.proofs.ParseSteps.{label-same, placed-all, placed-turn, said-same}

unused-none : (b : Bool) → unused_if b ≡ None → b ≡ false
unused-none false e = refl
unused-none true e = cc

-- the tables of the block pass are empty only if the lines define nothing
pub empty-defines-nothing : (text : List ℕ) (options : Options) (lookup : Lookup) (from : ℕ) (pass : FirstPass) → LeavesRest text from options lookup [] [] pass → pass.allocations.references ≡ [] → pass.allocations.footnotes ≡ []
    → HasNoDefinitions (document_after text options lookup from)
empty-defines-nothing text options lookup from pass l none unlabelled = record {
  definitions = λ folded. sym (l.references folded) ∙ ap (λ (t : RefDefs). reference_at t folded) none;
  footnotes = λ folded. unused-none (has_label folded (footnote_labels (document_after text options lookup from))) (sym (l.footnotes folded) ∙ ap (λ (t : FootnoteDefs). footnote t folded) unlabelled);
}

module _ {E F : Type 0} (replacement : E → Lookup) (parser : Parser E F) (text : List ℕ) (options : Options) (lookup : Lookup) (from : ℕ) where
  abbrev pub left : List Segment
  left = segments (document_after text options lookup from)

  abbrev pub reader : Reader
  reader = undefined_reader text options lookup

  pub undefined-placed : IsUtf8 text → IsCharBoundary text from → ArePlaced reader left
  undefined-placed utf8 begins = placed-all reader left (after-ranges text from begins.0 options lookup utf8 begins) (after-placed reader from begins.0 options lookup) (after-no-pipes reader from begins.0 options lookup)

  pub undefined-few : from ≤ length text → length left < length text * 786444 + 1
  undefined-few within = let a = after-few text from within options lookup in omega (arith, a)

  module _ (text_is : text_of parser ≡ text) (options_is : options_of parser ≡ options) (lookup_is : lookup_of replacement parser ≡ lookup) (none : definitions parser ≡ []) (unlabelled : footnotes parser ≡ []) where
    -- the reader has the data of the parser
    pub undefined-same : walking.ReadsSame replacement reader parser.spans
    undefined-same = record {
      source = sym text_is;
      options_are = sym options_is;
      lookup_is = sym lookup_is;
      definitions = λ folded. said-same folded (definitions parser) None (ap (λ (t : RefDefs). reference_at t folded) none);
      footnotes_are = λ folded. label-same (footnote (footnotes parser) folded) false (ap (λ (t : FootnoteDefs). footnote t folded) unlabelled);
      callback = refl;
    }

    pub undefined-reader : reader ≡ reader_for replacement parser
    undefined-reader = λ i. record {
      source = sym text_is i;
      options = sym options_is i;
      lookup = sym lookup_is i;
      definition = λ folded. sym (ap (λ (t : RefDefs). reference_at t folded) none) i;
      has_footnote = λ folded. label-same (footnote (footnotes parser) folded) false (ap (λ (t : FootnoteDefs). footnote t folded) unlabelled) i;
      has_callback = true;
    }

  pub reads-undefined : (limit : ℕ) → parser.is_over ≡ false → reader ≡ reader_for replacement parser → walking.expansion_left_of parser.spans ≡ limit → ArePlaced reader left
      → ((exchanges : List Exchange) (events : List Ranged) → documents.Left reader left (walking.expansion_left_of parser.spans) exchanges events → walking.Remains replacement reader parser.spans exchanges events)
      → ((exchanges : List Exchange) (events : List Ranged) → walking.Remains replacement reader parser.spans exchanges events → documents.Left reader left (walking.expansion_left_of parser.spans) exchanges events)
      → ReadsUndefined replacement limit text from options lookup parser
  reads-undefined limit e same limit-is placed begins reads = record {
    some = λ plan.
        let l = left-planned reader left (walking.expansion_left_of parser.spans) plan (placed-turn reader left placed) in
        (l.0, l.1, l.2, subst (λ b. Left replacement b parser l.0 l.1) (sym e) (subst (λ r. walking.Remains replacement r parser.spans l.0 l.1) same (begins l.0 l.1 l.3)));
    reads = λ exchanges events m.
        subst (λ n. documents.Left reader left n exchanges events) limit-is (reads exchanges events (subst (λ r. walking.Remains replacement r parser.spans exchanges events) (sym same) (subst (λ b. Left replacement b parser exchanges events) e m)));
  }

  pub can-begin-undefined : (limit : ℕ) → ReadsUndefined replacement limit text from options lookup parser → IsCounted parser → CanGo replacement parser
  can-begin-undefined limit r counted = record { goes = inr r.some; counted = counted }
