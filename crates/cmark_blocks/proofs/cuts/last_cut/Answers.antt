use Rattle.std.proofs.Common.{[], sym, subst}
use Rattle.std.specs.Str.{IsCharBoundary}
use Rattle.cmark_stream_model.specs.Settled.{IsSettledAt}
use Rattle.cmark_stream_model.proofs.SettledCuts.{stays-joined}
use Rattle.cmark_values.specs.Shown.{shown_options}
use Rattle.cmark_blocks.proofs.ReferenceSteps.{no_reference}
use Rattle.cmark_blocks.proofs.SearchSteps.{starts-here}
use Rattle.cmark_blocks.proofs.cuts.last_cut.Goals as goal

pub find_cut-requires : goal.find_cut-requires
find_cut-requires c = record {
  starts = starts-here c.args.text.now (shown_options c.args.options) _ c.args.from c.in_ok-pass.pass
      (c.in_ok-pass.ensures.runs [] [] (λ folded. no_reference c.new-definitions.result folded (c.new-definitions.ensures folded)) c.new-footnotes.ensures);
}

-- the beginning is settled for the pass too
pub returns-clause-settled : goal.returns-clause-settled
returns-clause-settled c = λ settled.
    let runs = c.in_ok-pass.ensures.runs [] [] (λ folded. no_reference c.new-definitions.result folded (c.new-definitions.ensures folded)) c.new-footnotes.ensures in
    let begun : IsSettledAt (shown_options c.in_ok-pass.pass.options) c.in_ok-pass.pass.text.now c.args.from =
    subst (λ o. IsSettledAt o c.in_ok-pass.pass.text.now c.args.from) (sym runs.options_is)
    (subst (λ t. IsSettledAt (shown_options c.args.options) t c.args.from) (sym runs.text_is) settled) in
    subst (λ o. IsSettledAt o c.args.text.now c.in_ok-cut.cut) runs.options_is
    (subst (λ t. IsSettledAt (shown_options c.in_ok-pass.pass.options) t c.in_ok-cut.cut) runs.text_is (c.in_ok-cut.ensures.settled begun))

pub returns-clause-stays : goal.returns-clause-stays
returns-clause-stays c = λ settled. stays-joined (shown_options c.args.options) c.args.text.now c.in_ok-cut.cut (returns-clause-settled c settled)

pub returns-clause-order : goal.returns-clause-order
returns-clause-order c = λ settled.
    let runs = c.in_ok-pass.ensures.runs [] [] (λ folded. no_reference c.new-definitions.result folded (c.new-definitions.ensures folded)) c.new-footnotes.ensures in
    c.in_ok-cut.ensures.order
    (subst (λ o. IsSettledAt o c.in_ok-pass.pass.text.now c.args.from) (sym runs.options_is)
    (subst (λ t. IsSettledAt (shown_options c.args.options) t c.args.from) (sym runs.text_is) settled))

pub returns-clause-boundary : goal.returns-clause-boundary
returns-clause-boundary c =
    let runs = c.in_ok-pass.ensures.runs [] [] (λ folded. no_reference c.new-definitions.result folded (c.new-definitions.ensures folded)) c.new-footnotes.ensures in
    subst (λ t. IsCharBoundary t c.in_ok-cut.cut) runs.text_is c.in_ok-cut.ensures.boundary
