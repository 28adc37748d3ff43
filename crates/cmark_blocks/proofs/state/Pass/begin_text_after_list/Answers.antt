use Rattle.std.proofs.Common.{sym, ap, ◌∙◌, subst}
use Rattle.std.specs.Prelude.{is_some}
use Rattle.cmark_block_model.specs.BlockPass.{definitions_in, siblings_with_paragraph}
use Rattle.cmark_blocks.specs.Shown.{shown_list}
use Rattle.cmark_blocks.specs.Runs.{state_of, RunsIn}
use Rattle.cmark_blocks.proofs.RunSteps.{runs-inner}
use Rattle.cmark_blocks.proofs.TitleSteps.{but-none, but-some, shown-some}
use Rattle.cmark_blocks.proofs.state.Pass.begin_text_after_list.Goals as goal

pub returns-then-is_some-clause-runs : goal.returns-then-is_some-clause-runs
returns-then-is_some-clause-runs g c text options lookup m runs =
    let replacement = g.E.EntityLookup.replacement in
    let inner = siblings_with_paragraph m.inner in
    let some = ap (λ s. is_some (definitions_in s.list)) (sym runs.inner) ∙ ap is_some (sym c.definitions.ensures) ∙ shown-some shown_list c.definitions.result ∙ sym c.is_some.ensures ∙ c.if-is_some.true in
    subst (λ d. RunsIn replacement text options lookup (record m { drawing = d; inner = inner }) (record (state_of c.args.self.now) { inner = c.with_paragraph-self.result })) (sym (but-some (definitions_in m.inner.list) m.inner m.drawing some))
    (runs-inner replacement text options lookup m (state_of c.args.self.now) c.with_paragraph-self.result inner runs (c.with_paragraph-self.ensures ∙ ap siblings_with_paragraph runs.inner))

pub returns-clause-runs : goal.returns-clause-runs
returns-clause-runs g c text options lookup m runs =
    let replacement = g.E.EntityLookup.replacement in
    let inner = siblings_with_paragraph m.inner in
    let r = c.close_list.ensures.runs text options lookup m runs in
    let none = ap (λ s. is_some (definitions_in s.list)) (sym runs.inner) ∙ ap is_some (sym c.definitions.ensures) ∙ shown-some shown_list c.definitions.result ∙ sym c.is_some.ensures ∙ c.if-is_some.false in
    subst (λ d. RunsIn replacement text options lookup (record m { drawing = d; inner = inner }) (record (state_of c.close_list.new.self) { inner = c.with_paragraph-self-2.result })) (sym (but-none (definitions_in m.inner.list) m.inner m.drawing none))
    (runs-inner replacement text options lookup _ (state_of c.close_list.new.self) c.with_paragraph-self-2.result inner r (c.with_paragraph-self-2.ensures ∙ ap siblings_with_paragraph r.inner))
