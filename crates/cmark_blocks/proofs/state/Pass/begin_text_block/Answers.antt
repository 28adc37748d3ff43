use Rattle.std.proofs.Common.{sym, ap, ◌∙◌, subst}
use Rattle.std.specs.Prelude.{◌||◌, is_some}
use Rattle.cmark_block_model.specs.BlockPass.{siblings_with_paragraph}
use Rattle.cmark_blocks.specs.Runs.{state_of, RunsIn}
use Rattle.cmark_blocks.specs.Titles.{list_around}
use Rattle.cmark_blocks.proofs.RunSteps.{runs-inner}
use Rattle.cmark_blocks.proofs.TitleSteps.{but-alone, no-list}
use Rattle.cmark_blocks.proofs.state.Pass.begin_text_block.Goals as goal

pub add_paragraph-requires : goal.add_paragraph-requires
add_paragraph-requires g c = no-list _ _ (sym c.has_list.ensures ∙ c.if-has_list.false)

pub returns-clause-runs : goal.returns-clause-runs
returns-clause-runs g c text options lookup m runs =
    let replacement = g.E.EntityLookup.replacement in
    let inner = siblings_with_paragraph m.inner in
    let none = ap (λ s. is_some s.list || is_some (list_around s.title)) (sym runs.inner) ∙ sym c.has_list.ensures ∙ c.if-has_list.false in
    subst (λ d. RunsIn replacement text options lookup (record m { drawing = d; inner = inner }) (record (state_of c.args.self.now) { inner = c.add_paragraph.new.self })) (sym (but-alone m.inner m.drawing none))
    (runs-inner replacement text options lookup m (state_of c.args.self.now) c.add_paragraph.new.self inner runs (c.add_paragraph.ensures ∙ ap siblings_with_paragraph runs.inner))
