use Rattle.std.proofs.Common.{◌≡◌, not, Some, None, option_map, sym, ap, ◌∙◌, subst}
use Rattle.cmark_grammar.specs.Derivation.{list_kind}
use Rattle.cmark_items.specs.ItemNodes.{kind_of, list_number}
use Rattle.cmark_block_model.specs.BlockPass.{released_from, title_released}
use Rattle.cmark_builder.specs.Drawn.{Draws}
use Rattle.cmark_builder.proofs.DrawnSteps.{draws-released}
use Rattle.cmark_blocks.specs.Shown.{shown_list}
use Rattle.cmark_blocks.specs.Runs.{Runs, state_of}
use Rattle.cmark_blocks.specs.Titles.{list_around}
use Rattle.cmark_blocks.proofs.RunSteps.{runs-builder}
use Rattle.cmark_blocks.proofs.TitleSteps.{released-around}
use Rattle.cmark_items.specs.Tables.{defined}
use Rattle.cmark_blocks.proofs.state.Pass.release_title.Goals as goal

pub returns-in-Some-clause-runs : goal.returns-in-Some-clause-runs
returns-in-Some-clause-runs g c text options lookup m runs =
    let l = c.in-Some.list in
    let before = c.args.self.now.builder in
    let there : Some (shown_list l) ≡ list_around m.inner.title = ap (option_map shown_list) (sym c.in-Some.is) ∙ c.list_around.ensures ∙ ap (λ s. list_around s.title) runs.inner in
    runs-builder g.E.EntityLookup.replacement text options lookup m (state_of c.args.self.now) c.release_last.new.self (title_released m.inner.title m.drawing) runs
    (subst (Draws text c.release_last.new.self) (ap (λ o. released_from o m.drawing) there ∙ sym (released-around m.inner.title m.drawing))
    (draws-released text before c.release_last.new.self l.end c.body.result (list_kind l.delimiter (list_number l.delimiter l.number) (not l.loose)) m.drawing c.release_last.ensures.released c.release_last.ensures.childless c.release_last.ensures.none c.release_last.ensures.tables (ap (kind_of before.allocations.texts) c.body.ensures) runs.drawing))
    (ap defined c.release_last.ensures.tables)

pub returns-in_default-clause-runs : goal.returns-in_default-clause-runs
returns-in_default-clause-runs g c text options lookup m runs =
    let none : None ≡ list_around m.inner.title = ap (option_map shown_list) (sym c.in_default.is) ∙ c.list_around.ensures ∙ ap (λ s. list_around s.title) runs.inner in
    subst (λ d. Runs g.E.EntityLookup.replacement text options lookup (record m { drawing = d }) c.args.self.now) (ap (λ o. released_from o m.drawing) none ∙ sym (released-around m.inner.title m.drawing)) runs
