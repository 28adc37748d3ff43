use Rattle.std.proofs.Common.{◌≡◌, not, Some, None, option_map, sym, ap, ◌∙◌, subst}
use Rattle.cmark_grammar.specs.Derivation.{list_kind}
use Rattle.cmark_items.specs.ItemNodes.{kind_of, list_number}
use Rattle.cmark_block_model.specs.BlockPass.{list_closed, title_released}
use Rattle.cmark_builder.specs.Drawn.{Draws}
use Rattle.cmark_builder.proofs.DrawnSteps.{draws-close_as}
use Rattle.cmark_blocks.specs.Shown.{shown_list}
use Rattle.cmark_blocks.specs.Runs.{Runs, state_of}
use Rattle.cmark_blocks.proofs.RunSteps.{runs-builder, list_is}
use Rattle.cmark_items.specs.Tables.{defined}
use Rattle.cmark_blocks.proofs.state.Pass.close_list.Goals as goal

pub returns-in-Some-clause-runs : goal.returns-in-Some-clause-runs
returns-in-Some-clause-runs g c text options lookup m runs =
    let l = c.in-Some.list in
    let mid = c.release_title.new.self in
    let d = title_released m.inner.title m.drawing in
    let r = c.release_title.ensures.runs text options lookup m runs in
    let there : Some (shown_list l) ≡ m.inner.list = ap (option_map shown_list) (sym c.in-Some.is) ∙ c.open_list.ensures ∙ list_is g.E.EntityLookup.replacement text options lookup (record m { drawing = d }) (state_of mid) r in
    runs-builder g.E.EntityLookup.replacement text options lookup (record m { drawing = d }) (state_of mid) c.close_as.new.self (list_closed m.inner.list d) r
    (subst (λ o. Draws text c.close_as.new.self (list_closed o d)) there
    (draws-close_as text mid.builder c.close_as.new.self l.end _ (list_kind l.delimiter (list_number l.delimiter l.number) (not l.loose)) d c.close_as.ensures.closed c.close_as.ensures.none c.close_as.ensures.tables (ap (kind_of mid.builder.allocations.texts) c.body.ensures) r.drawing))
    (ap defined c.close_as.ensures.tables)

pub returns-in_default-clause-runs : goal.returns-in_default-clause-runs
returns-in_default-clause-runs g c text options lookup m runs =
    let d = title_released m.inner.title m.drawing in
    let r = c.release_title.ensures.runs text options lookup m runs in
    let none : None ≡ m.inner.list = ap (option_map shown_list) (sym c.in_default.is) ∙ c.open_list.ensures ∙ list_is g.E.EntityLookup.replacement text options lookup (record m { drawing = d }) (state_of c.release_title.new.self) r in
    subst (λ o. Runs g.E.EntityLookup.replacement text options lookup (record m { drawing = list_closed o d }) c.release_title.new.self) none r
