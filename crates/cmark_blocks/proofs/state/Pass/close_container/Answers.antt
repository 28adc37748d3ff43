use Rattle.std.proofs.Common.{[], ◌∷◌, ◌++◌, ap, ◌∙◌, subst, length, arith, length-append}
use Rattle.std.proofs.lemmas.List.{nil_from_length}
use Rattle.cmark_block_model.specs.BlockPass.{ended, after_container}
use Rattle.cmark_block_model.specs.Drawing.{closed_at}
use Rattle.cmark_builder.specs.Drawn.{Draws}
use Rattle.cmark_builder.proofs.DrawnSteps.{draws-close}
use Rattle.cmark_blocks.specs.EmptyLines.{KeepEmptyFrom}
use Rattle.cmark_blocks.proofs.EmptySteps.{keep-fewer}
use Rattle.cmark_blocks.specs.Shown.{shown_siblings, ShowsContainers}
use Rattle.cmark_blocks.proofs.RunSteps.{shows-unsnoc, shows-none, runs-builder, runs-inner, runs-outer}
use Rattle.cmark_items.specs.Tables.{defined}
use Rattle.cmark_blocks.specs.Runs.{state_of}
use Rattle.cmark_blocks.proofs.state.Pass.close_container.Goals as goal

pub strict_count-self-requires : goal.strict_count-self-requires
strict_count-self-requires g c =
    let strict = c.close_list.new.self.strict in
    keep-fewer c.pop.new.self.items c.in-Some.open strict (subst (KeepEmptyFrom strict) c.in-Some.ensures.items c.close_list.new.self.empties)

pub returns-in-Some-clause-runs : goal.returns-in-Some-clause-runs
returns-in-Some-clause-runs g c text options lookup m outer last split runs =
    let replacement = g.E.EntityLookup.replacement in
    let before = c.close_list.new.self in
    let r = c.close_list.ensures.runs text options lookup m runs in
    let parts = shows-unsnoc c.pop.new.self.items outer c.in-Some.open last
    (subst (λ items. ShowsContainers items (outer ++ last ∷ [])) c.in-Some.ensures.items (subst (ShowsContainers before.outer.items) split r.outer)) in
    let drawing = ended m.inner m.drawing in
    let draws = subst (λ end. Draws text c.close.new.self (closed_at end drawing)) r.line_end
    (draws-close text before.builder c.close.new.self before.line_end drawing c.close.ensures.closed c.close.ensures.none c.close.ensures.tables r.drawing) in
    runs-inner replacement text options lookup _ _ c.siblings_after-self.result (after_container last.container m.line_end m.inner last.around)
    (runs-builder replacement text options lookup _ _ c.close.new.self (closed_at m.line_end drawing)
    (runs-outer replacement text options lookup _ (state_of before) c.pop.new.self outer r parts.0) draws (ap defined c.close.ensures.tables))
    (c.siblings_after-self.ensures last parts.1
    ∙ ap (λ end. after_container last.container end (shown_siblings before.inner) last.around) r.line_end
    ∙ ap (λ inside. after_container last.container m.line_end inside last.around) r.inner)

pub returns-in-Some-clause-fewer : goal.returns-in-Some-clause-fewer
returns-in-Some-clause-fewer g c =
    let items = ap length c.in-Some.ensures.items ∙ length-append c.pop.new.self.items (c.in-Some.open ∷ []) in
    let same = ap (λ v. length v.items) c.close_list.ensures.outer in
    omega (arith, items, same)

pub returns-in_default-clause-runs : goal.returns-in_default-clause-runs
returns-in_default-clause-runs g c text options lookup m outer last split runs =
    let r = c.close_list.ensures.runs text options lookup m runs in
    absurd (shows-none outer last (subst (λ items. ShowsContainers items (outer ++ last ∷ [])) (nil_from_length c.close_list.new.self.outer.items (omega (arith, c.close_list.new.self.outer.ok, c.in_default.ensures.cases.0))) (subst (ShowsContainers c.close_list.new.self.outer.items) split r.outer)))

pub returns-in_default-clause-fewer : goal.returns-in_default-clause-fewer
returns-in_default-clause-fewer g c =
    let same = ap (λ v. length v.items) c.close_list.ensures.outer in
    omega (arith, same, c.pop.new.self.ok, c.close_list.new.self.outer.ok, c.in_default.ensures.cases.0, c.in_default.ensures.cases.1)
