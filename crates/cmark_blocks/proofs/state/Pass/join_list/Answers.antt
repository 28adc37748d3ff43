use Rattle.std.proofs.lemmas.Result.{on_ok_weaker}
use Rattle.std.proofs.Common.{◌≡◌, Some, None, option_map, sym, ap, ◌∙◌, subst}
use Rattle.cmark_block_model.specs.BlockPass.{siblings_with_item}
use Rattle.cmark_blocks.specs.Shown.{shown_list, list_of}
use Rattle.cmark_blocks.specs.Runs.{Runs, state_of, RunsIn}
use Rattle.cmark_blocks.proofs.RunSteps.{goes-on, begins, runs-inner}
use Rattle.cmark_blocks.proofs.state.Pass.join_list.Goals as goal

pub returns-in-Some-clause-runs : goal.returns-in-Some-clause-runs
returns-in-Some-clause-runs g c text options lookup m runs =
    let replacement = g.E.EntityLookup.replacement in
    let item = c.args.item in
    let l = shown_list c.in-Some.list in
    let found : list_of item.delimiter m.inner.list ≡ Some l =
    ap (λ s. list_of item.delimiter s.list) (sym runs.inner) ∙ sym c.list_of.ensures.list ∙ ap (option_map shown_list) c.in-Some.is in
    subst (λ p. RunsIn replacement text options lookup p (record (state_of c.args.self.now) { inner = c.with_item_of-self.result })) (sym (goes-on item.delimiter item.number c.args.start m m.inner.list l found))
    (runs-inner replacement text options lookup m (state_of c.args.self.now) c.with_item_of-self.result (siblings_with_item l m.inner) runs (c.with_item_of-self.ensures ∙ ap (siblings_with_item l) runs.inner))

pub returns-in-None-clause-runs : goal.returns-in-None-clause-runs
returns-in-None-clause-runs g c =
    on_ok_weaker c.begin_list.result
    (λ ran. λ text options lookup m runs.
    let item = c.args.item in
    let none : list_of item.delimiter m.inner.list ≡ None =
    ap (λ s. list_of item.delimiter s.list) (sym runs.inner) ∙ sym c.list_of.ensures.list ∙ ap (option_map shown_list) c.in-None.is in
    subst (λ p. Runs g.E.EntityLookup.replacement text options lookup p c.begin_list.new.self) (sym (begins item.delimiter item.number c.args.start m m.inner.list none))
    (ran text options lookup m runs))
    c.begin_list.ensures.runs
