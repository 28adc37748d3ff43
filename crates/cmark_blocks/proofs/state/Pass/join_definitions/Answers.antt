use Rattle.std.proofs.lemmas.Result.{on_ok_weaker}
use Rattle.std.proofs.Common.{◌≡◌, Some, None, option_map, sym, ap, ◌∙◌, subst}
use Rattle.cmark_block_model.specs.BlockPass.{definition_after}
use Rattle.cmark_blocks.specs.Shown.{shown_title}
use Rattle.cmark_blocks.specs.Runs.{Runs}
use Rattle.cmark_blocks.proofs.state.Pass.join_definitions.Goals as goal

pub returns-in-Some-clause-runs : goal.returns-in-Some-clause-runs
returns-in-Some-clause-runs g c =
    on_ok_weaker c.make_title.result
    (λ ran. λ text options lookup m runs.
    let there : Some (shown_title c.in-Some.title) ≡ m.inner.title = ap (option_map shown_title) (sym c.in-Some.is) ∙ c.title.ensures ∙ ap (λ s. s.title) runs.inner in
    subst (λ t. Runs g.E.EntityLookup.replacement text options lookup (definition_after t c.args.start m) c.make_title.new.self) there (ran text options lookup m runs))
    c.make_title.ensures.runs

pub returns-in-None-clause-runs : goal.returns-in-None-clause-runs
returns-in-None-clause-runs g c =
    on_ok_weaker c.join_list.result
    (λ ran. λ text options lookup m runs.
    let none : None ≡ m.inner.title = ap (option_map shown_title) (sym c.in-None.is) ∙ c.title.ensures ∙ ap (λ s. s.title) runs.inner in
    subst (λ t. Runs g.E.EntityLookup.replacement text options lookup (definition_after t c.args.start m) c.join_list.new.self) none (ran text options lookup m runs))
    c.join_list.ensures.runs
