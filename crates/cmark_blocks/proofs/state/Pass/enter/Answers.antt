use Rattle.std.proofs.Common.{◌≡◌, suc, List, ◌∷◌, [], ◌++◌, length, ap, ◌∙◌, subst, sym, arith, length-append}
use Rattle.cmark_block_model.specs.OpenBlocks as model
use Rattle.cmark_blocks.specs.FootnoteRuns.{AreRuns}
use Rattle.cmark_blocks.specs.Shown.{ShowsContainers}
use Rattle.cmark_blocks.specs.declared.state.OpenContainer.{OpenContainer}
use Rattle.cmark_blocks.proofs.EmptySteps.{keep-entered}
use Rattle.cmark_blocks.proofs.OldFootnoteSteps.{runs-more}
use Rattle.cmark_blocks.proofs.RunSteps.{shows-snoc, runs-inner, runs-outer}
use Rattle.cmark_blocks.specs.Runs.{state_of}
use Rattle.cmark_blocks.proofs.state.Pass.enter.Goals as goal

pub invariant_of-self-then-is_old-clause-empties : goal.invariant_of-self-then-is_old-clause-empties
invariant_of-self-then-is_old-clause-empties g c =
    keep-entered c.args.self.now.outer.items c.push.new.self.items (record { container = c.args.container; around = c.args.self.now.inner }) c.args.self.now.strict c.len.result c.strict_with-self.result c.in_ok-push.ensures.items
    (omega (arith, c.len.ensures, c.push.new.self.ok)) c.strict_with-self.ensures c.args.self.now.empties

pub invariant_of-self-then-is_old-clause-footnotes : goal.invariant_of-self-then-is_old-clause-footnotes
invariant_of-self-then-is_old-clause-footnotes g c =
    let before = c.args.self.now.outer.items in
    let entered : OpenContainer = record { container = c.args.container; around = c.args.self.now.inner } in
    let count : suc (length before) ≡ c.len-then-is_old.result = omega (arith, c.len-then-is_old.ensures, c.push.new.self.ok, ap length c.in_ok-push.ensures.items, length-append before (entered ∷ [])) in
    subst (λ l. AreRuns l 0 c.add_to_runs.new.runs.items) (sym {A = List OpenContainer} c.in_ok-push.ensures.items)
    (c.add_to_runs.ensures before entered count (sym c.is_old.ensures ∙ c.if-is_old.true) c.args.self.now.footnotes)

pub invariant_of-self-else-is_old-clause-empties : goal.invariant_of-self-else-is_old-clause-empties
invariant_of-self-else-is_old-clause-empties g c =
    keep-entered c.args.self.now.outer.items c.push.new.self.items (record { container = c.args.container; around = c.args.self.now.inner }) c.args.self.now.strict c.len.result c.strict_with-self.result c.in_ok-push.ensures.items
    (omega (arith, c.len.ensures, c.push.new.self.ok)) c.strict_with-self.ensures c.args.self.now.empties

pub invariant_of-self-else-is_old-clause-footnotes : goal.invariant_of-self-else-is_old-clause-footnotes
invariant_of-self-else-is_old-clause-footnotes g c =
    let before = c.args.self.now.outer.items in
    let entered : OpenContainer = record { container = c.args.container; around = c.args.self.now.inner } in
    subst (λ l. AreRuns l 0 c.args.self.now.footnote_runs.items) (sym {A = List OpenContainer} c.in_ok-push.ensures.items)
    (runs-more before (entered ∷ []) 0 c.args.self.now.footnote_runs.items c.args.self.now.footnotes)

pub returns-in_ok-add_to_runs-clause-runs : goal.returns-in_ok-add_to_runs-clause-runs
returns-in_ok-add_to_runs-clause-runs g c k shows text options lookup m runs =
    let replacement = g.E.EntityLookup.replacement in
    let outer : List model.OpenContainer = m.outer ++ record { container = k; around = m.inner } ∷ [] in
    runs-inner replacement text options lookup _ _ c.none-self.result model.no_siblings
    (runs-outer replacement text options lookup m (state_of c.args.self.now) c.push.new.self outer runs
    (subst (λ items. ShowsContainers items outer) (sym {A = List OpenContainer} c.in_ok-push.ensures.items) (shows-snoc _ _ _ _ runs.outer (shows, runs.inner))))
    c.none-self.ensures

pub returns-else-is_old-clause-runs : goal.returns-else-is_old-clause-runs
returns-else-is_old-clause-runs g c k shows text options lookup m runs =
    let replacement = g.E.EntityLookup.replacement in
    let outer : List model.OpenContainer = m.outer ++ record { container = k; around = m.inner } ∷ [] in
    runs-inner replacement text options lookup _ _ c.none-self.result model.no_siblings
    (runs-outer replacement text options lookup m (state_of c.args.self.now) c.push.new.self outer runs
    (subst (λ items. ShowsContainers items outer) (sym {A = List OpenContainer} c.in_ok-push.ensures.items) (shows-snoc _ _ _ _ runs.outer (shows, runs.inner))))
    c.none-self.ensures
