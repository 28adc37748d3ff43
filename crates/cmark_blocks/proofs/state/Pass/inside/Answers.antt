use Rattle.std.proofs.Common.{◌≡◌, List, [], ◌∷◌, length, refl, sym, ap, ◌∙◌, subst, vec_len, arith}
use Rattle.cmark_line_rules.specs.Rests.{row_of}
use Rattle.cmark_line_rules.proofs.RestSteps.{whole}
use Rattle.cmark_block_model.specs.BlockPass.{ahead_in, kept_by}
use Rattle.cmark_block_model.specs.OpenBlocks as model
use Rattle.cmark_blocks.specs.Shown.{ShowsContainers}
use Rattle.cmark_blocks.specs.declared.state.OpenContainer.{OpenContainer}
use Rattle.cmark_blocks.proofs.AheadSteps.{Sees, sees}
use Rattle.cmark_blocks.proofs.FeedSteps.{is-zero}
use Rattle.cmark_blocks.proofs.KeepingSteps.{shows-all, shows-some}
use Rattle.cmark_blocks.proofs.state.Pass.inside.Goals as goal

-- if no container is open, the grammar's list is empty
nothing-open : (cs : List OpenContainer) (ms : List model.OpenContainer) → length cs ≡ 0 → ShowsContainers cs ms → ms ≡ []
nothing-open [] [] e s = refl
nothing-open [] (m ∷ ms) e s = absurd s
nothing-open (c ∷ cs) ms e s = absurd (omega (arith, e))

pub returns-then-is_empty-clause-seen : goal.returns-then-is_empty-clause-seen
returns-then-is_empty-clause-seen g c text options lookup m more runs =
    let r = row_of c.args.line in
    let outer = c.args.self.now.outer in
    let none : vec_len outer ≡ 0 = is-zero (vec_len outer) (sym c.is_empty.ensures ∙ c.if-is_empty.true) in
    let empty = nothing-open outer.items m.outer (omega (arith, none, outer.ok.0)) runs.outer in
    (refl, subst (λ cs. ahead_in text options lookup cs (r ∷ more) ≡ r ∷ ahead_in text options lookup cs more) (sym empty) refl)

pub returns-then-is_empty-clause-following : goal.returns-then-is_empty-clause-following
returns-then-is_empty-clause-following g c = (0, ((row_of c.args.line).held, refl))

pub returns-then-kept-len-clause-seen : goal.returns-then-kept-len-clause-seen
returns-then-kept-len-clause-seen g c text options lookup m more runs =
    let r = row_of c.args.line in
    let k = c.kept_by-kept.result.0 in
    let kept = ap (λ b. kept_by text options lookup [] m.outer b r) (sym runs.bare ∙ c.requires) in
    let seen = subst (Sees text options lookup m.outer r more) (sym kept ∙ c.kept_by-kept.ensures.kept text options lookup m runs)
    (sees text options lookup [] m.outer r more (whole c.args.line)) in
    let some = shows-some c.args.self.now.outer.items m.outer k runs.outer (omega (arith, c.if-kept-len.true, c.len.ensures, c.args.self.now.outer.ok.0)) in
    seen.missed some.0 some.1 some.2

pub returns-clause-seen : goal.returns-clause-seen
returns-clause-seen g c text options lookup m more runs =
    let r = row_of c.args.line in
    let k = c.kept_by-kept.result.0 in
    let kept = ap (λ b. kept_by text options lookup [] m.outer b r) (sym runs.bare ∙ c.requires) in
    let seen = subst (Sees text options lookup m.outer r more) (sym kept ∙ c.kept_by-kept.ensures.kept text options lookup m runs)
    (sees text options lookup [] m.outer r more (whole c.args.line)) in
    (seen.same, seen.kept (shows-all c.args.self.now.outer.items m.outer k runs.outer (omega (arith, c.if-kept-len.false, c.len.ensures, c.args.self.now.outer.ok.0))).1)
