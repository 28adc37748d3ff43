use Rattle.std.proofs.Common.{◌≡◌, sym, subst, ◌∙◌, false, vec_len, arith}
use Rattle.cmark_line_rules.specs.Rests.{row_of}
use Rattle.cmark_blocks.specs.Ahead.{lines_at}
use Rattle.cmark_blocks.specs.Runs.{state_of, RunsIn}
use Rattle.cmark_blocks.proofs.FeedSteps.{is-zero, fed-outside}
use Rattle.cmark_blocks.proofs.RunSteps.{runs-bare, runs-line_end}
use Rattle.cmark_blocks.proofs.state.Pass.feed.Goals as goal

pub returns-then-is_empty-clause-runs : goal.returns-then-is_empty-clause-runs
returns-then-is_empty-clause-runs g c text options lookup m runs =
    let replacement = g.E.EntityLookup.replacement in
    let row = row_of c.args.line in
    let before = c.args.self.now in
    let none : vec_len before.outer ≡ 0 = is-zero (vec_len before.outer) (sym c.is_empty.ensures ∙ c.if-is_empty.true) in
    let fed = c.in_ok-feed_leaf.ensures.runs text options lookup (record m { bare = false }) (runs-bare replacement text options lookup m (state_of before) false runs) in
    subst (λ p. RunsIn replacement text options lookup p (record (state_of c.feed_leaf.new.self) { line_end = c.line_end-self.result }))
    (fed-outside text options lookup row (lines_at text row.line_end) m before.outer.items (omega (arith, none, before.outer.ok.0)) runs.outer)
    (runs-line_end replacement text options lookup _ (state_of c.feed_leaf.new.self) c.line_end-self.result row.line_end fed c.line_end-self.ensures.place)
