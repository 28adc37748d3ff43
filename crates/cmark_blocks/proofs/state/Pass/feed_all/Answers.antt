use Rattle.std.proofs.Common.{◌<◌, ◌≤◌, refl, sym, ap, subst, ◌∙◌, length, arith}
use Rattle.std.specs.Str.{IsCharBoundary}
use Rattle.cmark_grammar.specs.Rows.{Row}
use Rattle.cmark_line_rules.specs.Rests.{row_of, IsIn}
use Rattle.cmark_leaf_nodes.specs.TextColumns.{StandInText}
use Rattle.cmark_leaf_nodes.proofs.TextColumnSteps.{line-in_text}
use Rattle.cmark_blocks.proofs.FeedSteps.{feeds-start, feeds-step, feeds-end}
use Rattle.cmark_blocks.proofs.state.Pass.feed_all.Goals as goal

pub loop-self-init : goal.loop-self-init
loop-self-init g c = (refl, feeds-start g.E.EntityLookup.replacement c.args.self.now)

pub feed-requires : goal.feed-requires
feed-requires g c =
    let same = c.as_bytes.ensures.value in
    let now = c.loop-self.self in
    let within : now.line_end ≤ length c.as_bytes.result.now = omega (arith, c.loop-self-test.true, ap length same) in
    record {
      line = record {
        placed = subst (λ t. IsIn t c.new-line.result) same
            (c.new-line.ensures.placed c.as_bytes.ensures.utf8 (subst (λ t. IsCharBoundary t now.line_end) (sym same) now.begins));
        in_text = subst (λ t. StandInText t (row_of c.new-line.result).columns) same
            (line-in_text c.as_bytes.result.now now.line_end (row_of c.new-line.result) within c.new-line.ensures.line (λ at. ap (λ (r : Row). r.columns) (c.new-line.ensures.none at)));
      };
    }

pub loop-self-preserved : goal.loop-self-preserved
loop-self-preserved g c =
    let same = c.as_bytes.ensures.value in
    let now = c.loop-self.self in
    let within : now.line_end < length c.as_bytes.result.now = omega (arith, c.loop-self-test.true, ap length same) in (
      c.feed.ensures.text ∙ c.loop-self.invariant.0,
      feeds-step g.E.EntityLookup.replacement c.args.self.now c.new-line.result c.as_bytes.result.now now c.feed.new.self c.loop-self.invariant.1 c.in_ok-feed.ensures.runs same (c.new-line.ensures.further within),
    )

pub returns-clause-runs : goal.returns-clause-runs
returns-clause-runs g c =
    feeds-end g.E.EntityLookup.replacement c.args.self.now c.loop-self.self c.loop-self.invariant.1 (omega (arith, c.loop-self-test.false))
