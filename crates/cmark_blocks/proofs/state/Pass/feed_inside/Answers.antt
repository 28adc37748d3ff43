use Rattle.std.proofs.Common.{ℕ, take, drop, sym, subst, ap, false}
use Rattle.cmark_grammar.specs.Rows.{Row}
use Rattle.cmark_line_rules.specs.Rests.{row_of}
use Rattle.cmark_leaf_nodes.specs.TextColumns.{StandInText}
use Rattle.cmark_leaf_nodes.proofs.TextColumnSteps.{without-in_text}
use Rattle.cmark_block_model.specs.BlockPass.{LineKeepers, line_with}
use Rattle.cmark_block_model.specs.OpenBlocks as model
use Rattle.cmark_blocks.specs.Ahead.{lines_at}
use Rattle.cmark_blocks.specs.Runs.{Runs, state_of}
use Rattle.cmark_blocks.proofs.RunSteps.{runs-bare, runs-line_end}
use Rattle.cmark_blocks.proofs.state.Pass.feed_inside.Goals as goal

pub feed_rest-requires-clause-line : goal.feed_rest-requires-clause-line
feed_rest-requires-clause-line g c = record {
  placed = c.kept_by-kept.ensures.placed c.args.self.now.text.now c.requires.line.placed;
  in_text =
      let text = c.args.self.now.text.now in
      let following = c.kept_by-kept.ensures.following in
      subst (λ (r : Row). StandInText text r.columns) following.1.1 (without-in_text text following.0 (row_of c.args.line) c.requires.line.in_text);
}

pub returns-clause-runs : goal.returns-clause-runs
returns-clause-runs g c text options lookup m runs =
    let replacement = g.E.EntityLookup.replacement in
    let row = row_of c.args.line in
    let kept = c.kept_by-kept.result.0 in
    let rest = c.kept_by-kept.result.1 in
    let p : model.Pass = record m { bare = false } in
    let fed = c.in_ok-feed_rest.ensures.runs text options lookup p (runs-bare replacement text options lookup m (state_of c.args.self.now) false runs) in
    let there = subst (λ (line_end : ℕ). Runs replacement text options lookup (line_with text options lookup (drop kept m.outer) (take kept m.outer) (row_of rest) (lines_at text line_end) p) c.feed_rest.new.self) (ap (λ (r : Row). r.line_end) (sym c.kept_by-kept.ensures.following.1.1)) fed in
    let whole = subst (λ (w : LineKeepers text options lookup). Runs replacement text options lookup (line_with text options lookup w.missed w.kept w.left (lines_at text row.line_end) p) c.feed_rest.new.self)
    (sym (c.kept_by-kept.ensures.kept text options lookup m runs)) there in
    runs-line_end replacement text options lookup _ (state_of c.feed_rest.new.self) _ row.line_end whole c.line_end-self.ensures.place
