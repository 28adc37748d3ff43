use Rattle.std.proofs.Common.{ℕ, ◌≤◌, ◌-◌, List, take}
use Rattle.cmark_grammar.specs.Answers.{Lookup}
use Rattle.cmark_grammar.specs.Options.{Options}
use Rattle.cmark_grammar.specs.Rows.{Row}
use Rattle.cmark_line_rules.specs.Rests.{IsIn, row_of}
use Rattle.cmark_block_model.specs.OpenBlocks as model
use Rattle.cmark_blocks.specs.KeepingContainers.{IsAfter}
use Rattle.cmark_blocks.specs.Runs.{Runs}
use Rattle.cmark_blocks.proofs.AheadSteps.{Inside}
use Rattle.cmark_blocks.proofs.state.Pass.inside_first.Given as goal

abbrev pub invariant-loop-at : goal.invariant-loop-at
invariant-loop-at g l = record {
  seen : (text : List ℕ) (options : Options) (lookup : Lookup) (m : model.Pass) (more : List Row) → Runs g.E.EntityLookup.replacement text options lookup m l.self →
      Inside text options lookup (take l.count m.outer) l.at (row_of l.line) more (row_of l.rest);
  placed : (text : List ℕ) → IsIn text l.line → IsIn text l.rest;
  following : IsAfter l.line l.rest;
  within : l.at ≤ l.count;
}

abbrev pub decreases-loop-at : goal.decreases-loop-at
decreases-loop-at g l = l.count - l.at
