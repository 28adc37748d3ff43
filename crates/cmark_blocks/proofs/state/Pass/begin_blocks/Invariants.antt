use Rattle.std.proofs.Common.{◌≡◌, false, length}
use Rattle.cmark_line_rules.specs.Rests.{row_of}
use Rattle.cmark_blocks.specs.Entered.{BeginsSoFar}
use Rattle.cmark_blocks.specs.declared.state.OpenLeaf.TheVariants as leaf
use Rattle.cmark_leaf_nodes.specs.TextColumns.{IsRead}
use Rattle.cmark_blocks.proofs.state.Pass.begin_blocks.Given as goal

abbrev pub invariant-loop-inside : goal.invariant-loop-inside
invariant-loop-inside g l =
    IsRead l.self.text.now l.rest × (l.self.leaf ≡ leaf.Closed) × (l.self.bare ≡ false) × (l.self.text ≡ l.initial.self.text)
    × BeginsSoFar g.E.EntityLookup.replacement l.initial.line l.bare l.rest l.initial.self l.self

abbrev pub decreases-loop-inside : goal.decreases-loop-inside
decreases-loop-inside g l = length (row_of l.rest).columns
