use Rattle.std.proofs.Common.{◌-◌, length}
use Rattle.cmark_line_rules.specs.Rests.{row_of}
use Rattle.cmark_blocks.specs.Gathered.{IsGathered, Gathers}
use Rattle.cmark_blocks.proofs.state.Pass.gather.Given as goal

abbrev pub invariant-loop-gathered : goal.invariant-loop-gathered
invariant-loop-gathered g l = IsGathered l.self.text.now l.gathered × Gathers g.E.EntityLookup.replacement l.self l.rest l.gathered

abbrev pub decreases-loop-gathered : goal.decreases-loop-gathered
decreases-loop-gathered g l = length l.self.text.now - (row_of l.gathered.last).line_end
