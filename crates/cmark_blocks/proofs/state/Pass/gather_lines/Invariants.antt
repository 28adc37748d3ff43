use Rattle.std.proofs.Common.{◌-◌, ◌<◌, length}
use Rattle.cmark_line_rules.specs.Rests.{row_of}
use Rattle.cmark_line_rules.specs.declared.line_rest.LineRest.{LineRest}
use Rattle.cmark_blocks.specs.Gathered.{IsGathered, Gathers}
use Rattle.cmark_blocks.proofs.state.Pass.gather_lines.Given as goal

abbrev pub invariant-loop-gathered : goal.invariant-loop-gathered
invariant-loop-gathered g l =
    IsGathered l.self.text.now l.gathered
    × ((first : LineRest) → Gathers g.E.EntityLookup.replacement l.self first l.fn.gathered → Gathers g.E.EntityLookup.replacement l.self first l.gathered)
    × ((row_of l.fn.gathered.last).line_end < (row_of l.gathered.last).line_end)

abbrev pub decreases-loop-gathered : goal.decreases-loop-gathered
decreases-loop-gathered g l = length l.self.text.now - (row_of l.gathered.last).line_end
