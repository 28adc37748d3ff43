use Rattle.cmark_scan_lines.proofs.PlaceSteps.{left-pending-columns}
use Rattle.cmark_scan_lines.proofs.line_start.LineStart.remaining_space.Goals as goal

pub returns : goal.returns
returns c at = let line = c.args.self.now in left-pending-columns at line.bytes.now line.taken line.pending line.inside line.cut
