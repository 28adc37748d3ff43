use Rattle.cmark_scan_lines.proofs.PlaceSteps.{left-place}
use Rattle.cmark_scan_lines.proofs.line_start.LineStart.bytes_scanned.Goals as goal

pub returns : goal.returns
returns c at line_end = let line = c.args.self.now in left-place at line.bytes.now line.taken line.pending line.inside line.cut
