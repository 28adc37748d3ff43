use Rattle.std.proofs.Common.{◌∙◌, sym}
use Rattle.cmark_scan_bytes.proofs.Lists.{rest_of}
use Rattle.cmark_scan_lines.proofs.RemainingSteps.{left-bytes}
use Rattle.cmark_scan_lines.proofs.line_start.LineStart.remaining_bytes.Goals as goal

pub returns : goal.returns
returns c = λ at.
    let line = c.args.self.now in left-bytes at line.bytes.now line.taken line.pending line.inside line.cut ∙ sym (rest_of line.bytes.now line.taken)
