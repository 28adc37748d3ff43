use Rattle.std.proofs.Common.{take, ap}
use Rattle.cmark_scan_lines.proofs.html_block.tag_name.Goals as goal

pub returns : goal.returns
returns c = ap (λ n. take n c.args.bytes.now) c.count_name.ensures.value
