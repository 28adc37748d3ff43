use Rattle.std.proofs.Common.{◌&&◌, drop, sym, ap, ◌∙◌}
use Rattle.cmark_scan_lines.specs.HtmlLines.{ends_name}
use Rattle.cmark_scan_bytes.proofs.Lists.{rest_of}
use Rattle.cmark_scan_lines.proofs.HtmlSteps.{raw-is}
use Rattle.cmark_scan_lines.proofs.html_block.begins_raw.Goals as goal

pub returns-then-is_raw_name : goal.returns-then-is_raw_name
returns-then-is_raw_name c =
    let bs = c.args.following.now in
    let n = c.args.size in
    c.ends_name.ensures ∙ ap ends_name (rest_of bs n) ∙ ap (λ t. t && ends_name (drop n bs)) (sym c.if-is_raw_name.true ∙ c.is_raw_name.ensures) ∙ raw-is bs n c.requires.count

pub returns-else-is_raw_name : goal.returns-else-is_raw_name
returns-else-is_raw_name c =
    let bs = c.args.following.now in
    let n = c.args.size in
    c.if-is_raw_name.false ∙ ap (λ t. t && ends_name (drop n bs)) (sym c.if-is_raw_name.false ∙ c.is_raw_name.ensures) ∙ raw-is bs n c.requires.count
