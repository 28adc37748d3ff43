use Rattle.std.proofs.Common.{◌&&◌, drop, sym, ap, ◌∙◌}
use Rattle.cmark_scan_lines.specs.HtmlLines.{ends_block_name}
use Rattle.cmark_scan_bytes.proofs.Lists.{rest_of}
use Rattle.cmark_scan_lines.proofs.HtmlSteps.{block-is}
use Rattle.cmark_scan_lines.proofs.html_block.begins_block.Goals as goal

pub returns-then-is_html_tag : goal.returns-then-is_html_tag
returns-then-is_html_tag c =
    let bs = c.args.following.now in
    let n = c.args.size in
    c.ends_block_name.ensures ∙ ap ends_block_name (rest_of bs n) ∙ ap (λ t. t && ends_block_name (drop n bs)) (sym c.if-is_html_tag.true ∙ c.is_html_tag.ensures) ∙ block-is bs n c.requires.count

pub returns-else-is_html_tag : goal.returns-else-is_html_tag
returns-else-is_html_tag c =
    let bs = c.args.following.now in
    let n = c.args.size in
    c.if-is_html_tag.false ∙ ap (λ t. t && ends_block_name (drop n bs)) (sym c.if-is_html_tag.false ∙ c.is_html_tag.ensures) ∙ block-is bs n c.requires.count
