use Rattle.std.proofs.Common.{None, refl, ap, ◌∙◌}
use Rattle.cmark_scan_lines.specs.LineMarkers.{begins_block_quote, after_block_quote}
use Rattle.cmark_scan_lines.specs.LineStart.{row_from}
use Rattle.cmark_line_rules.proofs.ContainerRows.{block_quote-keeps}
use Rattle.cmark_line_rules.proofs.PrefixRows.{shallow-is, block_quote-none, block_quote-some}
use Rattle.cmark_blocks.proofs.prefixes.after_block_quote.Goals as goal

pub returns-then-scan_blockquote_marker : goal.returns-then-scan_blockquote_marker
returns-then-scan_blockquote_marker c = λ at line_end.
    let row = row_from at line_end c.args.line in
    let is = shallow-is row (row_from at line_end c.scan_space_upto.new.self) c.scan_space_upto.result (c.scan_space_upto.ensures.count at) (c.scan_space_upto.ensures.rest at line_end) in
    block_quote-some row (row_from at line_end c.scan_blockquote_marker.new.self) (c.if-scan_blockquote_marker.ensures.found at line_end ∙ ap begins_block_quote is) (c.scan_blockquote_marker.ensures.rest at line_end ∙ ap after_block_quote is)
    ∙ block_quote-keeps None row refl

pub returns-else-scan_blockquote_marker : goal.returns-else-scan_blockquote_marker
returns-else-scan_blockquote_marker c = λ at line_end.
    let row = row_from at line_end c.args.line in
    let is = shallow-is row (row_from at line_end c.scan_space_upto.new.self) c.scan_space_upto.result (c.scan_space_upto.ensures.count at) (c.scan_space_upto.ensures.rest at line_end) in
    block_quote-none row (c.if-scan_blockquote_marker.ensures.found at line_end ∙ ap begins_block_quote is) ∙ block_quote-keeps None row refl
