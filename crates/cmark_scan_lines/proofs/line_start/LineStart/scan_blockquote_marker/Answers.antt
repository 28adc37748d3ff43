use Rattle.std.proofs.Common.{sym, ap, ◌∙◌}
use Rattle.std.specs.Prelude.{if◌then◌else◌}
use Rattle.cmark_grammar.specs.Rows.{without}
use Rattle.cmark_grammar.specs.Containers.{block_quote_width}
use Rattle.cmark_scan_lines.specs.LineStart.{row_from}
use Rattle.cmark_scan_lines.proofs.RowSteps.{block_quote-begins, block_quote-following}
use Rattle.cmark_scan_lines.proofs.line_start.LineStart.scan_blockquote_marker.Goals as goal

pub returns-clause-found : goal.returns-clause-found
returns-clause-found c at line_end = c.if-not-goes_on_with.ensures.found at line_end ∙ sym (block_quote-begins (row_from at line_end c.args.self.now))

pub returns-clause-rest : goal.returns-clause-rest
returns-clause-rest c at line_end =
    let r = row_from at line_end c.args.self.now in
    block_quote-following r (row_from at line_end c.take_bytes.new.self) (row_from at line_end c.scan_space_upto.new.self) c.scan_space_upto.result
    (c.if-not-goes_on_with.ensures.found at line_end ∙ sym (block_quote-begins r)) (c.take_bytes.ensures.rest at line_end) (c.scan_space_upto.ensures.count at) (c.scan_space_upto.ensures.rest at line_end)

pub returns-then-not-goes_on_with-clause-found : goal.returns-then-not-goes_on_with-clause-found
returns-then-not-goes_on_with-clause-found c at line_end = c.if-not-goes_on_with.ensures.found at line_end ∙ sym (block_quote-begins (row_from at line_end c.args.self.now))

pub returns-then-not-goes_on_with-clause-rest : goal.returns-then-not-goes_on_with-clause-rest
returns-then-not-goes_on_with-clause-rest c at line_end =
    let r = row_from at line_end c.args.self.now in
    ap (λ t. if t then without (block_quote_width r) r else r) (c.if-not-goes_on_with.ensures.found at line_end ∙ sym (block_quote-begins r))
