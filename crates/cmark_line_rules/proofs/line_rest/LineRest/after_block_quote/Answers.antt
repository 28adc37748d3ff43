use Rattle.std.proofs.Common.{◌≡◌, Bool, true, false, ap, ◌∙◌, refl}
use Rattle.std.specs.Prelude.{if◌then◌else◌}
use Rattle.cmark_grammar.specs.Rows.{Row, without}
use Rattle.cmark_grammar.specs.Containers.{block_quote_width}
use Rattle.cmark_scan_lines.specs.LineMarkers.{begins_block_quote, after_block_quote}
use Rattle.cmark_scan_lines.specs.LineStart.{row_from}
use Rattle.cmark_line_rules.specs.Rests.{row_of}
use Rattle.cmark_line_rules.proofs.PrefixRows.{shallow-is, block_quote-none, block_quote-some}
use Rattle.cmark_line_rules.proofs.line_rest.LineRest.after_block_quote.Goals as goal

pub returns-then-not-scan_blockquote_marker : goal.returns-then-not-scan_blockquote_marker
unfolding row_of
returns-then-not-scan_blockquote_marker c =
    let rest = c.args.self in
    let is = shallow-is (row_of rest) (row_from rest.start rest.line_end c.scan_space_upto.new.self) c.scan_space_upto.result (c.scan_space_upto.ensures.count rest.start) (c.scan_space_upto.ensures.rest rest.start rest.line_end) in
    block_quote-none (row_of rest) (c.if-not-scan_blockquote_marker.ensures.found rest.start rest.line_end ∙ ap begins_block_quote is)

pub with_front-requires : goal.with_front-requires
unfolding row_of
with_front-requires c =
    let rest = c.args.self in
    ap (λ r. r.content_end) (c.scan_blockquote_marker.ensures.rest rest.start rest.line_end) ∙ content_end_after (row_from rest.start rest.line_end c.scan_space_upto.new.self) ∙ ap (λ r. r.content_end) (c.scan_space_upto.ensures.rest rest.start rest.line_end)
  where
    content_end_after : (r : Row) → (after_block_quote r).content_end ≡ r.content_end
    content_end_after r = go (begins_block_quote r)
      where
        go : (z : Bool) → (if z then without (block_quote_width r) r else r).content_end ≡ r.content_end
        go true = refl
        go false = refl

pub returns : goal.returns
unfolding row_of
returns c =
    let rest = c.args.self in
    let is = shallow-is (row_of rest) (row_from rest.start rest.line_end c.scan_space_upto.new.self) c.scan_space_upto.result (c.scan_space_upto.ensures.count rest.start) (c.scan_space_upto.ensures.rest rest.start rest.line_end) in
    block_quote-some (row_of rest) (row_of c.with_front.result) (c.if-not-scan_blockquote_marker.ensures.found rest.start rest.line_end ∙ ap begins_block_quote is)
    (c.with_front.ensures ∙ c.scan_blockquote_marker.ensures.rest rest.start rest.line_end ∙ ap after_block_quote is)
