use Rattle.std.proofs.Common.{ℕ, List, take, ap, ◌∙◌}
use Rattle.memchr.specs.Find.{is_byte2}
use Rattle.cmark_grammar.specs.InlineHtml.{takes_lines}
use Rattle.cmark_search.proofs.First.{any_first}
use Rattle.cmark_span_scan.proofs.line_end.has_line_ending_within.Goals as goal

pub returns : goal.returns
returns c =
    c.is_some.ensures
    ∙ any_first (is_byte2 10 13) (take c.args.len c.as_bytes.result.now) c.find_line_end_within.result c.find_line_end_within.ensures
    ∙ ap (λ (bs : List ℕ). takes_lines (take c.args.len bs)) c.as_bytes.ensures.value
