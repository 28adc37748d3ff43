use Rattle.std.proofs.Common.{ap, ◌∙◌}
use Rattle.memchr.specs.Find.{is_byte2}
use Rattle.cmark_grammar.specs.InlineHtml.{takes_lines}
use Rattle.cmark_search.proofs.First.{any_first}
use Rattle.cmark_span_scan.proofs.line_end.has_line_ending.Goals as goal

pub returns : goal.returns
returns c = c.is_some.ensures ∙ any_first (is_byte2 10 13) c.as_bytes.result.now c.find_line_end.result c.find_line_end.ensures ∙ ap takes_lines c.as_bytes.ensures.value
