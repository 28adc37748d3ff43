use Rattle.std.proofs.Common.{◌∙◌}
use Rattle.memchr.specs.Find.{is_byte2}
use Rattle.cmark_search.proofs.First.{any_first}
use Rattle.cmark_scan.proofs.owned.takes_lines.Goals as goal

pub returns : goal.returns
returns c = c.is_some.ensures ∙ any_first (is_byte2 10 13) _ _ c.memchr2.ensures
