use Rattle.std.proofs.Common.{◌∙◌}
use Rattle.cmark_scan_lines.proofs.HtmlSteps.{holds-found}
use Rattle.cmark_scan_lines.proofs.html_block.holds.Goals as goal

pub returns : goal.returns
returns c = c.is_some.ensures ∙ holds-found c.args.word.now c.requires c.args.line.now c.find.result c.find.ensures
