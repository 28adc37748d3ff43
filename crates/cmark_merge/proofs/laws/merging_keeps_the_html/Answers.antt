use Rattle.cmark_merge.proofs.HtmlLaws.{html-merged}
use Rattle.cmark_merge.proofs.laws.merging_keeps_the_html.Goals as goal

pub returns : goal.returns
returns c events k = html-merged events k
