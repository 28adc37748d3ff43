use Rattle.cmark_inline.proofs.LinkSteps.{link-read}
use Rattle.cmark_inline.proofs.pass_laws.a_link_more_is_read.Goals as goal

pub returns : goal.returns
returns c = link-read
