use Rattle.cmark_inline.proofs.LinkSteps.{formed-read}
use Rattle.cmark_inline.proofs.pass_laws.what_hides_its_inside_is_read.Goals as goal

pub returns : goal.returns
returns c = formed-read
