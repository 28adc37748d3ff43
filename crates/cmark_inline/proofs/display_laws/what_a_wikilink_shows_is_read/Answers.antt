use Rattle.cmark_inline.proofs.DisplaySteps.{display-read}
use Rattle.cmark_inline.proofs.display_laws.what_a_wikilink_shows_is_read.Goals as goal

pub returns : goal.returns
returns c = display-read
