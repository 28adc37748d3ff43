use Rattle.cmark_inline_model.proofs.DisplayPasses.{display-reached}
use Rattle.cmark_inline_model.proofs.display_laws.what_a_wikilink_shows_takes_the_place_of_its_slots.Goals as goal

pub returns : goal.returns
returns c = display-reached
