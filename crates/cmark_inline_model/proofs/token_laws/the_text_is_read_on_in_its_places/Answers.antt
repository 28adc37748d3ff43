use Rattle.cmark_inline_model.proofs.PlacedTokens.{read-on}
use Rattle.cmark_inline_model.proofs.token_laws.the_text_is_read_on_in_its_places.Goals as goal

pub returns : goal.returns
returns c = read-on
