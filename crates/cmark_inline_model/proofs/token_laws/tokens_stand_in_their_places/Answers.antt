use Rattle.cmark_inline_model.proofs.PlacedTokens.{begins-at}
use Rattle.cmark_inline_model.proofs.PlainTokens.{token-at}
use Rattle.cmark_inline_model.proofs.token_laws.tokens_stand_in_their_places.Goals as goal

pub returns-clause-begins : goal.returns-clause-begins
returns-clause-begins c = begins-at

pub returns-clause-token : goal.returns-clause-token
returns-clause-token c = token-at
