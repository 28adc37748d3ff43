use Rattle.cmark_inline_model.proofs.TogetherTokens.{byte-together, text-together}
use Rattle.cmark_inline_model.proofs.token_laws.texts_have_their_bytes_in_the_source.Goals as goal

pub returns-clause-begins : goal.returns-clause-begins
returns-clause-begins c = byte-together

pub returns-clause-token : goal.returns-clause-token
returns-clause-token c = text-together
