use Rattle.cmark_inline_model.proofs.PlainTokens.{one-text}
use Rattle.cmark_inline_model.proofs.token_laws.bytes_that_stand_for_themselves_are_one_text.Goals as goal

pub returns : goal.returns
returns c = one-text
