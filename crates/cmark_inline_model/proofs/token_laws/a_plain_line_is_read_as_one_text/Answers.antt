use Rattle.cmark_inline_model.proofs.PlainLines.{plain-leaf}
use Rattle.cmark_inline_model.proofs.token_laws.a_plain_line_is_read_as_one_text.Goals as goal

pub returns : goal.returns
returns c = plain-leaf
