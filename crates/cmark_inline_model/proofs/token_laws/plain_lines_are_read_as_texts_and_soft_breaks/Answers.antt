use Rattle.cmark_inline_model.proofs.PlainLines.{plain-lines}
use Rattle.cmark_inline_model.proofs.token_laws.plain_lines_are_read_as_texts_and_soft_breaks.Goals as goal

pub returns : goal.returns
returns c = plain-lines
