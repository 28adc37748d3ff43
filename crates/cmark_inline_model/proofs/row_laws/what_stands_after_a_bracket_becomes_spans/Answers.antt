use Rattle.cmark_inline_model.proofs.RowParts.{dressed-following}
use Rattle.cmark_inline_model.proofs.row_laws.what_stands_after_a_bracket_becomes_spans.Goals as goal

pub returns : goal.returns
returns c = dressed-following
