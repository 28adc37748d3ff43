use Rattle.cmark_inline_model.proofs.RowParts.{formed-row}
use Rattle.cmark_inline_model.proofs.row_laws.what_brackets_form_closes_the_row.Goals as goal

pub returns : goal.returns
returns c = formed-row
