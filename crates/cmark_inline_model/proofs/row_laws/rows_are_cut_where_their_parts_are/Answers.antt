use Rattle.cmark_inline_model.proofs.RowParts.{cut-row}
use Rattle.cmark_inline_model.proofs.row_laws.rows_are_cut_where_their_parts_are.Goals as goal

pub returns : goal.returns
returns c = cut-row
