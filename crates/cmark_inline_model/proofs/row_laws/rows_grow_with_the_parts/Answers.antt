use Rattle.cmark_inline_model.proofs.RowParts.{row-whole, grown-row, opened-row}
use Rattle.cmark_inline_model.proofs.row_laws.rows_grow_with_the_parts.Goals as goal

pub returns-clause-whole : goal.returns-clause-whole
returns-clause-whole c options bs parts slots bytes quotes runs quoted h = row-whole options bs parts slots bytes quotes h.laid

pub returns-clause-grows : goal.returns-clause-grows
returns-clause-grows c = grown-row

pub returns-clause-opens : goal.returns-clause-opens
returns-clause-opens c = opened-row
