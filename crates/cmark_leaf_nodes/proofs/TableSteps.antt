-- The cells of a table's row, drawn one after the other.
use Rattle.std.proofs.Common.{◌≡◌, ◌⊎◌, inl, inr, ℕ, zero, suc, ◌+◌, ◌-◌, ◌≤◌, List, [], ◌∷◌, take, length, refl, sym, ap, subst, ◌∙◌, arith}
use Rattle.cmark_grammar.specs.BlockDocument.{BlockNode, BlockDocument, Nil, Node, node, TableCell}
use Rattle.cmark_grammar.specs.TableRows.{cells_of, cells_start}
use Rattle.cmark_grammar.specs.Tables.{without_first_pipe}
use Rattle.cmark_grammar.specs.TableTokens.{cell_tokens, cells_then, row_cells}
use Rattle.cmark_grammar.specs.Rows.{Row, start_of, words_of}
use Rattle.cmark_scan_lines.specs.TableCells.{cells_after}
use Rattle.cmark_line_rules.specs.Rests.{row_of}
use Rattle.cmark_line_rules.specs.declared.line_rest.LineRest.{LineRest}
use Rattle.cmark_block_model.specs.Drawing.{Drawing, drawn}
use Rattle.cmark_leaf_nodes.proofs.ColumnCuts.{words-content_end}
use Rattle.cmark_leaf_nodes.proofs.DrawSteps.{drawn-join}

-- one node before others
pub drawn-node : (n : BlockNode) (inside after : BlockDocument) (d : Drawing) → drawn (Node n inside after) d ≡ drawn after (drawn (Node n inside Nil) d)
drawn-node n inside after d = drawn-join (Node n inside Nil) after d

module _ (text : List ℕ) where
  -- if no cell is left, the place of the next one does not matter
  filled : (columns at other line_end : ℕ) → cells_then text columns at line_end [] ≡ cells_then text columns other line_end []
  filled zero at other line_end = refl
  filled (suc columns) at other line_end = ap (Node (node TableCell line_end line_end) Nil) (filled columns at other line_end)

  following-cell : (columns at content_end line_end : ℕ) (following : List ℕ) → (following ≡ []) ⊎ (at ≡ content_end - length following) →
      cells_then text columns at line_end (cells_after following) ≡ cells_then text columns (content_end - length following) line_end (cells_after following)
  following-cell columns at content_end line_end following (inl none) =
      subst (λ (bs : List ℕ). cells_then text columns at line_end (cells_after bs) ≡ cells_then text columns (content_end - length bs) line_end (cells_after bs)) (sym none) (filled columns at (content_end - 0) line_end)
  following-cell columns at content_end line_end following (inr same) = ap (λ n. cells_then text columns n line_end (cells_after following)) same

  -- the first cell of a row that continues with these bytes up to a place, before the others
  pub cells-next : (cells following cell : List ℕ) (size columns content_end line_end : ℕ) → cells_after cells ≡ take size cells ∷ cells_after following → cell ≡ take size cells → length cell ≡ size → length cells ≤ content_end →
      (following ≡ []) ⊎ (length following + suc size ≡ length cells) → (d : Drawing) →
      let at = content_end - length cells in
      drawn (cells_then text (suc columns) at line_end (cells_after cells)) d
      ≡ drawn (cells_then text columns (content_end - length following) line_end (cells_after following)) (drawn (Node (node TableCell at (at + length cell)) (cell_tokens text at cell) Nil) d)
  cells-next cells following cell size columns content_end line_end is same long within cut d =
      let at = content_end - length cells in
      ap (λ cs. drawn (cells_then text (suc columns) at line_end cs) d) (is ∙ ap (λ c. c ∷ cells_after following) (sym same))
      ∙ ap (λ more. drawn (Node (node TableCell at (at + length cell)) (cell_tokens text at cell) more) d)
      (following-cell columns (suc (at + length cell)) content_end line_end following (places cut))
      ∙ drawn-node (node TableCell at (at + length cell)) (cell_tokens text at cell) (cells_then text columns (content_end - length following) line_end (cells_after following)) d
    where
      places : (following ≡ []) ⊎ (length following + suc size ≡ length cells) → (following ≡ []) ⊎ (suc (content_end - length cells + length cell) ≡ content_end - length following)
      places (inl none) = inl none
      places (inr e) = inr (omega (arith, e, long, within))

  -- if no cell is left, one is filled in
  pub cells-missing : (cells : List ℕ) (columns at line_end : ℕ) → cells_after cells ≡ [] → (d : Drawing) →
      drawn (cells_then text (suc columns) at line_end (cells_after cells)) d
      ≡ drawn (cells_then text columns at line_end (cells_after cells)) (drawn (Node (node TableCell line_end line_end) Nil Nil) d)
  cells-missing cells columns at line_end none d =
      ap (λ cs. drawn (cells_then text (suc columns) at line_end cs) d) none
      ∙ drawn-node (node TableCell line_end line_end) Nil (cells_then text columns at line_end []) d
      ∙ ap (λ cs. drawn (cells_then text columns at line_end cs) (drawn (Node (node TableCell line_end line_end) Nil Nil) d)) (sym none)

-- the place at which the first cell of a line begins
pub cells-begin : (rest : LineRest) (words cells : List ℕ) (content_end : ℕ) → words ≡ words_of (row_of rest) → cells ≡ without_first_pipe words → length cells ≤ length words → content_end ≡ (row_of rest).content_end →
    (length cells ≤ content_end) × (cells_start (row_of rest) ≡ content_end - length cells)
cells-begin rest words cells content_end is cut fewer place =
    let end : start_of (row_of rest) + length words ≡ (row_of rest).content_end = words-content_end rest words is in
    let all : length (words_of (row_of rest)) ≡ length words = ap length (sym is) in
    let following : length (without_first_pipe (words_of (row_of rest))) ≡ length cells = ap (λ ws. length (without_first_pipe ws)) (sym is) ∙ ap length (sym cut) in
    (omega (arith, end, fewer, place), omega (arith, end, fewer, place, all, following))

-- the cells of a line begin there
pub cells-of-line : (text : List ℕ) (columns : ℕ) (r : Row) (cells : List ℕ) (content_end line_end : ℕ) → cells_after cells ≡ cells_of (words_of r) → cells_start r ≡ content_end - length cells → line_end ≡ r.line_end →
    row_cells text columns r ≡ cells_then text columns (content_end - length cells) line_end (cells_after cells)
cells-of-line text columns r cells content_end line_end is begins ends =
    ap (λ at. cells_then text columns at r.line_end (cells_of (words_of r))) begins
    ∙ ap (λ end. cells_then text columns (content_end - length cells) end (cells_of (words_of r))) (sym ends)
    ∙ ap (cells_then text columns (content_end - length cells) line_end) (sym is)
