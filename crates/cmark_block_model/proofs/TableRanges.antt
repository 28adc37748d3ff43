-- The places of table cells, and the number of their nodes.
use Rattle.std.proofs.Common.{◌≡◌, ℕ, zero, suc, ◌+◌, ◌-◌, ◌*◌, ◌≤◌, ◌<◌, Bool, true, false, ◌==◌, ◌&&◌, not, List, [], ◌∷◌, length, take_while, refl, sym, subst, arith, rules}
use Rattle.std.specs.Prelude.{if◌then◌else◌, cond, nat_lt}
use Rattle.std.proofs.lemmas.List.Sums.{take_while-cons}
use Rattle.cmark_grammar.specs.Characters.{backslash, pipe}
use Rattle.cmark_grammar.specs.Lines.{onto}
use Rattle.cmark_grammar.specs.Columns.{Column, is_blank_byte, indent, without_indent, drop_end, put_before, bytes_of}
use Rattle.cmark_grammar.specs.Rows.{Row, words_of, start_of, begin_of}
use Rattle.cmark_block_model.specs.Ranges.{InOrder, AllAt, count_nodes}
use Rattle.cmark_grammar.specs.TableRows.{parts, without_blank_end, cells_of, cells_start, count_missing}
use Rattle.cmark_grammar.specs.Tables.{without_first_pipe}
use Rattle.cmark_grammar.specs.TableTokens.{cell_tokens, cells_then, row_cells, row_tokens}
use Rattle.cmark_grammar.specs.Tokens.{slice, Piece}
use Rattle.cmark_block_model.proofs.RowPlaces.{Runs, drop-Runs, Lies, start-Runs, Along}
use Rattle.cmark_block_model.proofs.RowEdges.{is-ascii, blank-ascii, AreGood, drop-good, GoodRow, start-E, GoodRows}

-- consecutive columns have a byte for each place
pub bytes-places : (from : ℕ) (cs : List Column) (to : ℕ) → Runs from cs to → from + length (bytes_of cs) ≡ to
bytes-places from [] to h = let e : from ≡ to = h in omega (arith, e)
bytes-places from (c ∷ cs) to h = search (rules, bytes-places (suc c.at) cs to h.1)

pub words-places : (from : ℕ) (r : Row) → Lies from r → start_of r + length (words_of r) ≡ r.content_end
words-places from r h = bytes-places (start_of r) (without_indent r.columns) r.content_end (start-Runs from r h)

pub first-less : (bs : List ℕ) → length (without_first_pipe bs) ≤ length bs
first-less bs = grind arith

-- the cells go up to the line's ending
start-words : (r : Row) → cells_start r + length (without_first_pipe (words_of r)) ≡ start_of r + length (words_of r)
start-words r = let l = first-less (words_of r) in omega (arith, l)

pub drop_end-less : (p : ℕ → Bool) (bs : List ℕ) → length (drop_end p bs) ≤ length bs
drop_end-less p [] = omega arith
drop_end-less p (b ∷ bs) = grind (arith, drop_end-less p bs)

-- ## Order

-- the text of a cell is in the cell, if there is one
abbrev piece : List ℕ → ℕ → ℕ → Piece
piece text start end = record { owned = false; bytes = slice text start end; start = start; end = end }

less : (a b : ℕ) → nat_lt a b ≡ true → a < b
less a b e = grind (arith)

cell-order : (text : List ℕ) (at : ℕ) (cell : List ℕ) → InOrder at (cell_tokens text at cell) (at + length cell)
cell-order text at cell = grind (arith, drop_end-less, less)

-- these cells are in order before a place
abbrev Fit : (from at line_end : ℕ) → List (List ℕ) → Type 0
Fit from at line_end [] = from ≤ line_end
Fit from at line_end (cell ∷ cells) = (from ≤ at) × (at + length cell ≤ line_end) × Fit (at + length cell) (suc (at + length cell)) line_end cells

fit-le : (from at line_end : ℕ) (cells : List (List ℕ)) → Fit from at line_end cells → from ≤ line_end
fit-le from at line_end [] f = f
fit-le from at line_end (cell ∷ cells) f = let a : from ≤ at = f.0 in let b : at + length cell ≤ line_end = f.1 in omega (arith, a, b)

fit-onto : (from at line_end b : ℕ) (ps : List (List ℕ)) → from ≤ at → suc at ≤ line_end → Fit (suc at) (suc at) line_end ps → Fit from at line_end (onto b ps)
fit-onto from at line_end b ps le lt f = grind arith

parts-fit : (escaped : Bool) (from at : ℕ) (bs : List ℕ) (line_end : ℕ) → from ≤ at → at + length bs ≤ line_end → Fit from at line_end (parts escaped bs)
parts-fit escaped from at [] line_end le lt = (le, lt, lt)
parts-fit escaped from at (b ∷ bs) line_end le lt =
    go ((b == pipe) && not escaped) (parts-fit false at (suc at) bs line_end (omega arith) (omega (arith, lt))) (parts-fit (b == backslash) (suc at) (suc at) bs line_end (omega arith) (omega (arith, lt)))
  where
    go : (z : Bool) → Fit at (suc at) line_end (parts false bs) → Fit (suc at) (suc at) line_end (parts (b == backslash) bs) → Fit from at line_end (if z then [] ∷ parts false bs else onto b (parts (b == backslash) bs))
    go z f g = grind (arith, fit-onto)

end-fit : (from at line_end : ℕ) (cells : List (List ℕ)) → Fit from at line_end cells → Fit from at line_end (without_blank_end cells)
end-fit from at line_end [] f = f
end-fit from at line_end (cell ∷ []) f = grind (arith, fit-le)
end-fit from at line_end (cell ∷ (next ∷ more)) f = (f.0, f.1, end-fit (at + length cell) (suc (at + length cell)) line_end (next ∷ more) f.2)

cells-order : (text : List ℕ) (columns from at line_end : ℕ) (cells : List (List ℕ)) → Fit from at line_end cells → InOrder from (cells_then text columns at line_end cells) line_end
cells-order text zero from at line_end cells f = fit-le from at line_end cells f
cells-order text (suc columns) from at line_end [] f = (f, omega arith, cells-order text columns line_end at line_end [] (omega arith))
cells-order text (suc columns) from at line_end (cell ∷ cells) f = (f.0, cell-order text at cell, cells-order text columns (at + length cell) (suc (at + length cell)) line_end cells f.2)

pub row_cells-order : (text : List ℕ) (columns from : ℕ) (r : Row) → Lies from r → InOrder (start_of r) (row_cells text columns r) r.line_end
row_cells-order text columns from r h =
    let w = words-places from r h in
    let s = start-words r in
    let p : r.content_end ≤ r.line_end = h.2 in
    cells-order text columns (start_of r) (cells_start r) r.line_end (cells_of (words_of r))
    (end-fit (start_of r) (cells_start r) r.line_end (parts false (without_first_pipe (words_of r)))
    (parts-fit false (start_of r) (cells_start r) (without_first_pipe (words_of r)) r.line_end (omega arith) (omega (arith, w, s, p))))

pub row_tokens-order : (text : List ℕ) (columns from : ℕ) (rs : List Row) (to : ℕ) → ((low : ℕ) (r : Row) → Lies low r → low ≤ start_of r) → Along from rs to → InOrder from (row_tokens text columns rs) to
row_tokens-order text columns from [] to low a = a
row_tokens-order text columns from (r ∷ rs) to low a = (low from r a.0, row_cells-order text columns from r a.0, row_tokens-order text columns r.line_end rs to low a.1)

-- ## Edges

module _ (E : ℕ → Type 0) where
  -- both sides of each ASCII byte of these, from a place on, are character boundaries
  abbrev Uncut : ℕ → List ℕ → Type 0
  Uncut at [] = Unit {0}
  Uncut at (b ∷ bs) = (b < 128 → E at × E (suc at)) × Uncut (suc at) bs

  uncut-bytes : (from : ℕ) (cs : List Column) (to : ℕ) → Runs from cs to → AreGood E cs → Uncut from (bytes_of cs)
  uncut-bytes from [] to h g = tt
  uncut-bytes from (c ∷ cs) to h g = search (rules, uncut-bytes (suc c.at) cs to h.1 g.1)

  past-blanks : (at : ℕ) (bs : List ℕ) → E at → Uncut at bs → E (at + length (take_while is_blank_byte bs))
  past-blanks at [] e u = subst E (let z : at ≡ at + 0 = omega arith in z) e
  past-blanks at (b ∷ bs) e u = subst (λ l. E (at + length l)) (sym (take_while-cons is_blank_byte b bs)) (go (is_blank_byte b) refl (λ w. past-blanks (suc at) bs w u.1))
    where
      go : (z : Bool) → is_blank_byte b ≡ z → (E (suc at) → E (suc at + length (take_while is_blank_byte bs))) → E (at + length (cond z (b ∷ take_while is_blank_byte bs) []))
      go z f ih = grind (arith, blank-ascii)

  before-blanks : (at : ℕ) (bs : List ℕ) → E (at + length bs) → Uncut at bs → E (at + length (drop_end is_blank_byte bs))
  before-blanks at [] e u = e
  before-blanks at (b ∷ bs) e u =
      go (drop_end is_blank_byte bs) (is_blank_byte b) refl (before-blanks (suc at) bs (subst E (let z : at + suc (length bs) ≡ suc at + length bs = omega arith in z) e) u.1)
    where
      go : (xs : List ℕ) (z : Bool) → is_blank_byte b ≡ z → E (suc at + length xs) → E (at + length (put_before z b xs))
      go xs z f h = grind (arith, blank-ascii)

  cell-edged : (text : List ℕ) (at : ℕ) (cell : List ℕ) → E at → E (at + length cell) → Uncut at cell → AllAt E (cell_tokens text at cell)
  cell-edged text at cell e f u = grind (arith, past-blanks, before-blanks)

  -- these cells begin at a place
  abbrev Stand : (at : ℕ) → List (List ℕ) → Type 0
  Stand at [] = Unit {0}
  Stand at (cell ∷ cells) = E at × Uncut at cell × E (at + length cell) × Stand (suc (at + length cell)) cells

  -- these cells begin at a place, which need not be a character boundary
  abbrev StandAfter : (at : ℕ) → List (List ℕ) → Type 0
  StandAfter at [] = Unit {0}
  StandAfter at (cell ∷ cells) = Uncut at cell × E (at + length cell) × Stand (suc (at + length cell)) cells

  stand-from : (at : ℕ) (cells : List (List ℕ)) → E at → StandAfter at cells → Stand at cells
  stand-from at [] e s = tt
  stand-from at (cell ∷ cells) e s = (e, s.0, s.1, s.2)

  and-first : (a b : Bool) → (a && b) ≡ true → a ≡ true
  and-first true b e = refl
  and-first false b e = e

  parts-stand : (escaped : Bool) (at : ℕ) (bs : List ℕ) → E (at + length bs) → Uncut at bs → StandAfter at (parts escaped bs)
  parts-stand escaped at [] e u = (tt, e, tt)
  parts-stand escaped at (b ∷ bs) e u =
      go ((b == pipe) && not escaped) refl (parts-stand false (suc at) bs (subst E (let z : at + suc (length bs) ≡ suc at + length bs = omega arith in z) e) u.1)
      (parts-stand (b == backslash) (suc at) bs (subst E (let z : at + suc (length bs) ≡ suc at + length bs = omega arith in z) e) u.1)
    where
      joined : (ps : List (List ℕ)) → StandAfter (suc at) ps → (ps ≡ [] → ⊥) → StandAfter at (onto b ps)
      joined ps s some = grind arith

      some_parts : (x : Bool) (ys : List ℕ) → parts x ys ≡ [] → ⊥
      some_parts x [] f = cc
      some_parts x (y ∷ ys) f = grind arith

      go : (z : Bool) → ((b == pipe) && not escaped) ≡ z → StandAfter (suc at) (parts false bs) → StandAfter (suc at) (parts (b == backslash) bs) → StandAfter at (if z then [] ∷ parts false bs else onto b (parts (b == backslash) bs))
      go z f g h = grind (arith, is-ascii, and-first, stand-from, joined, some_parts)

  end-stand : (at : ℕ) (cells : List (List ℕ)) → Stand at cells → Stand at (without_blank_end cells)
  end-stand at [] s = tt
  end-stand at (cell ∷ []) s = grind arith
  end-stand at (cell ∷ (next ∷ more)) s = (s.0, s.1, s.2, end-stand (suc (at + length cell)) (next ∷ more) s.3)

  cells-edged : (text : List ℕ) (columns at line_end : ℕ) (cells : List (List ℕ)) → E line_end → Stand at cells → AllAt E (cells_then text columns at line_end cells)
  cells-edged text zero at line_end cells e s = tt
  cells-edged text (suc columns) at line_end [] e s = (e, e, tt, cells-edged text columns at line_end [] e tt)
  cells-edged text (suc columns) at line_end (cell ∷ cells) e s = (s.0, s.2, cell-edged text at cell s.0 s.2 s.1, cells-edged text columns (suc (at + length cell)) line_end cells e s.3)

  -- after a pipe at the beginning
  first-stand : (at : ℕ) (bs : List ℕ) → E at → E (at + length bs) → Uncut at bs → Stand (at + (length bs - length (without_first_pipe bs))) (parts false (without_first_pipe bs))
  first-stand at [] e f u = subst (λ n. Stand n (parts false [])) (let z : at ≡ at + (0 - 0) = omega arith in z) (stand-from at (parts false []) e (parts-stand false at [] f u))
  first-stand at (b ∷ bs) e f u = go (b == pipe) refl
    where
      go : (z : Bool) → (b == pipe) ≡ z → Stand (at + (suc (length bs) - length (if z then bs else b ∷ bs))) (parts false (if z then bs else b ∷ bs))
      go true g =
          let w = u.0 (is-ascii b pipe (omega arith) g) in
          let l : E (suc at + length bs) = subst E (let z : at + suc (length bs) ≡ suc at + length bs = omega arith in z) f in
          subst (λ n. Stand n (parts false bs)) (let z : suc at ≡ at + (suc (length bs) - length bs) = omega arith in z) (stand-from (suc at) (parts false bs) w.1 (parts-stand false (suc at) bs l u.1))
      go false g =
          subst (λ n. Stand n (parts false (b ∷ bs))) (let z : at ≡ at + (suc (length bs) - suc (length bs)) = omega arith in z) (stand-from at (parts false (b ∷ bs)) e (parts-stand false at (b ∷ bs) f u))

  pub row_cells-edged : (text : List ℕ) (columns : ℕ) (r : Row) → GoodRow E r → AllAt E (row_cells text columns r)
  row_cells-edged text columns r g =
      let runs = start-runs r g in
      let u = uncut-bytes (start_of r) (without_indent r.columns) r.content_end runs (drop-good E (indent r.columns) r.columns g.good) in
      let w : start_of r + length (words_of r) ≡ r.content_end = bytes-places (start_of r) (without_indent r.columns) r.content_end runs in
      cells-edged text columns (cells_start r) r.line_end (cells_of (words_of r)) g.line_end
      (end-stand (cells_start r) (parts false (without_first_pipe (words_of r))) (first-stand (start_of r) (words_of r) (start-E E r g) (subst E (sym w) g.content_end) u))
    where
      start-runs : (r : Row) → GoodRow E r → Runs (start_of r) (without_indent r.columns) r.content_end
      start-runs r g = (drop-Runs (indent r.columns) (begin_of r) r.columns r.content_end g.runs).0

  pub row_tokens-edged : (text : List ℕ) (columns : ℕ) (rs : List Row) → GoodRows E rs → AllAt E (row_tokens text columns rs)
  row_tokens-edged text columns [] g = tt
  row_tokens-edged text columns (r ∷ rs) g = (start-E E r g.0, g.0.line_end, row_cells-edged text columns r g.0, row_tokens-edged text columns rs g.1)

-- ## Count

abbrev spread : List (List ℕ) → ℕ
spread [] = 0
spread (cell ∷ cells) = suc (length cell + spread cells)

spread-onto : (b : ℕ) (ps : List (List ℕ)) → 0 < spread ps → spread (onto b ps) ≡ suc (spread ps)
spread-onto b [] some = absurd (omega (arith, some))
spread-onto b (p ∷ ps) some = omega arith

parts-spread : (escaped : Bool) (bs : List ℕ) → spread (parts escaped bs) ≡ suc (length bs)
parts-spread escaped [] = omega arith
parts-spread escaped (b ∷ bs) = search (rules, spread-onto, parts-spread false bs, parts-spread (b == backslash) bs)

-- two nodes for a cell that is not empty, and one for another
abbrev weight_of : List ℕ → ℕ
weight_of [] = 1
weight_of (b ∷ bs) = 2

abbrev weight : List (List ℕ) → ℕ
weight [] = 0
weight (cell ∷ cells) = weight_of cell + weight cells

weight_of-less : (cell : List ℕ) → weight_of cell ≤ 2 * suc (length cell)
weight_of-less [] = omega arith
weight_of-less (b ∷ bs) = omega arith

end-weight : (cells : List (List ℕ)) → 0 < spread cells → weight (without_blank_end cells) + 2 ≤ 2 * spread cells
end-weight [] some = absurd (omega (arith, some))
end-weight ([] ∷ []) some = omega arith
end-weight ((b ∷ bs) ∷ []) some = grind arith
end-weight (cell ∷ (next ∷ more)) some = search (rules, weight_of-less, end-weight (next ∷ more) (omega arith))

cell-count : (text : List ℕ) (at : ℕ) (cell : List ℕ) → suc (count_nodes (cell_tokens text at cell)) ≤ weight_of cell
cell-count text at cell = grind (arith, less)

cells-count : (text : List ℕ) (columns at line_end : ℕ) (cells : List (List ℕ)) → count_nodes (cells_then text columns at line_end cells) ≤ weight cells + (columns - length cells)
cells-count text zero at line_end cells = omega arith
cells-count text (suc columns) at line_end [] = let ih = cells-count text columns at line_end [] in omega (arith, ih)
cells-count text (suc columns) at line_end (cell ∷ cells) = search (rules, cell-count, cells-count text columns (suc (at + length cell)) line_end cells)

-- the cells of a row: two nodes a byte of its words, and those that are filled in
pub row_cells-count : (text : List ℕ) (columns : ℕ) (r : Row) → count_nodes (row_cells text columns r) ≤ 2 * length (words_of r) + count_missing columns r
row_cells-count text columns r = grind (arith, cells-count, parts-spread, end-weight, first-less)

abbrev pub filled : (columns : ℕ) → List Row → ℕ
filled columns [] = 0
filled columns (r ∷ rs) = count_missing columns r + filled columns rs
