-- The first line of a text from a place on, as a row, and its character boundaries.
use Rattle.std.proofs.Common.{◌≡◌, ℕ, zero, suc, ◌+◌, ◌-◌, ◌≤◌, ◌<◌, Bool, true, false, ◌==◌, ◌&&◌, List, [], ◌∷◌, ◌++◌, length, drop, take, map, refl, sym, ap, ◌∙◌, subst, arith, drop_of_length-le, length-drop}
use Rattle.std.specs.Prelude.{if◌then◌else◌}
use Rattle.std.specs.Str.{IsCharBoundary, IsUtf8}
use Rattle.std.proofs.lemmas.List.Folds.{length-prefix_len}
use Rattle.std.proofs.lemmas.List.Sums.{prefix_len-le-length}
use Rattle.std.proofs.lemmas.Str.{IsUtf8-drop, IsCharBoundary-from_rest}
use Rattle.cmark_grammar.specs.Characters.{tab}
use Rattle.cmark_grammar.specs.Columns.{Column, expand, tab_columns, to_tab_stop, bytes_of}
use Rattle.cmark_grammar.specs.Lines.{lines, content, is_content, begins_with_line_feed, ending_len}
use Rattle.cmark_grammar.specs.Rows.{row_at, rows_from, begin_of}
use Rattle.cmark_line_rules.proofs.LineSteps.{rows-first}
use Rattle.cmark_block_model.proofs.RowPlaces.{Runs, first_place-Runs, expand-Runs}
use Rattle.cmark_block_model.proofs.RowEdges.{AreGood, GoodRow, GoodRows}
use Rattle.cmark_block_model.proofs.BoundaryLaws.{text-good}
use Rattle.cmark_scan_lines.proofs.ColumnSteps.{bytes_of-expand}
use Rattle.cmark_scan_lines.specs.LineStart.{columns_from, row_from, line_of}
use Rattle.cmark_scan_lines.specs.declared.line_start.LineStart.{LineStart}
use Rattle.cmark_scan_bytes.proofs.Lists.{rest_of}
use Rattle.cmark_line_rules.specs.Rests.{no_row}

-- the beginning of the line that begins at a place of the text
module _ (text : List ℕ) (start : ℕ) (front : LineStart) (is : (at line_end : ℕ) → row_from at line_end front ≡ line_of at line_end (take (length text - start) (drop start text))) where
  pub whole-line : (at line_end : ℕ) → row_from at line_end front ≡ line_of at line_end (drop start text)
  whole-line at line_end = is at line_end ∙ ap (line_of at line_end) (rest_of text start)

  pub line-len : (left : List ℕ) → ((at : ℕ) → bytes_of (columns_from at front) ≡ left) → length left ≡ length (content (drop start text))
  line-len left spelled = ap length (sym (spelled 0) ∙ ap (λ r. bytes_of r.columns) (whole-line 0 0) ∙ bytes_of-expand 0 0 (content (drop start text)))

pub content-len : (bs : List ℕ) → length (content bs) ≤ length bs
content-len bs = let e = length-prefix_len is_content bs in let le = prefix_len-le-length is_content bs in omega (arith, e, le)

module _ (text : List ℕ) (at k e : ℕ) (is_k : k ≡ length (content (drop at text))) (is_e : e ≡ ending_len (drop k (drop at text))) where
  -- the first line, and the lines after it
  pub rows-further : at < length text → rows_from at (lines (drop at text)) ≡ line_of at (at + k + e) (drop at text) ∷ rows_from (at + k + e) (lines (drop (at + k + e) text))
  rows-further lt =
      rows-first text at k e lt (is_k ∙ length-prefix_len is_content (drop at text)) is_e
      ∙ ap (λ cs. record { columns = expand 0 at cs; at = at; content_end = at + k; line_end = at + k + e; lazy = false; held = false } ∷ rows_from (at + k + e) (lines (drop (at + k + e) text)))
      (ap (λ n. take n (drop at text)) (is_k ∙ length-prefix_len is_content (drop at text)))
      ∙ ap (λ n. record { columns = expand 0 at (content (drop at text)); at = at; content_end = at + n; line_end = at + k + e; lazy = false; held = false } ∷ rows_from (at + k + e) (lines (drop (at + k + e) text))) is_k

  at_end : at ≡ length text → drop at text ≡ []
  at_end e = drop_of_length-le text (omega (arith, e))

  pub row-none : at ≡ length text → line_of at (at + k + e) (drop at text) ≡ no_row at
  row-none end =
      let q : k ≡ 0 = is_k ∙ ap (λ bs. length (content bs)) (at_end end) in
      let z : e ≡ 0 = is_e ∙ ap (λ n. ending_len (drop n (drop at text))) q ∙ ap ending_len (at_end end) in
      ap (λ bs. line_of at (at + k + e) bs) (at_end end) ∙ ap (λ n. record { columns = []; at = at; content_end = n; line_end = at + k + e; lazy = false; held = false }) (let s : at + 0 ≡ at = omega arith in s)
      ∙ ap (λ n. record { columns = []; at = at; content_end = at; line_end = n; lazy = false; held = false }) (let s : at + k + e ≡ at = omega (arith, q, z) in s)

  pub row-line : at ≤ length text → (line : List ℕ) (more : List (List ℕ)) → lines (drop at text) ≡ line ∷ more → line_of at (at + k + e) (drop at text) ≡ row_at at line
  row-line le line more is = go (drop at text) refl
    where
      go : (bs : List ℕ) → drop at text ≡ bs → line_of at (at + k + e) (drop at text) ≡ row_at at line
      go [] q = absurd (let p : [] ≡ line ∷ more = sym (ap lines q) ∙ is in cc)
      go (b ∷ bs) q =
          let lt : at < length text = (let n : length (drop at text) ≡ suc (length bs) = ap length q in omega (arith, n, length-drop at text)) in
          let rows : line_of at (at + k + e) (drop at text) ∷ rows_from (at + k + e) (lines (drop (at + k + e) text)) ≡ row_at at line ∷ rows_from (at + length line) more = sym (rows-further lt) ∙ ap (rows_from at) is in
          cc

  -- a line that is not the last has bytes
  pub ahead : at < length text → at < at + k + e
  ahead lt = go k refl
    where
      some : (bs : List ℕ) → 0 < length bs → 0 < ending_len bs
      some [] p = absurd (omega (arith, p))
      some (b ∷ bs) p = test ((b == 13) && begins_with_line_feed bs)
        where
          test : (z : Bool) → 0 < (if z then 2 else 1)
          test true = omega arith
          test false = omega arith

      go : (n : ℕ) → k ≡ n → at < at + k + e
      go zero q =
          let l : length (drop k (drop at text)) ≡ length text - at = ap (λ n. length (drop n (drop at text))) q ∙ length-drop at text in
          let s = some (drop k (drop at text)) (omega (arith, l, lt)) in
          omega (arith, s, is_e)
      go (suc n) q = omega (arith, q)

-- columns of bytes that are this many places later
abbrev shift : ℕ → Column → Column
shift n c = record { byte = c.byte; at = n + c.at; part = c.part }

map-append : (n : ℕ) (xs ys : List Column) → map (shift n) (xs ++ ys) ≡ map (shift n) xs ++ map (shift n) ys
map-append n [] ys = refl
map-append n (x ∷ xs) ys = ap (λ l. shift n x ∷ l) (map-append n xs ys)

tab-shift : (n at part m : ℕ) → map (shift n) (tab_columns at part m) ≡ tab_columns (n + at) part m
tab-shift n at part zero = refl
tab-shift n at part (suc m) = ap (λ l. record { byte = tab; at = n + at; part = part } ∷ l) (tab-shift n at (suc part) m)

expand-shift : (n column at : ℕ) (bs : List ℕ) → map (shift n) (expand column at bs) ≡ expand column (n + at) bs
expand-shift n column at [] = refl
expand-shift n column at (b ∷ bs) = go (b == tab) (next (column + to_tab_stop column) (expand-shift n (column + to_tab_stop column) (suc at) bs)) (next (suc column) (expand-shift n (suc column) (suc at) bs))
  where
    next : (column' : ℕ) → map (shift n) (expand column' (suc at) bs) ≡ expand column' (n + suc at) bs → map (shift n) (expand column' (suc at) bs) ≡ expand column' (suc (n + at)) bs
    next column' ih = ih ∙ ap (λ m. expand column' m bs) (let s : n + suc at ≡ suc (n + at) = omega arith in s)

    go : (z : Bool) → map (shift n) (expand (column + to_tab_stop column) (suc at) bs) ≡ expand (column + to_tab_stop column) (suc (n + at)) bs → map (shift n) (expand (suc column) (suc at) bs) ≡ expand (suc column) (suc (n + at)) bs
        → map (shift n) (if z then tab_columns at 0 (to_tab_stop column) ++ expand (column + to_tab_stop column) (suc at) bs else record { byte = b; at = at; part = 0 } ∷ expand (suc column) (suc at) bs)
        ≡ (if z then tab_columns (n + at) 0 (to_tab_stop column) ++ expand (column + to_tab_stop column) (suc (n + at)) bs else record { byte = b; at = n + at; part = 0 } ∷ expand (suc column) (suc (n + at)) bs)
    go true p q =
        map-append n (tab_columns at 0 (to_tab_stop column)) (expand (column + to_tab_stop column) (suc at) bs)
        ∙ ap (λ l. l ++ map (shift n) (expand (column + to_tab_stop column) (suc at) bs)) (tab-shift n at 0 (to_tab_stop column))
        ∙ ap (λ l. tab_columns (n + at) 0 (to_tab_stop column) ++ l) p
    go false p q = ap (λ l. record { byte = b; at = n + at; part = 0 } ∷ l) q

module _ (E F : ℕ → Type 0) (n : ℕ) (up : (k : ℕ) → E k → F (n + k)) where
  good-shift : (cs : List Column) → AreGood E cs → AreGood F (map (shift n) cs)
  good-shift [] g = tt
  good-shift (c ∷ cs) g = (
    (g.0.0, (λ lt. let p = g.0.1 lt in (up c.at p.0, subst F (let s : n + suc c.at ≡ suc (n + c.at) = omega arith in s) (up (suc c.at) p.1)))),
    good-shift cs g.1,
  )

  row-shift : (line_end : ℕ) (bs : List ℕ) → F n → GoodRow E (line_of 0 line_end bs) → GoodRow F (line_of n (n + line_end) bs)
  row-shift line_end bs edge g = record {
    runs = subst (λ f. Runs f (expand 0 n (content bs)) (n + length (content bs))) (sym begins) runs;
    good = subst (AreGood F) (expand-shift n 0 0 (content bs) ∙ ap (λ m. expand 0 m (content bs)) (let s : n + 0 ≡ n = omega arith in s)) (good-shift (expand 0 0 (content bs)) g.good);
    begin = subst F (sym begins) edge;
    content_end = subst F (ap (λ m. n + m) zero-stop) (up (0 + length (content bs)) g.content_end);
    line_end = up line_end g.line_end;
    feed = λ two. subst F (let s : n + suc (0 + length (content bs)) ≡ suc (n + length (content bs)) = omega arith in s) (up (suc (0 + length (content bs))) (g.feed (omega (arith, two))));
  }
    where
      zero-stop : 0 + length (content bs) ≡ length (content bs)
      zero-stop = omega arith

      runs : Runs n (expand 0 n (content bs)) (n + length (content bs))
      runs = expand-Runs 0 n (content bs)

      begins : begin_of (line_of n (n + line_end) bs) ≡ n
      begins = first_place-Runs n (expand 0 n (content bs)) (n + length (content bs)) (expand-Runs 0 n (content bs))

-- if a place of a text is a character boundary, the first line from there has character boundaries as its places
pub line-good : (text : List ℕ) (at k e : ℕ) → k ≡ length (content (drop at text)) → e ≡ ending_len (drop k (drop at text)) → at < length text → IsUtf8 text → IsCharBoundary text at → GoodRow (IsCharBoundary text) (line_of at (at + k + e) (drop at text))
line-good text at k e is_k is_e lt utf8 edge =
    subst (λ p. GoodRow (IsCharBoundary text) (line_of at p (drop at text))) (let s : at + (0 + k + e) ≡ at + k + e = omega arith in s)
    (row-shift (IsCharBoundary (drop at text)) (IsCharBoundary text) at up (0 + k + e) (drop at text) edge first)
  where
    up : (k : ℕ) → IsCharBoundary (drop at text) k → IsCharBoundary text (at + k)
    up k b = IsCharBoundary-from_rest text at k (omega (arith, lt)) b

    rows : rows_from 0 (lines (drop at text)) ≡ line_of 0 (0 + k + e) (drop at text) ∷ rows_from (0 + k + e) (lines (drop (0 + k + e) (drop at text)))
    rows = rows-further (drop at text) 0 k e is_k is_e (let l = length-drop at text in omega (arith, l, lt))

    first : GoodRow (IsCharBoundary (drop at text)) (line_of 0 (0 + k + e) (drop at text))
    first = (subst (GoodRows (IsCharBoundary (drop at text))) rows (text-good (drop at text) (IsUtf8-drop text at utf8 edge))).0

-- nor does the line of no byte
pub none-good : (E : ℕ → Type 0) (at : ℕ) → E at → GoodRow E (no_row at)
none-good E at edge = record { runs = refl; good = tt; begin = edge; content_end = edge; line_end = edge; feed = λ two. absurd (let s : at - at ≡ 2 = two in omega (arith, s)) }
