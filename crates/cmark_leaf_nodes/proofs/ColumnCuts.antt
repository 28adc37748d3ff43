-- The columns of a line, without some at their end, as bytes of the text.
use Rattle.std.proofs.Common.{◌≡◌, ℕ, zero, suc, ◌+◌, ◌-◌, ◌≤◌, Bool, true, false, ◌==◌, not, List, [], ◌∷◌, ◌++◌, length, drop, take, refl, sym, ap, ◌∙◌, subst, arith, true≢false}
use Rattle.std.specs.Prelude.{if◌then◌else◌}
use Rattle.cmark_grammar.specs.Characters.{tab}
use Rattle.cmark_grammar.specs.Columns.{Column, expand, tab_columns, to_tab_stop, is_blank, is_blank_byte, indent, without_indent, drop_end, put_before, bytes_of}
use Rattle.cmark_grammar.specs.Rows.{begin_of, start_of}
use Rattle.cmark_grammar.specs.Tokens.{slice, line_columns, end_place}
use Rattle.cmark_block_model.proofs.RowPlaces.{Runs, Runs-le, drop-Runs}
use Rattle.cmark_scan_lines.specs.LineStart.{columns_taken}
use Rattle.cmark_line_rules.proofs.RestSteps.{rest-runs}
use Rattle.cmark_line_rules.specs.Rests.{row_of}
use Rattle.cmark_line_rules.specs.declared.line_rest.LineRest.{LineRest}
use Rattle.cmark_leaf_nodes.specs.TextColumns.{StandInText}

-- the first of these columns is a further one of a tab
abbrev pub goes_on : List Column → Bool
goes_on [] = false
goes_on (c ∷ cs) = not (c.part == 0)

-- columns in which no byte begins are of tabs, and come after the other columns of the same tab
abbrev pub AreTabbed : List Column → Type 0
AreTabbed [] = Unit {0}
AreTabbed (c ∷ cs) = ((c.part == 0) ≡ false → c.byte ≡ 9) × (goes_on cs ≡ true → c.byte ≡ 9) × AreTabbed cs

pub drop-tabbed : (n : ℕ) (cs : List Column) → AreTabbed cs → AreTabbed (drop n cs)
drop-tabbed zero cs t = t
drop-tabbed (suc n) [] t = tt
drop-tabbed (suc n) (c ∷ cs) t = drop-tabbed n cs t.2

tab-tabbed : (at part n : ℕ) (rest : List Column) → goes_on rest ≡ false → AreTabbed rest → AreTabbed (tab_columns at part n ++ rest)
tab-tabbed at part zero rest first t = t
tab-tabbed at part (suc n) rest first t = ((λ e. refl), (λ e. refl), tab-tabbed at (suc part) n rest first t)

pub expand-whole : (column at : ℕ) (bs : List ℕ) → goes_on (expand column at bs) ≡ false
expand-whole column at [] = refl
expand-whole column at (b ∷ bs) = go (b == tab) (to_tab_stop column) (let l : 1 ≤ to_tab_stop column = omega arith in l)
  where
    go : (z : Bool) (n : ℕ) → 1 ≤ n → goes_on (if z then tab_columns at 0 n ++ expand (column + to_tab_stop column) (suc at) bs else record { byte = b; at = at; part = 0 } ∷ expand (suc column) (suc at) bs) ≡ false
    go true zero le = absurd (omega (arith, le))
    go true (suc n) le = refl
    go false n le = refl

expand-tabbed : (column at : ℕ) (bs : List ℕ) → AreTabbed (expand column at bs)
expand-tabbed column at [] = tt
expand-tabbed column at (b ∷ bs) = go (b == tab) (expand-tabbed (column + to_tab_stop column) (suc at) bs) (expand-tabbed (suc column) (suc at) bs)
  where
    go : (z : Bool) → AreTabbed (expand (column + to_tab_stop column) (suc at) bs) → AreTabbed (expand (suc column) (suc at) bs) →
        AreTabbed (if z then tab_columns at 0 (to_tab_stop column) ++ expand (column + to_tab_stop column) (suc at) bs else record { byte = b; at = at; part = 0 } ∷ expand (suc column) (suc at) bs)
    go true p r = tab-tabbed at 0 (to_tab_stop column) (expand (column + to_tab_stop column) (suc at) bs) (expand-whole (column + to_tab_stop column) (suc at) bs) p
    go false p r = ((λ e. absurd (true≢false e)), (λ e. absurd (true≢false (sym e ∙ expand-whole (suc column) (suc at) bs))), r)

pub rest-tabbed : (rest : LineRest) → AreTabbed (row_of rest).columns
unfolding row_of
rest-tabbed rest = drop-tabbed (columns_taken rest.front) (expand 0 rest.start rest.front.bytes.now) (expand-tabbed 0 rest.start rest.front.bytes.now)

-- columns without some at the end
pub record Cut (cs left : List Column) : Type 0 where
  pub following : List Column
  pub is : cs ≡ left ++ following

pub front-tabbed : (a b : List Column) → AreTabbed (a ++ b) → AreTabbed a
front-tabbed [] b g = tt
front-tabbed (c ∷ a) b g = (g.0, (λ e. g.1 (more a e)), front-tabbed a b g.2)
  where
    more : (a : List Column) → goes_on a ≡ true → goes_on (a ++ b) ≡ true
    more [] e = absurd (true≢false (sym e))
    more (d ∷ a) e = e

pub front-runs : (from : ℕ) (a b : List Column) (to : ℕ) → Runs from (a ++ b) to → Runs from a (end_place from a)
front-runs from [] b to h = refl
front-runs from (c ∷ a) b to h = (h.0, front-runs (suc c.at) a b to h.1)

pub drop_end-cut : (p : Column → Bool) → (cs : List Column) → Cut cs (drop_end p cs)
drop_end-cut p [] = record { following = []; is = refl }
drop_end-cut p (c ∷ cs) = go (drop_end p cs) (p c) (drop_end-cut p cs)
  where
    go : (ds : List Column) (z : Bool) → Cut cs ds → Cut (c ∷ cs) (put_before z c ds)
    go [] true u = record { following = c ∷ cs; is = refl }
    go [] false u = record { following = u.following; is = ap (λ t. c ∷ t) u.is }
    go (d ∷ ds) z u = record { following = u.following; is = ap (λ t. c ∷ t) u.is }

pub blanks-cut : (cs : List Column) → Cut cs (drop_end is_blank cs)
blanks-cut cs = drop_end-cut is_blank cs

pub end-runs : (from : ℕ) (cs : List Column) (to : ℕ) → Runs from cs to → end_place from cs ≡ to
end-runs from [] to h = h
end-runs from (c ∷ cs) to h = end-runs (suc c.at) cs to h.1

pub drop-in_text : (text : List ℕ) (n : ℕ) (cs : List Column) → StandInText text cs → StandInText text (drop n cs)
drop-in_text text zero cs t = t
drop-in_text text (suc n) [] t = tt
drop-in_text text (suc n) (c ∷ cs) t = drop-in_text text n cs t.1

-- the end of the bytes' range
pub bytes-end : (from : ℕ) (cs : List Column) → Runs from cs (end_place from cs) → end_place from cs ≡ from + length (bytes_of cs)
bytes-end from [] h = omega arith
bytes-end from (c ∷ cs) h = go (c.part == 0) refl (bytes-end (suc c.at) cs h.1)
  where
    go : (z : Bool) → (c.part == 0) ≡ z → end_place (suc c.at) cs ≡ suc c.at + length (bytes_of cs) → end_place (suc c.at) cs ≡ from + length (if z then c.byte ∷ bytes_of cs else bytes_of cs)
    go true e ih = let p : c.at ≡ from = sym (ap (λ z. if z then c.at else suc c.at) e) ∙ h.0 in omega (arith, ih, p)
    go false e ih = let p : suc c.at ≡ from = sym (ap (λ z. if z then c.at else suc c.at) e) ∙ h.0 in omega (arith, ih, p)

-- the bytes of the text are in these columns
pub bytes-slice : (text : List ℕ) (from : ℕ) (cs : List Column) (to : ℕ) → Runs from cs to → StandInText text cs → bytes_of cs ≡ slice text from to
bytes-slice text from [] to h t = sym (ap (λ n. take n (drop from text)) (let e : from ≡ to = h in let z : to - from ≡ 0 = omega (arith, e) in z))
bytes-slice text from (c ∷ cs) to h t = go (c.part == 0) refl (bytes-slice text (suc c.at) cs to h.1 t.1)
  where
    le : suc c.at ≤ to
    le = Runs-le (suc c.at) cs to h.1

    go : (z : Bool) → (c.part == 0) ≡ z → bytes_of cs ≡ slice text (suc c.at) to → (if z then c.byte ∷ bytes_of cs else bytes_of cs) ≡ slice text from to
    go true e ih =
        let p : c.at ≡ from = sym (ap (λ z. if z then c.at else suc c.at) e) ∙ h.0 in
        ap (λ bs. c.byte ∷ bs) ih
        ∙ ap (λ n. take n (c.byte ∷ drop (suc c.at) text)) (let s : suc (to - suc c.at) ≡ to - c.at = omega (arith, le) in s)
        ∙ ap (take (to - c.at)) (sym (t.0 e)) ∙ ap (λ n. slice text n to) p
    go false e ih = let p : suc c.at ≡ from = sym (ap (λ z. if z then c.at else suc c.at) e) ∙ h.0 in ih ∙ ap (λ n. slice text n to) p

module _ (q : ℕ → Bool) where
  tab-fails : (cs : List Column) (d : Column) (ds : List Column) → AreTabbed cs → drop_end (λ c. q c.byte) cs ≡ d ∷ ds → bytes_of (d ∷ ds) ≡ [] → q 9 ≡ false
  tab-fails [] d ds t e none = absurd (let z : [] ≡ d ∷ ds = e in cc)
  tab-fails (c ∷ cs) d ds t e none = go (drop_end (λ x. q x.byte) cs) (q c.byte) refl refl e (λ x xs same z. tab-fails cs x xs t.2 same z)
    where
      part : (c.part == 0) ≡ false → q c.byte ≡ q 9
      part z = ap q (t.0 z)

      whole : (z : Bool) (es : List Column) → (c.part == 0) ≡ z → (if z then c.byte ∷ bytes_of es else bytes_of es) ≡ [] → ((c.part == 0) ≡ false) × (bytes_of es ≡ [])
      whole true es p n = absurd (let x : c.byte ∷ bytes_of es ≡ [] = n in cc)
      whole false es p n = (p, n)

      go : (es : List Column) (z : Bool) → drop_end (λ x. q x.byte) cs ≡ es → q c.byte ≡ z → put_before z c es ≡ d ∷ ds →
          ((x : Column) (xs : List Column) → drop_end (λ y. q y.byte) cs ≡ x ∷ xs → bytes_of (x ∷ xs) ≡ [] → q 9 ≡ false) → q 9 ≡ false
      go [] true is f same ih = absurd (let x : [] ≡ d ∷ ds = same in cc)
      go [] false is f same ih =
          let w = whole (c.part == 0) [] refl (subst (λ xs. bytes_of xs ≡ []) (sym (let x : c ∷ [] ≡ d ∷ ds = same in x)) none) in sym (part w.0) ∙ f
      go (x ∷ xs) z is f same ih =
          let w = whole (c.part == 0) (x ∷ xs) refl (subst (λ ys. bytes_of ys ≡ []) (sym (let y : c ∷ x ∷ xs ≡ d ∷ ds = same in y)) none) in ih x xs is w.1

  -- without columns at the end the bytes are without bytes at the end
  pub drop_end-bytes : (cs : List Column) → AreTabbed cs → bytes_of (drop_end (λ c. q c.byte) cs) ≡ drop_end q (bytes_of cs)
  drop_end-bytes [] t = refl
  drop_end-bytes (c ∷ cs) t = go (drop_end (λ x. q x.byte) cs) (c.part == 0) refl refl (drop_end-bytes cs t.2)
    where
      by : (es : List Column) (bs : List ℕ) (z : Bool) → q c.byte ≡ z → drop_end (λ x. q x.byte) cs ≡ es → (c.part == 0) ≡ true → bytes_of es ≡ bs → bytes_of (put_before z c es) ≡ put_before z c.byte bs
      by [] [] true f is p e = refl
      by [] [] false f is p e = ap (λ x. if x then c.byte ∷ [] else []) p
      by [] (b ∷ bs) z f is p e = absurd (let x : [] ≡ b ∷ bs = e in cc)
      by (d ∷ ds) (b ∷ bs) z f is p e = ap (λ x. if x then c.byte ∷ bytes_of (d ∷ ds) else bytes_of (d ∷ ds)) p ∙ ap (λ l. c.byte ∷ l) e
      by (d ∷ ds) [] false f is p e = ap (λ x. if x then c.byte ∷ bytes_of (d ∷ ds) else bytes_of (d ∷ ds)) p ∙ ap (λ l. c.byte ∷ l) e
      by (d ∷ ds) [] true f is p e = absurd (true≢false (sym f ∙ ap q (t.1 (first cs is)) ∙ tab-fails cs d ds t.2 is e))
        where
          part : (x : Bool) → (d.part == 0) ≡ x → (if x then d.byte ∷ bytes_of ds else bytes_of ds) ≡ [] → not (d.part == 0) ≡ true
          part true y n = absurd (let w : d.byte ∷ bytes_of ds ≡ [] = n in cc)
          part false y n = ap not y

          first : (xs : List Column) → drop_end (λ x. q x.byte) xs ≡ d ∷ ds → goes_on xs ≡ true
          first [] s = absurd (let w : [] ≡ d ∷ ds = s in cc)
          first (x ∷ xs) s = ap (λ y. not (y.part == 0)) (head x (drop_end (λ y. q y.byte) xs) (q x.byte) s) ∙ part (d.part == 0) refl e
            where
              head : (x : Column) (es : List Column) (z : Bool) → put_before z x es ≡ d ∷ ds → x ≡ d
              head x [] true s = absurd (let w : [] ≡ d ∷ ds = s in cc)
              head x [] false s = (let w : x ∷ [] ≡ d ∷ ds = s in cc)
              head x (y ∷ ys) z s = (let w : x ∷ y ∷ ys ≡ d ∷ ds = s in cc)

      skip : (es : List Column) (z : Bool) → (c.part == 0) ≡ false → bytes_of (put_before z c es) ≡ bytes_of es
      skip [] true p = refl
      skip [] false p = ap (λ x. if x then c.byte ∷ [] else []) p
      skip (d ∷ ds) z p = ap (λ x. if x then c.byte ∷ bytes_of (d ∷ ds) else bytes_of (d ∷ ds)) p

      go : (es : List Column) (z : Bool) → drop_end (λ x. q x.byte) cs ≡ es → (c.part == 0) ≡ z → bytes_of es ≡ drop_end q (bytes_of cs) →
          bytes_of (put_before (q c.byte) c es) ≡ drop_end q (if z then c.byte ∷ bytes_of cs else bytes_of cs)
      go es true is p e = by es (drop_end q (bytes_of cs)) (q c.byte) refl is p e
      go es false is p e = skip es (q c.byte) p ∙ e

-- the words of a line, whatever text it is part of
pub words-runs : (rest : LineRest) → Runs (start_of (row_of rest)) (without_indent (row_of rest).columns) (row_of rest).content_end
words-runs rest = (drop-Runs (indent (row_of rest).columns) (begin_of (row_of rest)) (row_of rest).columns (row_of rest).content_end (rest-runs rest)).0

-- the end of a line's words
pub words-end : (rest : LineRest) (words trimmed : List ℕ) → words ≡ bytes_of (without_indent (row_of rest).columns) → trimmed ≡ drop_end is_blank_byte words →
    start_of (row_of rest) + length trimmed ≡ end_place (start_of (row_of rest)) (line_columns (row_of rest))
words-end rest words trimmed w t =
    let cs = without_indent (row_of rest).columns in
    let cut = blanks-cut cs in
    let runs = front-runs (start_of (row_of rest)) (drop_end is_blank cs) cut.following (row_of rest).content_end (subst (λ x. Runs (start_of (row_of rest)) x (row_of rest).content_end) cut.is (words-runs rest)) in
    ap (λ bs. start_of (row_of rest) + length bs) (t ∙ ap (drop_end is_blank_byte) w ∙ sym (drop_end-bytes is_blank_byte cs (drop-tabbed (indent (row_of rest).columns) (row_of rest).columns (rest-tabbed rest))))
    ∙ sym (bytes-end (start_of (row_of rest)) (drop_end is_blank cs) runs)

-- the words reach to the line's ending
pub words-content_end : (rest : LineRest) (words : List ℕ) → words ≡ bytes_of (without_indent (row_of rest).columns) → start_of (row_of rest) + length words ≡ (row_of rest).content_end
words-content_end rest words w =
    let cs = without_indent (row_of rest).columns in
    let e : end_place (start_of (row_of rest)) cs ≡ (row_of rest).content_end = end-runs (start_of (row_of rest)) cs (row_of rest).content_end (words-runs rest) in
    ap (λ bs. start_of (row_of rest) + length bs) w ∙ sym (bytes-end (start_of (row_of rest)) cs (subst (Runs (start_of (row_of rest)) cs) (sym e) (words-runs rest))) ∙ e
