-- The columns of a line from some place on.
use Rattle.std.proofs.Common.{◌≡◌, ◌≢◌, ℕ, zero, suc, ◌+◌, ◌-◌, ◌%◌, ◌<◌, ◌≤◌, Bool, true, false, ◌==◌, cond, List, [], ◌∷◌, ◌++◌, length, take, drop, get_or, refl, sym, ap, ◌∙◌, arith, append_assoc, true≢false, ◌&&◌, nat_eq, eqb-true, ne_eqb, eq-eqb, ⊎_elim}
use Rattle.std.proofs.Math.Nat.{eq-or-lt_of_le}
use Rattle.cmark_grammar.specs.Characters.{tab}
use Rattle.cmark_grammar.specs.Rows.{is_bare, first_place}
use Rattle.cmark_scan_lines.specs.LineStart.{cut_columns}
use Rattle.std.specs.Prelude.{if◌then◌else◌, take_while}
use Rattle.std.proofs.Math.Seq.{take-suc, take-add, drop-cons, drop-append_seam}
use Rattle.std.proofs.lemmas.List.{take-append-drop, drop-append-le, length-take-le, drop-drop}
use Rattle.std.proofs.Math.ListN.{drop_of_length-le}
use Rattle.std.proofs.lemmas.List.Sums.{take_while-cons}
use Rattle.cmark_grammar.specs.Columns.{Column, tab_columns, to_tab_stop, expand, is_blank, is_blank_byte, indent, without_indent, bytes_of}
use Rattle.cmark_scan_lines.proofs.ColumnSteps.{bytes_of-expand}
use Rattle.cmark_grammar.specs.Leaves.{is_parted}
use Rattle.cmark_scan_lines.specs.Places.{width_at, column_after}

pub width-some : (column b : ℕ) → 0 < width_at column b
width-some column b = go (b == tab)
  where
    go : (z : Bool) → 0 < (if z then to_tab_stop column else 1)
    go true = omega arith
    go false = omega arith

-- the columns of a byte, and the columns after them
abbrev byte_columns : ℕ → ℕ → ℕ → List Column
byte_columns column at b = if b == tab then tab_columns at 0 (to_tab_stop column) else record { byte = b; at = at; part = 0 } ∷ []

expand-cons : (column at b : ℕ) (bs : List ℕ) → expand column at (b ∷ bs) ≡ byte_columns column at b ++ expand (column + width_at column b) (suc at) bs
expand-cons column at b bs = go (b == tab)
  where
    go : (z : Bool) → (if z then tab_columns at 0 (to_tab_stop column) ++ expand (column + to_tab_stop column) (suc at) bs else record { byte = b; at = at; part = 0 } ∷ expand (suc column) (suc at) bs)
        ≡ (if z then tab_columns at 0 (to_tab_stop column) else record { byte = b; at = at; part = 0 } ∷ []) ++ expand (column + (if z then to_tab_stop column else 1)) (suc at) bs
    go true = refl
    go false = ap (λ c. record { byte = b; at = at; part = 0 } ∷ expand c (suc at) bs) (let e : suc column ≡ column + 1 = omega arith in e)

tab_columns-length : (at part n : ℕ) → length (tab_columns at part n) ≡ n
tab_columns-length at part zero = refl
tab_columns-length at part (suc n) = ap suc (tab_columns-length at (suc part) n)

byte_columns-length : (column at b : ℕ) → length (byte_columns column at b) ≡ width_at column b
byte_columns-length column at b = go (b == tab)
  where
    go : (z : Bool) → length (if z then tab_columns at 0 (to_tab_stop column) else record { byte = b; at = at; part = 0 } ∷ []) ≡ (if z then to_tab_stop column else 1)
    go true = tab_columns-length at 0 (to_tab_stop column)
    go false = refl

pub expand-append : (column at : ℕ) (xs ys : List ℕ) → expand column at (xs ++ ys) ≡ expand column at xs ++ expand (column_after column xs) (at + length xs) ys
expand-append column at [] ys = ap (λ a. expand column a ys) (let e : at ≡ at + 0 = omega arith in e)
expand-append column at (b ∷ xs) ys =
    expand-cons column at b (xs ++ ys)
    ∙ ap (λ cs. byte_columns column at b ++ cs) (expand-append (column + width_at column b) (suc at) xs ys)
    ∙ sym (append_assoc (byte_columns column at b) (expand (column + width_at column b) (suc at) xs) _)
    ∙ ap (λ cs. cs ++ expand (column_after column (b ∷ xs)) (suc at + length xs) ys) (sym (expand-cons column at b xs))
    ∙ ap (λ a. expand column at (b ∷ xs) ++ expand (column_after column (b ∷ xs)) a ys) (let e : suc at + length xs ≡ at + suc (length xs) = omega arith in e)

length-++ : {A : Type 0} (xs ys : List A) → length (xs ++ ys) ≡ length xs + length ys
length-++ [] ys = omega arith
length-++ (x ∷ xs) ys = let h = length-++ xs ys in omega arith

pub expand-length : (column at : ℕ) (bs : List ℕ) → column + length (expand column at bs) ≡ column_after column bs
expand-length column at [] = omega arith
expand-length column at (b ∷ bs) =
    let e = ap length (expand-cons column at b bs) ∙ length-++ (byte_columns column at b) _ in
    let w = byte_columns-length column at b in
    let h = expand-length (column + width_at column b) (suc at) bs in
    omega (arith, e, w, h)

pub column_after-append : (column : ℕ) (xs ys : List ℕ) → column_after column (xs ++ ys) ≡ column_after (column_after column xs) ys
column_after-append column [] ys = refl
column_after-append column (b ∷ xs) ys = column_after-append (column + width_at column b) xs ys

-- one byte more
pub column_after-suc : (bs : List ℕ) (n : ℕ) → n < length bs → column_after 0 (take (n + 1) bs) ≡ column_after 0 (take n bs) + width_at (column_after 0 (take n bs)) (get_or bs n 0)
column_after-suc bs n lt =
    ap (λ m. column_after 0 (take m bs)) (let e : n + 1 ≡ suc n = omega arith in e)
    ∙ ap (column_after 0) (take-suc bs n 0 lt) ∙ column_after-append 0 (take n bs) (get_or bs n 0 ∷ [])

-- the columns of the bytes from the n-th on
pub columns_after : (at : ℕ) (bs : List ℕ) (n : ℕ) → n ≤ length bs → drop (column_after 0 (take n bs)) (expand 0 at bs) ≡ expand (column_after 0 (take n bs)) (at + n) (drop n bs)
columns_after at bs n le =
    ap (λ l. drop (column_after 0 (take n bs)) (expand 0 at l)) (sym (take-append-drop n bs))
    ∙ ap (drop (column_after 0 (take n bs))) (expand-append 0 at (take n bs) (drop n bs))
    ∙ ap (λ k. drop k (expand 0 at (take n bs) ++ expand (column_after 0 (take n bs)) (at + length (take n bs)) (drop n bs)))
    (let e = expand-length 0 at (take n bs) in let s : column_after 0 (take n bs) ≡ length (expand 0 at (take n bs)) = omega (arith, e) in s)
    ∙ drop-append_seam (expand 0 at (take n bs)) _
    ∙ ap (λ k. expand (column_after 0 (take n bs)) (at + k) (drop n bs)) (length-take-le n bs le)

-- the part of a tab that is left
tab_columns-drop : (at part k n : ℕ) → drop k (tab_columns at part (k + n)) ≡ tab_columns at (part + k) n
tab_columns-drop at part zero n = ap (λ m. tab_columns at part m) (let e : 0 + n ≡ n = omega arith in e) ∙ ap (λ p. tab_columns at p n) (let e : part ≡ part + 0 = omega arith in e)
tab_columns-drop at part (suc k) n =
    ap (λ m. drop (suc k) (tab_columns at part m)) (let e : suc k + n ≡ suc (k + n) = omega arith in e)
    ∙ tab_columns-drop at (suc part) k n ∙ ap (λ p. tab_columns at p n) (let e : suc part + k ≡ part + suc k = omega arith in e)

-- the columns that are left of a line of which n bytes were taken, but for p columns of the last one
abbrev pub left : ℕ → List ℕ → ℕ → ℕ → List Column
left at bs n p = drop (column_after 0 (take n bs) - p) (expand 0 at bs)

pub left-whole : (at : ℕ) (bs : List ℕ) (n : ℕ) → n ≤ length bs → left at bs n 0 ≡ expand (column_after 0 (take n bs)) (at + n) (drop n bs)
left-whole at bs n le = ap (λ k. drop k (expand 0 at bs)) (let e : column_after 0 (take n bs) - 0 ≡ column_after 0 (take n bs) = omega arith in e) ∙ columns_after at bs n le

-- if no column is left over, the first ones are those of the next byte
pub left-next : (at : ℕ) (bs : List ℕ) (n : ℕ) → n < length bs
    → left at bs n 0 ≡ byte_columns (column_after 0 (take n bs)) (at + n) (get_or bs n 0) ++ expand (column_after 0 (take n bs) + width_at (column_after 0 (take n bs)) (get_or bs n 0)) (suc (at + n)) (drop (suc n) bs)
left-next at bs n lt =
    left-whole at bs n (omega arith) ∙ ap (expand (column_after 0 (take n bs)) (at + n)) (drop-cons bs n 0 lt)
    ∙ expand-cons (column_after 0 (take n bs)) (at + n) (get_or bs n 0) (drop (suc n) bs)

pub left-none : (at : ℕ) (bs : List ℕ) (n : ℕ) → n ≡ length bs → left at bs n 0 ≡ []
left-none at bs n is = left-whole at bs n (omega arith) ∙ ap (expand (column_after 0 (take n bs)) (at + n)) (drop_of_length-le bs (omega arith))

-- if columns are left over, the last byte is a tab, of which a part was taken
cut_byte : (column b p : ℕ) → 0 < p → p < width_at column b → b == tab ≡ true
cut_byte column b p some cut = go (b == tab) refl
  where
    go : (z : Bool) → b == tab ≡ z → b == tab ≡ true
    go true e = e
    go false e = let w = ap (λ t. if t then to_tab_stop column else 1) e in absurd (omega (arith, some, cut, w))

cut_columns_of : (column at b p : ℕ) (rest : List Column) → 0 < p → p < width_at column b → (part : ℕ) × (drop (width_at column b - p) (byte_columns column at b ++ rest) ≡ tab_columns at (suc part) p ++ rest)
cut_columns_of column at b p rest some cut =
    let is = cut_byte column b p some cut in
    let w = ap (λ t. if t then to_tab_stop column else 1) is in (
      to_tab_stop column - p - 1,
      ap (λ t. drop ((if t then to_tab_stop column else 1) - p) ((if t then tab_columns at 0 (to_tab_stop column) else record { byte = b; at = at; part = 0 } ∷ []) ++ rest)) is
          ∙ drop-append-le (to_tab_stop column - p) (tab_columns at 0 (to_tab_stop column)) rest (let l = tab_columns-length at 0 (to_tab_stop column) in omega arith)
          ∙ ap (λ m. drop (to_tab_stop column - p) (tab_columns at 0 m) ++ rest) (let e : to_tab_stop column ≡ (to_tab_stop column - p) + p = omega arith in e)
          ∙ ap (λ l. l ++ rest) (tab_columns-drop at 0 (to_tab_stop column - p) p)
          ∙ ap (λ q. tab_columns at q p ++ rest) (let e : 0 + (to_tab_stop column - p) ≡ suc (to_tab_stop column - p - 1) = omega arith in e),
    )

pub left-cut : (at : ℕ) (bs : List ℕ) (n p : ℕ) → n ≤ length bs → 0 < p → column_after 0 (take (n - 1) bs) + p < column_after 0 (take n bs)
    → (part : ℕ) × (left at bs n p ≡ tab_columns (at + (n - 1)) (suc part) p ++ left at bs n 0)
left-cut at bs zero p le some cut = absurd (omega arith)
left-cut at bs (suc m) p le some cut =
    let k : ℕ = column_after 0 (take m bs) in
    let b : ℕ = get_or bs m 0 in
    let w : ℕ = width_at k b in
    let next : column_after 0 (take (suc m) bs) ≡ k + w = ap (λ n. column_after 0 (take n bs)) (let e : suc m ≡ m + 1 = omega arith in e) ∙ column_after-suc bs m (omega arith) in
    let before : column_after 0 (take (suc m - 1) bs) ≡ k = ap (λ n. column_after 0 (take n bs)) (let e : suc m - 1 ≡ m = omega arith in e) in
    let room : p < w = omega (arith, next, before, cut) in
    let h = cut_columns_of k (at + m) b p (expand (k + w) (suc (at + m)) (drop (suc m) bs)) some room in (
      h.0,
      ap (λ j. drop j (expand 0 at bs)) (let e : column_after 0 (take (suc m) bs) - p ≡ k + (w - p) = omega (arith, next, room) in e)
          ∙ sym (drop-drop (w - p) k (expand 0 at bs))
          ∙ ap (drop (w - p)) (columns_after at bs m (omega arith) ∙ ap (expand k (at + m)) (drop-cons bs m 0 (omega arith)) ∙ expand-cons k (at + m) b (drop (suc m) bs))
          ∙ h.1
          ∙ ap (λ a. tab_columns a (suc h.0) p ++ expand (k + w) (suc (at + m)) (drop (suc m) bs)) (let e : at + m ≡ at + (suc m - 1) = omega arith in e)
          ∙ ap (λ cs. tab_columns (at + (suc m - 1)) (suc h.0) p ++ cs)
          (sym (left-whole at bs (suc m) le ∙ ap (λ c. expand c (at + suc m) (drop (suc m) bs)) next ∙ ap (λ a. expand (k + w) a (drop (suc m) bs)) (let e : at + suc m ≡ suc (at + m) = omega arith in e))),
    )

-- the blank columns at the beginning
indent-cons : (c : Column) (cs : List Column) → indent (c ∷ cs) ≡ cond (is_blank c) (suc (indent cs)) 0
indent-cons c cs = ap length (take_while-cons is_blank c cs) ∙ go (is_blank c)
  where
    go : (z : Bool) → length (cond z (c ∷ take_while is_blank cs) []) ≡ cond z (suc (indent cs)) 0
    go true = refl
    go false = refl

pub indent-tab : (at part n : ℕ) (cs : List Column) → indent (tab_columns at part n ++ cs) ≡ n + indent cs
indent-tab at part zero cs = omega arith
indent-tab at part (suc n) cs = let h = indent-tab at (suc part) n cs in let e = indent-cons (record { byte = tab; at = at; part = part }) (tab_columns at (suc part) n ++ cs) in omega (arith, h, e)

pub indent-drop : (k : ℕ) (cs : List Column) → k ≤ indent cs → indent cs ≡ k + indent (drop k cs)
indent-drop zero cs le = omega arith
indent-drop (suc k) [] le = absurd (omega (arith, le))
indent-drop (suc k) (c ∷ cs) le = go (is_blank c) (indent-cons c cs) (indent-drop k cs)
  where
    go : (z : Bool) → indent (c ∷ cs) ≡ cond z (suc (indent cs)) 0 → (k ≤ indent cs → indent cs ≡ k + indent (drop k cs)) → indent (c ∷ cs) ≡ suc k + indent (drop k cs)
    go true e ih = let h = ih (omega (arith, le, e)) in omega (arith, h, e)
    go false e ih = absurd (omega (arith, le, e))

-- a blank byte at the beginning has only blank columns, and another byte has none
pub indent-byte : (column at b : ℕ) (cs : List Column) → indent (byte_columns column at b ++ cs) ≡ cond (is_blank_byte b) (width_at column b + indent cs) 0
indent-byte column at b cs = go (b == tab) refl
  where
    go : (z : Bool) → b == tab ≡ z → indent (byte_columns column at b ++ cs) ≡ cond (is_blank_byte b) (width_at column b + indent cs) 0
    go true e =
        ap (λ t. indent ((if t then tab_columns at 0 (to_tab_stop column) else record { byte = b; at = at; part = 0 } ∷ []) ++ cs)) e
        ∙ indent-tab at 0 (to_tab_stop column) cs
        ∙ ap (λ t. (if t then to_tab_stop column else 1) + indent cs) (sym e)
        ∙ ap (λ x. cond (is_blank_byte x) (width_at column b + indent cs) 0) (sym (eqb-true b tab e))
    go false e =
        ap (λ t. indent ((if t then tab_columns at 0 (to_tab_stop column) else record { byte = b; at = at; part = 0 } ∷ []) ++ cs)) e
        ∙ indent-cons (record { byte = b; at = at; part = 0 }) cs
        ∙ ap (λ m. cond (is_blank_byte b) m 0) (let s : suc (indent cs) ≡ 1 + indent cs = omega arith in s)
        ∙ ap (λ t. cond (is_blank_byte b) ((if t then to_tab_stop column else 1) + indent cs) 0) (sym e)

pub indent-next : (at : ℕ) (bs : List ℕ) (n : ℕ) → n < length bs → is_blank_byte (get_or bs n 0) ≡ false → indent (left at bs n 0) ≡ 0
indent-next at bs n lt not_blank =
    ap indent (left-next at bs n lt) ∙ indent-byte (column_after 0 (take n bs)) (at + n) (get_or bs n 0) _
    ∙ ap (λ t. cond t (width_at (column_after 0 (take n bs)) (get_or bs n 0) + indent (expand (column_after 0 (take n bs) + width_at (column_after 0 (take n bs)) (get_or bs n 0)) (suc (at + n)) (drop (suc n) bs))) 0) not_blank

pub indent-blank : (at : ℕ) (bs : List ℕ) (n w : ℕ) → n < length bs → is_blank_byte (get_or bs n 0) ≡ true → w ≡ width_at (column_after 0 (take n bs)) (get_or bs n 0) → w ≤ indent (left at bs n 0)
indent-blank at bs n w lt blank is =
    let e = ap indent (left-next at bs n lt) ∙ indent-byte (column_after 0 (take n bs)) (at + n) (get_or bs n 0) _
    ∙ ap (λ t. cond t (width_at (column_after 0 (take n bs)) (get_or bs n 0) + indent (expand (column_after 0 (take n bs) + width_at (column_after 0 (take n bs)) (get_or bs n 0)) (suc (at + n)) (drop (suc n) bs))) 0) blank in
    omega (arith, e, is)

pub indent-none : (at : ℕ) (bs : List ℕ) (n : ℕ) → n ≡ length bs → indent (left at bs n 0) ≡ 0
indent-none at bs n is = ap indent (left-none at bs n is)

-- a blank byte was taken whole
pub tab-width : (column taken following : ℕ) → (taken - following) % 4 ≡ column % 4 → 4 - (taken - following) % 4 ≡ width_at column 9
tab-width column taken following aligned = omega arith

pub aligned-space : (bs : List ℕ) (n following : ℕ) → n < length bs → following ≤ n → get_or bs n 0 ≡ 32 → (n - following) % 4 ≡ column_after 0 (take n bs) % 4 → (n + 1 - following) % 4 ≡ column_after 0 (take (n + 1) bs) % 4
aligned-space bs n following lt le is aligned =
    let e = column_after-suc bs n lt ∙ ap (λ b. column_after 0 (take n bs) + width_at (column_after 0 (take n bs)) b) is in omega (arith, e)

pub aligned-tab : (bs : List ℕ) (n following : ℕ) → n < length bs → get_or bs n 0 ≡ 9 → (n - following) % 4 ≡ column_after 0 (take n bs) % 4 → (n + 1 - (n + 1)) % 4 ≡ column_after 0 (take (n + 1) bs) % 4
aligned-tab bs n following lt is aligned =
    let e = column_after-suc bs n lt ∙ ap (λ b. column_after 0 (take n bs) + width_at (column_after 0 (take n bs)) b) is in omega (arith, e)

-- a byte more, which is a blank
pub wide-blank : (bs : List ℕ) (n b w : ℕ) → n < length bs → b ≡ get_or bs n 0 → w ≡ width_at (column_after 0 (take n bs)) b → column_after 0 (take n bs) + w ≡ column_after 0 (take (n + 1) bs)
wide-blank bs n b w lt is wide = let e = column_after-suc bs n lt ∙ ap (λ b. column_after 0 (take n bs) + width_at (column_after 0 (take n bs)) b) (sym is) in omega (arith, e, wide)

pub indent-blank-byte : (at : ℕ) (bs : List ℕ) (n b w : ℕ) → n < length bs → is_blank_byte b ≡ true → b ≡ get_or bs n 0 → w ≡ width_at (column_after 0 (take n bs)) b → w ≤ indent (left at bs n 0)
indent-blank-byte at bs n b w lt blank is wide = indent-blank at bs n w lt (ap is_blank_byte (sym is) ∙ blank) (wide ∙ ap (width_at (column_after 0 (take n bs))) is)

pub left-pending : (at : ℕ) (bs : List ℕ) (n p : ℕ) → p ≡ 0 → left at bs n p ≡ left at bs n 0
left-pending at bs n p e = ap (left at bs n) e

pub not_blank : (b : ℕ) → b ≢ 32 → b ≢ 9 → is_blank_byte b ≡ false
not_blank b ne ne' = rw (ne_eqb b 32 ne, ne_eqb b 9 ne') refl

-- columns that are left of a tab are blank
pub pending-indent : (at : ℕ) (bs : List ℕ) (n p : ℕ) → n ≤ length bs → (0 < p → column_after 0 (take (n - 1) bs) + p < column_after 0 (take n bs)) → p ≤ indent (left at bs n p)
pending-indent at bs n zero le cut = omega arith
pending-indent at bs n (suc p) le cut =
    let h = left-cut at bs n (suc p) le (omega arith) (cut (omega arith)) in
    let e = ap indent h.1 ∙ indent-tab (at + (n - 1)) (suc h.0) (suc p) (left at bs n 0) in omega (arith, e)

-- the first of the columns that are left
data Front (at : ℕ) (bs : List ℕ) (n p : ℕ) : Type 0 where
  Cut : (part q : ℕ) → p ≡ suc q → left at bs n p ≡ tab_columns (at + (n - 1)) (suc part) p ++ left at bs n 0 → 0 < n → Front at bs n p
  End : p ≡ 0 → n ≡ length bs → left at bs n p ≡ [] → Front at bs n p
  Next : p ≡ 0 → n < length bs → (column w : ℕ) → left at bs n p ≡ byte_columns column (at + n) (get_or bs n 0) ++ expand (column + w) (suc (at + n)) (drop (suc n) bs) → Front at bs n p

front : (at : ℕ) (bs : List ℕ) (n p : ℕ) → n ≤ length bs → (0 < p → column_after 0 (take (n - 1) bs) + p < column_after 0 (take n bs)) → Front at bs n p
front at bs n (suc p) le cut = let h = left-cut at bs n (suc p) le (omega arith) (cut (omega arith)) in Cut h.0 p refl h.1 (some n (cut (omega arith)))
  where
    some : (n : ℕ) → column_after 0 (take (n - 1) bs) + suc p < column_after 0 (take n bs) → 0 < n
    some zero lt = absurd (omega arith)
    some (suc n) lt = omega arith
front at bs n zero le cut = ⊎_elim (λ e. End refl e (left-none at bs n e)) (λ lt. Next refl lt (column_after 0 (take n bs)) _ (left-next at bs n lt)) (eq-or-lt_of_le le)

-- the first column of a byte
first_of_byte : (column at b : ℕ) (rest : List Column) → (cs : List Column) × (byte_columns column at b ++ rest ≡ record { byte = b; at = at; part = 0 } ∷ cs)
first_of_byte column at b rest = go (b == tab) refl
  where
    some : (n : ℕ) → 0 < n → (cs : List Column) × (tab_columns at 0 n ++ rest ≡ record { byte = tab; at = at; part = 0 } ∷ cs)
    some zero lt = absurd (omega arith)
    some (suc n) lt = (tab_columns at 1 n ++ rest, refl)

    go : (z : Bool) → b == tab ≡ z → (cs : List Column) × (byte_columns column at b ++ rest ≡ record { byte = b; at = at; part = 0 } ∷ cs)
    go true e =
        let h = some (to_tab_stop column) (omega arith) in
        (h.0, ap (λ t. (if t then tab_columns at 0 (to_tab_stop column) else record { byte = b; at = at; part = 0 } ∷ []) ++ rest) e ∙ h.1 ∙ ap (λ x. record { byte = x; at = at; part = 0 } ∷ h.0) (sym (eqb-true b tab e)))
    go false e = (rest, ap (λ t. (if t then tab_columns at 0 (to_tab_stop column) else record { byte = b; at = at; part = 0 } ∷ []) ++ rest) e)

module _ (at : ℕ) (bs : List ℕ) (n p : ℕ) (le : n ≤ length bs) (cut : 0 < p → column_after 0 (take (n - 1) bs) + p < column_after 0 (take n bs)) where
  pub left-bare : (nat_eq p 0 && nat_eq n (length bs)) ≡ is_bare (left at bs n p)
  left-bare = go (front at bs n p le cut)
    where
      go : Front at bs n p → (nat_eq p 0 && nat_eq n (length bs)) ≡ is_bare (left at bs n p)
      go (Cut part q some is lt) = ap (λ t. t && nat_eq n (length bs)) (ne_eqb p 0 (omega arith)) ∙ sym (ap is_bare (is ∙ ap (λ m. tab_columns (at + (n - 1)) (suc part) m ++ left at bs n 0) some))
      go (End none end is) = ap (λ t. t && nat_eq n (length bs)) (eq-eqb p 0 none) ∙ eq-eqb n (length bs) end ∙ sym (ap is_bare is)
      go (Next none lt column w is) =
          let h = first_of_byte column (at + n) (get_or bs n 0) (expand (column + w) (suc (at + n)) (drop (suc n) bs)) in
          ap (λ t. t && nat_eq n (length bs)) (eq-eqb p 0 none) ∙ ne_eqb n (length bs) (omega arith) ∙ sym (ap is_bare (is ∙ h.1))

  pub left-place : first_place (at + length bs) (left at bs n p) ≡ at + n
  left-place = go (front at bs n p le cut)
    where
      go : Front at bs n p → first_place (at + length bs) (left at bs n p) ≡ at + n
      go (Cut part q some is lt) =
          ap (first_place (at + length bs)) (is ∙ ap (λ m. tab_columns (at + (n - 1)) (suc part) m ++ left at bs n 0) some)
          ∙ ap (λ t. if t then at + (n - 1) else suc (at + (n - 1))) (ne_eqb (suc part) 0 (omega arith)) ∙ (let e : suc (at + (n - 1)) ≡ at + n = omega arith in e)
      go (End none end is) = ap (first_place (at + length bs)) is ∙ ap (λ m. at + m) (sym end)
      go (Next none lt column w is) =
          let h = first_of_byte column (at + n) (get_or bs n 0) (expand (column + w) (suc (at + n)) (drop (suc n) bs)) in ap (first_place (at + length bs)) (is ∙ h.1)

  tab-cut : (at part n : ℕ) (cs : List Column) → cut_columns (tab_columns at (suc part) n ++ cs) ≡ n + cut_columns cs
  tab-cut at part zero cs = omega arith
  tab-cut at part (suc n) cs = ap (λ t. if t then 0 else suc (cut_columns (tab_columns at (suc (suc part)) n ++ cs))) (ne_eqb (suc part) 0 (omega arith)) ∙ (let h = tab-cut at (suc part) n cs in omega arith)

  whole-cut : cut_columns (left at bs n 0) ≡ 0
  whole-cut = ⊎_elim (λ e. ap cut_columns (left-none at bs n e)) (λ lt. ap cut_columns (left-next at bs n lt ∙ (first_of_byte (column_after 0 (take n bs)) (at + n) (get_or bs n 0) _).1)) (eq-or-lt_of_le le)

  pub left-pending-columns : p ≡ cut_columns (left at bs n p)
  left-pending-columns = go (front at bs n p le cut)
    where
      go : Front at bs n p → p ≡ cut_columns (left at bs n p)
      go (Cut part q some is lt) = let e = ap cut_columns is ∙ tab-cut (at + (n - 1)) part p (left at bs n 0) in let w = whole-cut in omega arith
      go (End none end is) = none ∙ sym (ap cut_columns is)
      go (Next none lt column w is) = none ∙ sym (ap cut_columns (ap (left at bs n) none) ∙ whole-cut)

-- the bytes that are left, if no blank comes first
pub flush-words : (at : ℕ) (bs : List ℕ) (n p : ℕ) → n ≤ length bs → p ≡ 0 → indent (left at bs n p) ≡ 0 → bytes_of (without_indent (left at bs n p)) ≡ drop n bs
flush-words at bs n p le none flat =
    ap (λ k. bytes_of (drop k (left at bs n p))) flat ∙ ap bytes_of (ap (left at bs n) none ∙ left-whole at bs n le) ∙ bytes_of-expand (column_after 0 (take n bs)) (at + n) (drop n bs)

pub not_flush : (at : ℕ) (bs : List ℕ) (n p : ℕ) → n ≤ length bs → p ≡ 0 → (indent (left at bs n p) == 0) ≡ false → is_parted (drop n bs) ≡ true
not_flush at bs n p le none deep = ⊎_elim end next (eq-or-lt_of_le le)
  where
    end : n ≡ length bs → is_parted (drop n bs) ≡ true
    end e = ap is_parted (drop_of_length-le bs (omega arith))

    next : n < length bs → is_parted (drop n bs) ≡ true
    next lt = ap is_parted (drop-cons bs n 0 lt) ∙ go (is_blank_byte (get_or bs n 0)) refl
      where
        go : (z : Bool) → is_blank_byte (get_or bs n 0) ≡ z → is_blank_byte (get_or bs n 0) ≡ true
        go true e = e
        go false e = absurd (true≢false (sym (eq-eqb (indent (left at bs n p)) 0 (ap (λ q. indent (left at bs n q)) none ∙ indent-next at bs n lt e)) ∙ deep))

-- bytes that are no tabs have a column each
plain-columns : (column : ℕ) (bs : List ℕ) (n : ℕ) → n ≤ length bs → ((k : ℕ) → k < n → get_or bs k 0 ≢ 9) → column_after column (take n bs) ≡ column + n
plain-columns column bs zero le plain = omega arith
plain-columns column [] (suc n) le plain = absurd (omega arith)
plain-columns column (b ∷ bs) (suc n) le plain =
    plain-columns (column + width_at column b) bs n (omega arith) (λ k lt. plain (suc k) (omega arith))
    ∙ (let w = ap (λ t. if t then to_tab_stop column else 1) (ne_eqb b 9 (plain 0 (omega arith))) in omega arith)

pub plain-following : (bs : List ℕ) (n m : ℕ) → m ≤ length (drop n bs) → ((k : ℕ) → k < m → get_or (drop n bs) k 0 ≢ 9) → column_after 0 (take (n + m) bs) ≡ column_after 0 (take n bs) + m
plain-following bs n m le plain =
    ap (column_after 0) (take-add n m bs) ∙ column_after-append 0 (take n bs) (take m (drop n bs)) ∙ plain-columns (column_after 0 (take n bs)) (drop n bs) m le plain

pub plain-aligned : (bs : List ℕ) (n m following : ℕ) → m ≤ length (drop n bs) → ((k : ℕ) → k < m → get_or (drop n bs) k 0 ≢ 9) → following ≤ n → (n - following) % 4 ≡ column_after 0 (take n bs) % 4 → (n + m - following) % 4 ≡ column_after 0 (take (n + m) bs) % 4
plain-aligned bs n m following le plain preceding aligned = let e = plain-following bs n m le plain in omega (arith, e)
