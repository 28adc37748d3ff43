-- How many columns the marker of a footnote definition has.
use Rattle.std.proofs.Common.{◌≡◌, ◌≢◌, ℕ, zero, suc, ◌+◌, ◌-◌, ◌%◌, ◌<◌, ◌≤◌, Bool, true, false, ◌==◌, List, [], ◌∷◌, ◌++◌, length, take, drop, get_or, refl, ap, ◌∙◌, arith, eqb-true, ne_eqb}
use Rattle.std.proofs.Math.Seq.{take-add}
use Rattle.std.specs.Prelude.{if◌then◌else◌}
use Rattle.cmark_grammar.specs.Characters.{tab}
use Rattle.cmark_grammar.specs.Columns.{Column, tab_columns, to_tab_stop, expand}
use Rattle.cmark_grammar.specs.Footnotes.{columns_over}
use Rattle.cmark_scan_lines.specs.Places.{width_at, column_after}
use Rattle.cmark_scan_lines.specs.LineStart.{columns_taken, columns_from}
use Rattle.cmark_scan_lines.specs.declared.line_start.LineStart.{LineStart}
use Rattle.cmark_scan_lines.proofs.PlaceSteps.{column_after-suc, column_after-append, left-whole, left-pending}

over-none : (cs : List Column) → columns_over 0 cs ≡ 0
over-none [] = refl
over-none (c ∷ cs) = refl

-- a further part of a tab is not a further byte
over-tab : (at part w m : ℕ) (cs : List Column) → columns_over (suc m) (tab_columns at (suc part) w ++ cs) ≡ w + columns_over (suc m) cs
over-tab at part zero m cs = omega arith
over-tab at part (suc w) m cs =
    let further = ne_eqb (suc part) 0 (λ e. absurd (omega (arith, e))) in
    let one = ap (λ t. suc (columns_over (if t then m else suc m) (tab_columns at (suc (suc part)) w ++ cs))) further in
    let h = over-tab at (suc part) w m cs in
    omega (arith, one, h)

take-none : (bs : List ℕ) → take 0 bs ≡ []
take-none [] = refl
take-none (b ∷ bs) = refl

-- the columns of the first bytes, if the last of them is not a tab
pub over-expand : (n column at : ℕ) (bs : List ℕ) → suc n ≤ length bs → get_or bs n 0 ≢ tab → column + columns_over (suc n) (expand column at bs) ≡ column_after column (take (suc n) bs)
over-expand n column at [] le last = absurd (omega (arith, le))
over-expand n column at (b ∷ bs) le last = go (b == tab) refl n (λ m k a. over-expand m k a bs) le last
  where
    w : ℕ
    w = to_tab_stop column

    over : (n : ℕ) (z : Bool) → b == tab ≡ z
        → columns_over (suc n) (expand column at (b ∷ bs)) ≡ columns_over (suc n) (if z then tab_columns at 0 w ++ expand (column + w) (suc at) bs else record { byte = b; at = at; part = 0 } ∷ expand (suc column) (suc at) bs)
    over n z e = ap (λ t. columns_over (suc n) (if t then tab_columns at 0 w ++ expand (column + w) (suc at) bs else record { byte = b; at = at; part = 0 } ∷ expand (suc column) (suc at) bs)) e

    further : (n : ℕ) (z : Bool) → b == tab ≡ z → column_after column (take (suc n) (b ∷ bs)) ≡ column_after (column + (if z then w else 1)) (take n bs)
    further n z e = ap (λ t. column_after (column + (if t then w else 1)) (take n bs)) e

    go : (z : Bool) → b == tab ≡ z → (n : ℕ) → ((m k a : ℕ) → suc m ≤ length bs → get_or bs m 0 ≢ tab → k + columns_over (suc m) (expand k a bs) ≡ column_after k (take (suc m) bs))
        → suc n ≤ length (b ∷ bs) → get_or (b ∷ bs) n 0 ≢ tab → column + columns_over (suc n) (expand column at (b ∷ bs)) ≡ column_after column (take (suc n) (b ∷ bs))
    go true e zero ih le last = absurd (last (eqb-true b tab e))
    go true e (suc m) ih le last =
        let tabbed = over (suc m) true e ∙ ap (λ j. columns_over (suc (suc m)) (tab_columns at 0 j ++ expand (column + w) (suc at) bs)) (let s : w ≡ suc (w - 1) = omega arith in s) ∙ ap suc (over-tab at 0 (w - 1) m (expand (column + w) (suc at) bs)) in
        let following = further (suc m) true e in
        let h = ih m (column + w) (suc at) (omega (arith, le)) last in
        let some : 0 < w = omega arith in
        omega (arith, tabbed, following, h, some)
    go false e zero ih le last =
        let one = over 0 false e ∙ ap suc (over-none (expand (suc column) (suc at) bs)) in
        let following = further 0 false e ∙ ap (column_after (column + 1)) (take-none bs) in
        omega (arith, one, following)
    go false e (suc m) ih le last =
        let one = over (suc m) false e in
        let following = further (suc m) false e ∙ ap (λ c. column_after c (take (suc m) bs)) (let s : column + 1 ≡ suc column = omega arith in s) in
        let h = ih m (suc column) (suc at) (omega (arith, le)) last in
        omega (arith, one, following, h)

-- after one further byte, which is not a tab, the last tab stop is one column further away
pub aligned-other : (bs : List ℕ) (n following : ℕ) → n < length bs → following ≤ n → get_or bs n 0 ≢ 9 → (n - following) % 4 ≡ column_after 0 (take n bs) % 4 → (n + 1 - following) % 4 ≡ column_after 0 (take (n + 1) bs) % 4
aligned-other bs n following lt le other aligned =
    let k : ℕ = column_after 0 (take n bs) in
    let more = column_after-suc bs n lt in
    let one : width_at k (get_or bs n 0) ≡ 1 = ap (λ t. if t then to_tab_stop k else 1) (ne_eqb (get_or bs n 0) 9 other) in
    omega (arith, more, one)

-- the column after `m` further bytes
pub following-more : (bs : List ℕ) (n m : ℕ) → column_after 0 (take (n + m) bs) ≡ column_after (column_after 0 (take n bs)) (take m (drop n bs))
following-more bs n m = ap (column_after 0) (take-add n m bs) ∙ column_after-append 0 (take n bs) (take m (drop n bs))

-- the columns that a marker of `n` bytes takes
pub marker-taken : (at n : ℕ) (line line' : LineStart) → line.pending ≡ 0 → line'.pending ≡ 0 → line'.bytes ≡ line.bytes → line'.taken ≡ line.taken + n → 0 < n → n ≤ length (drop line.taken line.bytes.now)
    → get_or (drop line.taken line.bytes.now) (n - 1) 0 ≢ tab → columns_taken line' ≡ columns_taken line + columns_over n (columns_from at line)
marker-taken at n line line' whole whole' same further some within last =
    let bs = line.bytes.now in
    let k : ℕ = column_after 0 (take line.taken bs) in
    let new : column_after 0 (take line'.taken line'.bytes.now) ≡ column_after k (take n (drop line.taken bs)) =
    ap (λ bytes. column_after 0 (take line'.taken bytes.now)) same ∙ ap (λ m. column_after 0 (take m bs)) further ∙ following-more bs line.taken n in
    let over = ap (λ m. k + columns_over m (expand k (at + line.taken) (drop line.taken bs))) (let s : n ≡ suc (n - 1) = omega (arith, some) in s)
    ∙ over-expand (n - 1) k (at + line.taken) (drop line.taken bs) (omega (arith, some, within)) last ∙ ap (λ m. column_after k (take m (drop line.taken bs))) (let s : suc (n - 1) ≡ n = omega (arith, some) in s) in
    let left : columns_from at line ≡ expand k (at + line.taken) (drop line.taken bs) = left-pending at bs line.taken line.pending whole ∙ left-whole at bs line.taken line.inside in
    let seen = ap (columns_over n) left in
    omega (arith, whole, whole', new, over, seen)
