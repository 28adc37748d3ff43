-- The bytes that are left of a line.
use Rattle.std.proofs.Common.{◌≡◌, ℕ, zero, suc, ◌+◌, ◌-◌, ◌<◌, ◌≤◌, List, ◌++◌, length, take, drop, ap, ◌∙◌, refl, arith, ne_eqb, if◌then◌else◌, ◌∷◌}
use Rattle.cmark_grammar.specs.Columns.{Column, tab_columns, bytes_of}
use Rattle.cmark_scan_lines.specs.Places.{column_after}
use Rattle.cmark_scan_lines.proofs.ColumnSteps.{bytes_of-expand}
use Rattle.cmark_scan_lines.proofs.PlaceSteps.{left, left-whole, left-cut}

-- columns that are left of a tab have no byte
cut-bytes : (at part n : ℕ) (cs : List Column) → bytes_of (tab_columns at (suc part) n ++ cs) ≡ bytes_of cs
cut-bytes at part zero cs = refl
cut-bytes at part (suc n) cs =
    let others = bytes_of (tab_columns at (suc (suc part)) n ++ cs) in
    ap (λ t. if t then 9 ∷ others else others) (ne_eqb (suc part) 0 (omega arith)) ∙ cut-bytes at (suc part) n cs

whole-bytes : (at : ℕ) (bs : List ℕ) (n : ℕ) → n ≤ length bs → bytes_of (left at bs n 0) ≡ drop n bs
whole-bytes at bs n le = ap bytes_of (left-whole at bs n le) ∙ bytes_of-expand (column_after 0 (take n bs)) (at + n) (drop n bs)

pub left-bytes : (at : ℕ) (bs : List ℕ) (n p : ℕ) → n ≤ length bs → (0 < p → column_after 0 (take (n - 1) bs) + p < column_after 0 (take n bs)) → bytes_of (left at bs n p) ≡ drop n bs
left-bytes at bs n zero le cut = whole-bytes at bs n le
left-bytes at bs n (suc p) le cut =
    let h = left-cut at bs n (suc p) le (omega arith) (cut (omega arith)) in
    ap bytes_of h.1 ∙ cut-bytes (at + (n - 1)) h.0 (suc p) (left at bs n 0) ∙ whole-bytes at bs n le
