-- The line after the marker of a footnote definition.
use Rattle.std.proofs.Common.{◌≡◌, ℕ, suc, ◌+◌, ◌≤◌, Bool, true, false, List, length, take, drop, Some, None, refl, sym, ap, ◌∙◌, arith, eqb-true, drop-drop, length-drop}
use Rattle.std.specs.Prelude.{if◌then◌else◌}
use Rattle.std.proofs.lemmas.List.{length-take-le}
use Rattle.cmark_grammar.specs.Columns.{indent, without_indent}
use Rattle.cmark_grammar.specs.Rows.{Row, without, indent_of, words_of}
use Rattle.cmark_grammar.specs.Containers.{footnote_width}
use Rattle.cmark_grammar.specs.Footnotes.{columns_over, marker_columns, footnote_in}
use Rattle.cmark_grammar.specs.Leaves.{is_parted}
use Rattle.cmark_grammar.specs.LinkDefinitions.{Parsed}
use Rattle.cmark_scan_lines.specs.LineMarkers.{is_flush, footnote_at, after_footnote}
use Rattle.cmark_scan_bytes.specs.Footnotes.{marked}
use Rattle.cmark_scan_lines.proofs.RowSteps.{parted_none, found-is}

footnote-none : (bs : List ℕ) → is_parted bs ≡ true → footnote_in bs ≡ None
footnote-none = parted_none footnote_in refl (λ bs. refl) (λ bs. refl)

-- the marker at the beginning of the row is at the beginning of the bytes that are left
pub found-at : (r : Row) (bs : List ℕ) → (is_flush r ≡ true → words_of r ≡ bs) → (is_flush r ≡ false → is_parted bs ≡ true) → footnote_at r ≡ footnote_in bs
found-at r bs words blank = found-is r bs words blank footnote_in footnote-none

pub flush-of : (r : Row) (found : Parsed) → footnote_at r ≡ Some found → is_flush r ≡ true
flush-of r found is = go (is_flush r) refl is
  where
    go : (z : Bool) → is_flush r ≡ z → (if z then footnote_in (words_of r) else None) ≡ Some found → is_flush r ≡ true
    go true e q = e
    go false e q = let none : None ≡ Some found = q in absurd (cc)

following-is : (r r1 r2 : Row) (n : ℕ) (label : List ℕ) → indent_of r ≡ 0 → suc (suc (suc (suc (length label)))) ≡ n → r1 ≡ without (columns_over n r.columns) r → r2 ≡ without (indent_of r1) r1
    → r2 ≡ without (footnote_width (marker_columns label r.columns) r) r
following-is r r1 r2 n label none size first second =
    second ∙ ap (λ q. without (indent_of q) q) first
    ∙ ap (λ cs. record r { columns = cs }) (drop-drop (indent (drop m r.columns)) m r.columns)
    ∙ ap (λ k. without k r) (sym width)
  where
    m : ℕ
    m = columns_over n r.columns

    same : marker_columns label r.columns ≡ m
    same = ap (λ k. columns_over k (without_indent r.columns)) size ∙ ap (λ k. columns_over n (drop k r.columns)) none

    width : footnote_width (marker_columns label r.columns) r ≡ m + indent (drop m r.columns)
    width =
        ap (λ k. footnote_width k r) same
        ∙ ap (λ i. i + (m + indent (drop (i + m) r.columns))) none
        ∙ ap (λ k. 0 + (m + indent (drop k r.columns))) (let s : 0 + m ≡ m = omega arith in s)
        ∙ (let s : 0 + (m + indent (drop m r.columns)) ≡ m + indent (drop m r.columns) = omega arith in s)

-- the marker and the blanks after it were taken
pub following-taken : (r r1 r2 : Row) (bs : List ℕ) (size : ℕ) → Some (marked bs size) ≡ footnote_at r → size + 4 ≤ length bs → r1 ≡ without (columns_over (size + 4) r.columns) r → r2 ≡ without (indent_of r1) r1
    → r2 ≡ after_footnote (footnote_at r) r
following-taken r r1 r2 bs size is within first second =
    following-is r r1 r2 (size + 4) (take size (drop 2 bs)) (eqb-true (indent_of r) 0 (flush-of r (marked bs size) (sym is))) length-is first second
    ∙ ap (λ o. after_footnote o r) is
  where
    length-is : suc (suc (suc (suc (length (take size (drop 2 bs)))))) ≡ size + 4
    length-is = let l = length-drop 2 bs in let t = length-take-le size (drop 2 bs) (omega (arith, l, within)) in omega (arith, t)
