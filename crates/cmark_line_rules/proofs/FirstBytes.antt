-- The first byte of a line's words: a letter begins no container; a bracket begins no leaf except a link reference definition, a table or a
-- paragraph.
use Rattle.std.proofs.Common.{◌≡◌, ℕ, Bool, true, false, ◌==◌, ◌&&◌, ◌||◌, List, [], ◌∷◌, length, drop, take_while, Some, None, refl, sym, ap, ◌∙◌, cond, eqb-true, true≢false}
use Rattle.std.specs.Prelude.{if◌then◌else◌, nat_lt, nat_le, count_by}
use Rattle.std.proofs.lemmas.List.Sums.{take_while-cons}
use Rattle.cmark_grammar.specs.Options.{Options}
use Rattle.cmark_grammar.specs.Columns.{is_blank_byte}
use Rattle.cmark_grammar.specs.Containers.{begins_with, is_digit, footnote_with, footnote_of}
use Rattle.cmark_grammar.specs.Footnotes.{Footnotes, Off, Gfm, Old, are_read, footnotes_in, footnote_in, after_caret}
use Rattle.cmark_grammar.specs.HtmlBlocks.{html_kind}
use Rattle.cmark_grammar.specs.Leaves.{all_pass, is_parted, run, is_break_of, is_thematic_break, fence_of, fence_with}
use Rattle.cmark_grammar.specs.Letters.{first_is, is_letter}
use Rattle.cmark_grammar.specs.Openings.{leaf_of, text_of}
use Rattle.cmark_grammar.specs.Rows.{Row, indent_of, words_of}
use Rattle.cmark_scan_lines.specs.LeafLines.{atx_level}
use Rattle.cmark_line_rules.specs.Starts.{begun_container, begun_footnote, is_letter_or_pipe}
use Rattle.cmark_line_rules.proofs.FootnoteStarts.{begun-other}
use Rattle.cmark_line_rules.proofs.OpeningRows.{leaf-text}
use Rattle.cmark_line_rules.proofs.PlainRows.{apart, begins_marker, letter-or, digit-none, no-bullet, no-container}

and-false : (z : Bool) → (z && false) ≡ false
and-false true = refl
and-false false = refl

module _ (b : ℕ) (bs : List ℕ) where
  run-none : (k : ℕ) → (b == k) ≡ false → run k (b ∷ bs) ≡ 0
  run-none k n = ap length (take_while-cons (λ c. c == k) b bs) ∙ ap (λ z. length (cond z (b ∷ take_while (λ c. c == k) bs) [])) n

  break-none : (k : ℕ) → (b == k) ≡ false → is_blank_byte b ≡ false → is_break_of k (b ∷ bs) ≡ false
  break-none k n blank =
      ap (λ z. nat_le 3 (count_by (λ c. c == k) (b ∷ bs)) && ((z || is_blank_byte b) && all_pass (λ c. (c == k) || is_blank_byte c) bs)) n
      ∙ ap (λ z. nat_le 3 (count_by (λ c. c == k) (b ∷ bs)) && (z && all_pass (λ c. (c == k) || is_blank_byte c) bs)) blank
      ∙ and-false (nat_le 3 (count_by (λ c. c == k) (b ∷ bs)))

  pub no-break : (b == 42) ≡ false → (b == 45) ≡ false → (b == 95) ≡ false → is_blank_byte b ≡ false → is_thematic_break (b ∷ bs) ≡ false
  no-break star dash low blank =
      ap (λ z. z || (is_break_of 45 (b ∷ bs) || is_break_of 95 (b ∷ bs))) (break-none 42 star blank)
      ∙ ap (λ z. z || is_break_of 95 (b ∷ bs)) (break-none 45 dash blank) ∙ break-none 95 low blank

  pub no-level : (b == 35) ≡ false → atx_level (b ∷ bs) ≡ None
  no-level n =
      ap (λ z. if z then Some (run 35 (b ∷ bs)) else None)
      (ap (λ n. nat_lt 0 n && (nat_le n 6 && is_parted (drop n (b ∷ bs)))) (run-none 35 n))

  pub no-fence : (indented : ℕ) → (b == 96) ≡ false → (b == 126) ≡ false → fence_of indented (b ∷ bs) ≡ None
  no-fence indented tick tilde =
      ap (λ n. if nat_le 3 n && (count_by (λ c. c == 96) (drop n (b ∷ bs)) == 0) then Some (fence_with indented 96 (b ∷ bs)) else if nat_le 3 (run 126 (b ∷ bs)) then Some (fence_with indented 126 (b ∷ bs)) else None) (run-none 96 tick)
      ∙ ap (λ n. if nat_le 3 n then Some (fence_with indented 126 (b ∷ bs)) else None) (run-none 126 tilde)

-- no footnote definition begins without a bracket
no-footnote : (options : Options) (r : Row) → begins_with 91 (words_of r) ≡ false → begun_footnote options r ≡ None
no-footnote options r e = go (footnotes_in options) (nat_le (indent_of r) 3)
  where
    by : (words : List ℕ) → begins_with 91 words ≡ false → footnote_in words ≡ None
    by [] f = refl
    by (b ∷ bs) f = ap (λ z. if z then after_caret bs else None) f

    go : (footnotes : Footnotes) (z : Bool) → (if z then footnote_of footnotes r else None) ≡ None
    go footnotes false = refl
    go Off true = refl
    go Gfm true = ap (footnote_with false r) (by (words_of r) e)
    go Old true = ap (footnote_with true r) (by (words_of r) e)

unmarked : (b : ℕ) → is_letter_or_pipe b ≡ true → begins_marker b ≡ false
unmarked b letter = ap (λ z. z || (is_digit b || (b == 62))) (no-bullet b [] letter) ∙ ap (λ z. z || (b == 62)) (digit-none b letter) ∙ apart b 62 letter refl

-- a letter begins no container
pub letter-container : (options : Options) (r : Row) → first_is is_letter (words_of r) ≡ true → begun_container options r ≡ None
letter-container options r e =
    sym (begun-other options r None (sym (no-footnote options r (bracket (words_of r) e))) (sym (no-container options r (marker (words_of r) e))))
  where
    bracket : (words : List ℕ) → first_is is_letter words ≡ true → begins_with 91 words ≡ false
    bracket [] f = refl
    bracket (b ∷ bs) f = apart b 91 (letter-or b f) refl

    marker : (words : List ℕ) → first_is is_letter words ≡ true → first_is begins_marker words ≡ false
    marker [] f = refl
    marker (b ∷ bs) f = unmarked b (letter-or b f)

-- nor does a bracket, if footnotes are not read
pub label-container : (options : Options) (r : Row) → are_read (footnotes_in options) ≡ false → begins_with 91 (words_of r) ≡ true → begun_container options r ≡ None
label-container options r off e =
    sym (begun-other options r None (sym (none (footnotes_in options) (nat_le (indent_of r) 3) off)) (sym (no-container options r (marker (words_of r) e))))
  where
    none : (footnotes : Footnotes) (z : Bool) → are_read footnotes ≡ false → (if z then footnote_of footnotes r else None) ≡ None
    none footnotes false o = refl
    none Off true o = refl
    none Gfm true o = absurd (true≢false o)
    none Old true o = absurd (true≢false o)

    marker : (words : List ℕ) → begins_with 91 words ≡ true → first_is begins_marker words ≡ false
    marker [] f = refl
    marker (b ∷ bs) f = ap begins_marker (eqb-true b 91 f)

-- words with a bracket at the beginning begin a text, and no other leaf
pub bracket-leaf : (options : Options) (r : Row) (ahead : List Row) → begins_with 91 (words_of r) ≡ true → leaf_of options r ahead ≡ text_of options r ahead
bracket-leaf options r ahead e = by (words_of r) refl e
  where
    by : (words : List ℕ) → words_of r ≡ words → begins_with 91 words ≡ true → leaf_of options r ahead ≡ text_of options r ahead
    by [] is f = absurd (true≢false (sym f))
    by (b ∷ bs) is f =
        let first : words_of r ≡ 91 ∷ bs = is ∙ ap (λ x. x ∷ bs) (eqb-true b 91 f) in
        leaf-text options r ahead (ap html_kind first) (ap is_thematic_break first ∙ no-break 91 bs refl refl refl refl)
        (sym (ap atx_level first ∙ no-level 91 bs refl)) (sym (ap (fence_of (indent_of r)) first ∙ no-fence 91 bs (indent_of r) refl refl))
