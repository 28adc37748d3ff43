-- The first byte of a line's words: a letter begins only the text of a paragraph, a pipe only that or a table. A byte that is neither a
-- bullet, a digit nor `>` begins no container.
use Rattle.std.proofs.Common.{◌≡◌, ℕ, Bool, true, false, ◌==◌, ◌&&◌, ◌||◌, List, [], ◌∷◌, length, drop, take_while, Option, Some, None, refl, sym, ap, ◌∙◌, arith, cond, true≢false}
use Rattle.std.specs.Prelude.{if◌then◌else◌, nat_lt, nat_le, count_by}
use Rattle.std.proofs.lemmas.Bool.{eqb-true}
use Rattle.std.proofs.lemmas.List.Sums.{take_while-cons}
use Rattle.cmark_grammar.specs.Options.{Options}
use Rattle.cmark_grammar.specs.Columns.{Column, is_blank_byte, without_indent, bytes_of}
use Rattle.cmark_grammar.specs.Rows.{Row, without, is_bare, indent_of, words_of}
use Rattle.cmark_grammar.specs.Leaves.{all_pass, are_blank, is_parted, run, is_break_of, is_thematic_break, is_atx_heading, fence_of, fence_with, is_run_of, underline_of, underlines}
use Rattle.cmark_grammar.specs.Letters.{is_letter, first_is}
use Rattle.cmark_grammar.specs.HtmlBlocks.{html_kind, kind_after}
use Rattle.cmark_grammar.specs.Containers.{is_bullet, is_digit, digits, delimited, marker_of, item_with, begins_with, block_quote_width, container_with, with_task}
use Rattle.cmark_grammar.specs.BlockQuoteKind.{BlockQuoteKind}
use Rattle.cmark_grammar.specs.Alerts.{alert_in}
use Rattle.cmark_grammar.specs.Footnotes.{Footnotes, footnotes_in, do_interrupt, footnote_in, after_caret, is_label_found}
use Rattle.cmark_grammar.specs.Openings.{footnote_interrupts, item_interrupts, is_some_fence, html_interrupts, interrupts, table_if, leaf_of}
use Rattle.cmark_grammar.specs.TableRows.{begins_with_pipe, is_some_head, table_head, table_interrupts}
use Rattle.cmark_scan_lines.specs.LeafLines.{atx_level}
use Rattle.cmark_line_rules.specs.Starts.{begun_item, begun_marked, is_letter_or_pipe}
use Rattle.cmark_line_rules.proofs.OpeningRows.{leaf-plain, no-bracket}

-- a bullet, a digit of an ordered item's number, or `>`
abbrev pub begins_marker : ℕ → Bool
begins_marker b = is_bullet b || (is_digit b || (b == 62))

-- a letter or a pipe is no other byte
pub apart : (b k : ℕ) → is_letter_or_pipe b ≡ true → is_letter_or_pipe k ≡ false → (b == k) ≡ false
apart b k l n = go (b == k) refl
  where
    same : (b k : ℕ) → (b == k) ≡ true → b ≡ k
    same b k e = grind (arith)

    go : (z : Bool) → (b == k) ≡ z → z ≡ false
    go true e = absurd (true≢false (sym l ∙ ap is_letter_or_pipe (same b k e) ∙ n))
    go false e = refl

-- and a letter no pipe
no-pipe : (b : ℕ) → is_letter b ≡ true → (b == 124) ≡ false
no-pipe b l = go (b == 124) refl
  where
    same : (b : ℕ) → (b == 124) ≡ true → b ≡ 124
    same b e = grind (arith)

    go : (z : Bool) → (b == 124) ≡ z → z ≡ false
    go true e = absurd (true≢false (sym l ∙ ap is_letter (same b e)))
    go false e = refl

pub letter-or : (b : ℕ) → is_letter b ≡ true → is_letter_or_pipe b ≡ true
letter-or b l = ap (λ z. z || (b == 124)) l

first-or : (bs : List ℕ) → first_is is_letter bs ≡ true → first_is is_letter_or_pipe bs ≡ true
first-or [] e = e
first-or (b ∷ bs) e = letter-or b e

and-false : (z : Bool) → (z && false) ≡ false
and-false true = refl
and-false false = refl

pub digit-none : (b : ℕ) → is_letter_or_pipe b ≡ true → is_digit b ≡ false
digit-none b l = go (is_digit b) refl
  where
    no-letter : (b : ℕ) → is_digit b ≡ true → is_letter b ≡ false
    no-letter b d = grind (arith)

    no-bar : (b : ℕ) → is_digit b ≡ true → (b == 124) ≡ false
    no-bar b d = grind (arith)

    go : (z : Bool) → is_digit b ≡ z → z ≡ false
    go true e = absurd (true≢false (sym l ∙ ap (λ z. z || (b == 124)) (no-letter b e) ∙ no-bar b e))
    go false e = refl

-- a marker begins with a bullet or a digit
unmarked : (b : ℕ) (bs : List ℕ) → is_bullet b ≡ false → is_digit b ≡ false → marker_of (b ∷ bs) ≡ None
unmarked b bs bullet digit =
    ap (λ z. if z then Some (record { delimiter = b; number = None; size = 1 }) else delimited (digits (b ∷ bs)) (drop (length (digits (b ∷ bs))) (b ∷ bs))) bullet
    ∙ ap (λ ds. delimited ds (drop (length ds) (b ∷ bs))) (take_while-cons is_digit b bs ∙ ap (λ z. cond z (b ∷ take_while is_digit bs) []) digit)

-- a line whose words begin with the marker of a block quote begins no item
pub quote-no-item : (r : Row) → begins_with 62 (words_of r) ≡ true → begun_item r ≡ None
quote-no-item r e = ap (λ m. if nat_le (indent_of r) 3 then item_with r m else None) (none (words_of r) e) ∙ go (nat_le (indent_of r) 3)
  where
    none : (words : List ℕ) → begins_with 62 words ≡ true → marker_of words ≡ None
    none [] is = absurd (true≢false (sym is))
    none (b ∷ bs) is = ap (λ c. marker_of (c ∷ bs)) (eqb-true b 62 is) ∙ unmarked 62 bs refl refl

    go : (z : Bool) → (if z then item_with r None else None) ≡ None
    go true = refl
    go false = refl

neither : (words : List ℕ) → first_is begins_marker words ≡ false → (marker_of words ≡ None) × (begins_with 62 words ≡ false)
neither [] e = (refl, refl)
neither (b ∷ bs) e = go (is_bullet b) (is_digit b) (b == 62) refl refl refl e
  where
    go : (x y z : Bool) → is_bullet b ≡ x → is_digit b ≡ y → (b == 62) ≡ z → (x || (y || z)) ≡ false → (marker_of (b ∷ bs) ≡ None) × (begins_with 62 (b ∷ bs) ≡ false)
    go true y z bullet digit block_quote q = absurd (true≢false q)
    go false true z bullet digit block_quote q = absurd (true≢false q)
    go false false true bullet digit block_quote q = absurd (true≢false q)
    go false false false bullet digit block_quote q = (unmarked b bs bullet digit, block_quote)

pub no-container : (options : Options) (r : Row) → first_is begins_marker (words_of r) ≡ false → begun_marked options r ≡ None
no-container options r e =
    let nothing = neither (words_of r) e in
    ap (λ m. if nat_le (indent_of r) 3 then container_with (with_task options r (item_with r m)) (nat_le (indent_of r) 3 && begins_with 62 (words_of r)) alert else None) nothing.0
    ∙ ap (λ z. if nat_le (indent_of r) 3 then container_with None (nat_le (indent_of r) 3 && z) alert else None) nothing.1
    ∙ go (nat_le (indent_of r) 3)
  where
    alert : Option BlockQuoteKind
    alert = alert_in options (without (block_quote_width r) r)

    go : (z : Bool) → (if z then container_with None (z && false) alert else None) ≡ None
    go true = refl
    go false = refl

module _ (b : ℕ) (bs : List ℕ) (letter : is_letter_or_pipe b ≡ true) where
  run-none : (k : ℕ) → is_letter_or_pipe k ≡ false → run k (b ∷ bs) ≡ 0
  run-none k n =
      ap length (take_while-cons (λ c. c == k) b bs) ∙ ap (λ z. length (cond z (b ∷ take_while (λ c. c == k) bs) [])) (apart b k letter n)

  break-none : (k : ℕ) → is_letter_or_pipe k ≡ false → is_break_of k (b ∷ bs) ≡ false
  break-none k n =
      ap (λ z. nat_le 3 (count_by (λ c. c == k) (b ∷ bs)) && ((z || is_blank_byte b) && all_pass (λ c. (c == k) || is_blank_byte c) bs)) (apart b k letter n)
      ∙ ap (λ z. nat_le 3 (count_by (λ c. c == k) (b ∷ bs)) && ((z || (b == 9)) && all_pass (λ c. (c == k) || is_blank_byte c) bs)) (apart b 32 letter refl)
      ∙ ap (λ z. nat_le 3 (count_by (λ c. c == k) (b ∷ bs)) && (z && all_pass (λ c. (c == k) || is_blank_byte c) bs)) (apart b 9 letter refl)
      ∙ and-false (nat_le 3 (count_by (λ c. c == k) (b ∷ bs)))

  no-break : is_thematic_break (b ∷ bs) ≡ false
  no-break =
      ap (λ z. z || (is_break_of 45 (b ∷ bs) || is_break_of 95 (b ∷ bs))) (break-none 42 refl)
      ∙ ap (λ z. z || is_break_of 95 (b ∷ bs)) (break-none 45 refl) ∙ break-none 95 refl

  no-heading : is_atx_heading (b ∷ bs) ≡ false
  no-heading = ap (λ n. nat_lt 0 n && (nat_le n 6 && is_parted (drop n (b ∷ bs)))) (run-none 35 refl)

  no-fence : (indented : ℕ) → fence_of indented (b ∷ bs) ≡ None
  no-fence indented =
      ap (λ n. if nat_le 3 n && (count_by (λ c. c == 96) (drop n (b ∷ bs)) == 0) then Some (fence_with indented 96 (b ∷ bs)) else if nat_le 3 (run 126 (b ∷ bs)) then Some (fence_with indented 126 (b ∷ bs)) else None) (run-none 96 refl)
      ∙ ap (λ n. if nat_le 3 n then Some (fence_with indented 126 (b ∷ bs)) else None) (run-none 126 refl)

  no-html : html_kind (b ∷ bs) ≡ None
  no-html = ap (λ z. if z then kind_after bs else None) (apart b 60 letter refl)

  pub no-bullet : is_bullet b ≡ false
  no-bullet = ap (λ z. z || ((b == 43) || (b == 42))) (apart b 45 letter refl) ∙ ap (λ z. z || (b == 42)) (apart b 43 letter refl) ∙ apart b 42 letter refl

  no-marker : marker_of (b ∷ bs) ≡ None
  no-marker = unmarked b bs no-bullet (digit-none b letter)

-- a line that begins with a letter is not blank
no-blank : (cs : List Column) (b : ℕ) (bs : List ℕ) → bytes_of cs ≡ b ∷ bs → is_bare cs ≡ false
no-blank [] b bs e = absurd (let q : [] ≡ b ∷ bs = e in cc)
no-blank (c ∷ cs) b bs e = refl

first-letter : (bs : List ℕ) → first_is is_letter bs ≡ true → (b : ℕ) × ((rest : List ℕ) × (bs ≡ b ∷ rest) × (is_letter b ≡ true))
first-letter [] e = absurd (true≢false (sym e))
first-letter (b ∷ bs) e = (b, (bs, refl, e))

first-plain : (bs : List ℕ) → first_is is_letter_or_pipe bs ≡ true → (b : ℕ) × ((rest : List ℕ) × (bs ≡ b ∷ rest) × (is_letter_or_pipe b ≡ true))
first-plain [] e = absurd (true≢false (sym e))
first-plain (b ∷ bs) e = (b, (bs, refl, e))

letter-no_footnote : (footnotes : Footnotes) (r : Row) (b : ℕ) (bs : List ℕ) → words_of r ≡ b ∷ bs → is_letter_or_pipe b ≡ true → footnote_interrupts footnotes r ≡ false
letter-no_footnote footnotes r b bs is letter =
    ap (λ ws. do_interrupt footnotes && (nat_le (indent_of r) 3 && is_label_found (footnote_in ws))) is
    ∙ ap (λ z. do_interrupt footnotes && (nat_le (indent_of r) 3 && is_label_found (if z then after_caret bs else None))) (apart b 91 letter refl)
    ∙ ap (λ z. do_interrupt footnotes && z) (and-false (nat_le (indent_of r) 3))
    ∙ and-false (do_interrupt footnotes)

-- a line that begins so interrupts no paragraph
pub plain-interrupts-not : (options : Options) (same : Bool) (r : Row) (ahead : List Row) → first_is is_letter_or_pipe (words_of r) ≡ true → interrupts options same r ahead ≡ false
plain-interrupts-not options same r ahead e =
    let first = first-plain (words_of r) e in
    let b : ℕ = first.0 in
    let bs : List ℕ = first.1.0 in
    let is : words_of r ≡ b ∷ bs = first.1.1 in
    let letter : is_letter_or_pipe b ≡ true = first.1.2 in
    ap (λ z. z || (footnote_interrupts (footnotes_in options) r || rest (words_of r))) (no-blank (without_indent r.columns) b bs is)
    ∙ ap (λ z. z || rest (words_of r)) (letter-no_footnote (footnotes_in options) r b bs is letter)
    ∙ ap rest is
    ∙ ap (λ z. nat_le (indent_of r) 3 && ((nat_le (indent_of r) 3 && z) || others (b ∷ bs))) (apart b 62 letter refl)
    ∙ ap (λ z. nat_le (indent_of r) 3 && (z || others (b ∷ bs))) (and-false (nat_le (indent_of r) 3))
    ∙ ap (λ m. nat_le (indent_of r) 3 && (item_interrupts same r (item_with r m) || leaves (b ∷ bs))) (no-marker b bs letter)
    ∙ ap (λ z. nat_le (indent_of r) 3 && (z || (is_atx_heading (b ∷ bs) || (is_some_fence (fence_of (indent_of r) (b ∷ bs)) || html_interrupts (html_kind (b ∷ bs)))))) (no-break b bs letter)
    ∙ ap (λ z. nat_le (indent_of r) 3 && (z || (is_some_fence (fence_of (indent_of r) (b ∷ bs)) || html_interrupts (html_kind (b ∷ bs))))) (no-heading b bs letter)
    ∙ ap (λ f. nat_le (indent_of r) 3 && (is_some_fence f || html_interrupts (html_kind (b ∷ bs)))) (no-fence b bs letter (indent_of r))
    ∙ ap (λ k. nat_le (indent_of r) 3 && html_interrupts k) (no-html b bs letter)
    ∙ and-false (nat_le (indent_of r) 3)
  where
    leaves : List ℕ → Bool
    leaves ws = is_thematic_break ws || (is_atx_heading ws || (is_some_fence (fence_of (indent_of r) ws) || html_interrupts (html_kind ws)))

    others : List ℕ → Bool
    others ws = item_interrupts same r (item_with r (marker_of ws)) || leaves ws

    rest : List ℕ → Bool
    rest ws = nat_le (indent_of r) 3 && ((nat_le (indent_of r) 3 && begins_with 62 ws) || others ws)

pub letter-interrupts-not : (options : Options) (same : Bool) (r : Row) (ahead : List Row) → first_is is_letter (words_of r) ≡ true → interrupts options same r ahead ≡ false
letter-interrupts-not options same r ahead e = plain-interrupts-not options same r ahead (first-or (words_of r) e)

-- no table begins so in the midst of a paragraph
pub letter-table-not : (options : Options) (r : Row) (ahead : List Row) → first_is is_letter (words_of r) ≡ true → table_interrupts options r ahead ≡ false
letter-table-not options r ahead e =
    let first = first-letter (words_of r) e in
    let b : ℕ = first.0 in
    let bs : List ℕ = first.1.0 in
    ap (λ ws. nat_le (indent_of r) 3 && (begins_with_pipe ws && is_some_head (table_head options r ahead))) first.1.1
    ∙ ap (λ z. nat_le (indent_of r) 3 && (z && is_some_head (table_head options r ahead))) (no-pipe b first.1.2)
    ∙ and-false (nat_le (indent_of r) 3)

pub letter-underlines-not : (r : Row) → first_is is_letter (words_of r) ≡ true → underlines r ≡ None
unfolding underlines
letter-underlines-not r e =
    let first = first-letter (words_of r) e in
    let b : ℕ = first.0 in
    let bs : List ℕ = first.1.0 in
    let is : words_of r ≡ b ∷ bs = first.1.1 in
    let letter : is_letter_or_pipe b ≡ true = letter-or b first.1.2 in
    let deep : Bool = r.lazy || nat_le 4 (indent_of r) in
    ap (λ ws. if deep then None else underline_of ws) is
    ∙ ap (λ n. if deep then None else if nat_lt 0 n && are_blank (drop n (b ∷ bs)) then Some 1 else if is_run_of 45 (b ∷ bs) then Some 2 else None) (run-none b bs letter 61 refl)
    ∙ ap (λ n. if deep then None else if nat_lt 0 n && are_blank (drop n (b ∷ bs)) then Some 2 else None) (run-none b bs letter 45 refl) ∙ go deep
  where
    none : Option ℕ
    none = None

    go : (z : Bool) → (if z then none else none) ≡ none
    go true = refl
    go false = refl

pub letter-leaf : (options : Options) (r : Row) (ahead : List Row) → first_is is_letter (words_of r) ≡ true → leaf_of options r ahead ≡ table_if options (table_head options r ahead) ahead
letter-leaf options r ahead e =
    let first = first-letter (words_of r) e in
    let b : ℕ = first.0 in
    let bs : List ℕ = first.1.0 in
    let is : words_of r ≡ b ∷ bs = first.1.1 in
    let letter : is_letter_or_pipe b ≡ true = letter-or b first.1.2 in
    leaf-plain options r ahead (ap html_kind is ∙ no-html b bs letter) (ap is_thematic_break is ∙ no-break b bs letter)
    (sym (ap atx_level is ∙ ap (λ z. if z then Some (run 35 (b ∷ bs)) else None) (no-heading b bs letter)))
    (sym (ap (fence_of (indent_of r)) is ∙ no-fence b bs letter (indent_of r))) (no-bracket options r ahead (ap (begins_with 91) is ∙ apart b 91 letter refl))
