-- The bytes up to a line after a settled cut are joined at that cut, even if no byte follows the line at the cut in them.
use Rattle.std.proofs.Common.{◌≡◌, inl, ℕ, ◌+◌, ◌<◌, ◌≤◌, true, false, List, [], ◌∷◌, ◌++◌, length, take, drop, refl, sym, ap, ◌∙◌, subst, arith, append-nil, append_assoc, None}
use Rattle.std.proofs.lemmas.List.{length-take-le, take-append-drop, take-take, length-drop}
use Rattle.std.proofs.Math.Seq.{drop-append_seam}
use Rattle.std.specs.Prelude.{◌-◌}
use Rattle.cmark_grammar.specs.Answers.{Lookup}
use Rattle.cmark_grammar.specs.Lines.{lines}
use Rattle.cmark_grammar.specs.Options.{Options}
use Rattle.cmark_grammar.specs.Rows.{Row, row_at, rows_from}
use Rattle.cmark_block_model.proofs.BoundaryLaws.{joined, lines-ended}
use Rattle.cmark_stream_model.specs.Growth.{ends_whole, IsCut, blocks_at, continues, last_list}
use Rattle.cmark_stream_model.specs.Settled.{IsSettledCut, IsSettledAt}
use Rattle.cmark_stream_model.specs.Tails.{IsJoinedAt}
use Rattle.cmark_stream_model.proofs.EndsApart.{ends-grow}
use Rattle.cmark_stream_model.proofs.GrowingLines.{lines-append}
use Rattle.cmark_stream_model.proofs.Leading.{lines-continue}
use Rattle.cmark_stream_model.proofs.SettledCuts.{complete-row, settled-cut, stays-joined, whole-first}
use Rattle.cmark_stream_model.proofs.TailFacts.{joined-at}
use Rattle.cmark_stream_model.proofs.WholeLines.{whole-longer}

abbrev row-of : Row → List Row → Row
row-of r [] = r
row-of r (x ∷ xs) = x

module _ (options : Options) (lookup : Lookup) (text : List ℕ) (from : ℕ) (h : IsSettledCut options text from) where
  abbrev front : List ℕ
  front = take from text

  abbrev r : Row
  r = row_at from h.line

  size : length (take from text) ≡ from
  size = length-take-le from text h.within

  -- bytes after the cut whose first line is that of the text
  joined-before : (middle : List ℕ) (rs : List Row) → ends_whole front middle ≡ true → rows_from from (lines middle) ≡ r ∷ rs → IsJoinedAt options lookup (front ++ middle) from
  joined-before middle rs apart first = subst (IsJoinedAt options lookup (front ++ middle)) size (joined-at options lookup front middle (ends-grow options lookup front middle r rs apart are cut ends))
    where
      are : rows_from (length front) (lines middle) ≡ r ∷ rs
      are = ap (λ n. rows_from n (lines middle)) size ∙ first

      cut : IsCut options front r rs
      cut = settled-cut options h rs

      ends : continues (last_list None (blocks_at options 0 front)) (blocks_at options (length front) middle) ≡ false
      ends = grind (arith, are, lines-continue)

  module _ (to : ℕ) (less : from < to) (within : to ≤ length text) (whole : ends_whole (take to text) (drop to text) ≡ true) where
    abbrev middle : List ℕ
    middle = drop from (take to text)

    abbrev end : List ℕ
    end = drop to text

    halves : take to text ≡ front ++ middle
    halves = sym (take-append-drop from (take to text)) ∙ ap (λ l. l ++ middle) (take-take from to text (omega (arith, less)))

    following : drop from text ≡ middle ++ end
    following =
        ap (drop from) (sym (take-append-drop to text) ∙ ap (λ l. l ++ end) halves ∙ append_assoc front middle end)
        ∙ ap (λ n. drop n (front ++ (middle ++ end))) (sym size)
        ∙ drop-append_seam front (middle ++ end)

    some : 0 < length middle
    some = grind (arith, length-take-le, length-drop)

    apart : (b : ℕ) (bs : List ℕ) → middle ≡ b ∷ bs → ends_whole front middle ≡ true
    apart b bs are = grind (arith, whole-first, following)

    ends : (b : ℕ) (bs : List ℕ) → middle ≡ b ∷ bs → ends_whole middle end ≡ true
    ends b bs are =
        ap (λ l. ends_whole l end) are ∙ sym (whole-longer front b bs end) ∙ ap (λ l. ends_whole (front ++ l) end) (sym are) ∙ ap (λ l. ends_whole l end) (sym halves) ∙ whole

    first : (b : ℕ) (bs : List ℕ) → middle ≡ b ∷ bs → (rs : List Row) × (rows_from from (lines middle) ≡ r ∷ rs)
    first b bs are = go (lines middle) refl
      where
        all : rows_from from (lines middle ++ lines end) ≡ r ∷ rows_from (from + length h.line) (lines (h.complete.next ∷ h.complete.rest))
        all = ap (rows_from from) (sym (lines-append middle end (ends b bs are)) ∙ ap lines (sym following)) ∙ complete-row from (drop from text) h.line h.complete

        go : (ls : List (List ℕ)) → lines middle ≡ ls → (rs : List Row) × (rows_from from (lines middle) ≡ r ∷ rs)
        go [] e = absurd (let n : 0 ≡ length middle = ap (λ l. length (joined l)) (sym e) ∙ ap length (lines-ended middle).1 in omega (arith, n, some))
        go (l ∷ ls) e = (
          rows_from (from + length l) ls,
          ap (rows_from from) e ∙ ap (λ x. x ∷ rows_from (from + length l) ls) (ap (row-of r) (sym (ap (λ k. rows_from from (k ++ lines end)) e) ∙ all)),
        )

    -- the bytes up to a later line
    pub cut-joined : IsJoinedAt options lookup (take to text) from
    cut-joined = go middle refl
      where
        go : (m : List ℕ) → middle ≡ m → IsJoinedAt options lookup (take to text) from
        go [] e = absurd (let n = ap length e in omega (arith, n, some))
        go (b ∷ bs) e = grind (arith, first, halves, joined-before, apart)

-- the bytes before one of two settled cuts are joined at the other, which is before it
pub front-joined : (options : Options) (lookup : Lookup) (text : List ℕ) (from to : ℕ) → from < to → IsSettledAt options text from → IsSettledAt options text to → IsJoinedAt options lookup (take to text) from
front-joined options lookup text from to less begun ended = grind (arith, at-start, cut-joined)
  where
    at-start : from ≡ 0 → IsJoinedAt options lookup (take to text) from
    at-start z =
        subst (λ t. IsJoinedAt options lookup t from) (append-nil (take to text))
        (stays-joined options (take to text) from (inl z) lookup [])
