-- Settled cuts: they stay if the text grows, and the document stays joined there.
use Rattle.std.proofs.Common.{◌≡◌, ◌⊎◌, inl, inr, ⊎_elim, ℕ, ◌+◌, ◌≤◌, true, false, List, [], ◌∷◌, ◌++◌, length, take, drop, refl, sym, ap, ◌∙◌, subst, arith, append_assoc, Option, Some, None, true≢false}
use Rattle.std.proofs.lemmas.List.{append_cancel_right, take-append-le, drop-append-le, take-append-drop, length-take-le}
use Rattle.cmark_grammar.specs.Answers.{Lookup}
use Rattle.cmark_grammar.specs.BlockDocument as document
use Rattle.cmark_block_model.specs.DocumentModel.{document as document_in}
use Rattle.cmark_grammar.specs.DefinitionLists.{begins_definition}
use Rattle.cmark_grammar.specs.Lines.{lines}
use Rattle.cmark_grammar.specs.Options.{Options}
use Rattle.cmark_grammar.specs.Places.{Apart}
use Rattle.cmark_grammar.specs.Rows.{Row, row_at, rows, rows_from, shown}
use Rattle.cmark_grammar.specs.Openings.{opens_at}
use Rattle.cmark_grammar.specs.Blocks.{Blocks, Nil, BlankLine, Paragraph, SetextHeading, LeafBlock, ContainerBlock, join}
use Rattle.cmark_grammar.specs.Containers.{BlockQuote, Item, Footnote, ListDefinition}
use Rattle.cmark_grammar.specs.Lists.{definition_delimiter}
use Rattle.cmark_block_model.specs.BlocksModel.{blocks}
use Rattle.cmark_block_model.specs.BlocksByLine.{OpenLines, Between, close_lines, lines_begin, lines_feed_all}
use Rattle.cmark_block_model.specs.Tails.{document_after}
use Rattle.cmark_block_model.proofs.Theorem.{document-whole}
use Rattle.cmark_stream_model.specs.Growth.{ends_whole, is_blank, continues, fed_before, open_after, blocks_at, Parts, IsCut, has_blank_line, are_resolved, last_list, may_continue}
use Rattle.cmark_stream_model.specs.Settled.{BeginsWithLine, IsSettledCut, IsSettledAt, StaysJoinedAt}
use Rattle.cmark_stream_model.specs.Tails.{IsJoinedAt}
use Rattle.cmark_stream_model.proofs.EndsApart.{ends-grow}
use Rattle.cmark_stream_model.proofs.Fronts.{preceding, Steady, all-steady, close-front, parts-begin, apart-front, apart-steady, fed-front, fed-split}
use Rattle.cmark_stream_model.proofs.GrowingLines.{lines-append, rows-grow}
use Rattle.cmark_stream_model.proofs.GrowingTables.{same-apart}
use Rattle.cmark_stream_model.proofs.Leading.{lines-continue}
use Rattle.cmark_stream_model.proofs.TailFacts.{joined-at}
use Rattle.cmark_stream_model.proofs.Walls.{fed-alone}

-- ## The text grows

-- whether bytes end with a whole line ending is decided by the first byte after them
pub whole-first : (front : List ℕ) (next : ℕ) (a b : List ℕ) → ends_whole front (next ∷ a) ≡ ends_whole front (next ∷ b)
whole-first [] next a b = refl
whole-first (x ∷ []) next a b = refl
whole-first (x ∷ (y ∷ bs)) next a b = whole-first (y ∷ bs) next a b

complete-grows : (bytes line more : List ℕ) → BeginsWithLine bytes line → BeginsWithLine (bytes ++ more) line
complete-grows bytes line more h = grind (arith, append_assoc, whole-first)

-- the first row of bytes that begin with a complete line
pub complete-row : (at : ℕ) (bytes line : List ℕ) → (h : BeginsWithLine bytes line) → rows_from at (lines bytes) ≡ row_at at line ∷ rows_from (at + length line) (lines (h.next ∷ h.rest))
complete-row at bytes line h = cc (lines-append line (h.next ∷ h.rest) h.whole)

-- bytes that begin with a line have a byte
apart-grows : (front bytes line more : List ℕ) → BeginsWithLine bytes line → ends_whole front bytes ≡ true → ends_whole front (bytes ++ more) ≡ true
apart-grows front bytes line more h e = go line h.are
  where
    go : (l : List ℕ) → bytes ≡ l ++ (h.next ∷ h.rest) → ends_whole front (bytes ++ more) ≡ true
    go [] are = ap (λ b. ends_whole front (b ++ more)) are ∙ whole-first front h.next (h.rest ++ more) h.rest ∙ ap (ends_whole front) (sym are) ∙ e
    go (b ∷ l) are = ap (λ x. ends_whole front (x ++ more)) are ∙ whole-first front b ((l ++ (h.next ∷ h.rest)) ++ more) (l ++ (h.next ∷ h.rest)) ∙ ap (ends_whole front) (sym are) ∙ e

module _ (options : Options) where
  pub settled-stays : (text more : List ℕ) (at : ℕ) → IsSettledCut options text at → IsSettledCut options (text ++ more) at
  settled-stays text more at h = record {
    line = h.line;
    unmarked = h.unmarked;
    within = omega (arith, h.within, length-append-le text more);
    apart =
        ap (λ f. ends_whole f (drop at (text ++ more))) same
        ∙ ap (ends_whole (take at text)) (drop-append-le at text more h.within)
        ∙ apart-grows (take at text) (drop at text) h.line more h.complete h.apart;
    complete = subst (λ b. BeginsWithLine b h.line) (sym (drop-append-le at text more h.within)) (complete-grows (drop at text) h.line more h.complete);
    settled = λ following. subst (λ f. fed_before options following (Between Nil) (rows f) ≡ open_after options f) (sym same) (h.settled following);
    parts = λ ahead. subst (λ f. Parts options (open_after options f) (row_at at h.line) ahead) (sym same) (h.parts ahead);
    begins = h.begins;
    ends_list = λ ahead. ap (λ f. may_continue options.definition_list (last_list None (blocks_at options 0 f)) (opens_at options Apart (row_at at h.line) ahead)) same ∙ h.ends_list ahead;
  }
    where
      same : take at (text ++ more) ≡ take at text
      same = take-append-le at text more h.within

      length-append-le : (a b : List ℕ) → length a ≤ length (a ++ b)
      length-append-le [] b = omega arith
      length-append-le (x ∷ a) b = let e = length-append-le a b in omega (arith, e)

  pub settled-stays-at : (text more : List ℕ) (at : ℕ) → IsSettledAt options text at → IsSettledAt options (text ++ more) at
  settled-stays-at text more at h = ⊎_elim (λ z. inl z) (λ s. inr (settled-stays text more at s)) h

  -- it is a cut before any lines
  pub settled-cut : {text : List ℕ} {at : ℕ} → (h : IsSettledCut options text at) (rs : List Row) → IsCut options (take at text) (row_at at h.line) rs
  settled-cut {text} {at} h rs = record {
    settled = h.settled (row_at at h.line ∷ rs);
    parts = h.parts (shown rs);
    same = same-apart options (close_lines (open_after options (take at text))) (row_at at h.line) (shown rs) h.unmarked;
    begins = h.begins (shown rs);
  }

  -- ## The document is joined there

  settled-joined : (text : List ℕ) (at : ℕ) (lookup : Lookup) → IsSettledCut options text at → IsJoinedAt options lookup text at
  settled-joined text at lookup h =
      subst (λ t. IsJoinedAt options lookup t at) (take-append-drop at text)
      (subst (λ n. IsJoinedAt options lookup (front ++ tail) n) size
      (joined-at options lookup front tail (ends-grow options lookup front tail r rs h.apart first cut ends)))
    where
      front : List ℕ
      front = take at text

      tail : List ℕ
      tail = drop at text

      size : length (take at text) ≡ at
      size = length-take-le at text h.within

      r : Row
      r = row_at at h.line

      rs : List Row
      rs = rows_from (at + length h.line) (lines (h.complete.next ∷ h.complete.rest))

      first : rows_from (length (take at text)) (lines (drop at text)) ≡ row_at at h.line ∷ rows_from (at + length h.line) (lines (h.complete.next ∷ h.complete.rest))
      first = ap (λ n. rows_from n (lines (drop at text))) size ∙ complete-row at (drop at text) h.line h.complete

      cut : IsCut options (take at text) (row_at at h.line) (rows_from (at + length h.line) (lines (h.complete.next ∷ h.complete.rest)))
      cut = settled-cut h rs

      ends : continues (last_list None (blocks_at options 0 (take at text))) (blocks_at options (length (take at text)) (drop at text)) ≡ false
      ends = grind (arith, front, first, lines-continue, r, rs)

  -- the beginning of a text
  empty-document : (lookup : Lookup) → document_in [] options lookup ≡ document.Nil
  unfolding blocks
  empty-document lookup = refl

  start-joined : (text : List ℕ) (lookup : Lookup) → IsJoinedAt options lookup text 0
  start-joined text lookup = sym (document-whole text options lookup) ∙ ap (λ d. document.join d (document_after text options lookup 0)) (sym (empty-document lookup))

  pub stays-joined : (text : List ℕ) (at : ℕ) → IsSettledAt options text at → StaysJoinedAt options text at
  stays-joined text at h lookup more = grind (arith, start-joined, settled-joined, settled-stays)

  -- ## A further cut after a settled one

  blank-append : (a b : List Row) → has_blank_line a ≡ true → has_blank_line (a ++ b) ≡ true
  blank-append [] b e = absurd (true≢false (sym e))
  blank-append (r ∷ a) b e = grind (arith, blank-append a b)

  -- lines that are resolved stay so before others
  pub resolved-append : (a b : List Row) → are_resolved a ≡ true → are_resolved b ≡ true → are_resolved (a ++ b) ≡ true
  resolved-append [] b e f = f
  resolved-append (r ∷ a) b e f = grind (arith, blank-append, resolved-append a b)

  pub last-join : (list : Option ℕ) (a b : Blocks) → last_list list (join a b) ≡ last_list (last_list list a) b
  last-join list Nil b = refl
  last-join list (BlankLine line after) b = last-join list after b
  last-join list (Paragraph first more after) b = last-join None after b
  last-join list (SetextHeading level first more underline after) b = last-join None after b
  last-join list (LeafBlock leaf first more after) b = last-join None after b
  last-join list (ContainerBlock (BlockQuote alert) first more inside after) b = last-join None after b
  last-join list (ContainerBlock (Footnote label old size) first more inside after) b = last-join None after b
  last-join list (ContainerBlock (Item delimiter number width task) first more inside after) b = last-join (Some delimiter) after b
  last-join list (ContainerBlock (ListDefinition width) first more inside after) b = last-join (Some definition_delimiter) after b

  parts-front : (b : Blocks) (o : OpenLines) (r : Row) (ahead : List Row) → Parts options o r ahead → Parts options (preceding b o) r ahead
  parts-front b o r ahead h = grind arith

  -- the list that may continue after the bytes before an offset
  abbrev pub list_before : (text : List ℕ) → (from : ℕ) → Option ℕ
  list_before text from = last_list None (close_lines (open_after options (take from text)))

  -- what the search for a further cut has found at an offset, after these rows
  pub record Found (text : List ℕ) (from at : ℕ) (done : List Row) (line : List ℕ) : Type 0 where
    pub unmarked : begins_definition options (row_at at line) ≡ false
    pub within : at ≤ length text
    pub split : rows_from from (lines (drop from text)) ≡ done ++ rows_from at (lines (drop at text))
    pub apart : ends_whole (take at text) (drop at text) ≡ true
    pub complete : BeginsWithLine (drop at text) line
    pub settled : (following : List Row) → fed_before options following (Between Nil) done ≡ lines_feed_all options (Between Nil) done
    pub parts : (ahead : List Row) → Parts options (lines_feed_all options (Between Nil) done) (row_at at line) ahead
    pub begins : (ahead : List Row) → is_blank (opens_at options Apart (row_at at line) ahead) ≡ false
    pub ends_list : (ahead : List Row) → may_continue options.definition_list (last_list (list_before text from) (close_lines (lines_feed_all options (Between Nil) done))) (opens_at options Apart (row_at at line) ahead) ≡ false

  module _ (text : List ℕ) (from at : ℕ) (done : List Row) (line : List ℕ) (f : Found text from at done line) where
    abbrev o : OpenLines
    o = lines_feed_all options (Between Nil) done

    -- the rows of the bytes before the cut are those before the earlier offset and those after it
    rows-done : from ≤ length text → ends_whole (take from text) (drop from text) ≡ true → rows (take at text) ≡ rows (take from text) ++ done
    rows-done le whole = grind (arith, append_cancel_right, rest, grown, append_assoc)
      where
        rest : List Row
        rest = rows_from at (lines (drop at text))

        grown : (n : ℕ) → n ≤ length text → ends_whole (take n text) (drop n text) ≡ true → rows text ≡ rows (take n text) ++ rows_from n (lines (drop n text))
        grown n le e =
            ap rows (sym (take-append-drop n text)) ∙ rows-grow (take n text) (drop n text) e ∙ ap (λ m. rows (take n text) ++ rows_from m (lines (drop n text))) (length-take-le n text le)

    settled-with : (b : Blocks) → ((following : List Row) → fed_before options following (Between Nil) (rows (take at text)) ≡ open_after options (take at text)) → open_after options (take at text) ≡ preceding b o → last_list None (close_lines (preceding b o)) ≡ last_list (list_before text from) (close_lines o) → IsSettledCut options text at
    settled-with b settled opened listed = grind (arith, parts-front)

    -- after the beginning of the text
    from-start : from ≡ 0 → IsSettledCut options text at
    from-start z = grind (arith, settled-with, preceding, rows-done)

    -- after a settled cut
    from-settled : IsSettledCut options text from → IsSettledCut options text at
    from-settled h = go done refl
      where
        r : Row
        r = row_at from h.line

        b : Blocks
        b = close_lines (open_after options (take from text))

        are : rows (take at text) ≡ rows (take from text) ++ done
        are = rows-done h.within h.apart

        go : (rs : List Row) → done ≡ rs → IsSettledCut options text at
        go [] e = subst (IsSettledCut options text) same h
          where
            same : from ≡ at
            same = ap (λ rs. first_at rs) (sym (complete-row from (drop from text) h.line h.complete) ∙ f.split ∙ ap (λ l. l ++ rows_from at (lines (drop at text))) e ∙ complete-row at (drop at text) line f.complete)
              where
                first_at : List Row → ℕ
                first_at [] = 0
                first_at (x ∷ xs) = x.at
        go (r0 ∷ rs) e = settled-with b (λ following. fed following ∙ sym opened) opened listed
          where
            same : r0 ≡ row_at from h.line
            same = ap (λ l. first_of l) (sym (ap (λ l. l ++ rows_from at (lines (drop at text))) e) ∙ sym f.split ∙ complete-row from (drop from text) h.line h.complete)
              where
                first_of : List Row → Row
                first_of [] = r
                first_of (x ∷ xs) = x

            begun : OpenLines
            begun = lines_begin options Nil r (shown rs)

            steady : Steady b (lines_begin options Nil r (shown rs))
            steady = apart-steady options b r (shown rs) (h.begins (shown rs))

            did : done ≡ r ∷ rs
            did = e ∙ ap (λ x. x ∷ rs) same

            is : o ≡ lines_feed_all options (lines_begin options Nil r (shown rs)) rs
            is = ap (lines_feed_all options (Between Nil)) did

            -- whatever follows, the lines up to the further cut have the same effect
            fed : (following : List Row) → fed_before options following (Between Nil) (rows (take at text)) ≡ preceding b o
            fed following =
                ap (fed_before options following (Between Nil)) are
                ∙ fed-split options following (Between Nil) (rows (take from text)) done
                ∙ ap (λ x. fed_before options following x done) (h.settled (done ++ following))
                ∙ ap (fed_before options following (open_after options (take from text))) did
                ∙ ap (λ x. fed_before options following x rs) (parts-begin options (open_after options (take from text)) r ahead (h.parts ahead) ∙ apart-front options b r ahead (same-apart options b r ahead h.unmarked))
                ∙ fed-front options b following (lines_begin options Nil r ahead) rs (apart-steady options b r ahead (h.begins ahead))
                ∙ ap (λ l. preceding b (fed_before options following (Between Nil) l)) (sym did)
                ∙ ap (preceding b) (f.settled following)
              where
                ahead : List Row
                ahead = shown (rs ++ following)

            opened : open_after options (take at text) ≡ preceding b o
            opened = sym (fed-alone options (Between Nil) (rows (take at text))) ∙ fed []

            listed : last_list None (close_lines (preceding b o)) ≡ last_list (list_before text from) (close_lines o)
            listed = ap (last_list None) (close-front options b o (subst (Steady b) (sym is) (all-steady options b begun rs steady))) ∙ last-join None b (close_lines o)

    pub further : IsSettledAt options text from → IsSettledAt options text at
    further h = ⊎_elim (λ z. inr (from-start z)) (λ s. inr (from-settled s)) h
