-- The search for the last cut: what is known between two lines.
use Rattle.std.proofs.Common.{◌≡◌, ◌⊎◌, ⊎_elim, ℕ, zero, suc, ◌+◌, ◌≤◌, ◌<◌, ◌==◌, Bool, true, false, not, ◌&&◌, ◌||◌, if◌then◌else◌, List, [], ◌∷◌, ◌++◌, take, drop, length, Option, None, refl, sym, ap, subst, ◌∙◌, arith, append_assoc, length-append, true≢false}
use Rattle.std.specs.List.{list_all}
use Rattle.std.specs.Prelude.{nat_le, nat_lt, IsCharBoundary}
use Rattle.std.proofs.lemmas.Bool.{ltb-true}
use Rattle.std.proofs.lemmas.List.{take-append-drop, length-take-le}
use Rattle.std.proofs.Math.Seq.{take-append_seam, drop-append_seam}
use Rattle.cmark_grammar.specs.Characters.{tab}
use Rattle.cmark_grammar.specs.Answers.{Lookup}
use Rattle.cmark_grammar.specs.Columns.{Column, tab_columns, to_tab_stop, expand, bytes_of}
use Rattle.cmark_grammar.specs.DefinitionLists.{begins_definition}
use Rattle.cmark_grammar.specs.Lines.{lines, content}
use Rattle.cmark_grammar.specs.Openings.{opens_at}
use Rattle.cmark_grammar.specs.Options.{Options}
use Rattle.cmark_grammar.specs.Places.{Apart}
use Rattle.cmark_grammar.specs.Rows.{Row, row_at, rows_from, show_as, shown, is_blank_line, indent_of, words_of}
use Rattle.cmark_grammar.specs.TableRows.{begins_with_pipe, table_head, is_some_head, table_interrupts}
use Rattle.cmark_grammar.specs.Blocks.{Nil}
use Rattle.cmark_block_model.specs.BlocksByLine.{OpenLines, Between, close_lines, lines_begin, lines_feed, lines_feed_all}
use Rattle.cmark_block_model.proofs.BlocksSound.{AreWhole}
use Rattle.cmark_scan_lines.proofs.ColumnSteps.{bytes_of-expand}
use Rattle.cmark_block_model.specs.BlockPass.{line_fed}
use Rattle.cmark_block_model.specs.OpenBlocks as model
use Rattle.cmark_block_model.specs.Tails.{starting_at}
use Rattle.cmark_block_model.proofs.DefinitionDelimiters.{OpenUnmarked, feed-unmarked}
use Rattle.cmark_block_model.proofs.Mirror.{Fits, pass_at}
use Rattle.cmark_block_model.proofs.Replay.{Noted}
use Rattle.cmark_block_model.proofs.Theorem.{bottom_after}
use Rattle.cmark_blocks.proofs.LineFacts.{one-fed, next-fits, shown-whole, whole-rows}
use Rattle.cmark_stream_model.specs.Growth.{ends_whole, fed_before, open_after, Parts, looks_ahead, are_blind, are_resolved, is_outside_of_lists, is_blank, last_list, may_continue}
use Rattle.cmark_stream_model.specs.Settled.{IsSettledCut, IsSettledAt}
use Rattle.cmark_stream_model.specs.Undecided.{Undecided, Nothing, is_nothing, undecided_after}
use Rattle.cmark_stream_model.proofs.FirstLines.{not-blank, outside-begins, blank-begins, parts-any, resolved-blind, resolved-blank}
use Rattle.cmark_stream_model.proofs.Fronts.{Steady, feed-steady, parts-begin}
use Rattle.cmark_stream_model.proofs.MetadataLines.{AreLines, are-lines, lines-front}
use Rattle.cmark_stream_model.proofs.UndecidedLines.{Leaves, leaves-none, leaves-nothing, leaves-next}
use Rattle.cmark_stream_model.proofs.SettledCuts.{Found, list_before, further}
use Rattle.cmark_stream_model.proofs.Walls.{fed-settled}
use Rattle.cmark_stream_model.proofs.WholeLines.{Parted, first-parted, first-complete, whole-longer}
use Rattle.cmark_blocks.specs.Ahead.{lines_at}
use Rattle.cmark_line_rules.specs.Rests.{row_of}
use Rattle.cmark_line_rules.specs.declared.line_rest.LineRest.{LineRest}
use Rattle.cmark_values.specs.Shown.{shown_options}
use Rattle.cmark_blocks.specs.LineByLine.{Feeds}
use Rattle.cmark_blocks.specs.Cuts.{ends_all, Tells, StartsAt}
use Rattle.cmark_blocks.specs.Runs.{Runs}
use Rattle.cmark_blocks.specs.declared.state.Pass.{Pass}
use Rattle.cmark_blocks.proofs.CutSteps.{both-true, not-true, ends-parts, parts-ends, stays-list}

-- ## Bytes and columns that look at no later line

blind-append : (a b : List Column) → are_blind a ≡ true → are_blind b ≡ true → are_blind (a ++ b) ≡ true
blind-append [] b e f = f
blind-append (c ∷ a) b e f =
    let h = both-true (not (looks_ahead c.byte)) (are_blind a) e in
    ap (λ z. z && are_blind (a ++ b)) h.0 ∙ blind-append a b h.1 f

blind-tab : (at part n : ℕ) → are_blind (tab_columns at part n) ≡ true
blind-tab at part zero = refl
blind-tab at part (suc n) = blind-tab at (suc part) n

blind-expand : (column at : ℕ) (bs : List ℕ) → list_all (λ b. not (looks_ahead b)) bs ≡ true → are_blind (expand column at bs) ≡ true
blind-expand column at [] e = refl
blind-expand column at (b ∷ bs) e =
    let h = both-true (not (looks_ahead b)) (list_all (λ b. not (looks_ahead b)) bs) e in
    go (b == tab) h.0 (blind-expand (column + to_tab_stop column) (suc at) bs h.1) (blind-expand (suc column) (suc at) bs h.1)
  where
    go : (z : Bool) → not (looks_ahead b) ≡ true → are_blind (expand (column + to_tab_stop column) (suc at) bs) ≡ true → are_blind (expand (suc column) (suc at) bs) ≡ true
        → are_blind (if z then tab_columns at 0 (to_tab_stop column) ++ expand (column + to_tab_stop column) (suc at) bs else record { byte = b; at = at; part = 0 } ∷ expand (suc column) (suc at) bs) ≡ true
    go true q wide one = blind-append (tab_columns at 0 (to_tab_stop column)) (expand (column + to_tab_stop column) (suc at) bs) (blind-tab at 0 (to_tab_stop column)) wide
    go false q wide one = ap (λ z. z && are_blind (expand (suc column) (suc at) bs)) q ∙ one

blind-row : (at : ℕ) (line : List ℕ) (r : Row) → r ≡ row_at at line → list_all (λ b. not (looks_ahead b)) (bytes_of r.columns) ≡ true → are_blind r.columns ≡ true
blind-row at line r is e =
    ap (λ (x : Row). are_blind x.columns) is
    ∙ blind-expand 0 at (content line) (ap (list_all (λ b. not (looks_ahead b))) (sym (ap (λ (x : Row). bytes_of x.columns) is ∙ bytes_of-expand 0 at (content line))) ∙ e)

-- ## Further lines

and-off : (a : Bool) → (a && false) ≡ false
and-off true = refl
and-off false = refl

module _ (options : Options) where
  fed-snoc : (following : List Row) (o : OpenLines) (done : List Row) (r : Row) → fed_before options following o (done ++ r ∷ []) ≡ lines_feed options (fed_before options (r ∷ following) o done) r (shown following)
  fed-snoc following o [] r = refl
  fed-snoc following o (x ∷ done) r =
      ap (λ l. fed_before options following (lines_feed options o x (shown l)) (done ++ r ∷ [])) (append_assoc done (r ∷ []) following)
      ∙ fed-snoc following (lines_feed options o x (shown (done ++ r ∷ following))) done r

  -- a line that begins with no pipe is no table's head that interrupts a paragraph
  no-table : (r : Row) → (nat_le (indent_of r) 3 && begins_with_pipe (words_of r)) ≡ false → (ahead : List Row) → table_interrupts options r ahead ≡ false
  no-table r e ahead = go (nat_le (indent_of r) 3) (begins_with_pipe (words_of r)) e
    where
      go : (a b : Bool) → (a && b) ≡ false → (a && (b && is_some_head (table_head options r ahead))) ≡ false
      go true true q = absurd (true≢false q)
      go true false q = refl
      go false b q = refl

module _ (text : List ℕ) (options : Options) (lookup : Lookup) (from : ℕ) (begun : IsSettledAt options text from) where
  abbrev none_noted : Noted
  none_noted = record { references = []; footnotes = [] }

  -- What is known between two lines, the next of which begins at an offset:
  --
  -- - done: the lines from the earlier cut on; o: what is open after them, if nothing was open before them;
  -- - resolved, listed, leaves: what the search keeps;
  -- - settled: the last cut so far
  pub record Searched (n : ℕ) (m : model.Pass) (cut : ℕ) (is_resolved after_item : Bool) (left : Undecided) : Type 0 where
    pub done : List Row
    pub o : OpenLines
    pub is : o ≡ fed_before options (lines_at text n) (Between Nil) done
    pub low : from ≤ n
    pub high : n ≤ length text
    pub split : lines_at text from ≡ done ++ lines_at text n
    pub apart : n < length text → ends_whole (take n text) (drop n text) ≡ true
    pub mirrors : m ≡ pass_at text options lookup o (shown (lines_at text n)) (bottom_after none_noted) [] false n
    pub steady : Steady Nil o
    pub unmarked : OpenUnmarked o
    pub fits : Fits options false o (shown (lines_at text n)) n
    pub resolved : is_resolved ≡ true → are_resolved done ≡ true
    pub leaves : Leaves options (lines_at text n) (Between Nil) done left
    pub listed : after_item ≡ false → last_list (list_before options text from) (close_lines o) ≡ None
    pub settled : IsSettledAt options text cut
    pub order : from ≤ cut
    pub boundary : IsCharBoundary text cut

  pub search-start : IsCharBoundary text from → (after_item : Bool) → (after_item ≡ false → from ≡ 0) → Searched from (starting_at from [] []) from true after_item Nothing
  search-start boundary after_item first = record {
    done = [];
    o = Between Nil;
    is = refl;
    low = omega arith;
    high = ⊎_elim (λ z. omega (arith, z)) (λ (s : IsSettledCut options text from). s.within) begun;
    split = refl;
    apart = λ lt. ⊎_elim (λ z. ap (λ n. ends_whole (take n text) (drop n text)) z) (λ (s : IsSettledCut options text from). s.apart) begun;
    mirrors = refl;
    steady = refl;
    unmarked = tt;
    fits = tt;
    resolved = λ e. refl;
    leaves = leaves-none options (lines_at text from) (Between Nil) Nothing;
    listed = λ e. ap (λ n. last_list None (close_lines (open_after options (take n text)))) (first e);
    settled = begun;
    order = omega arith;
    boundary = boundary;
  }

  nothing-left : (following : List Row) (o : OpenLines) (done : List Row) (left : Undecided) → is_nothing left ≡ true → Leaves options following o done left → Leaves options following o done Nothing
  nothing-left following o done Nothing e h = h
  nothing-left following o done _ e h = absurd (true≢false (sym e))

  module _ (n : ℕ) (m : model.Pass) (cut : ℕ) (is_resolved after_item : Bool) (left : Undecided) (s : Searched n m cut is_resolved after_item left) (lt : n < length text) (boundary : IsCharBoundary text n)
      (r : Row) (line : List ℕ) (others : List (List ℕ)) (lines_are : lines (drop n text) ≡ line ∷ others) (r_is : r ≡ row_at n line) (next : lines_at text n ≡ r ∷ lines_at text r.line_end)
      (begins outside apart marked decided blank blind : Bool)
      (begins_is : begins ≡ (not (is_blank_line r) && ends_all text options lookup m r (lines_at text r.line_end)))
      (outside_is : outside ≡ true → (ahead : List Row) → is_outside_of_lists (opens_at options Apart r ahead) ≡ true)
      (unmarked_is : outside ≡ true → begins_definition options r ≡ false)
      (apart_is : apart ≡ true → (list : Option ℕ) (ahead : List Row) → may_continue options.definition_list list (opens_at options Apart r ahead) ≡ false)
      (marked_is : marked ≡ begins_definition options r)
      (decided_is : decided ≡ (not (nat_le (indent_of r) 3 && begins_with_pipe (words_of r)) && nat_lt r.line_end (length text)))
      (blank_is : blank ≡ is_blank_line r) (blind_is : blind ≡ list_all (λ b. not (looks_ahead b)) (bytes_of r.columns)) where
    abbrev rest : List Row
    rest = lines_at text r.line_end

    whole : r.lazy ≡ false
    whole = ap (λ (x : Row). x.lazy) r_is

    are-whole : AreWhole options (r ∷ rest)
    are-whole = subst (AreWhole options) next (whole-rows options n (lines (drop n text)))

    all-shown : shown rest ≡ rest
    all-shown = shown-whole text options lookup rest are-whole.1

    fits : Fits options false s.o (shown (r ∷ rest)) n
    fits = subst (λ l. Fits options false s.o (shown l) n) next s.fits

    at : m ≡ pass_at text options lookup s.o (shown (r ∷ rest)) (bottom_after none_noted) [] false n
    at = s.mirrors ∙ ap (λ l. pass_at text options lookup s.o (shown l) (bottom_after none_noted) [] false n) next

    -- the same, with the next line first
    first-shown : shown (r ∷ rest) ≡ r ∷ shown rest
    first-shown = ap (λ z. show_as z r (shown rest)) whole

    fits-first : Fits options false s.o (r ∷ shown rest) n
    fits-first = subst (λ l. Fits options false s.o l n) first-shown fits

    at-first : m ≡ pass_at text options lookup s.o (r ∷ shown rest) (bottom_after none_noted) [] false n
    at-first = at ∙ ap (λ l. pass_at text options lookup s.o l (bottom_after none_noted) [] false n) first-shown

    abbrev ends : Bool
    ends = ends_all text options lookup m r rest

    -- the line continues no open block, if the pass says so
    parted : ends ≡ true → Parts options s.o r rest
    parted e = ends-parts text options lookup s.o (shown rest) (bottom_after none_noted) n r rest s.steady fits-first whole (ap (λ p. ends_all text options lookup p r rest) (sym at-first) ∙ e)

    begins-anew : ends ≡ true → lines_feed options s.o r (shown rest) ≡ lines_begin options (close_lines s.o) r (shown rest)
    begins-anew e = parts-begin options s.o r (shown rest) (subst (Parts options s.o r) (sym all-shown) (parted e))

    abbrev list : Option ℕ
    list = list_before options text from

    abbrev open_now : OpenLines
    open_now = lines_feed options s.o r (shown (lines_at text r.line_end))

    listed : (if begins then not outside else after_item) ≡ false → last_list (list_before options text from) (close_lines (lines_feed options s.o r (shown (lines_at text r.line_end)))) ≡ None
    listed = go ends (is_blank_line r) refl refl begins begins_is
      where
        go : (z b : Bool) → ends ≡ z → is_blank_line r ≡ b → (w : Bool) → w ≡ (not (is_blank_line r) && ends) → (if w then not outside else after_item) ≡ false
            → last_list (list_before options text from) (close_lines (lines_feed options s.o r (shown (lines_at text r.line_end)))) ≡ None
        go true false e q true w l =
            ap (λ o. last_list list (close_lines o)) (begins-anew e)
            ∙ outside-begins options list (close_lines s.o) r (shown rest) (unmarked_is (un-not outside l)) (outside_is (un-not outside l) (shown rest))
          where
            un-not : (x : Bool) → not x ≡ false → x ≡ true
            un-not true h = refl
            un-not false h = absurd (true≢false h)
        go true false e q false w l = absurd (true≢false (sym (w ∙ ap (λ b. not b && ends) q ∙ e)))
        go true true e q true w l = absurd (true≢false (w ∙ ap (λ b. not b && ends) q))
        go true true e q false w l =
            ap (λ o. last_list list (close_lines o)) (begins-anew e) ∙ blank-begins options list (close_lines s.o) r (shown rest) whole q ∙ s.listed l
        go false b e q true w l = absurd (true≢false (w ∙ ap (λ z. not (is_blank_line r) && z) e ∙ and-off (not (is_blank_line r))))
        go false b e q false w l =
            ap (λ a. last_list list (close_lines (lines_feed options s.o r a))) all-shown
            ∙ stays-list text options lookup list s.o (shown rest) (bottom_after none_noted) n r rest s.steady fits-first whole (ap (λ p. ends_all text options lookup p r rest) (sym at-first) ∙ e)
            ∙ s.listed l

    -- a line that continues no open block and is not blank begins a block
    began : Parts options (fed_before options (r ∷ rest) (Between Nil) s.done) r (shown rest) → is_blank_line r ≡ false → begins ≡ true
    began parts q =
        begins_is
        ∙ ap (λ b. not b && ends) q
        ∙ ap (λ p. ends_all text options lookup p r rest) at-first
        ∙ parts-ends text options lookup s.o (shown rest) (bottom_after none_noted) n r rest fits-first whole
        (subst (Parts options s.o r) all-shown (subst (λ o. Parts options o r (shown rest)) (sym (s.is ∙ ap (λ l. fed_before options l (Between Nil) s.done) next)) parts))

    resolved : (blind && (blank || is_resolved)) ≡ true → are_resolved (s.done ++ r ∷ []) ≡ true
    resolved e = go (is_blank_line r) refl is_resolved (λ q. s.resolved q) (sym (ap (λ b. b || is_resolved) blank_is) ∙ h.1)
      where
        h : (blind ≡ true) × ((blank || is_resolved) ≡ true)
        h = both-true blind (blank || is_resolved) e

        sees-none : are_blind r.columns ≡ true
        sees-none = blind-row n line r r_is (sym blind_is ∙ h.0)

        go : (b : Bool) → is_blank_line r ≡ b → (k : Bool) → (k ≡ true → are_resolved s.done ≡ true) → (b || k) ≡ true → are_resolved (s.done ++ r ∷ []) ≡ true
        go true q k earlier t = resolved-blank options s.done r q sees-none
        go false q k earlier t = resolved-blind options s.done r (earlier t) sees-none

    -- the line is a cut
    is-cut : (begins && ((is_resolved && is_nothing left) && (decided && (not marked && (apart || not after_item))))) ≡ true → IsSettledAt options text n
    is-cut e = further options text from n s.done line found begun
      where
        one : (begins ≡ true) × (((is_resolved && is_nothing left) && (decided && (not marked && (apart || not after_item)))) ≡ true)
        one = both-true begins ((is_resolved && is_nothing left) && (decided && (not marked && (apart || not after_item)))) e

        two : ((is_resolved && is_nothing left) ≡ true) × ((decided && (not marked && (apart || not after_item))) ≡ true)
        two = both-true (is_resolved && is_nothing left) (decided && (not marked && (apart || not after_item))) one.1

        settled : (is_resolved ≡ true) × (is_nothing left ≡ true)
        settled = both-true is_resolved (is_nothing left) two.0

        three : (decided ≡ true) × ((not marked && (apart || not after_item)) ≡ true)
        three = both-true decided (not marked && (apart || not after_item)) two.1

        lists : (not marked ≡ true) × ((apart || not after_item) ≡ true)
        lists = both-true (not marked) (apart || not after_item) three.1

        four : (not (nat_le (indent_of r) 3 && begins_with_pipe (words_of r)) ≡ true) × (nat_lt r.line_end (length text) ≡ true)
        four = both-true (not (nat_le (indent_of r) 3 && begins_with_pipe (words_of r))) (nat_lt r.line_end (length text)) (sym decided_is ∙ three.0)

        five : (not (is_blank_line r) ≡ true) × (ends_all text options lookup m r (lines_at text r.line_end) ≡ true)
        five = both-true (not (is_blank_line r)) (ends_all text options lookup m r rest) (sym begins_is ∙ one.0)

        -- all lines before are settled, so that the open blocks are the same whatever follows
        stay : (following : List Row) → fed_before options following (Between Nil) s.done ≡ lines_feed_all options (Between Nil) s.done
        stay following =
            fed-settled options s.done (lines_at text n) (lines-front options s.done (lines_at text n) (subst (AreLines options) s.split (are-lines options from (lines (drop from text))))) (s.resolved settled.0)
            (leaves-nothing options (lines_at text n) (Between Nil) s.done (nothing-left (lines_at text n) (Between Nil) s.done left settled.1 s.leaves)) following

        same : s.o ≡ lines_feed_all options (Between Nil) s.done
        same = s.is ∙ stay (lines_at text n)

        shorter : length line < length (drop n text)
        shorter =
            let e = ap length (take-append-drop n text) in
            let f = length-append (take n text) (drop n text) in
            let g = length-take-le n text s.high in
            let h = ltb-true r.line_end (length text) four.1 in
            let i = ap (λ (x : Row). x.line_end) r_is in
            omega (arith, e, f, g, h, i)

        ended : (ahead : List Row) → may_continue options.definition_list (last_list (list_before options text from) (close_lines (lines_feed_all options (Between Nil) s.done))) (opens_at options Apart (row_at n line) ahead) ≡ false
        ended ahead = go apart refl lists.1
          where
            go : (z : Bool) → apart ≡ z → (z || not after_item) ≡ true → may_continue options.definition_list (last_list (list_before options text from) (close_lines (lines_feed_all options (Between Nil) s.done))) (opens_at options Apart (row_at n line) ahead) ≡ false
            go true q t =
                ap (λ x. may_continue options.definition_list (last_list list (close_lines (lines_feed_all options (Between Nil) s.done))) (opens_at options Apart x ahead)) (sym r_is)
                ∙ apart_is q (last_list list (close_lines (lines_feed_all options (Between Nil) s.done))) ahead
            go false q t = ap (λ l. may_continue options.definition_list l (opens_at options Apart (row_at n line) ahead)) (ap (λ o. last_list list (close_lines o)) (sym same) ∙ s.listed (not-true after_item t))

        found : Found options text from n s.done line
        found = record {
          unmarked = ap (begins_definition options) (sym r_is) ∙ sym marked_is ∙ not-true marked lists.0;
          within = s.high;
          split = s.split;
          apart = s.apart lt;
          complete = first-complete (drop n text) line others lines_are shorter;
          settled = stay;
          parts = λ ahead. subst (λ x. Parts options x (row_at n line) ahead) same
              (subst (λ x. Parts options s.o x ahead) r_is (parts-any options s.o r rest ahead (no-table options r (not-true (nat_le (indent_of r) 3 && begins_with_pipe (words_of r)) four.0)) (parted five.1)));
          begins = λ ahead. ap (λ x. is_blank (opens_at options Apart x ahead)) (sym r_is) ∙ not-blank options r whole (not-true (is_blank_line r) five.0) ahead;
          ends_list = ended;
        }

    p : Parted (drop n text) line
    p = first-parted (drop n text) line others lines_are

    line-end : r.line_end ≡ n + length line
    line-end = ap (λ (x : Row). x.line_end) r_is

    -- the text up to the end of the line, and the rest
    halves : text ≡ (take n text ++ line) ++ p.rest
    halves = sym (take-append-drop n text) ∙ ap (λ l. take n text ++ l) p.are ∙ sym (append_assoc (take n text) line p.rest)

    size : length (take n text ++ line) ≡ r.line_end
    size = length-append (take n text) line ∙ ap (λ x. x + length line) (length-take-le n text s.high) ∙ sym line-end

    before : take r.line_end text ≡ take n text ++ line
    before =
        ap (λ k. take k text) (sym size) ∙ ap (take (length (take n text ++ line))) halves ∙ take-append_seam (take n text ++ line) p.rest

    after : drop r.line_end text ≡ p.rest
    after =
        ap (λ k. drop k text) (sym size) ∙ ap (drop (length (take n text ++ line))) halves ∙ drop-append_seam (take n text ++ line) p.rest

    high : r.line_end ≤ length text
    high = let e = ap length halves ∙ length-append (take n text ++ line) p.rest in omega (arith, e, size)

    whole-next : r.line_end < length text → ends_whole (take r.line_end text) (drop r.line_end text) ≡ true
    whole-next less = ap (λ f. ends_whole f (drop r.line_end text)) (before ∙ ap (λ l. take n text ++ l) p.is) ∙ ap (ends_whole (take n text ++ p.first ∷ p.others)) after ∙ whole-longer (take n text) p.first p.others p.rest ∙ ap (λ l. ends_whole l p.rest) (sym p.is) ∙ go p.rest refl
      where
        go : (l : List ℕ) → p.rest ≡ l → ends_whole line p.rest ≡ true
        go [] q = absurd (let e = ap length halves ∙ length-append (take n text ++ line) p.rest in let f = ap length q in omega (arith, e, f, size, less))
        go (b ∷ l) q = p.whole b l q

    abbrev next_cut : Bool → ℕ
    next_cut z = if z then n else cut

    pub search-step : Searched r.line_end (line_fed text options lookup r (lines_at text r.line_end) m) (if begins && ((is_resolved && is_nothing left) && (decided && (not marked && (apart || not after_item)))) then n else cut) (blind && (blank || is_resolved)) (if begins then not outside else after_item) (undecided_after options begins r left)
    search-step = record {
      done = s.done ++ r ∷ [];
      o = lines_feed options s.o r (shown rest);
      is = ap (λ x. lines_feed options x r (shown rest)) (s.is ∙ ap (λ l. fed_before options l (Between Nil) s.done) next) ∙ sym (fed-snoc options rest (Between Nil) s.done r);
      low = let a = s.low in omega (arith, a, line-end);
      high = high;
      split = s.split ∙ ap (λ l. s.done ++ l) next ∙ sym (append_assoc s.done (r ∷ []) rest);
      apart = whole-next;
      mirrors = ap (line_fed text options lookup r rest) at ∙ one-fed text options lookup none_noted r rest s.o n are-whole s.unmarked fits;
      steady = feed-steady options Nil s.o r (shown rest) s.steady;
      unmarked = feed-unmarked options s.o r (shown rest) s.unmarked;
      fits = next-fits text options lookup r rest s.o n are-whole fits;
      resolved = resolved;
      leaves = leaves-next options rest (Between Nil) s.done r begins began left (subst (λ l. Leaves options l (Between Nil) s.done left) next s.leaves);
      listed = listed;
      settled = choose (λ k. IsSettledAt options text k) s.settled is-cut;
      order = choose (λ k. from ≤ k) s.order (λ e. s.low);
      boundary = choose (λ k. IsCharBoundary text k) s.boundary (λ e. boundary);
    }
      where
        choose : (P : ℕ → Type 0) → P cut → ((begins && ((is_resolved && is_nothing left) && (decided && (not marked && (apart || not after_item))))) ≡ true → P n) → P (if begins && ((is_resolved && is_nothing left) && (decided && (not marked && (apart || not after_item)))) then n else cut)
        choose P old new = go (begins && ((is_resolved && is_nothing left) && (decided && (not marked && (apart || not after_item))))) refl
          where
            go : (z : Bool) → (begins && ((is_resolved && is_nothing left) && (decided && (not marked && (apart || not after_item))))) ≡ z → P (if z then n else cut)
            go true e = new e
            go false e = old

-- ## The loop

-- the new cut or the old one
pub chosen : (P : ℕ → Type 0) (z : Bool) (new old cut : ℕ) → cut ≡ (if z then new else old) → P new → P old → P cut
chosen P true new old cut is h k = subst P (sym is) h
chosen P false new old cut is h k = subst P (sym is) k

module _ {E : Type 0} (replacement : E → Lookup) where
  -- what is known in the search for the last cut after `from`, with this state of the pass
  pub record Searches (text : List ℕ) (options : Options) (lookup : Lookup) (from : ℕ) (pass : Pass E) (cut : ℕ) (is_resolved after_item : Bool) (left : Undecided) : Type 0 where
    pub begun : IsSettledAt options text from
    pub m : model.Pass
    pub runs : Runs replacement text options lookup m pass
    pub searched : Searched text options lookup from begun pass.line_end m cut is_resolved after_item left

  pub searches-start : (pass : Pass E) (from : ℕ) → StartsAt replacement from pass → IsSettledAt (shown_options pass.options) pass.text.now from → (after_item : Bool) → (after_item ≡ false → from ≡ 0)
      → Searches pass.text.now (shown_options pass.options) (replacement pass.entities.now) from pass from true after_item Nothing
  searches-start pass from starts begun after_item first = record {
    begun = begun;
    m = starting_at from [] [];
    runs = starts;
    searched = subst (λ n. Searched pass.text.now (shown_options pass.options) (replacement pass.entities.now) from begun n (starting_at from [] []) from true after_item Nothing) (sym starts.line_end)
        (search-start pass.text.now (shown_options pass.options) (replacement pass.entities.now) from begun (subst (IsCharBoundary pass.text.now) starts.line_end pass.begins) after_item first);
  }

  module _ (text : List ℕ) (options : Options) (lookup : Lookup) (from : ℕ) (old now : Pass E) (line : LineRest) (cut : ℕ) (is_resolved after_item : Bool) (left : Undecided) (s : Searches text options lookup from old cut is_resolved after_item left)
      (bytes : List ℕ) (same : bytes ≡ old.text.now) (lt : old.line_end < length bytes)
      (is_line : (l : List ℕ) (more : List (List ℕ)) → lines (drop old.line_end bytes) ≡ l ∷ more → row_of line ≡ row_at old.line_end l)
      (next : lines_at bytes old.line_end ≡ row_of line ∷ lines_at bytes (row_of line).line_end)
      (begins outside apart marked decided blank blind : Bool)
      (begins_is : Tells replacement old line begins (λ text options lookup m r ahead. not (is_blank_line r) && ends_all text options lookup m r ahead))
      (outside_is : outside ≡ true → (ahead : List Row) → is_outside_of_lists (opens_at (shown_options old.options) Apart (row_of line) ahead) ≡ true)
      (unmarked_is : outside ≡ true → begins_definition (shown_options old.options) (row_of line) ≡ false)
      (apart_is : apart ≡ true → (list : Option ℕ) (ahead : List Row) → may_continue (shown_options old.options).definition_list list (opens_at (shown_options old.options) Apart (row_of line) ahead) ≡ false)
      (marked_is : marked ≡ begins_definition (shown_options old.options) (row_of line))
      (decided_is : decided ≡ (not (nat_le (indent_of (row_of line)) 3 && begins_with_pipe (words_of (row_of line))) && nat_lt (row_of line).line_end (length old.text.now)))
      (blank_is : blank ≡ is_blank_line (row_of line)) (blind_is : blind ≡ list_all (λ b. not (looks_ahead b)) (bytes_of (row_of line).columns)) where
    text-is : bytes ≡ text
    text-is = same ∙ s.runs.text_is

    abbrev Next : ℕ → ℕ → Bool → Bool → Undecided → Type 0
    Next n k z w u = Searched text options lookup from s.begun n (line_fed text options lookup (row_of line) (lines_at text (row_of line).line_end) s.m) k z w u

    pub searches-step : Feeds replacement line old now → now.line_end ≡ (row_of line).line_end
        → (cut' : ℕ) (is_resolved' after_item' : Bool) (left' : Undecided) → cut' ≡ (if begins && ((is_resolved && is_nothing left) && (decided && (not marked && (apart || not after_item)))) then old.line_end else cut)
        → is_resolved' ≡ (blind && (blank || is_resolved)) → after_item' ≡ (if begins then not outside else after_item)
        → left' ≡ undecided_after (shown_options old.options) begins (row_of line) left
        → Searches text options lookup from now cut' is_resolved' after_item' left'
    searches-step feeds ends cut' is_resolved' after_item' left' cut_is resolved_is after_is left_is = record {
      begun = s.begun;
      m = line_fed text options lookup (row_of line) (lines_at text (row_of line).line_end) s.m;
      runs = feeds text options lookup s.m s.runs;
      searched =
          subst (λ n. Next n cut' is_resolved' after_item' left') (sym ends)
          (subst (λ k. Next (row_of line).line_end k is_resolved' after_item' left') (sym cut_is)
          (subst (λ z. Next (row_of line).line_end (if begins && ((is_resolved && is_nothing left) && (decided && (not marked && (apart || not after_item)))) then old.line_end else cut) z after_item' left') (sym resolved_is)
          (subst (λ w. Next (row_of line).line_end (if begins && ((is_resolved && is_nothing left) && (decided && (not marked && (apart || not after_item)))) then old.line_end else cut) (blind && (blank || is_resolved)) w left') (sym after_is)
          (subst (λ u. Next (row_of line).line_end (if begins && ((is_resolved && is_nothing left) && (decided && (not marked && (apart || not after_item)))) then old.line_end else cut) (blind && (blank || is_resolved)) (if begins then not outside else after_item) u) (sym (left_is ∙ ap (λ o. undecided_after o begins (row_of line) left) s.runs.options_is))
          (go (lines (drop old.line_end text)) refl)))));
    }
      where
        there : lines_at text old.line_end ≡ row_of line ∷ lines_at text (row_of line).line_end
        there = subst (λ t. lines_at t old.line_end ≡ row_of line ∷ lines_at t (row_of line).line_end) text-is next

        less : old.line_end < length text
        less = subst (λ t. old.line_end < length t) text-is lt

        go : (ls : List (List ℕ)) → lines (drop old.line_end text) ≡ ls
            → Next (row_of line).line_end (if begins && ((is_resolved && is_nothing left) && (decided && (not marked && (apart || not after_item)))) then old.line_end else cut) (blind && (blank || is_resolved)) (if begins then not outside else after_item) (undecided_after options begins (row_of line) left)
        go [] e = absurd (let q : [] ≡ row_of line ∷ lines_at text (row_of line).line_end = ap (rows_from old.line_end) (sym e) ∙ there in cc)
        go (l ∷ ls) e =
            search-step text options lookup from s.begun old.line_end s.m cut is_resolved after_item left s.searched less (subst (λ t. IsCharBoundary t old.line_end) s.runs.text_is old.begins)
            (row_of line) l ls e (is_line l ls (ap (λ t. lines (drop old.line_end t)) text-is ∙ e)) there
            begins outside apart marked decided blank blind (begins_is text options lookup s.m s.runs)
            (λ e ahead. ap (λ o. is_outside_of_lists (opens_at o Apart (row_of line) ahead)) (sym s.runs.options_is) ∙ outside_is e ahead)
            (λ e. ap (λ o. begins_definition o (row_of line)) (sym s.runs.options_is) ∙ unmarked_is e)
            (λ e list ahead. ap (λ o. may_continue o.definition_list list (opens_at o Apart (row_of line) ahead)) (sym s.runs.options_is) ∙ apart_is e list ahead)
            (marked_is ∙ ap (λ o. begins_definition o (row_of line)) s.runs.options_is)
            (decided_is ∙ ap (λ t. not (nat_le (indent_of (row_of line)) 3 && begins_with_pipe (words_of (row_of line))) && nat_lt (row_of line).line_end (length t)) s.runs.text_is)
            blank_is blind_is

-- the pass before the search
pub starts-here : {E : Type 0} {replacement : E → Lookup} (text : List ℕ) (options : Options) (lookup : Lookup) (from : ℕ) (pass : Pass E) → Runs replacement text options lookup (starting_at from [] []) pass → StartsAt replacement from pass
starts-here {E} {replacement} text options lookup from pass runs =
    subst (λ t. Runs replacement t (shown_options pass.options) (replacement pass.entities.now) (starting_at from [] []) pass) (sym runs.text_is)
    (subst (λ o. Runs replacement text o (replacement pass.entities.now) (starting_at from [] []) pass) (sym runs.options_is)
    (subst (λ l. Runs replacement text options l (starting_at from [] []) pass) (sym runs.lookup_is) runs))
