-- A leaf of plain lines is read as their texts, with soft breaks between them.
use Rattle.std.specs.Prelude.{suc, zero, ◌-◌, ◌||◌, not, if◌then◌else◌, get_or, drop, take, max, take_while, option_map}
use Rattle.std.specs.List.{prefix_len}
use Rattle.std.proofs.Common.{◌≡◌, ◌⊎◌, inl, inr, ℕ, ◌+◌, ◌<◌, ◌≤◌, Bool, true, false, List, [], ◌∷◌, ◌++◌, length, Option, None, refl, sym, ap, ◌∙◌, subst, arith, length-append, length-drop, eqb-true, true≢false, append-nil, take-take, drop-drop, rules}
use Rattle.std.proofs.Math.Seq.{drop-append_seam, drop-cons, take-append_seam}
use Rattle.std.proofs.lemmas.List.{get_or-drop}
use Rattle.cmark_grammar.specs.Answers.{Lookup}
use Rattle.cmark_grammar.specs.BracketDecisions.{decide}
use Rattle.cmark_grammar.specs.BracketReading.{Reads}
use Rattle.cmark_grammar.specs.BracketStates.{State, moved}
use Rattle.cmark_grammar.specs.Columns.{is_blank_byte}
use Rattle.cmark_grammar.specs.Emphasis.{IsEmphasis}
use Rattle.cmark_grammar.specs.Event.{Text}
use Rattle.cmark_grammar.specs.InlineReading.{inline_events}
use Rattle.cmark_grammar.specs.InlineTokens.{item_at, from, begins, is_plain, break_or, goes_on, line_begins, longest, place_of, read_on, size_to, token}
use Rattle.cmark_grammar.specs.Items.{Plain, Item, Token, Stands, Ends, SoftBreak}
use Rattle.cmark_grammar.specs.LeafReading.{Between, ReadsLeaf, entering, leaving}
use Rattle.cmark_grammar.specs.LeafText.{Leaf}
use Rattle.cmark_grammar.specs.LineBreaks.{LineBreak, blank_break_in, blank_break}
use Rattle.cmark_grammar.specs.Lines.{is_content}
use Rattle.cmark_grammar.specs.LinkDefinitions.{after_leading_blanks}
use Rattle.cmark_grammar.specs.Options.{Options}
use Rattle.cmark_grammar.specs.Parts as parts
use Rattle.cmark_grammar.specs.Parts.{Parts}
use Rattle.cmark_grammar.specs.Questions.{Exchange, IsNext}
use Rattle.cmark_grammar.specs.Quotes.{quote_characters}
use Rattle.cmark_grammar.specs.Readers.{Reader}
use Rattle.cmark_grammar.specs.Siblings.{Inline, Nil, Single, AreSiblings, AreSpans, append, quotes_of, with_characters, with_quotes}
use Rattle.cmark_inline_model.specs.RunSpans.{IsDressedByRuns, gaps_of, put_gap, runs_from}
use Rattle.cmark_grammar.specs.Spans as spans
use Rattle.cmark_grammar.specs.Tags.{after_ending}
use Rattle.cmark_grammar.specs.Tokens.{slice}
use Rattle.cmark_inline_model.specs.PlacedTokens.{AreLeafPlaces, StandsUpTo, StopsAt, one_stretch, text_reader, placed, may_open_markup}
use Rattle.cmark_inline_model.specs.PlacedLeaves.{StandWhole}
use Rattle.cmark_inline_model.specs.PlainLines.{ArePlainLines, IsEndedLine, IsLastLine, StandWithin, joined_lines, line_events, soft_break_at, text_at}
use Rattle.cmark_inline_model.specs.TextPlaces.{text_of, place_in}
use Rattle.cmark_inline_model.proofs.LeafEndings.{leaf-placed}
use Rattle.cmark_inline_model.proofs.LeafSteps.{slice-size, slice_drop}
use Rattle.cmark_inline_model.proofs.PlacedTokens.{no-break, from-text, from-place}
use Rattle.cmark_inline_model.proofs.SpanPlacing.{by-places}
use Rattle.cmark_inline_model.proofs.PlainTokens.{NotPlain, markup-not, one-text, token-at}

-- ## No break begins inside a line

-- a line that ends with a byte that is no blank, or at the end of the bytes
abbrev IsFull : (bytes : List ℕ) → (size : ℕ) → Type 0
IsFull bytes size = (is_blank_byte (get_or bytes (size - 1) 0) ≡ false) ⊎ (size ≡ length bytes)

no_ending_at : (b : ℕ) (bs : List ℕ) → is_content b ≡ true → after_ending (b ∷ bs) ≡ None
no_ending_at b bs = grind arith

-- after the first blanks of a line no line ends, or the bytes are over
no_ending_inside : (l : List ℕ) (size : ℕ) → 0 < size → size ≤ length l → ((j : ℕ) → j < size → is_content (get_or l j 0) ≡ true) → IsFull l size → after_ending (after_leading_blanks l) ≡ None
no_ending_inside [] size some within h full = refl
no_ending_inside (b ∷ bs) zero some within h full = absurd (omega arith)
no_ending_inside (b ∷ bs) (suc size) some within h full = by (is_blank_byte b) refl (no_ending_inside bs size)
  where
    Leads : Bool → Type 0
    Leads z = after_ending (drop (length (take (if z then 1 + prefix_len is_blank_byte bs else 0) (b ∷ bs))) (b ∷ bs)) ≡ None

    later : (n : ℕ) → n ≡ size → is_blank_byte b ≡ true → (0 < size → size ≤ length bs → ((j : ℕ) → j < size → is_content (get_or bs j 0) ≡ true) → IsFull bs size → after_ending (after_leading_blanks bs) ≡ None) → after_ending (after_leading_blanks bs) ≡ None
    later zero e blank go = over full
      where
        over : IsFull (b ∷ bs) (suc size) → after_ending (after_leading_blanks bs) ≡ None
        over (inl f) = absurd (true≢false (sym blank ∙ ap (λ k. is_blank_byte (get_or (b ∷ bs) k 0)) (let q : 0 ≡ suc size - 1 = omega (arith, e) in q) ∙ f))
        over (inr f) = ap (λ l. after_ending (after_leading_blanks l)) (nothing bs (let q : length bs ≡ 0 = omega (arith, e, f) in q))
          where
            nothing : (l : List ℕ) → length l ≡ 0 → l ≡ []
            nothing [] e = refl
            nothing (x ∷ l) e = absurd (omega arith)
    later (suc n) e blank go =
        go (omega (arith, e)) (omega (arith, within)) (λ j lt. h (suc j) (omega (arith, lt))) (still full)
      where
        still : IsFull (b ∷ bs) (suc size) → IsFull bs size
        still (inl f) = inl (ap (λ k. is_blank_byte (get_or (b ∷ bs) k 0)) (let q : suc (size - 1) ≡ suc size - 1 = omega (arith, e) in q) ∙ f)
        still (inr f) = inr (let q : size ≡ length bs = omega (arith, f) in q)

    by : (z : Bool) → is_blank_byte b ≡ z → (0 < size → size ≤ length bs → ((j : ℕ) → j < size → is_content (get_or bs j 0) ≡ true) → IsFull bs size → after_ending (after_leading_blanks bs) ≡ None) → after_ending (after_leading_blanks (b ∷ bs)) ≡ None
    by true e go =
        let one : 1 + prefix_len is_blank_byte bs ≡ suc (prefix_len is_blank_byte bs) = omega arith in
        subst Leads (sym e) (ap (λ n. after_ending (drop (length (take n (b ∷ bs))) (b ∷ bs))) one ∙ later size refl e go)
    by false e go = subst Leads (sym e) (no_ending_at b bs (h 0 (omega arith)))

not_blank : (b : ℕ) → is_content b ≡ false → is_blank_byte b ≡ true → ⊥
not_blank b e f = grind (arith, eqb-true)

if_so : {A : Type 0} (b : Bool) (x y : A) → b ≡ true → (if b then x else y) ≡ x
if_so b x y e = ap (λ z. if z then x else y) e

if_same : {A : Type 0} (b : Bool) (x : A) → (if b then x else x) ≡ x
if_same true x = refl
if_same false x = refl

nothing : (l : List ℕ) → length l ≡ 0 → l ≡ []
nothing [] e = refl
nothing (b ∷ l) e = absurd (omega arith)

leads_blank : (l : List ℕ) → is_blank_byte (get_or l 0 0) ≡ false → after_leading_blanks l ≡ l
leads_blank [] e = refl
leads_blank (b ∷ bs) e = ap (λ z. drop (length (take (if z then 1 + prefix_len is_blank_byte bs else 0) (b ∷ bs))) (b ∷ bs)) e

abbrev is_text : Token → Bool
is_text (Stands x resume) = is_plain x.kind
is_text _ = false

abbrev soft : (at : ℕ) → Item
soft at = record { kind = SoftBreak; start = at; end = suc at }

abbrev plain : (start end : ℕ) → Item
plain start end = record { kind = Plain; start = start; end = end }

-- ## The tokens of a plain line

module _ (reader : Reader) (leaf : Leaf) (text : List ℕ) (place : ℕ → ℕ) (h : AreLeafPlaces reader leaf text place) where
  abbrev one : Reader
  one = text_reader reader.options reader.lookup text

  abbrev alone : Leaf
  alone = one_stretch leaf.is_cell text

  -- a line ending begins a break
  not_break : (k b : ℕ) (bs : List ℕ) (end : ℕ) → is_content b ≡ false → begins one alone k (b ∷ bs) ≡ item_at Plain k end → ⊥
  not_break k b bs end e q = go (blank_break_in (b ∷ bs)) refl (sym (if_so (is_blank_byte b || not (is_content b)) _ _ breaks) ∙ q)
    where
      breaks : (is_blank_byte b || not (is_content b)) ≡ true
      breaks = or_not (is_blank_byte b) (is_content b) e
        where
          or_not : (x y : Bool) → y ≡ false → (x || not y) ≡ true
          or_not x y f = grind arith

      go : (found : Option LineBreak) → blank_break_in (b ∷ bs) ≡ found → break_or one alone k found (item_at Plain k (suc k)) ≡ item_at Plain k end → ⊥
      go found n r = grind (arith, no-break, breaks)

  -- a line of plain bytes, after which no plain byte begins, is one text
  module _ (a b : ℕ) (some : a < b) (within : b ≤ length text) (stand : StandWithin reader.options reader.lookup leaf.is_cell text a b) (full : (is_blank_byte (get_or text (b - 1) 0) ≡ false) ⊎ (b ≡ length text)) where
    ends_no_line : (k : ℕ) → a ≤ k → k < b → is_content (get_or text k 0) ≡ true
    ends_no_line k le lt = go (is_content (get_or text k 0)) refl
      where
        go : (z : Bool) → is_content (get_or text k 0) ≡ z → is_content (get_or text k 0) ≡ true
        go true e = e
        go false e =
            let s = stand k le lt (λ f. absurd (not_blank (get_or text k 0) e f)) in
            absurd (not_break k (get_or text k 0) (drop (suc k) text) s.end e (ap (begins one alone k) (sym (from-text reader leaf text place h k ∙ drop-cons text k 0 (omega (arith, lt, within)))) ∙ s.token))

    stands : (k : ℕ) → a ≤ k → k < b → StandsUpTo one alone k b
    stands k le lt = stand k le lt (λ f. ap (λ o. option_map (blank_break (take_while is_blank_byte (drop k text))) o) no_end)
      where
        rest : List ℕ
        rest = drop k text

        size : length rest ≡ length text - k
        size = length-drop k text

        filled : (is_blank_byte (get_or text (b - 1) 0) ≡ false) ⊎ (b ≡ length text) → IsFull rest (b - k)
        filled (inl f) = inl (ap is_blank_byte (get_or-drop k text ((b - k) - 1) 0 ∙ ap (λ n. get_or text n 0) (let q : k + ((b - k) - 1) ≡ b - 1 = omega (arith, lt) in q)) ∙ f)
        filled (inr f) = inr (let s = size in let q : b - k ≡ length rest = omega (arith, s, f) in q)

        no_end : after_ending (after_leading_blanks rest) ≡ None
        no_end =
            no_ending_inside rest (b - k) (omega (arith, lt)) (let s = size in omega (arith, s, within))
            (λ j less. ap is_content (get_or-drop k text j 0) ∙ ends_no_line (k + j) (omega (arith, le)) (omega (arith, less))) (filled full)

    line_text : StopsAt one alone b → token one alone a ≡ item_at Plain a b
    line_text stops =
        let s = stands a (omega arith) some in
        let w = s.within in
        let f = s.further in
        let size : length (from one alone s.end) ≡ length text - s.end = ap length (from-text reader leaf text place h s.end) ∙ length-drop s.end text in
        one-text one alone a a s.end b s.token w (omega (arith, size, within)) (λ k p q. stands k (omega (arith, p, f)) q) stops

    no_markup : may_open_markup reader.options.email_autolinks (drop a text) ≡ false
    no_markup = go (may_open_markup reader.options.email_autolinks (drop a text)) refl
      where
        go : (z : Bool) → may_open_markup reader.options.email_autolinks (drop a text) ≡ z → may_open_markup reader.options.email_autolinks (drop a text) ≡ false
        go false e = e
        go true e =
            let s = stands a (omega arith) some in
            let q : begins one alone a (drop a text) ≡ item_at Plain a s.end = ap (begins one alone a) (sym (from-text reader leaf text place h a)) ∙ s.token in
            absurd (true≢false (subst (NotPlain one alone) q (markup-not one alone a (drop a text) e)))

    text_token : StopsAt one alone b → token reader leaf (place a) ≡ Stands (record { kind = Plain; start = place a; end = suc (place (b - 1)) }) (place b)
    text_token stops = token-at reader leaf text place h a (omega (arith, some, within)) no_markup ∙ ap (placed place) (line_text stops)

  -- the text is over
  stops_at_end : StopsAt one alone (length text)
  stops_at_end more = grind (arith, from-text, length-drop, nothing)

  end_token : token reader leaf (place (length text)) ≡ Ends
  unfolding token
  end_token = grind (arith, from-place, length-drop, nothing)

  -- a line feed without blanks beside it is a soft break
  module _ (b : ℕ) (bytes : drop b text ≡ 10 ∷ drop (suc b) text) (next : is_blank_byte (get_or text (suc b) 0) ≡ false) where
    within : suc b ≤ length text
    within = let d = length-drop b text in let c = length-drop (suc b) text in let e = ap length bytes in omega (arith, d, c, e)

    abbrev rest : List ℕ
    rest = drop (suc b) text

    stops_at_break : StopsAt one alone b
    stops_at_break more = ap (λ l. goes_on one alone (begins one alone b l) b more) (from-text reader leaf text place h b ∙ bytes)

    size_is : size_to one alone b rest ≡ 1
    size_is = grind (arith, within, from-text, length-drop)

    resumes : read_on one alone (suc b) ≡ suc b
    resumes =
        let w = within in
        let whole = from-text reader leaf text place h (suc b) in
        let same : after_leading_blanks (from one alone (suc b)) ≡ from one alone (suc b) = leads_blank (from one alone (suc b)) (ap (λ l. is_blank_byte (get_or l 0 0)) whole ∙ ap is_blank_byte (get_or-drop (suc b) text 0 0 ∙ ap (λ n. get_or text n 0) (let q : suc b + 0 ≡ suc b = omega arith in q)) ∙ next) in
        ap (λ l. place_of one alone (if line_begins one alone (suc b) then l else from one alone (suc b))) same
        ∙ ap (place_of one alone) (if_same (line_begins one alone (suc b)) (from one alone (suc b)))
        ∙ (let c = ap length whole ∙ length-drop (suc b) text in let q : length text - length (from one alone (suc b)) ≡ suc b = omega (arith, c, w) in q)

    break_begins : begins one alone b (10 ∷ rest) ≡ Stands (soft b) (suc b)
    break_begins = grind (arith, size_is, resumes)

    break_token : token reader leaf (place b) ≡ Stands (record { kind = SoftBreak; start = place b; end = suc (place b) }) (place (suc b))
    unfolding token
    break_token =
        let w = within in
        let none : may_open_markup reader.options.email_autolinks (drop b text) ≡ false = ap (may_open_markup reader.options.email_autolinks) bytes in
        let here : token one alone b ≡ Stands (soft b) (suc b) = ap (λ l. longest one alone (begins one alone b l)) (from-text reader leaf text place h b ∙ bytes) ∙ ap (longest one alone) break_begins in
        token-at reader leaf text place h b (omega (arith, w)) none ∙ ap (placed place) here
        ∙ ap (λ k. Stands (record { kind = SoftBreak; start = place b; end = suc (place k) }) (place (suc b))) (let q : suc b - 1 ≡ b = omega arith in q)

-- ## The spans of plain lines

abbrev parts_at : (start : ℕ) → (lines : List (List ℕ)) → (last : List ℕ) → Parts
parts_at start [] last = parts.Single (plain start (start + length last)) parts.Nil
parts_at start (line ∷ lines) last = parts.Single (plain start (start + length line)) (parts.Single (soft (start + length line)) (parts_at (suc (start + length line)) lines last))

abbrev siblings_at : (start : ℕ) → (lines : List (List ℕ)) → (last : List ℕ) → Inline
siblings_at start [] last = Single (plain start (start + length last)) Nil
siblings_at start (line ∷ lines) last = Single (plain start (start + length line)) (Single (soft (start + length line)) (siblings_at (suc (start + length line)) lines last))

are_siblings : (options : Options) (start : ℕ) (lines : List (List ℕ)) (last : List ℕ) → AreSiblings options (parts_at start lines last) (siblings_at start lines last)
are_siblings options start [] last = (Nil, refl, refl)
are_siblings options start (line ∷ lines) last = search (rules, are_siblings options (suc (start + length line)) lines last)

-- no quote is among them
characters_same : (start : ℕ) (lines : List (List ℕ)) (last cs : List ℕ) → with_characters (siblings_at start lines last) cs ≡ siblings_at start lines last
characters_same start [] last cs = refl
characters_same start (line ∷ lines) last cs = ap (λ after. Single (plain start (start + length line)) (Single (soft (start + length line)) after)) (characters_same (suc (start + length line)) lines last cs)

-- no delimiter run is among them
no_runs : (start : ℕ) (lines : List (List ℕ)) (last : List ℕ) (n : ℕ) → runs_from (siblings_at start lines last) n ≡ []
no_runs start [] last n = refl
no_runs start (line ∷ lines) last n = no_runs (suc (start + length line)) lines last n

one_gap : (start : ℕ) (lines : List (List ℕ)) (last : List ℕ) → gaps_of (siblings_at start lines last) ≡ siblings_at start lines last ∷ []
one_gap start [] last = refl
one_gap start (line ∷ lines) last =
    ap (λ gaps. put_gap (Single (plain start (start + length line))) (put_gap (Single (soft (start + length line))) gaps)) (one_gap (suc (start + length line)) lines last)

append_none : (start : ℕ) (lines : List (List ℕ)) (last : List ℕ) → append (siblings_at start lines last) Nil ≡ siblings_at start lines last
append_none start [] last = refl
append_none start (line ∷ lines) last = ap (λ after. Single (plain start (start + length line)) (Single (soft (start + length line)) after)) (append_none (suc (start + length line)) lines last)

dressed_same : (options : Options) (start : ℕ) (lines : List (List ℕ)) (last : List ℕ) → IsDressedByRuns options (siblings_at start lines last) (siblings_at start lines last)
dressed_same options start lines last =
    let siblings = siblings_at start lines last in
    let quoted : with_quotes siblings ≡ siblings = characters_same start lines last (quote_characters [] (quotes_of siblings)) in
    let none : runs_from (with_quotes siblings) 0 ≡ [] = ap (λ s. runs_from s 0) quoted ∙ no_runs start lines last 0 in
    let emphasis : IsEmphasis [] [] spans.Nil = record { last = []; are = (refl, refl); become = refl } in
    record {
      pairs = [];
      spans_are = spans.Nil;
      emphasis = subst (λ l. IsEmphasis l [] spans.Nil) (sym none) emphasis;
      result_is =
          sym (append_none start lines last)
          ∙ ap (λ gaps. append (get_or gaps 0 Nil) Nil) (sym (one_gap start lines last))
          ∙ ap (λ s. append (get_or (gaps_of s) 0 Nil) Nil) (sym quoted);
    }

are_spans : (options : Options) (start : ℕ) (lines : List (List ℕ)) (last : List ℕ) → AreSpans options (parts_at start lines last) (siblings_at start lines last)
are_spans options start lines last = record { siblings = siblings_at start lines last; are = are_siblings options start lines last; dressed_so = by-places options (siblings_at start lines last) (siblings_at start lines last) (dressed_same options start lines last) }

-- ## A leaf of plain lines

module _ (text : List ℕ) (a : ℕ) (line : List ℕ) where
  -- the offsets of a line that a line feed ends
  ended_within : IsEndedLine text a line → suc (a + length line) ≤ length text
  ended_within h =
      let e = ap length h.part ∙ length-append line (10 ∷ drop (suc (a + length line)) text) in
      let d = length-drop a text in
      omega (arith, e, d)

  ended_bytes : IsEndedLine text a line → drop (a + length line) text ≡ 10 ∷ drop (suc (a + length line)) text
  ended_bytes h =
      sym (drop-drop (length line) a text) ∙ ap (drop (length line)) h.part ∙ drop-append_seam line (10 ∷ drop (suc (a + length line)) text)

  last_is : IsLastLine text a line → a + length line ≡ length text
  last_is h = grind (arith, length-drop)

module _ (reader : Reader) (leaf : Leaf) (text : List ℕ) (place : ℕ → ℕ) (h : AreLeafPlaces reader leaf text place) (start end : ℕ) (text_is : text ≡ slice reader.source start end) (within : end ≤ length reader.source) (at_place : (k : ℕ) → k ≤ length text → place k ≡ start + k) (all : List Exchange) where
  abbrev Plain_lines : (at : ℕ) → (lines : List (List ℕ)) → (last : List ℕ) → Type 0
  Plain_lines at lines last = ArePlainLines reader.options reader.lookup leaf.is_cell text at lines last

  line_item : (p a n : ℕ) → p ≡ start + a → 0 < n → a + n ≤ length text → StandWithin reader.options reader.lookup leaf.is_cell text a (a + n)
      → (is_blank_byte (get_or text ((a + n) - 1) 0) ≡ false) ⊎ (a + n ≡ length text) → StopsAt (text_reader reader.options reader.lookup text) (one_stretch leaf.is_cell text) (a + n)
      → token reader leaf p ≡ Stands (plain p (p + n)) (p + n)
  line_item p a n e some fits stand full stops =
      let first : place a ≡ p = at_place a (omega (arith, fits)) ∙ sym e in
      let last : suc (place ((a + n) - 1)) ≡ p + n = (let q = at_place ((a + n) - 1) (omega (arith, fits)) in omega (arith, q, e, some)) in
      let next : place (a + n) ≡ p + n = (let q = at_place (a + n) fits in omega (arith, q, e)) in
      ap (token reader leaf) (sym first)
      ∙ text_token reader leaf text place h a (a + n) (omega (arith, some)) fits stand full stops
      ∙ ap (λ i. Stands (plain i (suc (place ((a + n) - 1)))) (place (a + n))) first
      ∙ ap (λ i. Stands (plain p i) (place (a + n))) last
      ∙ ap (Stands (plain p (p + n))) next

  break_item : (p b : ℕ) → p ≡ start + b → suc b ≤ length text → drop b text ≡ 10 ∷ drop (suc b) text → is_blank_byte (get_or text (suc b) 0) ≡ false → token reader leaf p ≡ Stands (soft p) (suc p)
  break_item p b e fits bytes next = grind (arith, break_token)

  -- the leaf is read from one line on
  record IsReadOn (s : State) (p : ℕ) (lines : List (List ℕ)) (last : List ℕ) : Type 0 where
    until : State
    reads : Reads (token reader leaf) (decide reader leaf) (IsNext all) s (parts_at p lines last) until
    ends : token reader leaf until.at ≡ Ends
    leaves : leaving until ≡ leaving s

  reads_on : (s : State) (p a : ℕ) (lines : List (List ℕ)) (last : List ℕ) → s.at ≡ p → p ≡ start + a → Plain_lines a lines last → IsReadOn s p lines last
  reads_on s p a [] last e f plain_so =
      let l = last_is text a last plain_so.0 in
      let fits : a + length last ≤ length text = omega (arith, l) in
      let stand = subst (StandWithin reader.options reader.lookup leaf.is_cell text a) (sym l) plain_so.1 in
      let stops = subst (StopsAt (text_reader reader.options reader.lookup text) (one_stretch leaf.is_cell text)) (sym l) (stops_at_end reader leaf text place h) in
      let next : place (length text) ≡ p + length last = (let q = at_place (length text) (omega arith) in omega (arith, q, f, l)) in
      record {
        until = moved (p + length last) s;
        reads = (p + length last, ap (token reader leaf) e ∙ line_item p a (length last) f plain_so.0.some fits stand (inr l) stops, refl);
        ends = ap (token reader leaf) (sym next) ∙ end_token reader leaf text place h;
        leaves = refl;
      }
  reads_on s p a (line ∷ lines) last e f plain_so =
      let n = length line in
      let ended = plain_so.0 in
      let fits = ended_within text a line ended in
      let bytes = ended_bytes text a line ended in
      let some = ended.some in
      let full : is_blank_byte (get_or text ((a + n) - 1) 0) ≡ false = ap (λ k. is_blank_byte (get_or text k 0)) (let q : (a + n) - 1 ≡ a + (n - 1) = omega (arith, some) in q) ∙ ended.full in
      let text_there = line_item p a n f some (omega (arith, fits)) plain_so.1 (inl full) (stops_at_break reader leaf text place h (a + n) bytes ended.next) in
      let break_there = break_item (p + n) (a + n) (omega (arith, f)) fits bytes ended.next in
      let rest = reads_on (moved (suc (p + n)) (moved (p + n) s)) (suc (p + n)) (suc (a + n)) lines last refl (omega (arith, f)) plain_so.2 in
      record {
        until = rest.until;
        reads = (p + n, ap (token reader leaf) e ∙ text_there, (suc (p + n), break_there, rest.reads));
        ends = rest.ends;
        leaves = rest.leaves;
      }

  -- the bytes of a line are in the source
  line_bytes : (p a : ℕ) (line others : List ℕ) → p ≡ start + a → 0 < length line → a + length line ≤ length text → drop a text ≡ line ++ others → slice reader.source p (p + length line) ≡ line
  line_bytes p a line others e some fits part =
      let size = ap length text_is ∙ slice-size reader.source start end within in
      let there : drop a text ≡ slice reader.source p end =
      ap (drop a) text_is ∙ ap (λ n. drop n (slice reader.source start end)) (let q : a ≡ p - start = omega (arith, e) in q) ∙ slice_drop reader.source start p end (omega (arith, e)) (omega (arith, e, some, fits, size)) in
      ap (λ n. take n (drop p reader.source)) (let q : (p + length line) - p ≡ length line = omega arith in q)
      ∙ sym (take-take (length line) (end - p) (drop p reader.source) (omega (arith, e, some, fits, size)))
      ∙ ap (take (length line)) (sym there ∙ part)
      ∙ take-append_seam line others

  events_are : (p a : ℕ) (lines : List (List ℕ)) (last : List ℕ) → p ≡ start + a → Plain_lines a lines last → inline_events reader.source (siblings_at p lines last) ≡ line_events p lines last
  events_are p a [] last e plain_so =
      let l = last_is text a last plain_so.0 in
      ap (λ t. record { event = Text t; start = p; end = p + length last } ∷ []) (line_bytes p a last [] e plain_so.0.some (omega (arith, l)) (plain_so.0.part ∙ sym (append-nil last)))
  events_are p a (line ∷ lines) last e plain_so =
      let n = length line in
      let fits = ended_within text a line plain_so.0 in
      ap (λ t. record { event = Text t; start = p; end = p + n } ∷ (soft_break_at (p + n) ∷ inline_events reader.source (siblings_at (suc (p + n)) lines last))) (line_bytes p a line _ e plain_so.0.some (omega (arith, fits)) plain_so.0.part)
      ∙ ap (λ es. text_at p line ∷ (soft_break_at (p + n) ∷ es)) (events_are (suc (p + n)) (suc (a + n)) lines last (omega (arith, e)) plain_so.2)

  pub lines_read : (before : Between) (lines : List (List ℕ)) (last : List ℕ) → (entering leaf before).at ≡ start → Plain_lines 0 lines last → ReadsLeaf reader (IsNext all) leaf before (line_events start lines last) before
  lines_read before lines last e plain_so =
      let r = reads_on (entering leaf before) start 0 lines last e (omega arith) plain_so in
      record {
        parts = parts_at start lines last;
        last = r.until;
        spans = siblings_at start lines last;
        reads = record { reads = r.reads; ends = r.ends };
        are = are_spans reader.options start lines last;
        events_are = sym (events_are start 0 lines last (omega arith) plain_so);
        after_is = sym r.leaves;
      }

module _ (reader : Reader) (all : List Exchange) (before : Between) (start end : ℕ) (is_cell : Bool) (within : end ≤ length reader.source) where
  abbrev leaf_of : Leaf
  leaf_of = record { stretches = record { start = start; end = end } ∷ []; is_cell = is_cell }

  abbrev place : ℕ → ℕ
  place k = place_in reader leaf_of k

  module _ (up : start < end) where
    text_is : text_of reader leaf_of ≡ slice reader.source start end
    text_is = ap (λ n. slice reader.source n end ++ []) (let e : max 0 start ≡ start = omega arith in e) ∙ append-nil (slice reader.source start end)

    place_is : (k : ℕ) → k ≤ length (text_of reader leaf_of) → place k ≡ start + k
    place_is k le = grind (arith, text_is, slice-size, within, length-drop)

    placed_so : AreLeafPlaces reader leaf_of (text_of reader leaf_of) place
    placed_so = (leaf-placed reader leaf_of (omega arith, omega arith, within) (up, inl refl, tt) tt).places

    whole_lines : (lines : List (List ℕ)) (last : List ℕ) → ArePlainLines reader.options reader.lookup is_cell (slice reader.source start end) 0 lines last → ReadsLeaf reader (IsNext all) leaf_of before (line_events start lines last) before
    whole_lines lines last h =
        lines_read reader leaf_of (text_of reader leaf_of) place placed_so start end text_is within place_is all before lines last refl
        (subst (λ t. ArePlainLines reader.options reader.lookup is_cell t 0 lines last) (sym text_is) h)

  -- the text is not empty
  some_text : (lines : List (List ℕ)) (last : List ℕ) → ArePlainLines reader.options reader.lookup is_cell (slice reader.source start end) 0 lines last → start < end
  some_text lines last h = grind (arith, slice-size, within, size)
    where
      size : (lines : List (List ℕ)) → ArePlainLines reader.options reader.lookup is_cell (slice reader.source start end) 0 lines last → 0 < length (slice reader.source start end)
      size [] h = let l = last_is (slice reader.source start end) 0 last h.0 in let some = h.0.some in omega (arith, l, some)
      size (line ∷ lines) h = let l = ended_within (slice reader.source start end) 0 line h.0 in omega (arith, l)

pub plain-lines : (reader : Reader) (all : List Exchange) (leaf : Leaf) (before : Between) (start end : ℕ) (lines : List (List ℕ)) (last : List ℕ) → leaf.stretches ≡ record { start = start; end = end } ∷ [] → end ≤ length reader.source
    → ArePlainLines reader.options reader.lookup leaf.is_cell (slice reader.source start end) 0 lines last
    → ReadsLeaf reader (IsNext all) leaf before (line_events start lines last) before
plain-lines reader all leaf before start end lines last one within h =
    subst (λ l. ReadsLeaf reader (IsNext all) l before (line_events start lines last) before) (ap (λ st. record { stretches = st; is_cell = leaf.is_cell }) (sym one))
    (whole_lines reader all before start end leaf.is_cell within (some_text reader all before start end leaf.is_cell within lines last h) lines last h)

-- one plain line
pub plain-leaf : (reader : Reader) (all : List Exchange) (leaf : Leaf) (before : Between) (start end : ℕ) → leaf.stretches ≡ record { start = start; end = end } ∷ [] → start < end → end ≤ length reader.source
    → StandWhole reader.options reader.lookup leaf.is_cell (slice reader.source start end)
    → ReadsLeaf reader (IsNext all) leaf before (record { event = Text (slice reader.source start end); start = start; end = end } ∷ []) before
plain-leaf reader all leaf before start end one up within stand =
    let text = slice reader.source start end in
    let size = slice-size reader.source start end within in
    let last : IsLastLine text 0 text = record { some = omega (arith, size, up); part = refl } in
    subst (λ n. ReadsLeaf reader (IsNext all) leaf before (record { event = Text text; start = start; end = n } ∷ []) before) (let q : start + length text ≡ end = omega (arith, size, up) in q)
    (plain-lines reader all leaf before start end [] text one within (last, λ k le lt blank. stand k lt blank))

-- the lines are the text
pub joined-lines : (options : Options) (lookup : Lookup) (is_cell : Bool) (text : List ℕ) (at : ℕ) (lines : List (List ℕ)) (last : List ℕ) → ArePlainLines options lookup is_cell text at lines last → drop at text ≡ joined_lines lines last
joined-lines options lookup is_cell text at [] last h = h.0.part
joined-lines options lookup is_cell text at (line ∷ lines) last h =
    h.0.part ∙ ap (λ rest. line ++ 10 ∷ rest) (joined-lines options lookup is_cell text (suc (at + length line)) lines last h.2)

pub last-some : (options : Options) (lookup : Lookup) (is_cell : Bool) (text : List ℕ) (at : ℕ) (lines : List (List ℕ)) (last : List ℕ) → ArePlainLines options lookup is_cell text at lines last → 0 < length last
last-some options lookup is_cell text at [] last h = h.0.some
last-some options lookup is_cell text at (line ∷ lines) last h = last-some options lookup is_cell text (suc (at + length line)) lines last h.2
