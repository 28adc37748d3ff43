-- The tokens of a text that is read as a leaf of one stretch.
use Rattle.std.specs.Prelude.{Option, Some, None, option_map, max, if◌then◌else◌}
use Rattle.std.specs.Option.{option_or}
use Rattle.std.proofs.Common.{◌≡◌, ◌⊎◌, inl, inr, ℕ, zero, suc, ◌+◌, ◌-◌, ◌<◌, ◌≤◌, ◌==◌, ◌&&◌, Bool, true, false, List, [], ◌∷◌, length, take, drop, get_or, refl, sym, ap, subst, ◌∙◌, arith, cond, eqb-true, length-drop, drop-drop, true≢false}
use Rattle.std.specs.List.{take_while}
use Rattle.std.proofs.Math.Seq.{drop-cons}
use Rattle.std.proofs.lemmas.Bool.{or_cases, false_from_ne_true}
use Rattle.std.proofs.lemmas.Slice.Eq.{bytes_eq-Decides}
use Rattle.std.proofs.lemmas.List.{append-nil, get_or-drop, length-take-le}
use Rattle.cmark_grammar.specs.Answers.{Lookup}
use Rattle.cmark_grammar.specs.CodeSpans.{is_backtick, backticks, code_in, up_to_run, after_run}
use Rattle.cmark_grammar.specs.Columns.{is_blank_byte}
use Rattle.cmark_grammar.specs.InlineTokens.{item_at, break_or, break_to, code_or, entity_or, escape_at, escaped_backtick, from, size_to, begins}
use Rattle.cmark_grammar.specs.Items.{SoftBreak, HardBreak, Plain, Own, Token, Stands}
use Rattle.cmark_grammar.specs.LabelsOverLines.{piped}
use Rattle.cmark_grammar.specs.Letters.{first_is, starts, after_while, after_if, and_then}
use Rattle.cmark_grammar.specs.LineBreaks.{LineBreak, hard_break, ends_with_two_spaces, blank_break, backslash_break_in, blank_break_in, line_break_in}
use Rattle.cmark_grammar.specs.LinkDefinitions.{after_leading_blanks}
use Rattle.cmark_grammar.specs.Options.{Options}
use Rattle.cmark_grammar.specs.Readers.{Reader}
use Rattle.cmark_grammar.specs.Tags.{after_ending}
use Rattle.cmark_grammar.specs.Tokens.{entity_in, is_punctuation, slice}
use Rattle.cmark_scan_bytes.proofs.Lists.{rest_of}
use Rattle.cmark_link_scan.specs.Shown.{shown_break}
use Rattle.cmark_link_scan.specs.declared.breaks.LineBreak as find
use Rattle.cmark_inline.specs.Tokens.{whole, reading, begins_at, read_on}
use Rattle.cmark_inline.proofs.Bytes.{blanks-are, following-are}

-- a byte at which a line break may begin: a blank or a line ending
abbrev pub IsBreakByte : ℕ → Type 0
IsBreakByte b = (b ≡ 32) ⊎ ((b ≡ 9) ⊎ ((b ≡ 10) ⊎ (b ≡ 13)))

pub blank-breaks : (b : ℕ) → is_blank_byte b ≡ true → IsBreakByte b
blank-breaks b e = go (or_cases (b == 32) (b == 9) e)
  where
    go : ((b == 32) ≡ true) ⊎ ((b == 9) ≡ true) → IsBreakByte b
    go (inl h) = inl (eqb-true b 32 h)
    go (inr h) = inr (inl (eqb-true b 9 h))

-- without a dollar sign, no formula is read
pub unsigned : {A : Type 0} (z : Bool) (x y : A) → (if z && false then x else y) ≡ y
unsigned true x y = refl
unsigned false x y = refl

module _ (o : Options) (l : Lookup) (cell : Bool) (text : List ℕ) where
  abbrev r : Reader
  r = reading o l text

  pub from-is : (at : ℕ) → from r (whole cell text) at ≡ drop at text
  from-is at = append-nil (slice text (max at 0) (length text)) ∙ ap (λ m. slice text m (length text)) (let e : max at 0 ≡ at = omega arith in e) ∙ rest_of text at

  pub front : (at b : ℕ) → at < length text → get_or text at 0 ≡ b → drop at text ≡ b ∷ drop (suc at) text
  front at b lt is = drop-cons text at 0 lt ∙ ap (λ x. x ∷ drop (suc at) text) is

  pub begins-with : (at b : ℕ) → at < length text → get_or text at 0 ≡ b → begins_at o l cell text at ≡ begins r (whole cell text) at (b ∷ drop (suc at) text)
  begins-with at b lt is = ap (begins r (whole cell text) at) (from-is at ∙ front at b lt is)

  -- ## Entities and code spans
  pub entity-begins : (at : ℕ) → at < length text → get_or text at 0 ≡ 38 → begins_at o l cell text at ≡ entity_or r (whole cell text) at (entity_in l (drop (suc at) text))
  entity-begins at lt is = begins-with at 38 lt is

  pub code-begins : (at : ℕ) → at < length text → get_or text at 0 ≡ 96 → begins_at o l cell text at ≡ code_or r (whole cell text) at (backticks (drop at text)) (code_in (drop at text))
  code-begins at lt is = begins-with at 96 lt is ∙ ap (λ x. code_or r (whole cell text) at (backticks x) (code_in x)) (sym (front at 96 lt is))

  -- ## Line breaks
  pub break-begins : (at : ℕ) → at < length text → IsBreakByte (get_or text at 0) → begins_at o l cell text at ≡ break_or r (whole cell text) at (blank_break_in (drop at text)) (item_at Plain at (suc at))
  break-begins at lt (inl is) = begins-with at 32 lt is ∙ ap (λ x. break_or r (whole cell text) at (blank_break_in x) (item_at Plain at (suc at))) (sym (front at 32 lt is))
  break-begins at lt (inr (inl is)) = begins-with at 9 lt is ∙ ap (λ x. break_or r (whole cell text) at (blank_break_in x) (item_at Plain at (suc at))) (sym (front at 9 lt is))
  break-begins at lt (inr (inr (inl is))) = begins-with at 10 lt is ∙ ap (λ x. break_or r (whole cell text) at (blank_break_in x) (item_at Plain at (suc at))) (sym (front at 10 lt is))
  break-begins at lt (inr (inr (inr is))) = begins-with at 13 lt is ∙ ap (λ x. break_or r (whole cell text) at (blank_break_in x) (item_at Plain at (suc at))) (sym (front at 13 lt is))

  pub slash-begins : (at : ℕ) → at < length text → get_or text at 0 ≡ 92 → begins_at o l cell text at ≡ break_or r (whole cell text) at (backslash_break_in (drop at text)) (escape_at r (whole cell text) at (drop (suc at) text))
  slash-begins at lt is = begins-with at 92 lt is ∙ ap (λ x. break_or r (whole cell text) at (backslash_break_in x) (escape_at r (whole cell text) at (drop (suc at) text))) (sym (front at 92 lt is))

  -- a break ends with its line ending
  pub break-stands : (at end : ℕ) (found : LineBreak) (other : Token) → at ≤ end → end ≤ length text → found.following ≡ drop end text
      → break_or r (whole cell text) at (Some found) other ≡ Stands (record { kind = if found.is_hard then HardBreak else SoftBreak; start = at + found.before; end = end }) (read_on text end)
  break-stands at end found other le within is =
      let a = ap length (from-is at) in
      let b = length-drop at text in
      let c = ap length is in
      let d = length-drop end text in
      ap (break_to r (whole cell text) at found) (let e : at + size_to r (whole cell text) at found.following ≡ end = omega (arith, a, b, c, d, le, within) in e)

  -- the token at the blanks from `at` on before the line ending at `place`
  pub line-token : (at place end : ℕ) → at ≤ place → place < length text → place ≤ end → end ≤ length text
      → ((k : ℕ) → at ≤ k → k < place → is_blank_byte (get_or text k 0) ≡ true) → (get_or text place 0 ≡ 10) ⊎ (get_or text place 0 ≡ 13)
      → after_ending (drop place text) ≡ Some (drop end text)
      → begins_at o l cell text at ≡ Stands (record {
        kind = if ends_with_two_spaces (slice text at place) then HardBreak else SoftBreak;
        start = if ends_with_two_spaces (slice text at place) then at else place;
        end = end;
      }) (read_on text end)
  line-token at place end le lt order within blanks ends following =
      break-begins at (let q : at < length text = omega (arith, le, lt) in q) (first (places at place le))
      ∙ ap (λ x. break_or r (whole cell text) at x (item_at Plain at (suc at))) found
      ∙ break-stands at end (blank_break (slice text at place) (drop end text)) (item_at Plain at (suc at)) (let q : at ≤ end = omega (arith, le, order) in q) within (by-following (ends_with_two_spaces (slice text at place)))
      ∙ by-kind (ends_with_two_spaces (slice text at place))
    where
      n : ℕ
      n = place - at

      places : (a b : ℕ) → a ≤ b → (a ≡ b) ⊎ (a < b)
      places zero zero h = inl refl
      places zero (suc b) h = inr (omega arith)
      places (suc a) zero h = absurd (omega (arith, h))
      places (suc a) (suc b) h = go (places a b (let q : a ≤ b = omega (arith, h) in q))
        where
          go : (a ≡ b) ⊎ (a < b) → (suc a ≡ suc b) ⊎ (suc a < suc b)
          go (inl e) = inl (ap suc e)
          go (inr e) = inr (let q : suc a < suc b = omega (arith, e) in q)

      ending : (b : ℕ) → (b ≡ 10) ⊎ (b ≡ 13) → IsBreakByte b
      ending b (inl e) = inr (inr (inl e))
      ending b (inr e) = inr (inr (inr e))

      first : (at ≡ place) ⊎ (at < place) → IsBreakByte (get_or text at 0)
      first (inl e) = subst (λ k. IsBreakByte (get_or text k 0)) (sym e) (ending (get_or text place 0) ends)
      first (inr h) = blank-breaks (get_or text at 0) (blanks at (omega arith) h)

      bs : List ℕ
      bs = drop at text

      here : (k : ℕ) → get_or bs k 0 ≡ get_or text (at + k) 0
      here k = get_or-drop at text k 0

      all : (k : ℕ) → k < n → is_blank_byte (get_or bs k 0) ≡ true
      all k h = ap is_blank_byte (here k) ∙ blanks (at + k) (let q : at ≤ at + k = omega arith in q) (let q : at + k < place = omega (arith, h, le) in q)

      no-blank : (b : ℕ) → (b ≡ 10) ⊎ (b ≡ 13) → is_blank_byte b ≡ false
      no-blank b (inl e) = ap is_blank_byte e
      no-blank b (inr e) = ap is_blank_byte e

      last : is_blank_byte (get_or bs n 0) ≡ false
      last = ap is_blank_byte (here n ∙ ap (λ k. get_or text k 0) (let q : at + n ≡ place = omega (arith, le) in q)) ∙ no-blank (get_or text place 0) ends

      fits : n ≤ length bs
      fits = let d = length-drop at text in let q : n ≤ length bs = omega (arith, d, le, lt) in q

      found : blank_break_in bs ≡ Some (blank_break (slice text at place) (drop end text))
      found =
          ap (λ x. option_map (blank_break x) (after_ending (after_leading_blanks bs))) (blanks-are bs n fits all last)
          ∙ ap (λ x. option_map (blank_break (slice text at place)) (after_ending x)) (following-are bs n fits all last ∙ drop-drop n at text ∙ ap (λ k. drop k text) (let q : at + n ≡ place = omega (arith, le) in q))
          ∙ ap (option_map (blank_break (slice text at place))) following

      soft : LineBreak
      soft = record { is_hard = false; before = length (slice text at place); following = drop end text }

      by-following : (z : Bool) → (if z then hard_break (drop end text) else soft).following ≡ drop end text
      by-following true = refl
      by-following false = refl

      size : at + length (slice text at place) ≡ place
      size = let m = length-take-le n bs fits in let q : at + length (take n bs) ≡ place = omega (arith, m, le) in q

      by-kind : (z : Bool) → ◌≡◌ {A = Token}
          (Stands (record { kind = if (if z then hard_break (drop end text) else soft).is_hard then HardBreak else SoftBreak; start = at + (if z then hard_break (drop end text) else soft).before; end = end }) (read_on text end))
          (Stands (record { kind = if z then HardBreak else SoftBreak; start = if z then at else place; end = end }) (read_on text end))
      by-kind true = ap (λ s. Stands (record { kind = HardBreak; start = s; end = end }) (read_on text end)) (let q : at + 0 ≡ at = omega arith in q)
      by-kind false = ap (λ s. Stands (record { kind = SoftBreak; start = s; end = end }) (read_on text end)) size

-- ## The break that the code found
break-end : (text : List ℕ) (at : ℕ) (found : find.LineBreak) (m : Option (List ℕ)) (make : List ℕ → LineBreak) → ((b : List ℕ) → (make b).following ≡ b)
    → Some (shown_break text at found) ≡ option_map make m → m ≡ Some (drop found.end text)
break-end text at found None make is e = absurd (none e)
  where
    none : Some (shown_break text at found) ≡ None → ⊥
    none q = let z : ⊥ = cc in z
break-end text at found (Some b) make is e = ap Some (sym (is b) ∙ sym (ap (λ (x : LineBreak). x.following) (some e)))
  where
    some : Some (shown_break text at found) ≡ Some (make b) → shown_break text at found ≡ make b
    some q = let z : shown_break text at found ≡ make b = cc in z

module _ (text : List ℕ) (at : ℕ) (lt : at < length text) where
  no-more : {A : Type 0} (x : Option A) → option_or x None ≡ x
  no-more None = refl
  no-more (Some x) = refl

  -- the break at the line ending there
  pub found-at-ending : (found : find.LineBreak) → (get_or text at 0 ≡ 10) ⊎ (get_or text at 0 ≡ 13) → option_map (shown_break text at) (Some found) ≡ line_break_in (drop at text) → after_ending (drop at text) ≡ Some (drop found.end text)
  found-at-ending found ends e = break-end text at found (after_ending (drop at text)) (blank_break []) (λ b. either b (ends_with_two_spaces [])) (e ∙ is ends)
    where
      either : (b : List ℕ) (z : Bool) → (if z then hard_break b else record { is_hard = false; before = 0; following = b }).following ≡ b
      either b true = refl
      either b false = refl

      at-ending : (b : ℕ) (bs : List ℕ) → is_blank_byte b ≡ false → blank_break_in (b ∷ bs) ≡ option_map (blank_break []) (after_ending (b ∷ bs))
      at-ending b bs q =
          ap (λ x. option_map (blank_break x) (after_ending (after_leading_blanks (b ∷ bs)))) (blanks-are (b ∷ bs) 0 (omega arith) (λ k h. absurd (omega (arith, h))) q)
          ∙ ap (λ x. option_map (blank_break []) (after_ending x)) (following-are (b ∷ bs) 0 (omega arith) (λ k h. absurd (omega (arith, h))) q)

      is : (get_or text at 0 ≡ 10) ⊎ (get_or text at 0 ≡ 13) → line_break_in (drop at text) ≡ option_map (blank_break []) (after_ending (drop at text))
      is (inl b) =
          let f : drop at text ≡ 10 ∷ drop (suc at) text = drop-cons text at 0 lt ∙ ap (λ x. x ∷ drop (suc at) text) b in
          ap line_break_in f ∙ at-ending 10 (drop (suc at) text) refl ∙ ap (λ x. option_map (blank_break []) (after_ending x)) (sym f)
      is (inr b) =
          let f : drop at text ≡ 13 ∷ drop (suc at) text = drop-cons text at 0 lt ∙ ap (λ x. x ∷ drop (suc at) text) b in
          ap line_break_in f ∙ at-ending 13 (drop (suc at) text) refl ∙ ap (λ x. option_map (blank_break []) (after_ending x)) (sym f)

  -- the break at the backslash there
  pub line-at-slash : get_or text at 0 ≡ 92 → line_break_in (drop at text) ≡ backslash_break_in (drop at text)
  line-at-slash b =
      let f : drop at text ≡ 92 ∷ drop (suc at) text = drop-cons text at 0 lt ∙ ap (λ x. x ∷ drop (suc at) text) b in
      ap line_break_in f
      ∙ ap (option_or (backslash_break_in (92 ∷ drop (suc at) text)))
      (ap (λ x. option_map (blank_break (take_while is_blank_byte (92 ∷ drop (suc at) text))) (after_ending x)) (following-are (92 ∷ drop (suc at) text) 0 (omega arith) (λ k h. absurd (omega (arith, h))) refl))
      ∙ no-more (backslash_break_in (92 ∷ drop (suc at) text)) ∙ ap backslash_break_in (sym f)

  -- the hard break that begins with the backslash
  pub slash-break-following : get_or text at 0 ≡ 92 → (found : find.LineBreak) → option_map (shown_break text at) (Some found) ≡ line_break_in (drop at text) → backslash_break_in (drop at text) ≡ Some (hard_break (drop found.end text))
  slash-break-following b found e =
      let m : Option (List ℕ) = and_then (after_if (λ c. c == 92) (drop at text)) after_ending in
      ap (option_map hard_break) (break-end text at found m hard_break (λ x. refl) (e ∙ line-at-slash b))

-- ## Escapes
tick-first : (bs : List ℕ) → first_is is_punctuation bs ≡ false → first_is is_backtick bs ≡ false
tick-first [] e = refl
tick-first (b ∷ bs) e = go (b == 96) refl
  where
    go : (z : Bool) → (b == 96) ≡ z → (b == 96) ≡ false
    go false q = q
    go true q = absurd (true≢false (sym (ap is_punctuation (eqb-true b 96 q)) ∙ e))

-- an escaped pipe begins with a backslash
front-of-pipe : (bs : List ℕ) → starts piped bs ≡ true → get_or bs 0 0 ≡ 92
front-of-pipe bs e = sym (get_or-take-first bs) ∙ ap (λ (l : List ℕ). get_or l 0 0) ((bytes_eq-Decides (take 2 bs) piped).0 e)
  where
    get_or-take-first : (bs : List ℕ) → get_or (take 2 bs) 0 0 ≡ get_or bs 0 0
    get_or-take-first [] = refl
    get_or-take-first (b ∷ bs) = refl

pipe-no-tick : (bs : List ℕ) → starts piped bs ≡ true → first_is is_backtick bs ≡ false
pipe-no-tick [] e = refl
pipe-no-tick (b ∷ bs) e = ap is_backtick (front-of-pipe (b ∷ bs) e)

pipe-first : (cell : Bool) (bs : List ℕ) → first_is is_punctuation bs ≡ false → (cell && starts piped bs) ≡ false
pipe-first false bs e = refl
pipe-first true [] e = refl
pipe-first true (b ∷ bs) e = false_from_ne_true (starts piped (b ∷ bs)) (λ t. true≢false (sym (ap is_punctuation (front-of-pipe (b ∷ bs) t)) ∙ e))

one-tick : (bs : List ℕ) → backticks bs ≡ 1 → (first_is is_backtick bs ≡ true) × (backticks (drop 1 bs) ≡ 0)
one-tick [] e = absurd (omega (arith, e))
one-tick (b ∷ bs) e = go (is_backtick b) refl
  where
    go : (z : Bool) → is_backtick b ≡ z → (is_backtick b ≡ true) × (backticks bs ≡ 0)
    go true q = let n : 1 + backticks bs ≡ 1 = sym (ap (λ t. cond t (1 + backticks bs) 0) q) ∙ e in (q, (let m : backticks bs ≡ 0 = omega (arith, n) in m))
    go false q = let n : 0 ≡ 1 = sym (ap (λ t. cond t (1 + backticks bs) 0) q) ∙ e in absurd (omega (arith, n))

pub some-ticks : (bs : List ℕ) → first_is is_backtick bs ≡ true → (backticks bs == 1) ≡ false → 1 < backticks bs
some-ticks [] e f = absurd (true≢false (sym e))
some-ticks (b ∷ bs) e f = go (backticks bs) refl
  where
    size : backticks (b ∷ bs) ≡ 1 + backticks bs
    size = ap (λ t. cond t (1 + backticks bs) 0) e

    go : (n : ℕ) → backticks bs ≡ n → 1 < backticks (b ∷ bs)
    go zero q = absurd (true≢false (sym (ap (λ m. m == 1) (size ∙ ap (λ m. 1 + m) q)) ∙ f))
    go (suc n) q = omega (arith, size, q)

module _ (o : Options) (l : Lookup) (cell : Bool) (text : List ℕ) (at : ℕ) (lt : at < length text) (is : get_or text at 0 ≡ 92) where
  abbrev rest : List ℕ
  rest = drop (suc at) text

  abbrev by_first : (tick pipe punctuation : Bool) → Token
  by_first tick pipe punctuation =
      if tick then escaped_backtick (reading o l text) (whole cell text) (suc at) (backticks rest) (code_in (drop 1 rest))
      else if pipe then item_at Plain (at + 2) (at + 3)
      else if punctuation then item_at Plain (suc at) (at + 2)
      else item_at Plain at (suc at)

  escaped : backslash_break_in (drop at text) ≡ None → begins_at o l cell text at ≡ by_first (first_is is_backtick rest) (cell && starts piped rest) (first_is is_punctuation rest)
  escaped none = slash-begins o l cell text at lt is ∙ ap (λ x. break_or (reading o l text) (whole cell text) at x (escape_at (reading o l text) (whole cell text) at rest)) none

  next-is : drop (at + 1) text ≡ rest
  next-is = ap (λ k. drop k text) (let e : at + 1 ≡ suc at = omega arith in e)

  -- a backslash that escapes nothing
  pub slash-stands : backslash_break_in (drop at text) ≡ None → first_is is_punctuation (drop (at + 1) text) ≡ false → begins_at o l cell text at ≡ item_at Plain at (at + 1)
  slash-stands none e =
      let p : first_is is_punctuation rest ≡ false = sym (ap (first_is is_punctuation) next-is) ∙ e in
      escaped none ∙ ap (λ z. by_first z (cell && starts piped rest) (first_is is_punctuation rest)) (tick-first rest p)
      ∙ ap (λ z. by_first false z (first_is is_punctuation rest)) (pipe-first cell rest p) ∙ ap (by_first false false) p
      ∙ ap (item_at Plain at) (let q : suc at ≡ at + 1 = omega arith in q)

  -- a backslash that escapes a byte other than a backtick. In a table's cell, no second backslash with a pipe follows
  pub slash-escapes : backslash_break_in (drop at text) ≡ None → first_is is_backtick (drop (at + 1) text) ≡ false → (cell && starts piped (drop (at + 1) text)) ≡ false → first_is is_punctuation (drop (at + 1) text) ≡ true → begins_at o l cell text at ≡ item_at Plain (at + 1) (at + 2)
  slash-escapes none t f e =
      let p : first_is is_punctuation rest ≡ true = sym (ap (first_is is_punctuation) next-is) ∙ e in
      let q : first_is is_backtick rest ≡ false = sym (ap (first_is is_backtick) next-is) ∙ t in
      let n : (cell && starts piped rest) ≡ false = sym (ap (λ bs. cell && starts piped bs) next-is) ∙ f in
      escaped none ∙ ap (λ z. by_first z (cell && starts piped rest) (first_is is_punctuation rest)) q ∙ ap (λ z. by_first false z (first_is is_punctuation rest)) n ∙ ap (by_first false false) p
      ∙ ap (λ s. item_at Plain s (at + 2)) (let n : suc at ≡ at + 1 = omega arith in n)

  -- a backslash before another one and a pipe, in a table's cell
  pub slash-pipe : backslash_break_in (drop at text) ≡ None → cell ≡ true → starts piped (drop (at + 1) text) ≡ true → begins_at o l cell text at ≡ item_at Plain (at + 2) (at + 3)
  slash-pipe none c e =
      let p : starts piped rest ≡ true = sym (ap (starts piped) next-is) ∙ e in
      escaped none ∙ ap (λ z. by_first z (cell && starts piped rest) (first_is is_punctuation rest)) (pipe-no-tick rest p)
      ∙ ap (λ z. by_first false (z && starts piped rest) (first_is is_punctuation rest)) c ∙ ap (λ z. by_first false z (first_is is_punctuation rest)) p

  -- a backslash that escapes the first backtick of a run
  pub slash-run : backslash_break_in (drop at text) ≡ None → first_is is_backtick (drop (at + 1) text) ≡ true
      → begins_at o l cell text at ≡ escaped_backtick (reading o l text) (whole cell text) (at + 1) (backticks (drop (at + 1) text)) (code_in (drop (at + 2) text))
  slash-run none t =
      let q : first_is is_backtick rest ≡ true = sym (ap (first_is is_backtick) next-is) ∙ t in
      escaped none ∙ ap (λ z. by_first z (cell && starts piped rest) (first_is is_punctuation rest)) q
      ∙ ap (λ s. escaped_backtick (reading o l text) (whole cell text) s (backticks (drop s text)) (code_in (drop 1 (drop s text)))) (let n : suc at ≡ at + 1 = omega arith in n)
      ∙ ap (λ x. escaped_backtick (reading o l text) (whole cell text) (at + 1) (backticks (drop (at + 1) text)) (code_in x))
      (drop-drop 1 (at + 1) text ∙ ap (λ k. drop k text) (let n : at + 1 + 1 ≡ at + 2 = omega arith in n))

  -- a backslash that escapes a single backtick
  pub slash-lone : backslash_break_in (drop at text) ≡ None → backticks (drop (at + 1) text) ≡ 1 → begins_at o l cell text at ≡ item_at Own (at + 1) (at + 2)
  slash-lone none e =
      let one : backticks rest ≡ 1 = sym (ap backticks next-is) ∙ e in
      let t = one-tick rest one in
      escaped none ∙ ap (λ z. by_first z (cell && starts piped rest) (first_is is_punctuation rest)) t.0
      ∙ ap (λ n. escaped_backtick (reading o l text) (whole cell text) (suc at) n (code_in (drop 1 rest))) one
      ∙ ap (escaped_backtick (reading o l text) (whole cell text) (suc at) 1) (no-code t.1)
      ∙ ap (λ s. item_at Own s (s + 1)) (let n : suc at ≡ at + 1 = omega arith in n)
      ∙ ap (item_at Own (at + 1)) (let n : at + 1 + 1 ≡ at + 2 = omega arith in n)
    where
      no-code : backticks (drop 1 rest) ≡ 0 → code_in (drop 1 rest) ≡ None
      no-code z = ap (λ n. if n == 0 then None else option_map (after_run n) (up_to_run n false (after_while is_backtick (drop 1 rest)))) z
