-- The run that closes a code span is the first of its length.
use Rattle.std.proofs.Common.{◌≡◌, ◌≢◌, ℕ, zero, suc, ◌+◌, ◌-◌, ◌<◌, ◌≤◌, Bool, true, false, ◌==◌, ◌&&◌, not, cond, if◌then◌else◌, List, [], ◌∷◌, length, take, drop, get_or, Option, None, Some, refl, sym, ap, subst, ◌∙◌, arith, true≢false, eqb-true, eq-eqb, drop-drop, length-drop, length-take-le}
use Rattle.std.specs.List.{prefix_len}
use Rattle.std.proofs.lemmas.Bool.{and_parts}
use Rattle.std.proofs.lemmas.List.{get_or-drop}
use Rattle.std.proofs.lemmas.List.Sums.{prefix_len-le-length, prefix_len_passes, prefix_len_stops}
use Rattle.cmark_grammar.specs.CodeSpans.{is_backtick, backticks, up_to_run}
use Rattle.cmark_grammar.specs.LinkDefinitions.{Parsed, put}
use Rattle.cmark_span_scan.specs.Shown.{ClosesFirst}

-- a backtick is before that offset
abbrev pub before : (goes_on : Bool) → List ℕ → ℕ → Bool
before goes_on bs zero = goes_on
before goes_on bs (suc k) = is_backtick (get_or bs k 0)

shifted : (goes_on : Bool) (b : ℕ) (bs : List ℕ) (k : ℕ) → before goes_on (b ∷ bs) (suc k) ≡ before (is_backtick b) bs k
shifted goes_on b bs zero = refl
shifted goes_on b bs (suc k) = refl

pub record IsFirst (size : ℕ) (goes_on : Bool) (bs : List ℕ) (n : ℕ) : Type 0 where
  pub whole : backticks (drop n bs) ≡ size
  pub begins : before goes_on bs n ≡ false
  pub none : (k : ℕ) → k < n → before goes_on bs k ≡ false → backticks (drop k bs) ≢ size

not_true : (t : Bool) → not t ≡ true → t ≡ false
not_true true e = sym e
not_true false e = refl

put_some : (b : ℕ) (o : Option Parsed) (found : Parsed) → put b o ≡ Some found → (inner : Parsed) × (o ≡ Some inner) × (length found.bytes ≡ suc (length inner.bytes))
put_some b None found e = cc
put_some b (Some inner) found e = (inner, refl, size)
  where
    same : found ≡ (let other : Parsed = record { bytes = b ∷ inner.bytes; following = inner.following } in other)
    same = cc

    size : length found.bytes ≡ suc (length inner.bytes)
    size = ap (λ (f : Parsed). length f.bytes) same

module _ (size : ℕ) (some : 0 < size) where
  -- no run of this length begins here
  other_run : (b : ℕ) (bs : List ℕ) → (is_backtick b && (backticks (b ∷ bs) == size)) ≡ false → backticks (b ∷ bs) ≢ size
  other_run b bs e is = by_case (is_backtick b) refl
    where
      by_case : (t : Bool) → is_backtick b ≡ t → ⊥
      by_case true tick = true≢false (sym (eq-eqb (backticks (b ∷ bs)) size is) ∙ sym (ap (λ t. t && (backticks (b ∷ bs) == size)) tick) ∙ e)
      by_case false plain = let none : backticks (b ∷ bs) ≡ 0 = ap (λ t. cond t (1 + prefix_len is_backtick bs) 0) plain in omega (arith, some, is, none)

  pub first_run : (goes_on : Bool) (bs : List ℕ) (found : Parsed) → up_to_run size goes_on bs ≡ Some found → IsFirst size goes_on bs (length found.bytes)
  first_run goes_on [] found e = cc
  first_run goes_on (b ∷ bs) found e = by_case (is_backtick b && (not goes_on && (backticks (b ∷ bs) == size))) refl e (first_run (is_backtick b) bs)
    where
      here : (is_backtick b && (not goes_on && (backticks (b ∷ bs) == size))) ≡ true → IsFirst size goes_on (b ∷ bs) 0
      here t =
          let both = and_parts (not goes_on) (backticks (b ∷ bs) == size) (and_parts (is_backtick b) (not goes_on && (backticks (b ∷ bs) == size)) t).1 in
          record { whole = eqb-true (backticks (b ∷ bs)) size both.1; begins = not_true goes_on both.0; none = λ k lt. absurd (omega arith) }

      later : (is_backtick b && (not goes_on && (backticks (b ∷ bs) == size))) ≡ false → (n : ℕ) → IsFirst size (is_backtick b) bs n → IsFirst size goes_on (b ∷ bs) (suc n)
      later t n i = record { whole = i.whole; begins = shifted goes_on b bs n ∙ i.begins; none = none }
        where
          none : (k : ℕ) → k < suc n → before goes_on (b ∷ bs) k ≡ false → backticks (drop k (b ∷ bs)) ≢ size
          none zero lt e = other_run b bs (ap (λ g. is_backtick b && (not g && (backticks (b ∷ bs) == size))) (sym e) ∙ t)
          none (suc k) lt e = i.none k (omega arith) (sym (shifted goes_on b bs k) ∙ e)

      by_case : (t : Bool) → (is_backtick b && (not goes_on && (backticks (b ∷ bs) == size))) ≡ t
          → (if t then Some (let found : Parsed = record { bytes = []; following = b ∷ bs } in found) else put b (up_to_run size (is_backtick b) bs)) ≡ Some found
          → ((inner : Parsed) → up_to_run size (is_backtick b) bs ≡ Some inner → IsFirst size (is_backtick b) bs (length inner.bytes)) → IsFirst size goes_on (b ∷ bs) (length found.bytes)
      by_case true t q further =
          let same : (let other : Parsed = record { bytes = []; following = b ∷ bs } in other) ≡ found = cc in
          subst (λ (f : Parsed). IsFirst size goes_on (b ∷ bs) (length f.bytes)) same (here t)
      by_case false t q further =
          let p = put_some b (up_to_run size (is_backtick b) bs) found q in
          subst (IsFirst size goes_on (b ∷ bs)) (sym p.2) (later t (length p.0.bytes) (further p.0 p.1))

-- in the text
module _ (text run inside : List ℕ) (at size content : ℕ) (cut : run ≡ drop at text) (is : size ≡ backticks run) (some : size ≡ 0 → ⊥) (following : inside ≡ drop size run) (le : content ≤ length inside)
    (found : Some (let found : Parsed = record { bytes = take content inside; following = drop content inside } in found) ≡ up_to_run size false inside) where
  first : IsFirst size false inside content
  first = subst (IsFirst size false inside) (length-take-le content inside le) (first_run size (omega (arith, some)) false inside (record { bytes = take content inside; following = drop content inside }) (sym found))

  there : inside ≡ drop (at + size) text
  there = following ∙ ap (drop size) cut ∙ drop-drop size at text

  byte : (j : ℕ) → get_or text (at + size + j) 0 ≡ get_or inside j 0
  byte j = sym (get_or-drop (at + size) text j 0) ∙ ap (λ (l : List ℕ). get_or l j 0) (sym there)

  rest : (j : ℕ) → drop (at + size + j) text ≡ drop j inside
  rest j = sym (drop-drop j (at + size) text) ∙ ap (drop j) (sym there)

  opener : size ≡ backticks (drop at text)
  opener = is ∙ ap backticks cut

  -- the last byte of the opening run
  last_tick : is_backtick (get_or text (at + size - 1) 0) ≡ true
  last_tick =
      ap (λ k. is_backtick (get_or text k 0)) (let e : at + size - 1 ≡ at + (size - 1) = omega (arith, some) in e)
      ∙ ap is_backtick (sym (get_or-drop at text (size - 1) 0))
      ∙ prefix_len_passes is_backtick (drop at text) (size - 1) 0 (omega (arith, opener, some))

  -- no backtick follows it
  no_tick : backticks inside ≡ size → ⊥
  no_tick whole =
      let high = prefix_len-le-length is_backtick inside in
      let l = ap length following ∙ length-drop size run in
      let tick : is_backtick (get_or inside 0 0) ≡ true = prefix_len_passes is_backtick inside 0 0 (omega (arith, whole, some)) in
      let same : get_or inside 0 0 ≡ get_or run (backticks run) 0 =
      ap (λ (l : List ℕ). get_or l 0 0) following ∙ get_or-drop size run 0 0 ∙ ap (λ k. get_or run k 0) (let e : size + 0 ≡ backticks run = omega (arith, is) in e) in
      true≢false (sym tick ∙ ap is_backtick same ∙ prefix_len_stops is_backtick run 0 (omega (arith, is, whole, high, l, some)))

  nonempty : content ≡ 0 → ⊥
  nonempty none = no_tick (ap (λ n. backticks (drop n inside)) (sym none) ∙ first.whole)

  before_in : (j : ℕ) → 0 < j → is_backtick (get_or text (at + size + j - 1) 0) ≡ before false inside j
  before_in zero lt = absurd (omega arith)
  before_in (suc j) lt = ap (λ k. is_backtick (get_or text k 0)) (let e : at + size + suc j - 1 ≡ at + size + j = omega arith in e) ∙ ap is_backtick (byte j)

  pub closes_first : ClosesFirst text at (record { content_start = at + size; content_end = at + size + content; end = at + size + content + size })
  closes_first = record {
    begins = before_in content (omega (arith, nonempty)) ∙ first.begins;
    whole = ap backticks (rest content) ∙ first.whole ∙ opener;
    first = none;
  }
    where
      inner : (j : ℕ) → j < content → is_backtick (get_or text (at + size + j - 1) 0) ≡ false → backticks (drop (at + size + j) text) ≢ backticks (drop at text)
      inner zero lt e same = true≢false (sym last_tick ∙ ap (λ k. is_backtick (get_or text k 0)) (let n : at + size - 1 ≡ at + size + 0 - 1 = omega arith in n) ∙ e)
      inner (suc j) lt e same = first.none (suc j) lt (sym (before_in (suc j) (omega arith)) ∙ e) (ap backticks (sym (rest (suc j))) ∙ same ∙ sym opener)

      none : (k : ℕ) → at + size ≤ k → k < at + size + content → is_backtick (get_or text (k - 1) 0) ≡ false → backticks (drop k text) ≢ backticks (drop at text)
      none k low high e same =
          let sum : at + size + (k - (at + size)) ≡ k = omega arith in
          inner (k - (at + size)) (omega arith) (ap (λ n. is_backtick (get_or text (n - 1) 0)) sum ∙ e) (ap (λ n. backticks (drop n text)) sum ∙ same)
