-- Runs of backticks that are listed.
use Rattle.std.proofs.Common.{◌≡◌, ◌⊎◌, inl, inr, ℕ, zero, suc, ◌+◌, ◌-◌, ◌<◌, ◌≤◌, Bool, true, false, ◌==◌, if◌then◌else◌, List, length, drop, get_or, Option, None, Some, refl, sym, ap, subst, ◌∙◌, arith, true≢false, drop-drop, length-drop}
use Rattle.std.specs.Prelude.{option_map}
use Rattle.std.proofs.lemmas.Bool.{cases_lt, false_from_ne_true}
use Rattle.std.proofs.lemmas.List.{get_or-drop}
use Rattle.std.proofs.lemmas.List.Sums.{prefix_len-le-length, prefix_len_passes, prefix_len_stops}
use Rattle.memchr.specs.Find.{IsFirstByte, is_byte}
use Rattle.cmark_grammar.specs.CodeSpans.{is_backtick, backticks, after_run, code_in, up_to_run}
use Rattle.cmark_grammar.specs.LinkDefinitions.{Parsed}
use Rattle.cmark_span_scan.specs.Backticks.{AreListed, IsListed}
use Rattle.cmark_span_scan.proofs.FirstRun.{IsFirst, first_run}

-- a run begins inside the text
some_inside : (text : List ℕ) (k : ℕ) → 0 < backticks (drop k text) → k < length text
some_inside text k some =
    let le = prefix_len-le-length is_backtick (drop k text) in
    let l = length-drop k text in
    omega (arith, some, le, l)

-- no backtick follows a run
run_stops : (run : List ℕ) → backticks (drop (backticks run) run) ≡ 0
run_stops run = go (backticks (drop (backticks run) run)) refl
  where
    go : (n : ℕ) → backticks (drop (backticks run) run) ≡ n → backticks (drop (backticks run) run) ≡ 0
    go zero e = e
    go (suc n) e =
        let some : 0 < backticks (drop (backticks run) run) = omega (arith, e) in
        let tick : is_backtick (get_or (drop (backticks run) run) 0 0) ≡ true = prefix_len_passes is_backtick (drop (backticks run) run) 0 0 some in
        let there : get_or (drop (backticks run) run) 0 0 ≡ get_or run (backticks run) 0 =
        get_or-drop (backticks run) run 0 0 ∙ ap (λ k. get_or run k 0) (let z : backticks run + 0 ≡ backticks run = omega arith in z) in
        absurd (true≢false (sym tick ∙ ap is_backtick there ∙ prefix_len_stops is_backtick run 0 (some_inside run (backticks run) some)))

module _ (text last : List ℕ) (from at : ℕ) (listed : AreListed text last from (length text)) (low : from ≤ at) where
  Opener : List ℕ
  Opener = drop at text

  none_closes : (size : ℕ) → size ≡ backticks (drop at text) → 0 < size → (size < length last → get_or last size 0 ≤ at) → (found : Parsed) → up_to_run size false (drop size (drop at text)) ≡ Some found → ⊥
  none_closes size is some gone found e = go (length found.bytes) (first_run size some false (drop size (drop at text)) found e)
    where
      go : (n : ℕ) → IsFirst size false (drop size (drop at text)) n → ⊥
      go zero h =
          let none : backticks (drop size (drop at text)) ≡ 0 = ap (λ n. backticks (drop n (drop at text))) is ∙ run_stops (drop at text) in
          let same : backticks (drop size (drop at text)) ≡ size = h.whole in
          omega (arith, none, same, some)
      go (suc k) h =
          let there : drop size (drop at text) ≡ drop (at + size) text = drop-drop size at text in
          let whole : backticks (drop (at + size + suc k) text) ≡ size =
          ap backticks (sym (drop-drop (suc k) (at + size) text) ∙ ap (drop (suc k)) (sym there)) ∙ h.whole in
          let byte : get_or text (at + size + suc k - 1) 0 ≡ get_or (drop size (drop at text)) k 0 =
          ap (λ n. get_or text n 0) (let z : at + size + suc k - 1 ≡ at + size + k = omega arith in z) ∙ sym (get_or-drop (at + size) text k 0) ∙ ap (λ (l : List ℕ). get_or l k 0) (sym there) in
          let begins : is_backtick (get_or (drop size (drop at text)) k 0) ≡ false = h.begins in
          let some_there : 0 < backticks (drop (at + size + suc k) text) = omega (arith, whole, some) in
          let entry : IsListed last (at + size + suc k) size =
          subst (IsListed last (at + size + suc k)) whole
          (listed (at + size + suc k) (omega (arith, low)) (some_inside text (at + size + suc k) some_there) (ap is_backtick byte ∙ begins) some_there) in
          omega (arith, entry.following, gone entry.known)

  lacking_run : (backticks (drop at text) < length last → get_or last (backticks (drop at text)) 0 ≤ at) → code_in (drop at text) ≡ None
  lacking_run gone = go (backticks (drop at text) == 0) refl
    where
      size : ℕ
      size = backticks (drop at text)

      other : (o : Option Parsed) → up_to_run (backticks (drop at text)) false (drop (backticks (drop at text)) (drop at text)) ≡ o → 0 < backticks (drop at text) → option_map (after_run (backticks (drop at text))) o ≡ None
      other None e some = refl
      other (Some found) e some = absurd (none_closes (backticks (drop at text)) refl some gone found e)

      positive : (n : ℕ) → (n == 0) ≡ false → 0 < n
      positive zero e = absurd (true≢false e)
      positive (suc n) e = omega arith

      go : (b : Bool) → (backticks (drop at text) == 0) ≡ b → (if backticks (drop at text) == 0 then None else option_map (after_run (backticks (drop at text))) (up_to_run (backticks (drop at text)) false (drop (backticks (drop at text)) (drop at text)))) ≡ None
      go true e = rw e refl
      go false e = rw e (other (up_to_run (backticks (drop at text)) false (drop (backticks (drop at text)) (drop at text))) refl (positive (backticks (drop at text)) e))

  -- if no later run of this length is listed, no run closes the one at this offset
  pub lacking : (size : ℕ) → size ≡ backticks (drop at text) → (size < length last → get_or last size 0 ≤ at) → code_in (drop at text) ≡ None
  lacking size is gone = lacking_run (subst (λ n. n < length last → get_or last n 0 ≤ at) is gone)

listed_more : (text last next : List ℕ) (from at start size : ℕ) → AreListed text last from at → at ≤ start → start ≤ length text → size ≡ backticks (drop start text) → 0 < size → ((k : ℕ) → at ≤ k → k < start → is_backtick (get_or text k 0) ≡ false)
    → IsListed next start size → ((place other : ℕ) → place ≤ start → IsListed last place other → IsListed next place other) → AreListed text next from (start + size)
listed_more text last next from at start size listed le inside is positive plain added others place low high begins some =
    go (cases_lt place at) (cases_lt place start) (cases_lt start place)
  where
    goal : Type 0
    goal = IsListed next place (backticks (drop place text))

    none_before : at ≤ place → place < start → ⊥
    none_before a b =
        let tick : is_backtick (get_or (drop place text) 0 0) ≡ true = prefix_len_passes is_backtick (drop place text) 0 0 some in
        let there : get_or (drop place text) 0 0 ≡ get_or text place 0 = get_or-drop place text 0 0 ∙ ap (λ k. get_or text k 0) (let z : place + 0 ≡ place = omega arith in z) in
        true≢false (sym tick ∙ ap is_backtick there ∙ plain place a b)

    inner : start < place → ⊥
    inner lt =
        let tick : is_backtick (get_or (drop start text) (place - 1 - start) 0) ≡ true = prefix_len_passes is_backtick (drop start text) (place - 1 - start) 0 (omega (arith, is, high, lt)) in
        let there : get_or (drop start text) (place - 1 - start) 0 ≡ get_or text (place - 1) 0 = get_or-drop start text (place - 1 - start) 0 ∙ ap (λ k. get_or text k 0) (let z : start + (place - 1 - start) ≡ place - 1 = omega (arith, lt) in z) in
        true≢false (sym tick ∙ ap is_backtick there ∙ begins)

    go : (place < at) ⊎ (at ≤ place) → (place < start) ⊎ (start ≤ place) → (start < place) ⊎ (place ≤ start) → IsListed next place (backticks (drop place text))
    go (inl a) b d = others place (backticks (drop place text)) (omega (arith, a, le)) (listed place low a begins some)
    go (inr a) (inl b) d = absurd (none_before a b)
    go (inr a) (inr b) (inl d) = absurd (inner d)
    go (inr a) (inr b) (inr d) =
        let same : start ≡ place = omega (arith, b, d) in
        subst (IsListed next place) (is ∙ ap (λ k. backticks (drop k text)) same) (subst (λ k. IsListed next k size) same added)

-- after the last run
listed_all : (text last : List ℕ) (from at : ℕ) → AreListed text last from at → ((k : ℕ) → at ≤ k → k < length text → is_backtick (get_or text k 0) ≡ false) → AreListed text last from (length text)
listed_all text last from at listed plain place low high begins some = go (cases_lt place at)
  where
    none : at ≤ place → ⊥
    none a =
        let tick : is_backtick (get_or (drop place text) 0 0) ≡ true = prefix_len_passes is_backtick (drop place text) 0 0 some in
        let there : get_or (drop place text) 0 0 ≡ get_or text place 0 = get_or-drop place text 0 0 ∙ ap (λ k. get_or text k 0) (let z : place + 0 ≡ place = omega arith in z) in
        true≢false (sym tick ∙ ap is_backtick there ∙ plain place a high)

    go : (place < at) ⊎ (at ≤ place) → IsListed last place (backticks (drop place text))
    go (inl a) = listed place low a begins some
    go (inr a) = absurd (none a)

-- the run that `memchr` finds after an offset is listed, and so are the runs before it
pub listed_next : (text last next rest run : List ℕ) (from at found size : ℕ) → rest ≡ drop at text → at ≤ length text → IsFirstByte (is_byte 96) rest (Some found) → run ≡ drop (at + found) text → size ≡ backticks run
    → AreListed text last from at → IsListed next (at + found) size → ((place other : ℕ) → place ≤ at + found → IsListed last place other → IsListed next place other) → AreListed text next from (at + found + size)
listed_next text last next rest run from at found size cut le first there is listed added others =
    listed_more text last next from at (at + found) size listed (omega arith) (let l = first.0.high in omega (arith, l, high)) (is ∙ ap backticks there) positive plain added others
  where
    high : length rest ≡ length text - at
    high = ap length cut ∙ length-drop at text

    byte : (k : ℕ) → get_or text (at + k) 0 ≡ get_or rest k 0
    byte k = sym (get_or-drop at text k 0) ∙ ap (λ (l : List ℕ). get_or l k 0) (sym cut)

    plain : (k : ℕ) → at ≤ k → k < at + found → is_backtick (get_or text k 0) ≡ false
    plain k low lt =
        let sum : at + (k - at) ≡ k = omega (arith, low) in
        ap (λ n. is_backtick (get_or text n 0)) (sym sum) ∙ ap is_backtick (byte (k - at)) ∙ false_from_ne_true _ (first.0.before (k - at) (omega arith) (omega (arith, low, lt)))

    tick : is_backtick (get_or run 0 0) ≡ true
    tick =
        ap (λ (l : List ℕ). is_backtick (get_or l 0 0)) there
        ∙ ap is_backtick (get_or-drop (at + found) text 0 0 ∙ ap (λ k. get_or text k 0) (let z : at + found + 0 ≡ at + found = omega arith in z) ∙ byte found)
        ∙ first.1

    positive : 0 < size
    positive = go (backticks run) refl
      where
        inside : 0 < length run
        inside = let l = ap length there ∙ length-drop (at + found) text in let h = first.0.high in omega (arith, l, h, high)

        go : (n : ℕ) → backticks run ≡ n → 0 < size
        go zero e = absurd (true≢false (sym tick ∙ ap (λ k. is_backtick (get_or run k 0)) (sym e) ∙ prefix_len_stops is_backtick run 0 (omega (arith, e, inside))))
        go (suc n) e = omega (arith, is, e)

-- if `memchr` finds no run, all runs are listed
pub listed_end : (text last rest : List ℕ) (from at : ℕ) → rest ≡ drop at text → IsFirstByte (is_byte 96) rest None → AreListed text last from at → AreListed text last from (length text)
listed_end text last rest from at cut first listed = listed_all text last from at listed plain
  where
    high : length rest ≡ length text - at
    high = ap length cut ∙ length-drop at text

    plain : (k : ℕ) → at ≤ k → k < length text → is_backtick (get_or text k 0) ≡ false
    plain k low lt =
        let sum : at + (k - at) ≡ k = omega (arith, low) in
        ap (λ n. is_backtick (get_or text n 0)) (sym sum) ∙ ap is_backtick (sym (get_or-drop at text (k - at) 0) ∙ ap (λ (l : List ℕ). get_or l (k - at) 0) (sym cut)) ∙ false_from_ne_true _ (first (k - at) (omega arith) (omega (arith, low, lt, high)))
