-- The number of runs of backticks that are looked at.
use Rattle.std.proofs.Common.{◌≡◌, ◌≢◌, ◌⊎◌, inl, inr, ℕ, zero, suc, ◌+◌, ◌-◌, ◌*◌, ◌<◌, ◌≤◌, Bool, true, false, ◌==◌, ◌&&◌, not, if◌then◌else◌, List, [], ◌∷◌, length, drop, get_or, Option, None, Some, refl, sym, ap, subst, ◌∙◌, arith, true≢false, drop-drop, length-drop}
use Rattle.std.specs.Prelude.{cond, is_some, nat_lt, option_map, slice_set}
use Rattle.std.specs.List.{prefix_len}
use Rattle.std.proofs.lemmas.Bool.{cases_eq, cases_lt, eq-eqb, eqb-true, false_from_ne_true, ne_eqb}
use Rattle.std.proofs.lemmas.List.{get_or-drop, get_or-set_other, get_or-set_same, get_or_past}
use Rattle.std.proofs.lemmas.List.Sums.{prefix_len-le-length, prefix_len_passes, prefix_len_stops}
use Rattle.memchr.specs.Find.{IsFirstByte, is_byte}
use Rattle.cmark_grammar.specs.CodeSpans.{is_backtick, backticks, after_run, code_in, up_to_run}
use Rattle.cmark_grammar.specs.LinkDefinitions.{Parsed, put}
use Rattle.cmark_span_scan.specs.Backticks.{AreReal, IsRunAt, entries_for, may_visit, runs_in}
use Rattle.cmark_span_scan.specs.declared.backtick_runs.BacktickRuns.{BacktickRuns}

-- ## Runs among bytes

-- a run that continues counts at most as much as one that begins
runs-going : (g : Bool) (bs : List ℕ) → runs_in true bs ≤ runs_in g bs
runs-going g [] = omega arith
runs-going g (b ∷ bs) = go (is_backtick b) g
  where
    go : (t g : Bool) → (if t && false then 1 else 0) + runs_in t bs ≤ (if t && not g then 1 else 0) + runs_in t bs
    go true true = omega arith
    go true false = omega arith
    go false true = omega arith
    go false false = omega arith

runs-fresh : (g : Bool) (bs : List ℕ) → runs_in g bs ≤ runs_in false bs
runs-fresh true bs = runs-going false bs
runs-fresh false bs = omega arith

-- at most as many runs begin as there are bytes
pub runs-few : (g : Bool) (bs : List ℕ) → runs_in g bs ≤ length bs
runs-few g [] = omega arith
runs-few g (b ∷ bs) = go (is_backtick b && not g) (runs-few (is_backtick b) bs)
  where
    go : (t : Bool) → runs_in (is_backtick b) bs ≤ length bs → (if t then 1 else 0) + runs_in (is_backtick b) bs ≤ suc (length bs)
    go true le = omega (arith, le)
    go false le = omega (arith, le)

pub runs-following : (k : ℕ) (g : Bool) (bs : List ℕ) → runs_in g bs ≤ k + runs_in false (drop k bs)
runs-following zero g bs = let q = runs-fresh g bs in omega (arith, q)
runs-following (suc k) g [] = omega arith
runs-following (suc k) g (b ∷ bs) = go (is_backtick b && not g) (runs-following k (is_backtick b) bs)
  where
    go : (t : Bool) → runs_in (is_backtick b) bs ≤ k + runs_in false (drop k bs) → (if t then 1 else 0) + runs_in (is_backtick b) bs ≤ suc k + runs_in false (drop k bs)
    go true le = omega (arith, le)
    go false le = omega (arith, le)

none-more : (n : ℕ) → 0 + n ≡ n
none-more n = omega arith

-- bytes at the start that are not backticks
runs-plain : (k : ℕ) (bs : List ℕ) → k ≤ length bs → ((i : ℕ) → i < k → is_backtick (get_or bs i 0) ≡ false) → runs_in false bs ≡ runs_in false (drop k bs)
runs-plain zero bs le none = refl
runs-plain (suc k) [] le none = refl
runs-plain (suc k) (b ∷ bs) le none =
    let plain : is_backtick b ≡ false = none 0 (omega arith) in
    ap (λ t. (if t && true then 1 else 0) + runs_in t bs) plain ∙ none-more (runs_in false bs) ∙ runs-plain k bs (omega (arith, le)) (λ i lt. none (suc i) (omega (arith, lt)))

-- a run that continues
runs-on : (bs : List ℕ) → runs_in true bs ≡ runs_in false (drop (backticks bs) bs)
runs-on [] = refl
runs-on (b ∷ bs) = go (is_backtick b) refl (runs-on bs)
  where
    go : (t : Bool) → is_backtick b ≡ t → runs_in true bs ≡ runs_in false (drop (backticks bs) bs) → runs_in true (b ∷ bs) ≡ runs_in false (drop (backticks (b ∷ bs)) (b ∷ bs))
    go true e i = ap (λ t. (if t && false then 1 else 0) + runs_in t bs) e ∙ none-more (runs_in true bs) ∙ i ∙ ap (λ k. runs_in false (drop k (b ∷ bs))) (let q : suc (backticks bs) ≡ 1 + backticks bs = omega arith in q) ∙ sym (ap (λ t. runs_in false (drop (cond t (1 + prefix_len is_backtick bs) 0) (b ∷ bs))) e)
    go false e i = ap (λ t. (if t && false then 1 else 0) + runs_in t bs) e ∙ sym (ap (λ t. (if t && true then 1 else 0) + runs_in t bs) e) ∙ sym (ap (λ t. runs_in false (drop (cond t (1 + prefix_len is_backtick bs) 0) (b ∷ bs))) e)

-- a run at the start
runs-one : (bs : List ℕ) → is_backtick (get_or bs 0 0) ≡ true → runs_in false bs ≡ 1 + runs_in false (drop (backticks bs) bs)
runs-one [] e = absurd (true≢false (sym e))
runs-one (b ∷ bs) e =
    ap (λ t. (if t && true then 1 else 0) + runs_in t bs) e
    ∙ ap (λ n. 1 + n) (runs-on bs)
    ∙ ap (λ k. 1 + runs_in false (drop k (b ∷ bs))) (let q : suc (backticks bs) ≡ 1 + backticks bs = omega arith in q)
    ∙ sym (ap (λ t. 1 + runs_in false (drop (cond t (1 + prefix_len is_backtick bs) 0) (b ∷ bs))) e)

-- the run that a search for the first backtick finds is one of those that are left
pub run-next : (rest run next : List ℕ) (at count : ℕ) → IsFirstByte (is_byte 96) rest (Some at) → run ≡ drop at rest → count ≡ backticks run → next ≡ drop count run → (runs_in false rest ≡ 1 + runs_in false next) × (runs_in false rest ≡ runs_in false run)
run-next rest run next at count first there is following =
    let le : at ≤ length rest = let h = first.0.high in omega (arith, h) in
    let front : runs_in false rest ≡ runs_in false run = runs-plain at rest le (λ i lt. false_from_ne_true _ (first.0.before i (omega arith) lt)) ∙ ap (runs_in false) (sym there) in
    let tick : is_backtick (get_or run 0 0) ≡ true =
    ap (λ (l : List ℕ). is_backtick (get_or l 0 0)) there ∙ ap is_backtick (get_or-drop at rest 0 0 ∙ ap (λ k. get_or rest k 0) (let z : at + 0 ≡ at = omega arith in z)) ∙ first.1 in
    (front ∙ runs-one run tick ∙ ap (λ l. 1 + runs_in false l) (ap (λ k. drop k run) (sym is) ∙ sym following), front)

-- if no run is found, no run is left
pub run-none : (rest : List ℕ) → IsFirstByte (is_byte 96) rest None → runs_in false rest ≡ 0
run-none rest first = runs-plain (length rest) rest (omega arith) (λ i lt. false_from_ne_true _ (first i (omega arith) lt)) ∙ ap (runs_in false) (gone rest)
  where
    gone : (l : List ℕ) → drop (length l) l ≡ []
    gone [] = refl
    gone (x ∷ xs) = gone xs

-- ## A run in the table closes

put-none : (b : ℕ) (o : Option Parsed) → put b o ≡ None → o ≡ None
put-none b None e = refl
put-none b (Some found) e = absurd (let q : ⊥ = cc in q)

run-some : (b : ℕ) (bs : List ℕ) (size : ℕ) → 0 < size → backticks (b ∷ bs) ≡ size → is_backtick b ≡ true
run-some b bs size some e = go (is_backtick b) refl
  where
    go : (t : Bool) → is_backtick b ≡ t → is_backtick b ≡ true
    go true h = h
    go false h = absurd (let none : backticks (b ∷ bs) ≡ 0 = ap (λ t. cond t (1 + prefix_len is_backtick bs) 0) h in omega (arith, some, e, none))

closes-there : (size : ℕ) (g : Bool) (bs : List ℕ) (k : ℕ) → 0 < size → up_to_run size g bs ≡ None → k < length bs → (k ≡ 0 → g ≡ false) → (0 < k → is_backtick (get_or bs (k - 1) 0) ≡ false) → backticks (drop k bs) ≡ size → ⊥
closes-there size g [] k some e lt first before whole = omega (arith, lt)
closes-there size g (b ∷ bs) zero some e lt first before whole =
    let test : (is_backtick b && (not g && (backticks (b ∷ bs) == size))) ≡ true =
    ap (λ t. t && (not g && (backticks (b ∷ bs) == size))) (run-some b bs size some whole) ∙ ap (λ t. not t && (backticks (b ∷ bs) == size)) (first refl) ∙ eq-eqb (backticks (b ∷ bs)) size whole in
    let here : up_to_run size g (b ∷ bs) ≡ Some (record { bytes = []; following = b ∷ bs }) = ap (λ t. if t then Some (let found : Parsed = record { bytes = []; following = b ∷ bs } in found) else put b (up_to_run size (is_backtick b) bs)) test in
    let q : ⊥ = cc in q
closes-there size g (b ∷ bs) (suc k) some e lt first before whole =
    go (is_backtick b && (not g && (backticks (b ∷ bs) == size))) e (λ next. closes-there size (is_backtick b) bs k some next (omega (arith, lt)) start inside whole)
  where
    start : k ≡ 0 → is_backtick b ≡ false
    start z = ap (λ n. is_backtick (get_or (b ∷ bs) n 0)) (let q : 0 ≡ suc k - 1 = omega (arith, z) in q) ∙ before (omega arith)

    inside : 0 < k → is_backtick (get_or bs (k - 1) 0) ≡ false
    inside pos = ap (λ n. is_backtick (get_or (b ∷ bs) n 0)) (let q : suc (k - 1) ≡ suc k - 1 = omega (arith, pos) in q) ∙ before (omega arith)

    go : (t : Bool) → (if t then Some (record { bytes = []; following = b ∷ bs }) else put b (up_to_run size (is_backtick b) bs)) ≡ None → (up_to_run size (is_backtick b) bs ≡ None → ⊥) → ⊥
    go true h further = (let q : ⊥ = cc in q)
    go false h further = further (put-none b (up_to_run size (is_backtick b) bs) h)

map-none : (n : ℕ) (o : Option Parsed) → option_map (after_run n) o ≡ None → o ≡ None
map-none n None e = refl
map-none n (Some found) e = absurd (let q : ⊥ = cc in q)

-- if a later run of this length is listed, it closes the one at this offset
pub closes-later : (text last : List ℕ) (from at size : ℕ) → AreReal text last from → size ≡ backticks (drop at text) → from ≤ at → at < get_or last size 0 → code_in (drop at text) ≢ None
closes-later text last from at size real is low later none = go (backticks (drop at text) == 0) refl
  where
    place : ℕ
    place = get_or last size 0

    run : IsRunAt text (get_or last size 0) size
    run = real size (omega (arith, low, later))

    content : List ℕ
    content = drop (at + size) text

    following : at + size < get_or last size 0
    following = by (cases_lt (at + size) (get_or last size 0))
      where
        by : (at + size < get_or last size 0) ⊎ (get_or last size 0 ≤ at + size) → at + size < get_or last size 0
        by (inl lt) = lt
        by (inr le) =
            let k : ℕ = get_or last size 0 - 1 - at in
            let inside : k < backticks (drop at text) = omega (arith, is, le, later, run.some) in
            let tick : is_backtick (get_or (drop at text) k 0) ≡ true = prefix_len_passes is_backtick (drop at text) k 0 inside in
            let there : get_or (drop at text) k 0 ≡ get_or text (get_or last size 0 - 1) 0 = get_or-drop at text k 0 ∙ ap (λ n. get_or text n 0) (let z : at + k ≡ get_or last size 0 - 1 = omega (arith, later) in z) in
            absurd (true≢false (sym tick ∙ ap is_backtick there ∙ run.begins))

    there : drop size (drop at text) ≡ drop (at + size) text
    there = drop-drop size at text

    next : up_to_run size false (drop (at + size) text) ≡ None → ⊥
    next e =
        let k : ℕ = get_or last size 0 - (at + size) in
        let len = length-drop (at + size) text in
        closes-there size false (drop (at + size) text) k run.some e (omega (arith, run.within, following, len)) (λ z. absurd (omega (arith, following, z)))
        (λ pos. ap is_backtick (get_or-drop (at + size) text (k - 1) 0 ∙ ap (λ n. get_or text n 0) (let z : at + size + (k - 1) ≡ get_or last size 0 - 1 = omega (arith, following) in z)) ∙ run.begins)
        (ap backticks (drop-drop k (at + size) text ∙ ap (λ n. drop n text) (let z : at + size + k ≡ get_or last size 0 = omega (arith, following) in z)) ∙ run.whole)

    go : (b : Bool) → (backticks (drop at text) == 0) ≡ b → ⊥
    go true e = let z = eqb-true (backticks (drop at text)) 0 e in omega (arith, z, is, run.some)
    go false e =
        let found : option_map (after_run (backticks (drop at text))) (up_to_run (backticks (drop at text)) false (drop (backticks (drop at text)) (drop at text))) ≡ None = sym (ap (λ t. if t then None else option_map (after_run (backticks (drop at text))) (up_to_run (backticks (drop at text)) false (drop (backticks (drop at text)) (drop at text)))) e) ∙ none in
        next (sym (ap (up_to_run size false) there) ∙ sym (ap (λ n. up_to_run n false (drop n (drop at text))) (sym is)) ∙ map-none (backticks (drop at text)) (up_to_run (backticks (drop at text)) false (drop (backticks (drop at text)) (drop at text))) found)

-- ## The table

pub set-entry : (none : ℕ) (old new : List ℕ) (size start : ℕ) → size < length new → ((k : ℕ) → get_or new k none ≡ get_or old k none) → (k : ℕ) → get_or (slice_set new size start) k none ≡ (if k == size then start else get_or old k none)
set-entry none old new size start lt same k = go (cases_eq k size)
  where
    go : (k ≡ size) ⊎ (k ≡ size → ⊥) → get_or (slice_set new size start) k none ≡ (if k == size then start else get_or old k none)
    go (inl e) = ap (λ n. get_or (slice_set new size start) n none) e ∙ get_or-set_same new size start none lt ∙ sym (ap (λ b. if b then start else get_or old k none) (eq-eqb k size e))
    go (inr differs) = get_or-set_other new size k start none differs ∙ same k ∙ sym (ap (λ b. if b then start else get_or old k none) (ne_eqb k size differs))

-- one more run is in the table: it begins after a byte that is not a backtick, unless it is the first
pub real-next : (text last next rest run : List ℕ) (from at found size : ℕ) → rest ≡ drop at text → at ≤ length text → IsFirstByte (is_byte 96) rest (Some found) → run ≡ drop (at + found) text → size ≡ backticks run → (from < at → is_backtick (get_or text at 0) ≡ false) → from ≤ at
    → ((k : ℕ) → get_or next k 0 ≡ (if k == size then at + found else get_or last k 0)) → AreReal text last from → AreReal text next from
real-next text last next rest run from at found size cut le first there is stops low entries real k later = go (cases_eq k size)
  where
    high : length rest ≡ length text - at
    high = ap length cut ∙ length-drop at text

    byte : (n : ℕ) → get_or text (at + n) 0 ≡ get_or rest n 0
    byte n = sym (get_or-drop at text n 0) ∙ ap (λ (l : List ℕ). get_or l n 0) (sym cut)

    tick : is_backtick (get_or run 0 0) ≡ true
    tick =
        ap (λ (l : List ℕ). is_backtick (get_or l 0 0)) there
        ∙ ap is_backtick (get_or-drop (at + found) text 0 0 ∙ ap (λ k. get_or text k 0) (let z : at + found + 0 ≡ at + found = omega arith in z) ∙ byte found)
        ∙ first.1

    inside : at + found < length text
    inside = let h = first.0.high in omega (arith, h, high)

    some : 0 < size
    some = by (backticks run) refl
      where
        by : (n : ℕ) → backticks run ≡ n → 0 < size
        by zero e =
            let len = ap length there ∙ length-drop (at + found) text in
            absurd (true≢false (sym tick ∙ ap (λ k. is_backtick (get_or run k 0)) (sym e) ∙ prefix_len_stops is_backtick run 0 (omega (arith, e, len, inside))))
        by (suc n) e = omega (arith, is, e)

    before : from < at + found → is_backtick (get_or text (at + found - 1) 0) ≡ false
    before lt = by (cases_lt 0 found)
      where
        by : (0 < found) ⊎ (found ≤ 0) → is_backtick (get_or text (at + found - 1) 0) ≡ false
        by (inl pos) = ap (λ n. is_backtick (get_or text n 0)) (let z : at + found - 1 ≡ at + (found - 1) = omega (arith, pos) in z) ∙ ap is_backtick (byte (found - 1)) ∙ false_from_ne_true _ (first.0.before (found - 1) (omega arith) (omega (arith, pos)))
        by (inr none) =
            let z : at ≡ at + found = omega (arith, none) in
            absurd (true≢false (sym tick ∙ ap (λ (l : List ℕ). is_backtick (get_or l 0 0)) there ∙ ap is_backtick (get_or-drop (at + found) text 0 0 ∙ ap (λ k. get_or text k 0) (let y : at + found + 0 ≡ at = omega (arith, none) in y)) ∙ stops (omega (arith, lt, none))))

    go : (k ≡ size) ⊎ (k ≡ size → ⊥) → IsRunAt text (get_or next k 0) k
    go (inl e) =
        let entry : get_or next k 0 ≡ at + found = entries k ∙ ap (λ b. if b then at + found else get_or last k 0) (eq-eqb k size e) in
        subst (λ p. IsRunAt text p k) (sym entry) (record { within = inside; some = omega (arith, some, e); begins = before (omega (arith, later, entry)); whole = ap backticks (sym there) ∙ sym is ∙ sym e })
    go (inr differs) =
        let entry : get_or next k 0 ≡ get_or last k 0 = entries k ∙ ap (λ b. if b then at + found else get_or last k 0) (ne_eqb k size differs) in
        subst (λ p. IsRunAt text p k) (sym entry) (real k (omega (arith, later, entry)))

-- a run is not followed by a backtick
pub stops-next : (text run : List ℕ) (at size : ℕ) → run ≡ drop at text → size ≡ backticks run → is_backtick (get_or text (at + size) 0) ≡ false
stops-next text run at size there is = go (cases_lt (backticks run) (length run))
  where
    byte : get_or text (at + size) 0 ≡ get_or run (backticks run) 0
    byte = ap (λ n. get_or text (at + n) 0) is ∙ sym (get_or-drop at text (backticks run) 0) ∙ ap (λ (l : List ℕ). get_or l (backticks run) 0) (sym there)

    go : (backticks run < length run) ⊎ (length run ≤ backticks run) → is_backtick (get_or text (at + size) 0) ≡ false
    go (inl lt) = ap is_backtick byte ∙ prefix_len_stops is_backtick run 0 lt
    go (inr le) = ap is_backtick (byte ∙ get_or_past run (backticks run) 0 le)

-- one more run is looked at
pub list-next : (text rest run : List ℕ) (at found size : ℕ) → rest ≡ drop at text → IsFirstByte (is_byte 96) rest (Some found) → run ≡ drop (at + found) text → size ≡ backticks run → runs_in false (drop at text) ≡ 1 + runs_in false (drop (at + found + size) text)
list-next text rest run at found size cut first there is =
    let front : run ≡ drop found rest = there ∙ sym (drop-drop found at text) ∙ ap (drop found) (sym cut) in
    let following : drop (at + found + size) text ≡ drop size run = sym (drop-drop size (at + found) text) ∙ ap (drop size) (sym there) in
    ap (runs_in false) (sym cut) ∙ (run-next rest run (drop (at + found + size) text) found size first front is following).0

pub list-few : (text : List ℕ) (from old new left : ℕ) → new + left ≡ old + runs_in false (drop from text) → new ≤ old + (length text - from)
list-few text from old new left e = let few = runs-few false (drop from text) in let len = length-drop from text in omega (arith, few, len, e)

-- ## The cost of a code span

module _ (text run inside : List ℕ) (at size : ℕ) (there : run ≡ drop at text) (following : inside ≡ drop size run) (is : size ≡ backticks run) (some : size ≡ 0 → ⊥) where
  whole : (length inside + size ≤ length text - at) × (0 < size)
  whole =
      let a = ap length there ∙ length-drop at text in
      let b = ap length following ∙ length-drop size run in
      let c = prefix_len-le-length is_backtick run in
      (omega (arith, a, b, c, is), positive size some)
    where
      positive : (n : ℕ) → (n ≡ 0 → ⊥) → 0 < n
      positive zero h = absurd (h refl)
      positive (suc n) h = omega arith

  pub none-few : (old new : ℕ) → new ≡ old + runs_in false inside → new ≤ old + (length text - at)
  none-few old new e = let w = whole in let few = runs-few false inside in omega (arith, w.0, few, e)

  module _ (old new content : ℕ) (counts : new + runs_in false (drop content inside) ≡ old + runs_in false inside + 1) (within : content ≤ length inside) (closes : backticks (drop content inside) ≡ size) where
    pub found-few : new ≤ old + (length text - at)
    found-few =
        let w = whole in
        let few = runs-following content false inside in
        let run = prefix_len-le-length is_backtick (drop content inside) in
        let len = length-drop content inside in
        omega (arith, w.0, w.1, few, counts, within, closes, run, len)

    pub found-less : new < old + (at + size + content + size - at)
    found-less = let w = whole in let few = runs-following content false inside in omega (arith, w.1, few, counts)

-- ## The cost of a search in vain

pub lack-most : (text : List ℕ) (at visited : ℕ) (runs : BacktickRuns) → at < length text → visited ≡ runs.visited + entries_for at runs → visited ≤ runs.visited + may_visit text at runs
lack-most text at visited runs lt e = go runs.from e
  where
    one : (b : Bool) → (if b then 0 else 1) ≤ 1
    one true = omega arith
    one false = omega arith

    go : (o : Option ℕ) → visited ≡ runs.visited + (elim o [ None ↦ 0 | Some from ↦ (if nat_lt at from then 0 else 1) ]) → visited ≤ runs.visited + ((if is_some o then 0 else 2 * length text) + 2 * (length text - at))
    go None h = omega (arith, h)
    go (Some from) h = let q = one (nat_lt at from) in omega (arith, h, q, lt)

pub lack-pays : (text : List ℕ) (at : ℕ) (old new : BacktickRuns) → at < length text → new.visited ≡ old.visited + entries_for at old → new ≡ record old { visited = new.visited } → new.visited + may_visit text (at + 1) new ≤ old.visited + may_visit text at old
lack-pays text at old new lt e others = go old.from e (ap (λ (r : BacktickRuns). r.from) others)
  where
    one : (b : Bool) → (if b then 0 else 1) ≤ 1
    one true = omega arith
    one false = omega arith

    go : (o : Option ℕ) → new.visited ≡ old.visited + (elim o [ None ↦ 0 | Some from ↦ (if nat_lt at from then 0 else 1) ]) → new.from ≡ o → new.visited + may_visit text (at + 1) new ≤ old.visited + ((if is_some o then 0 else 2 * length text) + 2 * (length text - at))
    go None h f = let m : may_visit text (at + 1) new ≡ 2 * length text + 2 * (length text - (at + 1)) = rw f refl in omega (arith, h, m, lt)
    go (Some from) h f = let m : may_visit text (at + 1) new ≡ 0 + 2 * (length text - (at + 1)) = rw f refl in let q = one (nat_lt at from) in omega (arith, h, q, m, lt)
