-- Quotes, delimiter runs and brackets in slots, while slots are appended and replaced.
use Rattle.std.proofs.Common.{◌≡◌, ◌⊎◌, inl, inr, false, ℕ, zero, suc, ◌+◌, ◌-◌, ◌<◌, ◌≤◌, List, [], ◌∷◌, ◌++◌, length, take, drop, get_or, refl, sym, ap, subst, ◌∙◌, arith}
use Rattle.std.specs.Prelude.{All}
use Rattle.std.proofs.lemmas.Bool.{cases_lt}
use Rattle.std.proofs.lemmas.List.{length_push, length-take, length-take-le, length-drop, get_or_append_left, get_or_push, get_or-take, get_or-drop, same_lists}
use Rattle.cmark_slots.specs.MarkedSlots.{HaveBytes, HaveTexts, SameBefore}
use Rattle.cmark_slots.specs.Standing.{HaveSizes, IsPlaced}
use Rattle.cmark_slots.specs.Slots.{byte_slots}
use Rattle.cmark_slots.specs.declared.bracket.Bracket.{Bracket}
use Rattle.cmark_emphasis.specs.declared.run.PlacedRun.{PlacedRun}
use Rattle.cmark_slots.specs.declared.quote.PlacedQuote.{PlacedQuote}
use Rattle.cmark_slots.specs.declared.slot.Slot.{Slot}
use Rattle.cmark_slots.specs.declared.slot.SlotKind.TheVariants as kind

-- ## Lists

pub all-cons : {X : Type 0} (P : X → Type 0) (x : X) (xs : List X) → P x → All P xs → All P (x ∷ xs)
all-cons P x xs p h zero d lt = p
all-cons P x xs p h (suc k) d lt = h k d (omega (arith, lt))

pub all-tail : {X : Type 0} (P : X → Type 0) (x : X) (xs : List X) → All P (x ∷ xs) → All P xs
all-tail P x xs h = λ k d lt. h (suc k) d (let q : suc k < length (x ∷ xs) = omega (arith, lt) in q)

pub all-head : {X : Type 0} (P : X → Type 0) (x : X) (xs : List X) → All P (x ∷ xs) → P x
all-head P x xs h = h 0 x (let q : 0 < length (x ∷ xs) = omega arith in q)

pub all-drop : {X : Type 0} (P : X → Type 0) (n : ℕ) (xs : List X) → All P xs → All P (drop n xs)
all-drop P n xs h = λ k d lt. let l = length-drop n xs in subst P (sym (get_or-drop n xs k d)) (h (n + k) d (let q : n + k < length xs = omega (arith, lt, l) in q))

-- ## The bytes of one run

pub length-bytes : (at n : ℕ) → length (byte_slots at n) ≡ n
length-bytes at zero = refl
length-bytes at (suc n) = let h = length-bytes (at + 1) n in let q : suc (length (byte_slots (at + 1) n)) ≡ suc n = omega (arith, h) in q

abbrev pub byte : ℕ → Slot
byte at = record { kind = kind.Text; start = at; end = at + 1 }

bytes-get : (at n k : ℕ) (d : Slot) → k < n → get_or (byte_slots at n) k d ≡ byte (at + k)
bytes-get at zero k d lt = absurd (omega (arith, lt))
bytes-get at (suc n) zero d lt = ap byte (let q : at ≡ at + 0 = omega arith in q)
bytes-get at (suc n) (suc k) d lt = bytes-get (at + 1) n k d (omega (arith, lt)) ∙ ap byte (let q : at + 1 + k ≡ at + suc k = omega arith in q)

module _ (n s at : ℕ) (some : 0 < n) where
  pub bytes-in : (slots : List Slot) → take n (drop s slots) ≡ byte_slots at n → s + n ≤ length slots
  bytes-in slots is =
      let a = length-take n (drop s slots) in
      let b = length-drop s slots in
      let e = ap length is ∙ length-bytes at n in
      omega (arith, a, b, e, some)

  pub byte-there : (slots : List Slot) → take n (drop s slots) ≡ byte_slots at n → (k : ℕ) (d : Slot) → k < n → get_or slots (s + k) d ≡ byte (at + k)
  byte-there slots is k d lt = sym (get_or-drop s slots k d) ∙ sym (get_or-take n (drop s slots) k d lt) ∙ ap (λ l. get_or l k d) is ∙ bytes-get at n k d lt

  pub bytes-kept : (old new : List Slot) → length old ≤ length new → ((k : ℕ) (d : Slot) → s ≤ k → k < s + n → get_or new k d ≡ get_or old k d) → take n (drop s old) ≡ byte_slots at n → take n (drop s new) ≡ byte_slots at n
  bytes-kept old new le same is =
      let a = length-take n (drop s old) in
      let b = length-drop s old in
      let a1 = length-take n (drop s new) in
      let b1 = length-drop s new in
      let w = bytes-in old is in
      same_lists (take n (drop s new)) (take n (drop s old)) (let q : length (take n (drop s new)) ≡ length (take n (drop s old)) = omega (arith, a, b, a1, b1, w, le) in q)
      (λ k d lt.
      let kn : k < n = omega (arith, lt, a1) in
      get_or-take n (drop s new) k d kn ∙ get_or-drop s new k d ∙ same (s + k) d (let q : s ≤ s + k = omega arith in q) (let q : s + k < s + n = omega (arith, kn) in q)
      ∙ sym (get_or-drop s old k d) ∙ sym (get_or-take n (drop s old) k d kn))
      ∙ is

-- ## The bytes of all runs

abbrev pub KeepsRuns : (old new : List Slot) → List PlacedRun → Type 0
KeepsRuns old new runs = All (λ (r : PlacedRun). (k : ℕ) (d : Slot) → r.slot ≤ k → k < r.slot + r.run_length → get_or new k d ≡ get_or old k d) runs

abbrev pub EndBefore : (high : ℕ) → List PlacedRun → Type 0
EndBefore high runs = All (λ (r : PlacedRun). r.slot + r.run_length ≤ high) runs

abbrev size-of : PlacedRun → Type 0
size-of r = 0 < r.run_length

pub have-kept : (old new : List Slot) (from place : ℕ) (runs : List PlacedRun) → length old ≤ length new → HaveSizes runs → KeepsRuns old new runs → HaveBytes old from place runs → HaveBytes new from place runs
have-kept old new from place [] le sizes keeps h = tt
have-kept old new from place (r ∷ runs) le sizes keeps h =
    let some = all-head size-of r runs sizes in (
      h.0,
      h.1,
      h.2,
      bytes-kept r.run_length r.slot h.0 some old new le (all-head (λ (r : PlacedRun). (k : ℕ) (d : Slot) → r.slot ≤ k → k < r.slot + r.run_length → get_or new k d ≡ get_or old k d) r runs keeps) h.3,
      have-kept old new (r.slot + r.run_length) (h.0 + r.run_length) runs le (all-tail size-of r runs sizes) (all-tail (λ (r : PlacedRun). (k : ℕ) (d : Slot) → r.slot ≤ k → k < r.slot + r.run_length → get_or new k d ≡ get_or old k d) r runs keeps) h.4,
    )

pub runs-within : (slots : List Slot) (from place : ℕ) (runs : List PlacedRun) → HaveSizes runs → HaveBytes slots from place runs → EndBefore (length slots) runs
runs-within slots from place [] sizes h = λ k d lt. absurd (omega (arith, lt))
runs-within slots from place (r ∷ runs) sizes h =
    all-cons (λ (r : PlacedRun). r.slot + r.run_length ≤ length slots) r runs (bytes-in r.run_length r.slot h.0 (all-head size-of r runs sizes) slots h.3)
    (runs-within slots (r.slot + r.run_length) (h.0 + r.run_length) runs (all-tail size-of r runs sizes) h.4)

-- runs begin at any slot up to the first one
pub runs-low : (slots : List Slot) (low place : ℕ) (runs : List PlacedRun) → HaveBytes slots low place runs → (least : ℕ) → least ≤ low → All (λ (r : PlacedRun). least ≤ r.slot) runs
runs-low slots low place [] h least le = λ k d lt. absurd (omega (arith, lt))
runs-low slots low place (r ∷ runs) h least le =
    let f = h.1 in
    let q : least ≤ r.slot = omega (arith, f, le) in
    all-cons (λ (r : PlacedRun). least ≤ r.slot) r runs q (runs-low slots (r.slot + r.run_length) (h.0 + r.run_length) runs h.4 least (omega (arith, q)))

pub have-take : (slots : List Slot) (from place n : ℕ) (runs : List PlacedRun) → HaveBytes slots from place runs → HaveBytes slots from place (take n runs)
have-take slots from place zero [] h = tt
have-take slots from place (suc n) [] h = tt
have-take slots from place zero (r ∷ runs) h = tt
have-take slots from place (suc n) (r ∷ runs) h = (h.0, h.1, h.2, h.3, have-take slots (r.slot + r.run_length) (h.0 + r.run_length) n runs h.4)

have-from : (slots : List Slot) (from place low : ℕ) (runs : List PlacedRun) → HaveBytes slots from place runs → All (λ (r : PlacedRun). low ≤ r.slot) runs → HaveBytes slots low 0 runs
have-from slots from place low [] h le = tt
have-from slots from place low (r ∷ runs) h le = (h.0, all-head (λ (r : PlacedRun). low ≤ r.slot) r runs le, (let q : 0 ≤ h.0 = omega arith in q), h.3, h.4)

-- the runs from one on
pub have-drop : (slots : List Slot) (from place low n : ℕ) (runs : List PlacedRun) → HaveBytes slots from place runs → All (λ (r : PlacedRun). low ≤ r.slot) (drop n runs) → HaveBytes slots low 0 (drop n runs)
have-drop slots from place low zero runs h le = have-from slots from place low runs h le
have-drop slots from place low (suc n) [] h le = tt
have-drop slots from place low (suc n) (r ∷ runs) h le = have-drop slots (r.slot + r.run_length) (h.0 + r.run_length) low n runs h.4 le

-- one more run, after all others
pub have-push : (slots : List Slot) (from place high at : ℕ) (runs : List PlacedRun) (new : PlacedRun) → from ≤ high → place ≤ at → EndBefore high runs → HaveSizes runs → ((k : ℕ) (d : Slot) → k < high → (get_or slots k d).end ≤ at)
    → high ≤ new.slot → take new.run_length (drop new.slot slots) ≡ byte_slots at new.run_length → HaveBytes slots from place runs → HaveBytes slots from place (runs ++ (new ∷ []))
have-push slots from place high at [] new f p ends sizes before le is h = (at, (let q : from ≤ new.slot = omega (arith, f, le) in q), p, is, tt)
have-push slots from place high at (r ∷ runs) new f p ends sizes before le is h =
    let some = all-head size-of r runs sizes in
    let end = all-head (λ (r : PlacedRun). r.slot + r.run_length ≤ high) r runs ends in
    let last : r.run_length - 1 < r.run_length = omega (arith, some) in
    let there = byte-there r.run_length r.slot h.0 some slots h.3 (r.run_length - 1) (byte 0) last in
    let past = ap (λ (s : Slot). s.end) there in
    let bound = before (r.slot + (r.run_length - 1)) (byte 0) (omega (arith, some, end)) in (
      h.0,
      h.1,
      h.2,
      h.3,
      have-push slots (r.slot + r.run_length) (h.0 + r.run_length) high at runs new end (let q : h.0 + r.run_length ≤ at = omega (arith, past, bound, some) in q)
          (all-tail (λ (r : PlacedRun). r.slot + r.run_length ≤ high) r runs ends) (all-tail size-of r runs sizes) before le is h.4,
    )

-- runs before an index keep their bytes if the slots before that index are unchanged
pub keeps-before : (low : ℕ) (old new : List Slot) (runs : List PlacedRun) → SameBefore low old new → EndBefore low runs → KeepsRuns old new runs
keeps-before low old new runs same ends = λ k d lt. λ j e l h. let w = ends k d lt in same j e (omega (arith, h, w))

pub texts-kept : (old new : List Slot) (quotes : List PlacedQuote) → length old ≤ length new → All (λ (q : PlacedQuote). (d : Slot) → get_or new q.slot d ≡ get_or old q.slot d) quotes → HaveTexts old quotes → HaveTexts new quotes
texts-kept old new quotes le same h = λ k d lt.
    let t = h k d lt in
    let w = t.0 in
    ((let q : (get_or quotes k d).slot < length new = omega (arith, w, le) in q), λ e. ap (λ (s : Slot). s.kind) (same k d lt e) ∙ t.1 e)

-- ## Brackets

abbrev pub no-run : PlacedRun
no-run = record { slot = 0; run_length = 0; delimiter = 0; opens = false; closes = false }

abbrev pub no-quote : PlacedQuote
no-quote = record { slot = 0; quote = record { double = false; opens = false; closes = false } }

module _ (slots : List Slot) (runs : List PlacedRun) (quotes : List PlacedQuote) (b : Bracket) (p : IsPlaced slots runs quotes b) where
  pub placed-slots : (new : List Slot) → b.slot < length new → ((d : Slot) → get_or new b.slot d ≡ get_or slots b.slot d) → IsPlaced new runs quotes b
  placed-slots new lt same = record {
    there = lt;
    text = λ d. ap (λ (s : Slot). s.kind) (same d) ∙ p.text d;
    runs_there = p.runs_there;
    runs_before = p.runs_before;
    runs_after = p.runs_after;
    quotes_there = p.quotes_there;
    quotes_before = p.quotes_before;
    quotes_after = p.quotes_after;
  }

  pub placed-run : (new : PlacedRun) → b.slot < new.slot → IsPlaced slots (runs ++ (new ∷ [])) quotes b
  placed-run new following =
      let n = length_push runs new in
      let t = p.runs_there in
      record {
        there = p.there;
        text = p.text;
        runs_there = omega (arith, n, t);
        runs_before = λ k d lt. subst (λ (r : PlacedRun). r.slot + r.run_length ≤ b.slot) (sym (get_or_append_left runs (new ∷ []) d k (let q : k < length runs = omega (arith, lt, t) in q))) (p.runs_before k d lt);
        runs_after = λ k d le lt. go k d le (let q : k ≤ length runs = omega (arith, lt, n) in q) (cases_lt k (length runs));
        quotes_there = p.quotes_there;
        quotes_before = p.quotes_before;
        quotes_after = p.quotes_after;
      }
    where
      go : (k : ℕ) (d : PlacedRun) → b.runs ≤ k → k ≤ length runs → (k < length runs) ⊎ (length runs ≤ k) → b.slot < (get_or (runs ++ (new ∷ [])) k d).slot
      go k d le most (inl lt) = subst (λ (r : PlacedRun). b.slot < r.slot) (sym (get_or_append_left runs (new ∷ []) d k lt)) (p.runs_after k d le lt)
      go k d le most (inr g) = subst (λ (r : PlacedRun). b.slot < r.slot) (sym (get_or_push runs new d k (let q : length runs ≡ k = omega (arith, g, most) in q))) following

  pub placed-quote : (new : PlacedQuote) → b.slot < new.slot → IsPlaced slots runs (quotes ++ (new ∷ [])) b
  placed-quote new following =
      let n = length_push quotes new in
      let t = p.quotes_there in
      record {
        there = p.there;
        text = p.text;
        runs_there = p.runs_there;
        runs_before = p.runs_before;
        runs_after = p.runs_after;
        quotes_there = omega (arith, n, t);
        quotes_before = λ k d lt. subst (λ (r : PlacedQuote). r.slot < b.slot) (sym (get_or_append_left quotes (new ∷ []) d k (let q : k < length quotes = omega (arith, lt, t) in q))) (p.quotes_before k d lt);
        quotes_after = λ k d le lt. go k d le (let q : k ≤ length quotes = omega (arith, lt, n) in q) (cases_lt k (length quotes));
      }
    where
      go : (k : ℕ) (d : PlacedQuote) → b.quotes ≤ k → k ≤ length quotes → (k < length quotes) ⊎ (length quotes ≤ k) → b.slot < (get_or (quotes ++ (new ∷ [])) k d).slot
      go k d le most (inl lt) = subst (λ (r : PlacedQuote). b.slot < r.slot) (sym (get_or_append_left quotes (new ∷ []) d k lt)) (p.quotes_after k d le lt)
      go k d le most (inr g) = subst (λ (r : PlacedQuote). b.slot < r.slot) (sym (get_or_push quotes new d k (let q : length quotes ≡ k = omega (arith, g, most) in q))) following

  -- the runs and the quotes after a later bracket are removed
  pub placed-cut : (c : Bracket) → IsPlaced slots runs quotes c → b.slot < c.slot → IsPlaced slots (take c.runs runs) (take c.quotes quotes) b
  placed-cut c pc before =
      let rn = length-take-le c.runs runs pc.runs_there in
      let qn = length-take-le c.quotes quotes pc.quotes_there in
      let rs = fewer-runs (cases_lt c.runs b.runs) in
      let qs = fewer-quotes (cases_lt c.quotes b.quotes) in
      record {
        there = p.there;
        text = p.text;
        runs_there = omega (arith, rn, rs);
        runs_before = λ k d lt. subst (λ (r : PlacedRun). r.slot + r.run_length ≤ b.slot) (sym (get_or-take c.runs runs k d (let q : k < c.runs = omega (arith, lt, rs) in q))) (p.runs_before k d lt);
        runs_after = λ k d le lt. let kc : k < c.runs = omega (arith, lt, rn) in let t = pc.runs_there in subst (λ (r : PlacedRun). b.slot < r.slot) (sym (get_or-take c.runs runs k d kc)) (p.runs_after k d le (let q : k < length runs = omega (arith, kc, t) in q));
        quotes_there = omega (arith, qn, qs);
        quotes_before = λ k d lt. subst (λ (r : PlacedQuote). r.slot < b.slot) (sym (get_or-take c.quotes quotes k d (let q : k < c.quotes = omega (arith, lt, qs) in q))) (p.quotes_before k d lt);
        quotes_after = λ k d le lt. let kc : k < c.quotes = omega (arith, lt, qn) in let t = pc.quotes_there in subst (λ (r : PlacedQuote). b.slot < r.slot) (sym (get_or-take c.quotes quotes k d kc)) (p.quotes_after k d le (let q : k < length quotes = omega (arith, kc, t) in q));
      }
    where
      fewer-runs : (c.runs < b.runs) ⊎ (b.runs ≤ c.runs) → b.runs ≤ c.runs
      fewer-runs (inr le) = le
      fewer-runs (inl lt) =
          let t = p.runs_there in
          let one = p.runs_before c.runs no-run lt in
          let other = pc.runs_after c.runs no-run (omega arith) (omega (arith, lt, t)) in
          absurd (omega (arith, one, other, before))

      fewer-quotes : (c.quotes < b.quotes) ⊎ (b.quotes ≤ c.quotes) → b.quotes ≤ c.quotes
      fewer-quotes (inr le) = le
      fewer-quotes (inl lt) =
          let t = p.quotes_there in
          let one = p.quotes_before c.quotes no-quote lt in
          let other = pc.quotes_after c.quotes no-quote (omega arith) (omega (arith, lt, t)) in
          absurd (omega (arith, one, other, before))
