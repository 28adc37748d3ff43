-- The slots that a wikilink shows, and the quotes and runs in them.
use Rattle.std.proofs.Common.{◌≡◌, ◌⊎◌, inl, inr, ℕ, zero, suc, ◌+◌, ◌-◌, ◌<◌, ◌≤◌, List, [], ◌∷◌, length, drop, get_or, refl, sym, ap, subst, ◌∙◌, arith}
use Rattle.std.specs.Prelude.{All, Bool, true, false, ◌&&◌, if◌then◌else◌, nat_lt}
use Rattle.std.proofs.lemmas.Bool.{cases_lt, ltb-true}
use Rattle.std.proofs.lemmas.List.{length-drop, get_or-drop}
use Rattle.cmark_grammar.specs.InlineHtml.{takes_lines}
use Rattle.cmark_grammar.specs.Tokens.{slice}
use Rattle.cmark_slots.specs.MarkedSlots.{EndWithin, HaveBytes, SameBefore, last_in}
use Rattle.cmark_slots.specs.SlotViews.{link_named, text_named}
use Rattle.cmark_emphasis.specs.Counts.{IsKnownPlaced}
use Rattle.cmark_slots.specs.Standing.{AreSound, CanSettle, HaveSizes, IsPlain, NamesAs, NamesNoMore, source_end}
use Rattle.cmark_slots.specs.Cuts.{Hides, cut_at, cut_kind, cut_slot}
use Rattle.cmark_slots.specs.declared.bracket.Bracket.{Bracket}
use Rattle.cmark_emphasis.specs.declared.run.PlacedRun.{PlacedRun}
use Rattle.cmark_slots.specs.declared.quote.PlacedQuote.{PlacedQuote}
use Rattle.cmark_slots.specs.declared.slot.Slot.{Slot}
use Rattle.cmark_slots.specs.declared.slot.SlotKind.{SlotKind}
use Rattle.cmark_slots.specs.declared.slot.SlotKind.TheVariants as kind
use Rattle.cmark_slots.proofs.Marks.{whole-hides}
use Rattle.cmark_slots.proofs.Naming.{no-more-hides, no-more-on, same-as}
use Rattle.cmark_slots.proofs.Placing.{KeepsRuns, all-drop, all-head, all-tail, byte, byte-there, have-kept, runs-low}
use Rattle.cmark_slots.proofs.Settling.{Stays, whole-stays, within-stays}

-- ## One slot that is cut

kind-stays : (text : List ℕ) (start end : ℕ) (k : SlotKind) → Stays k (cut_kind text start end k)
kind-stays text start end kind.InlineHtml = go (takes_lines (slice text start end)) refl
  where
    go : (z : Bool) → takes_lines (slice text start end) ≡ z → Stays kind.InlineHtml (cut_kind text start end kind.InlineHtml)
    go true e = let is : cut_kind text start end kind.InlineHtml ≡ kind.CutHtml start = ap (λ z. if z then kind.CutHtml start else kind.InlineHtml) e in inr ((λ q. let z : ⊥ = cc in z), λ i. ap (λ x. last_in x i) is)
    go false e = inl (ap (λ z. if z then kind.CutHtml start else kind.InlineHtml) e)
kind-stays text start end (kind.CutHtml from) = go (takes_lines (slice text from end)) refl
  where
    go : (z : Bool) → takes_lines (slice text from end) ≡ z → Stays (kind.CutHtml from) (cut_kind text start end (kind.CutHtml from))
    go true e = inl (ap (λ z. if z then kind.CutHtml from else kind.InlineHtml) e)
    go false e = let is : cut_kind text start end (kind.CutHtml from) ≡ kind.InlineHtml = ap (λ z. if z then kind.CutHtml from else kind.InlineHtml) e in inr ((λ q. let z : ⊥ = cc in z), λ i. ap (λ x. last_in x i) is)
kind-stays text start end (kind.OwnedText index) = inr ((λ q. let z : ⊥ = cc in z), λ i. (let q : last_in (kind.Whole 0) i ≡ i = omega arith in q))
kind-stays text start end (kind.Character character) = inr ((λ q. let z : ⊥ = cc in z), λ i. (let q : last_in (kind.Whole 0) i ≡ i = omega arith in q))
kind-stays text start end other = inl refl

abbrev NamesKind : (old new : SlotKind) → Type 0
NamesKind old new = IsPlain new ⊎ ((text_named new ≡ text_named old) × (link_named new ≡ link_named old) × (source_end new ≡ source_end old))

kind-names : (text : List ℕ) (start end : ℕ) (k : SlotKind) → NamesKind k (cut_kind text start end k)
kind-names text start end kind.InlineHtml = go (takes_lines (slice text start end)) refl
  where
    go : (z : Bool) → takes_lines (slice text start end) ≡ z → NamesKind kind.InlineHtml (cut_kind text start end kind.InlineHtml)
    go true e = let is : cut_kind text start end kind.InlineHtml ≡ kind.CutHtml start = ap (λ z. if z then kind.CutHtml start else kind.InlineHtml) e in subst (λ x. NamesKind kind.InlineHtml x) (sym is) (inl (refl, refl, refl))
    go false e = let is : cut_kind text start end kind.InlineHtml ≡ kind.InlineHtml = ap (λ z. if z then kind.CutHtml start else kind.InlineHtml) e in subst (λ x. NamesKind kind.InlineHtml x) (sym is) (inl (refl, refl, refl))
kind-names text start end (kind.CutHtml from) = go (takes_lines (slice text from end)) refl
  where
    go : (z : Bool) → takes_lines (slice text from end) ≡ z → NamesKind (kind.CutHtml from) (cut_kind text start end (kind.CutHtml from))
    go true e = let is : cut_kind text start end (kind.CutHtml from) ≡ kind.CutHtml from = ap (λ z. if z then kind.CutHtml from else kind.InlineHtml) e in subst (λ x. NamesKind (kind.CutHtml from) x) (sym is) (inl (refl, refl, refl))
    go false e = let is : cut_kind text start end (kind.CutHtml from) ≡ kind.InlineHtml = ap (λ z. if z then kind.CutHtml from else kind.InlineHtml) e in subst (λ x. NamesKind (kind.CutHtml from) x) (sym is) (inl (refl, refl, refl))
kind-names text start end (kind.OwnedText index) = inl (refl, refl, refl)
kind-names text start end (kind.Character character) = inl (refl, refl, refl)
kind-names text start end other = inr (refl, refl, refl)

module _ (text : List ℕ) (place : ℕ) (s : Slot) where
  abbrev is-cut : Bool
  is-cut = nat_lt s.start place && nat_lt place s.end

  abbrev made : Bool → Slot
  made z = if z then record { kind = cut_kind text s.start s.end s.kind; start = place; end = s.end } else s

  cut-kind-stays : Stays s.kind (cut_slot text place s).kind
  cut-kind-stays = go is-cut refl
    where
      go : (z : Bool) → is-cut ≡ z → Stays s.kind (cut_slot text place s).kind
      go true e = subst (λ (x : Slot). Stays s.kind x.kind) (sym (ap made e)) (kind-stays text s.start s.end s.kind)
      go false e = subst (λ (x : Slot). Stays s.kind x.kind) (sym (ap made e)) (inl refl)

  cut-names : IsPlain (cut_slot text place s).kind ⊎ NamesAs s (cut_slot text place s)
  cut-names = go is-cut refl
    where
      by : NamesKind s.kind (cut_kind text s.start s.end s.kind) → IsPlain (made true).kind ⊎ NamesAs s (made true)
      by (inl plain) = inl plain
      by (inr n) = inr (n.0, n.1, n.2, refl)

      go : (z : Bool) → is-cut ≡ z → IsPlain (cut_slot text place s).kind ⊎ NamesAs s (cut_slot text place s)
      go true e = subst (λ (x : Slot). IsPlain x.kind ⊎ NamesAs s x) (sym (ap made e)) (by (kind-names text s.start s.end s.kind))
      go false e = subst (λ (x : Slot). IsPlain x.kind ⊎ NamesAs s x) (sym (ap made e)) (inr (refl, refl, refl, refl))

  cut-text : s.kind ≡ kind.Text → (cut_slot text place s).kind ≡ kind.Text
  cut-text is = go is-cut refl
    where
      go : (z : Bool) → is-cut ≡ z → (cut_slot text place s).kind ≡ kind.Text
      go true e = ap (λ (x : Slot). x.kind) (ap made e) ∙ ap (λ k. cut_kind text s.start s.end k) is
      go false e = ap (λ (x : Slot). x.kind) (ap made e) ∙ is

  -- no place is inside one byte
  cut-byte : s.end ≡ s.start + 1 → cut_slot text place s ≡ s
  cut-byte one = go (nat_lt s.start place) refl (nat_lt place s.end) refl
    where
      go : (y : Bool) → nat_lt s.start place ≡ y → (z : Bool) → nat_lt place s.end ≡ z → cut_slot text place s ≡ s
      go false e z f = ap (λ y. made (y && nat_lt place s.end)) e
      go true e false f = ap (λ y. made (y && nat_lt place s.end)) e ∙ ap made f
      go true e true f = let a = ltb-true s.start place e in let b = ltb-true place s.end f in absurd (omega (arith, a, b, one))

abbrev Cut : (text : List ℕ) → (place at : ℕ) → (old new : List Slot) → (k : ℕ) → Slot → Type 0
Cut text place at old new k d = (get_or new k d ≡ get_or old k d) ⊎ ((k ≡ at) × (k < length old) × (get_or new k d ≡ cut_slot text place (get_or old k d)))

cut-get : (text : List ℕ) (place at : ℕ) (slots : List Slot) (k : ℕ) (d : Slot) → Cut text place at slots (cut_at text place at slots) k d
cut-get text place at [] k d = inl refl
cut-get text place zero (s ∷ slots) zero d = inr (refl, (let q : 0 < length (s ∷ slots) = omega arith in q), refl)
cut-get text place zero (s ∷ slots) (suc k) d = inl refl
cut-get text place (suc at) (s ∷ slots) zero d = inl refl
cut-get text place (suc at) (s ∷ slots) (suc k) d = go (cut-get text place at slots k d)
  where
    go : Cut text place at slots (cut_at text place at slots) k d → Cut text place (suc at) (s ∷ slots) (s ∷ cut_at text place at slots) (suc k) d
    go (inl e) = inl e
    go (inr (e, lt, c)) = inr (ap suc e, (let q : suc k < length (s ∷ slots) = omega (arith, lt) in q), c)

cut-length : (text : List ℕ) (place at : ℕ) (slots : List Slot) → length (cut_at text place at slots) ≡ length slots
cut-length text place at [] = refl
cut-length text place zero (s ∷ slots) = refl
cut-length text place (suc at) (s ∷ slots) = let h = cut-length text place at slots in let q : suc (length (cut_at text place at slots)) ≡ suc (length slots) = omega (arith, h) in q

-- ## Slots that are hidden

within-hides : (from to : ℕ) (old new : List Slot) → Hides from to old new → EndWithin old → EndWithin new
within-hides from to old new h within i d lt =
    let n = h.size in
    let there : i < length old = omega (arith, lt, n) in
    subst (λ m. last_in (get_or new i d).kind i < m) (sym n) (go i d there (cases_lt i from) (cases_lt i to))
  where
    go : (i : ℕ) (d : Slot) → i < length old → (i < from) ⊎ (from ≤ i) → (i < to) ⊎ (to ≤ i) → last_in (get_or new i d).kind i < length old
    go i d there (inl low) other = subst (λ (s : Slot). last_in s.kind i < length old) (sym (h.before i d low)) (within i d there)
    go i d there (inr high) (inl lt) = subst (λ (s : Slot). last_in s.kind i < length old) (sym (h.inside i d high lt)) there
    go i d there (inr high) (inr past) = subst (λ (s : Slot). last_in s.kind i < length old) (sym (h.following i d past)) (within i d there)

-- the runs from an index on, whose slots are after an offset
have-rest : (slots : List Slot) (from place low n : ℕ) (runs : List PlacedRun) → HaveBytes slots from place runs → ((d : PlacedRun) → n < length runs → low ≤ (get_or runs n d).slot) → HaveBytes slots low 0 (drop n runs)
have-rest slots from place low zero [] h le = tt
have-rest slots from place low zero (r ∷ runs) h le = (h.0, le r (let q : 0 < length (r ∷ runs) = omega arith in q), (let q : 0 ≤ h.0 = omega arith in q), h.3, h.4)
have-rest slots from place low (suc n) [] h le = tt
have-rest slots from place low (suc n) (r ∷ runs) h le = have-rest slots (r.slot + r.run_length) (h.0 + r.run_length) low n runs h.4 (λ d lt. le d (let q : suc n < length (r ∷ runs) = omega (arith, lt) in q))

-- each byte of these runs has the slot of a byte
abbrev AreBytes : List Slot → List PlacedRun → Type 0
AreBytes slots runs = All (λ (r : PlacedRun). (k : ℕ) (d : Slot) → r.slot ≤ k → k < r.slot + r.run_length → (get_or slots k d).end ≡ (get_or slots k d).start + 1) runs

are-bytes : (slots : List Slot) (from place : ℕ) (runs : List PlacedRun) → HaveSizes runs → HaveBytes slots from place runs → AreBytes slots runs
are-bytes slots from place [] sizes h j e lt = absurd (omega (arith, lt))
are-bytes slots from place (r ∷ runs) sizes h zero e lt = λ k d le high.
    let there = byte-there r.run_length r.slot h.0 (all-head (λ (r : PlacedRun). 0 < r.run_length) r runs sizes) slots h.3 (k - r.slot) d (omega (arith, le, high)) in
    let is : get_or slots k d ≡ byte (h.0 + (k - r.slot)) = ap (λ j. get_or slots j d) (let q : k ≡ r.slot + (k - r.slot) = omega (arith, le) in q) ∙ there in
    ap (λ (s : Slot). s.end) is ∙ sym (ap (λ (s : Slot). s.start + 1) is)
are-bytes slots from place (r ∷ runs) sizes h (suc j) e lt = are-bytes slots (r.slot + r.run_length) (h.0 + r.run_length) runs (all-tail (λ (r : PlacedRun). 0 < r.run_length) r runs sizes) h.4 j e (omega (arith, lt))

-- ## What is shown

module _ (texts links : ℕ) (slots : List Slot) (runs : List PlacedRun) (quotes : List PlacedQuote) (standing doubled : List Bracket) (h : AreSound texts links slots runs quotes standing doubled) (low at : ℕ) (order : low ≤ at) (within : at ≤ length slots)
    (between : List Slot) (hides : Hides low at slots between) (text : List ℕ) (place : ℕ) where
  abbrev shown : List Slot
  shown = cut_at text place at between

  pub shown-names : NamesNoMore slots shown
  shown-names = no-more-on slots between shown (no-more-hides low at slots between hides) (λ k d lt. let n = cut-length text place at between in go k d (let q : k < length between = omega (arith, lt, n) in q) (cut-get text place at between k d))
    where
      go : (k : ℕ) (d : Slot) → k < length between → Cut text place at between shown k d → IsPlain (get_or shown k d).kind ⊎ ((k < length between) × NamesAs (get_or between k d) (get_or shown k d))
      go k d lt (inl e) = inr (lt, same-as (get_or between k d) (get_or shown k d) e)
      go k d lt (inr (is, there, e)) = by (cut-names text place (get_or between k d))
        where
          by : IsPlain (cut_slot text place (get_or between k d)).kind ⊎ NamesAs (get_or between k d) (cut_slot text place (get_or between k d)) → IsPlain (get_or shown k d).kind ⊎ ((k < length between) × NamesAs (get_or between k d) (get_or shown k d))
          by (inl plain) = inl (subst (λ (x : Slot). IsPlain x.kind) (sym e) plain)
          by (inr names) = inr (lt, subst (λ (x : Slot). NamesAs (get_or between k d) x) (sym e) names)

  pub shown-before : SameBefore low slots shown
  shown-before = λ k d lt. go k d lt (cut-get text place at between k d)
    where
      go : (k : ℕ) (d : Slot) → k < low → Cut text place at between shown k d → get_or shown k d ≡ get_or slots k d
      go k d lt (inl e) = e ∙ hides.before k d lt
      go k d lt (inr (is, there, e)) = absurd (omega (arith, lt, is, order))

  pub shown-length : length shown ≡ length slots
  shown-length = cut-length text place at between ∙ hides.size

  stays : (k : ℕ) (d : Slot) → k < length between → Stays (get_or between k d).kind (get_or shown k d).kind
  stays k d lt = go (cut-get text place at between k d)
    where
      go : Cut text place at between shown k d → Stays (get_or between k d).kind (get_or shown k d).kind
      go (inl e) = inl (ap (λ (x : Slot). x.kind) e)
      go (inr (is, there, e)) = subst (λ (x : Slot). Stays (get_or between k d).kind x.kind) (sym e) (cut-kind-stays text place (get_or between k d))

  -- the quotes and runs from these on, whose slots are shown, can be settled
  pub shown-settles : (n m : ℕ) → ((d : PlacedRun) → n < length runs → at ≤ (get_or runs n d).slot) → ((d : PlacedQuote) → m < length quotes → at ≤ (get_or quotes m d).slot) → CanSettle low shown (drop n runs) (drop m quotes)
  shown-settles n m run_at quote_at = record {
    whole = whole-stays between shown (cut-length text place at between) stays (whole-hides low at slots between hides h.whole);
    within = within-stays between shown (cut-length text place at between) stays (within-hides low at slots between hides h.within);
    quotes_are = λ k d lt. let a = length-drop m quotes in
        subst (λ (q : PlacedQuote). (q.slot < length shown) × ((e : Slot) → (get_or shown q.slot e).kind ≡ kind.Text)) (sym (get_or-drop m quotes k d)) (one (m + k) d (quote-following k d lt) (h.quotes_are (m + k) d (omega (arith, lt, a))));
    quotes_after = λ k d lt. let g = quote-following k d lt in
        subst (λ (q : PlacedQuote). low ≤ q.slot) (sym (get_or-drop m quotes k d)) (let q : low ≤ (get_or quotes (m + k) d).slot = omega (arith, g, order) in q);
    runs_are = have-kept slots shown low 0 (drop n runs) (let e = shown-length in let q : length slots ≤ length shown = omega (arith, e) in q) sizes keeps (have-rest slots 0 0 low n runs h.runs_are (λ d lt. let g = run_at d lt in omega (arith, g, order)));
    sizes = sizes;
    known = all-drop IsKnownPlaced n runs h.known;
    apart = all-drop (λ (q : PlacedQuote). All (λ (r : PlacedRun). (q.slot < r.slot) ⊎ (r.slot + r.run_length ≤ q.slot)) (drop n runs)) m quotes
        (λ k d lt. all-drop (λ (r : PlacedRun). ((get_or quotes k d).slot < r.slot) ⊎ (r.slot + r.run_length ≤ (get_or quotes k d).slot)) n runs (h.apart k d lt));
  }
    where
      sizes : HaveSizes (drop n runs)
      sizes = all-drop (λ (r : PlacedRun). 0 < r.run_length) n runs h.sizes

      quote-following : (k : ℕ) (d : PlacedQuote) → k < length (drop m quotes) → at ≤ (get_or quotes (m + k) d).slot
      quote-following zero d lt = let a = length-drop m quotes in subst (λ j. at ≤ (get_or quotes j d).slot) (let q : m ≡ m + 0 = omega arith in q) (quote_at d (omega (arith, lt, a)))
      quote-following (suc k) d lt =
          let a = length-drop m quotes in
          let first = quote_at d (omega (arith, lt, a)) in
          let less = h.quotes_order m (m + suc k) d (omega arith) (omega (arith, lt, a)) in
          omega (arith, first, less)

      one : (j : ℕ) (d : PlacedQuote) → at ≤ (get_or quotes j d).slot → ((get_or quotes j d).slot < length slots) × ((e : Slot) → (get_or slots (get_or quotes j d).slot e).kind ≡ kind.Text)
          → ((get_or quotes j d).slot < length shown) × ((e : Slot) → (get_or shown (get_or quotes j d).slot e).kind ≡ kind.Text)
      one j d le t =
          let k : ℕ = (get_or quotes j d).slot in
          let w = t.0 in
          let l = shown-length in
          ((let q : k < length shown = omega (arith, w, l) in q), λ e. go k e (ap (λ (s : Slot). s.kind) (hides.following k e le) ∙ t.1 e) (cut-get text place at between k e))
        where
          go : (k : ℕ) (e : Slot) → (get_or between k e).kind ≡ kind.Text → Cut text place at between shown k e → (get_or shown k e).kind ≡ kind.Text
          go k e is (inl same) = ap (λ (s : Slot). s.kind) same ∙ is
          go k e is (inr (a, there, made)) = ap (λ (s : Slot). s.kind) made ∙ cut-text text place (get_or between k e) is

      following-all : All (λ (r : PlacedRun). at ≤ r.slot) (drop n runs)
      following-all = runs-low slots at 0 (drop n runs) (have-rest slots 0 0 at n runs h.runs_are run_at) at (omega arith)

      keeps : KeepsRuns slots shown (drop n runs)
      keeps = λ j e lt. λ k d le high. let b = following-all j e lt in let ends = are-bytes slots at 0 (drop n runs) sizes (have-rest slots 0 0 at n runs h.runs_are run_at) j e lt k d le high in
          go k d (hides.following k d (omega (arith, b, le))) ends (cut-get text place at between k d)
        where
          go : (k : ℕ) (d : Slot) → get_or between k d ≡ get_or slots k d → (get_or slots k d).end ≡ (get_or slots k d).start + 1 → Cut text place at between shown k d → get_or shown k d ≡ get_or slots k d
          go k d same one (inl e) = e ∙ same
          go k d same one (inr (is, there, e)) = e ∙ ap (cut_slot text place) same ∙ cut-byte text place (get_or slots k d) one
