-- Which texts and links slots name, as slots are appended and become others.
use Rattle.std.proofs.Common.{◌≡◌, ◌⊎◌, inl, inr, ℕ, ◌+◌, ◌<◌, ◌≤◌, List, [], ◌∷◌, ◌++◌, length, get_or, set, Some, None, refl, sym, ap, subst, ◌∙◌, arith}
use Rattle.std.specs.Prelude.{Option, All}
use Rattle.std.proofs.lemmas.Bool.{cases_eq, cases_lt}
use Rattle.std.proofs.lemmas.List.{length_push, get_or_append_left, get_or_push, get_or-set_same, get_or-set_other, length-set}
use Rattle.std.proofs.lemmas.Option.{same_Some}
use Rattle.cmark_leaf_text.specs.declared.leaf_text.LeafText.{LeafText}
use Rattle.cmark_slots.specs.MarkedSlots.{Merges, whole_to}
use Rattle.cmark_slots.specs.SlotViews.{AreOnce, Differ, IsThere, link_named, text_named}
use Rattle.cmark_slots.specs.Standing.{AreEnded, AreNamed, EndsIn, IsPlain, NamesAs, NamesNoMore, source_end}
use Rattle.cmark_slots.specs.Cuts.{Hides}
use Rattle.cmark_slots.specs.declared.slot.Slot.{Slot}
use Rattle.cmark_slots.specs.declared.slot.SlotKind.{SlotKind}
use Rattle.cmark_slots.specs.declared.slot.SlotKind.TheVariants as kind

-- ## One name

there-more : (n m : ℕ) (o : Option ℕ) → n ≤ m → IsThere n o → IsThere m o
there-more n m None le h = tt
there-more n m (Some i) le h = omega (arith, le, h)

differ-none : (o : Option ℕ) → Differ o None
differ-none None = tt
differ-none (Some i) = λ e. let z : ⊥ = cc in z

-- an index that exists differs from the next free one
differ-next : (n : ℕ) (o : Option ℕ) → IsThere n o → Differ o (Some n)
differ-next n None h = tt
differ-next n (Some i) h = λ e. let q : n ≡ i = same_Some n i e in absurd (omega (arith, q, h))

next-differs : (n : ℕ) (o : Option ℕ) → IsThere n o → Differ (Some n) o
next-differs n None h = λ e. let z : ⊥ = cc in z
next-differs n (Some i) h = λ e. let q : i ≡ n = same_Some i n e in absurd (omega (arith, q, h))

module _ (named : SlotKind → Option ℕ) where
  abbrev name : List Slot → ℕ → Slot → Option ℕ
  name slots k d = named (get_or slots k d).kind

  -- each slot names nothing, or what it named before, or, at one index, this number
  abbrev Adds : (n at : ℕ) → (old new : List Slot) → Type 0
  Adds n at old new = (k : ℕ) (d : Slot) → k < length new → (name new k d ≡ None) ⊎ (((k < length old) × (name new k d ≡ name old k d)) ⊎ ((k ≡ at) × (name new k d ≡ Some n)))

  abbrev Case : (n at : ℕ) → (old new : List Slot) → (k : ℕ) → Slot → Type 0
  Case n at old new k d = (name new k d ≡ None) ⊎ (((k < length old) × (name new k d ≡ name old k d)) ⊎ ((k ≡ at) × (name new k d ≡ Some n)))

  abbrev Same : (old new : List Slot) → Type 0
  Same old new = (k : ℕ) (d : Slot) → k < length new → (name new k d ≡ None) ⊎ ((k < length old) × (name new k d ≡ name old k d))

  abbrev There : ℕ → List Slot → Type 0
  There n slots = All (λ (slot : Slot). IsThere n (named slot.kind)) slots

  there-adds : (n at : ℕ) (old new : List Slot) → There n old → Adds n at old new → There (n + 1) new
  there-adds n at old new h adds = λ k d lt. go k d (adds k d lt)
    where
      go : (k : ℕ) (d : Slot) → (name new k d ≡ None) ⊎ (((k < length old) × (name new k d ≡ name old k d)) ⊎ ((k ≡ at) × (name new k d ≡ Some n))) → IsThere (n + 1) (name new k d)
      go k d (inl e) = subst (λ o. IsThere (n + 1) o) (sym e) tt
      go k d (inr (inl (lt, e))) = subst (λ o. IsThere (n + 1) o) (sym e) (there-more n (n + 1) (name old k d) (omega arith) (h k d lt))
      go k d (inr (inr (at_it, e))) = subst (λ o. IsThere (n + 1) o) (sym e) (let q : n < n + 1 = omega arith in q)

  there-same : (n : ℕ) (old new : List Slot) → There n old → Same old new → There n new
  there-same n old new h same = λ k d lt. go k d (same k d lt)
    where
      go : (k : ℕ) (d : Slot) → (name new k d ≡ None) ⊎ ((k < length old) × (name new k d ≡ name old k d)) → IsThere n (name new k d)
      go k d (inl e) = subst (λ o. IsThere n o) (sym e) tt
      go k d (inr (lt, e)) = subst (λ o. IsThere n o) (sym e) (h k d lt)

  once-adds : (n at : ℕ) (old new : List Slot) → There n old → AreOnce named old → Adds n at old new → AreOnce named new
  once-adds n at old new there once adds = λ i j d less lt. go i j d less (adds i d (omega (arith, less, lt))) (adds j d lt)
    where
      go : (i j : ℕ) (d : Slot) → i < j → Case n at old new i d → Case n at old new j d → Differ (name new i d) (name new j d)
      go i j d less (inl e) other = subst (λ o. Differ o (name new j d)) (sym e) tt
      go i j d less (inr (inl one)) (inl e) = subst (λ o. Differ (name new i d) o) (sym e) (differ-none (name new i d))
      go i j d less (inr (inl (ilt, ie))) (inr (inl (jlt, je))) = subst (λ o. Differ o (name new j d)) (sym ie) (subst (λ o. Differ (name old i d) o) (sym je) (once i j d less jlt))
      go i j d less (inr (inl (ilt, ie))) (inr (inr (jat, je))) = subst (λ o. Differ o (name new j d)) (sym ie) (subst (λ o. Differ (name old i d) o) (sym je) (differ-next n (name old i d) (there i d ilt)))
      go i j d less (inr (inr one)) (inl e) = subst (λ o. Differ (name new i d) o) (sym e) (differ-none (name new i d))
      go i j d less (inr (inr (iat, ie))) (inr (inl (jlt, je))) = subst (λ o. Differ o (name new j d)) (sym ie) (subst (λ o. Differ (Some n) o) (sym je) (next-differs n (name old j d) (there j d jlt)))
      go i j d less (inr (inr (iat, ie))) (inr (inr (jat, je))) = absurd (omega (arith, less, iat, jat))

  once-same : (n : ℕ) (old new : List Slot) → There n old → AreOnce named old → Same old new → AreOnce named new
  once-same n old new there once same = once-adds n 0 old new there once (λ k d lt. go k d (same k d lt))
    where
      go : (k : ℕ) (d : Slot) → (name new k d ≡ None) ⊎ ((k < length old) × (name new k d ≡ name old k d)) → (name new k d ≡ None) ⊎ (((k < length old) × (name new k d ≡ name old k d)) ⊎ ((k ≡ 0) × (name new k d ≡ Some n)))
      go k d (inl e) = inl e
      go k d (inr r) = inr (inl r)

-- ## Slots that name no more

pub no-more-same : (slots : List Slot) → NamesNoMore slots slots
no-more-same slots = λ k d lt. inr (lt, (refl, refl, refl, refl))

pub as-on : (one two three : Slot) → NamesAs one two → NamesAs two three → NamesAs one three
as-on one two three a b = (b.0 ∙ a.0, b.1 ∙ a.1, b.2 ∙ a.2, b.3 ∙ a.3)

as-plain : (one two : Slot) → IsPlain one.kind → NamesAs one two → IsPlain two.kind
as-plain one two p a = (a.0 ∙ p.0, a.1 ∙ p.1, a.2 ∙ p.2)

pub no-more-on : (old mid new : List Slot) → NamesNoMore old mid → NamesNoMore mid new → NamesNoMore old new
no-more-on old mid new a b = λ k d lt. go k d (b k d lt)
  where
    then : (k : ℕ) (d : Slot) → NamesAs (get_or mid k d) (get_or new k d) → IsPlain (get_or mid k d).kind ⊎ ((k < length old) × NamesAs (get_or old k d) (get_or mid k d)) → IsPlain (get_or new k d).kind ⊎ ((k < length old) × NamesAs (get_or old k d) (get_or new k d))
    then k d s (inl p) = inl (as-plain (get_or mid k d) (get_or new k d) p s)
    then k d s (inr (lt, t)) = inr (lt, as-on (get_or old k d) (get_or mid k d) (get_or new k d) t s)

    go : (k : ℕ) (d : Slot) → IsPlain (get_or new k d).kind ⊎ ((k < length mid) × NamesAs (get_or mid k d) (get_or new k d)) → IsPlain (get_or new k d).kind ⊎ ((k < length old) × NamesAs (get_or old k d) (get_or new k d))
    go k d (inl p) = inl p
    go k d (inr (lt, s)) = then k d s (a k d lt)

pub same-as : (one two : Slot) → two ≡ one → NamesAs one two
same-as one two e = (ap (λ (s : Slot). text_named s.kind) e, ap (λ (s : Slot). link_named s.kind) e, ap (λ (s : Slot). source_end s.kind) e, ap (λ (s : Slot). s.end) e)

-- a slot is one of these, and names at most the same things
abbrev pub AddsOne : (at : ℕ) → Slot → (old new : List Slot) → Type 0
AddsOne at s old new = (k : ℕ) (d : Slot) → k < length new → ((k ≡ at) × NamesAs s (get_or new k d)) ⊎ (IsPlain (get_or new k d).kind ⊎ ((k < length old) × NamesAs (get_or old k d) (get_or new k d)))

pub adds-set : (slots : List Slot) (at : ℕ) (s : Slot) → AddsOne at s slots (set slots at s)
adds-set slots at s = λ k d lt.
    let n = length-set slots at s in
    let there : k < length slots = omega (arith, lt, n) in
    go k d there (cases_eq k at)
  where
    go : (k : ℕ) (d : Slot) → k < length slots → (k ≡ at) ⊎ (k ≡ at → ⊥) → ((k ≡ at) × NamesAs s (get_or (set slots at s) k d)) ⊎ (IsPlain (get_or (set slots at s) k d).kind ⊎ ((k < length slots) × NamesAs (get_or slots k d) (get_or (set slots at s) k d)))
    go k d there (inl e) = inl (e, same-as s (get_or (set slots at s) k d) (ap (λ j. get_or (set slots at s) j d) e ∙ get_or-set_same slots at s d (let q : at < length slots = omega (arith, there, e) in q)))
    go k d there (inr o) = inr (inr (there, same-as (get_or slots k d) (get_or (set slots at s) k d) (get_or-set_other slots at k s d o)))

pub adds-push : (slots : List Slot) (s : Slot) → AddsOne (length slots) s slots (slots ++ (s ∷ []))
adds-push slots s = λ k d lt.
    let n = length_push slots s in
    go k d (let q : k ≤ length slots = omega (arith, lt, n) in q) (cases_lt k (length slots))
  where
    go : (k : ℕ) (d : Slot) → k ≤ length slots → (k < length slots) ⊎ (length slots ≤ k) → ((k ≡ length slots) × NamesAs s (get_or (slots ++ (s ∷ [])) k d)) ⊎ (IsPlain (get_or (slots ++ (s ∷ [])) k d).kind ⊎ ((k < length slots) × NamesAs (get_or slots k d) (get_or (slots ++ (s ∷ [])) k d)))
    go k d le (inl lt) = inr (inr (lt, same-as (get_or slots k d) (get_or (slots ++ (s ∷ [])) k d) (get_or_append_left slots (s ∷ []) d k lt)))
    go k d le (inr g) =
        let q : length slots ≡ k = omega (arith, g, le) in
        inl (sym q, same-as s (get_or (slots ++ (s ∷ [])) k d) (get_or_push slots s d k q))

-- a plain slot adds no name
pub adds-plain : (at : ℕ) (s : Slot) (old new : List Slot) → IsPlain s.kind → AddsOne at s old new → NamesNoMore old new
adds-plain at s old new plain adds = λ k d lt. go k d (adds k d lt)
  where
    go : (k : ℕ) (d : Slot) → ((k ≡ at) × NamesAs s (get_or new k d)) ⊎ (IsPlain (get_or new k d).kind ⊎ ((k < length old) × NamesAs (get_or old k d) (get_or new k d))) → IsPlain (get_or new k d).kind ⊎ ((k < length old) × NamesAs (get_or old k d) (get_or new k d))
    go k d (inl (e, a)) = inl (as-plain s (get_or new k d) plain a)
    go k d (inr r) = r

pub no-more-set : (slots : List Slot) (at : ℕ) (s : Slot) → IsPlain s.kind → NamesNoMore slots (set slots at s)
no-more-set slots at s plain = adds-plain at s slots (set slots at s) plain (adds-set slots at s)

pub no-more-push : (slots : List Slot) (s : Slot) → IsPlain s.kind → NamesNoMore slots (slots ++ (s ∷ []))
no-more-push slots s plain = adds-plain (length slots) s slots (slots ++ (s ∷ [])) plain (adds-push slots s)

pub no-more-hides : (from to : ℕ) (old new : List Slot) → Hides from to old new → NamesNoMore old new
no-more-hides from to old new h = λ k d lt.
    let n = h.size in
    let there : k < length old = omega (arith, lt, n) in
    go k d there (cases_lt k from) (cases_lt k to)
  where
    gone : (k : ℕ) (d : Slot) → get_or new k d ≡ record { kind = kind.Nothing; start = (get_or old k d).start; end = (get_or old k d).end } → IsPlain (get_or new k d).kind
    gone k d e = (ap (λ (s : Slot). text_named s.kind) e, ap (λ (s : Slot). link_named s.kind) e, ap (λ (s : Slot). source_end s.kind) e)

    go : (k : ℕ) (d : Slot) → k < length old → (k < from) ⊎ (from ≤ k) → (k < to) ⊎ (to ≤ k) → IsPlain (get_or new k d).kind ⊎ ((k < length old) × NamesAs (get_or old k d) (get_or new k d))
    go k d there (inl low) other = inr (there, same-as (get_or old k d) (get_or new k d) (h.before k d low))
    go k d there (inr high) (inl lt) = inl (gone k d (h.inside k d high lt))
    go k d there (inr high) (inr past) = inr (there, same-as (get_or old k d) (get_or new k d) (h.following k d past))

pub no-more-merges : (first last : ℕ) (old new : List Slot) (d : Slot) → Merges first last old new → NamesNoMore old new
no-more-merges first last old new d m =
    let s = whole_to last (get_or old last d).end (get_or old first d) in
    subst (NamesNoMore old) (sym (m.slots_are d)) (no-more-on old m.between (set m.between first s) (no-more-hides (first + 1) (last + 1) old m.between m.hides) (no-more-set m.between first s (refl, refl, refl)))

-- one slot names what it may, and then no more is named
pub adds-then : (at : ℕ) (s : Slot) (old mid new : List Slot) → AddsOne at s old mid → NamesNoMore mid new → AddsOne at s old new
adds-then at s old mid new a b = λ k d lt. go k d (b k d lt)
  where
    then : (k : ℕ) (d : Slot) → NamesAs (get_or mid k d) (get_or new k d) → ((k ≡ at) × NamesAs s (get_or mid k d)) ⊎ (IsPlain (get_or mid k d).kind ⊎ ((k < length old) × NamesAs (get_or old k d) (get_or mid k d)))
        → ((k ≡ at) × NamesAs s (get_or new k d)) ⊎ (IsPlain (get_or new k d).kind ⊎ ((k < length old) × NamesAs (get_or old k d) (get_or new k d)))
    then k d t (inl (e, x)) = inl (e, as-on s (get_or mid k d) (get_or new k d) x t)
    then k d t (inr (inl p)) = inr (inl (as-plain (get_or mid k d) (get_or new k d) p t))
    then k d t (inr (inr (lt, x))) = inr (inr (lt, as-on (get_or old k d) (get_or mid k d) (get_or new k d) x t))

    go : (k : ℕ) (d : Slot) → IsPlain (get_or new k d).kind ⊎ ((k < length mid) × NamesAs (get_or mid k d) (get_or new k d)) → ((k ≡ at) × NamesAs s (get_or new k d)) ⊎ (IsPlain (get_or new k d).kind ⊎ ((k < length old) × NamesAs (get_or old k d) (get_or new k d)))
    go k d (inl p) = inr (inl p)
    go k d (inr (lt, t)) = then k d t (a k d lt)

-- ## What all slots name

module _ (old new : List Slot) (h : NamesNoMore old new) where
  texts-same : Same text_named old new
  texts-same = λ k d lt. go k d (h k d lt)
    where
      go : (k : ℕ) (d : Slot) → IsPlain (get_or new k d).kind ⊎ ((k < length old) × NamesAs (get_or old k d) (get_or new k d)) → (name text_named new k d ≡ None) ⊎ ((k < length old) × (name text_named new k d ≡ name text_named old k d))
      go k d (inl p) = inl p.0
      go k d (inr (lt, a)) = inr (lt, a.0)

  links-same : Same link_named old new
  links-same = λ k d lt. go k d (h k d lt)
    where
      go : (k : ℕ) (d : Slot) → IsPlain (get_or new k d).kind ⊎ ((k < length old) × NamesAs (get_or old k d) (get_or new k d)) → (name link_named new k d ≡ None) ⊎ ((k < length old) × (name link_named new k d ≡ name link_named old k d))
      go k d (inl p) = inl p.1
      go k d (inr (lt, a)) = inr (lt, a.1)

  pub named-on : (texts links : ℕ) → AreNamed texts links old → AreNamed texts links new
  named-on texts links n = record {
    texts_there = there-same text_named texts old new n.texts_there texts-same;
    links_there = there-same link_named links old new n.links_there links-same;
    texts_once = once-same text_named texts old new n.texts_there n.texts_once texts-same;
    links_once = once-same link_named links old new n.links_there n.links_once links-same;
  }

  pub ended-on : (leaf : LeafText) → AreEnded leaf old → AreEnded leaf new
  ended-on leaf e = λ k d lt. go k d (h k d lt)
    where
      go : (k : ℕ) (d : Slot) → IsPlain (get_or new k d).kind ⊎ ((k < length old) × NamesAs (get_or old k d) (get_or new k d)) → EndsIn leaf (get_or new k d).end (source_end (get_or new k d).kind)
      go k d (inl p) = subst (λ o. EndsIn leaf (get_or new k d).end o) (sym p.2) tt
      go k d (inr (lt, a)) = subst (λ o. EndsIn leaf (get_or new k d).end o) (sym a.2) (subst (λ n. EndsIn leaf n (source_end (get_or old k d).kind)) (sym a.3) (e k d lt))

module _ (at : ℕ) (s : Slot) (old new : List Slot) (h : AddsOne at s old new) where
  pub one-ended : (leaf : LeafText) → AreEnded leaf old → EndsIn leaf s.end (source_end s.kind) → AreEnded leaf new
  one-ended leaf e x = λ k d lt. go k d (h k d lt)
    where
      go : (k : ℕ) (d : Slot) → ((k ≡ at) × NamesAs s (get_or new k d)) ⊎ (IsPlain (get_or new k d).kind ⊎ ((k < length old) × NamesAs (get_or old k d) (get_or new k d))) → EndsIn leaf (get_or new k d).end (source_end (get_or new k d).kind)
      go k d (inl (at_it, a)) = subst (λ o. EndsIn leaf (get_or new k d).end o) (sym a.2) (subst (λ n. EndsIn leaf n (source_end s.kind)) (sym a.3) x)
      go k d (inr (inl p)) = subst (λ o. EndsIn leaf (get_or new k d).end o) (sym p.2) tt
      go k d (inr (inr (lt, a))) = subst (λ o. EndsIn leaf (get_or new k d).end o) (sym a.2) (subst (λ n. EndsIn leaf n (source_end (get_or old k d).kind)) (sym a.3) (e k d lt))

  texts-add : (n : ℕ) → text_named s.kind ≡ Some n → Adds text_named n at old new
  texts-add n is = λ k d lt. go k d (h k d lt)
    where
      go : (k : ℕ) (d : Slot) → ((k ≡ at) × NamesAs s (get_or new k d)) ⊎ (IsPlain (get_or new k d).kind ⊎ ((k < length old) × NamesAs (get_or old k d) (get_or new k d)))
          → (name text_named new k d ≡ None) ⊎ (((k < length old) × (name text_named new k d ≡ name text_named old k d)) ⊎ ((k ≡ at) × (name text_named new k d ≡ Some n)))
      go k d (inl (e, a)) = inr (inr (e, a.0 ∙ is))
      go k d (inr (inl p)) = inl p.0
      go k d (inr (inr (lt, a))) = inr (inl (lt, a.0))

  links-add : (n : ℕ) → link_named s.kind ≡ Some n → Adds link_named n at old new
  links-add n is = λ k d lt. go k d (h k d lt)
    where
      go : (k : ℕ) (d : Slot) → ((k ≡ at) × NamesAs s (get_or new k d)) ⊎ (IsPlain (get_or new k d).kind ⊎ ((k < length old) × NamesAs (get_or old k d) (get_or new k d)))
          → (name link_named new k d ≡ None) ⊎ (((k < length old) × (name link_named new k d ≡ name link_named old k d)) ⊎ ((k ≡ at) × (name link_named new k d ≡ Some n)))
      go k d (inl (e, a)) = inr (inr (e, a.1 ∙ is))
      go k d (inr (inl p)) = inl p.1
      go k d (inr (inr (lt, a))) = inr (inl (lt, a.1))

  texts-stay : text_named s.kind ≡ None → Same text_named old new
  texts-stay is = λ k d lt. go k d (h k d lt)
    where
      go : (k : ℕ) (d : Slot) → ((k ≡ at) × NamesAs s (get_or new k d)) ⊎ (IsPlain (get_or new k d).kind ⊎ ((k < length old) × NamesAs (get_or old k d) (get_or new k d)))
          → (name text_named new k d ≡ None) ⊎ ((k < length old) × (name text_named new k d ≡ name text_named old k d))
      go k d (inl (e, a)) = inl (a.0 ∙ is)
      go k d (inr (inl p)) = inl p.0
      go k d (inr (inr (lt, a))) = inr (lt, a.0)

  links-stay : link_named s.kind ≡ None → Same link_named old new
  links-stay is = λ k d lt. go k d (h k d lt)
    where
      go : (k : ℕ) (d : Slot) → ((k ≡ at) × NamesAs s (get_or new k d)) ⊎ (IsPlain (get_or new k d).kind ⊎ ((k < length old) × NamesAs (get_or old k d) (get_or new k d)))
          → (name link_named new k d ≡ None) ⊎ ((k < length old) × (name link_named new k d ≡ name link_named old k d))
      go k d (inl (e, a)) = inl (a.1 ∙ is)
      go k d (inr (inl p)) = inl p.1
      go k d (inr (inr (lt, a))) = inr (lt, a.1)

  -- the next text is named
  pub named-text : (texts links : ℕ) → AreNamed texts links old → text_named s.kind ≡ Some texts → link_named s.kind ≡ None → AreNamed (texts + 1) links new
  named-text texts links n is none = record {
    texts_there = there-adds text_named texts at old new n.texts_there (texts-add texts is);
    links_there = there-same link_named links old new n.links_there (links-stay none);
    texts_once = once-adds text_named texts at old new n.texts_there n.texts_once (texts-add texts is);
    links_once = once-same link_named links old new n.links_there n.links_once (links-stay none);
  }

  -- the next link is named
  pub named-link : (texts links : ℕ) → AreNamed texts links old → text_named s.kind ≡ None → link_named s.kind ≡ Some links → AreNamed texts (links + 1) new
  named-link texts links n none is = record {
    texts_there = there-same text_named texts old new n.texts_there (texts-stay none);
    links_there = there-adds link_named links at old new n.links_there (links-add links is);
    texts_once = once-same text_named texts old new n.texts_there n.texts_once (texts-stay none);
    links_once = once-adds link_named links at old new n.links_there n.links_once (links-add links is);
  }

  -- a slot that names neither
  pub named-none : (texts links : ℕ) → AreNamed texts links old → text_named s.kind ≡ None → link_named s.kind ≡ None → AreNamed texts links new
  named-none texts links n bare none = record {
    texts_there = there-same text_named texts old new n.texts_there (texts-stay bare);
    links_there = there-same link_named links old new n.links_there (links-stay none);
    texts_once = once-same text_named texts old new n.texts_there n.texts_once (texts-stay bare);
    links_once = once-same link_named links old new n.links_there n.links_once (links-stay none);
  }

-- there are more texts and links
pub named-more : (texts links more : ℕ) (slots : List Slot) → links ≤ more → AreNamed texts links slots → AreNamed texts more slots
named-more texts links more slots le n = record {
  texts_there = n.texts_there;
  links_there = λ k d lt. there-more links more (link_named (get_or slots k d).kind) le (n.links_there k d lt);
  texts_once = n.texts_once;
  links_once = n.links_once;
}
