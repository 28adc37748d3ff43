-- Slots that become one text.
use Rattle.std.proofs.Common.{◌≡◌, ◌⊎◌, inl, inr, ⊎_elim, ℕ, ◌+◌, ◌<◌, ◌≤◌, List, length, get_or, set, sym, ap, subst, ◌∙◌, arith}
use Rattle.std.proofs.lemmas.Bool.{cases_lt}
use Rattle.std.proofs.lemmas.List.{get_or_default}
use Rattle.cmark_slots.specs.MarkedSlots.{AreWhole, last_in}
use Rattle.cmark_slots.specs.Cuts.{Hides, hidden}
use Rattle.cmark_slots.specs.declared.slot.Slot.{Slot}
use Rattle.cmark_slots.specs.declared.slot.SlotKind.{SlotKind}
use Rattle.cmark_slots.specs.declared.slot.SlotKind.TheVariants as kind
use Rattle.cmark_slots.proofs.Marks.{not-text}
use Rattle.cmark_slots.proofs.Cutting.{hides-more}

-- a slot that is nothing already
already-hidden : (s : Slot) → s.kind ≡ kind.Nothing → s ≡ hidden s
already-hidden s e = ap (λ (k : SlotKind). record { kind = k; start = s.start; end = s.end }) e

-- the slots after `first` up to this one became Nothing
module _ (first at last end : ℕ) (old ss : List Slot) (d0 : Slot) (h : Hides (first + 1) (at + 1) old ss) (whole : AreWhole old) (low : first ≤ at) (lt : at < last) (within : last < length old) where
  -- the next slot is unchanged, and so are the slots that belong to it
  next-as : (d : Slot) → get_or ss (at + 1) d0 ≡ get_or old (at + 1) d
  next-as d =
      let m = h.size in
      let there : at + 1 < length ss = omega (arith, m, lt, within) in
      get_or_default ss (at + 1) d0 d there ∙ h.following (at + 1) d (omega arith)

  -- no whole text between reaches over the last one, which is a text
  pub ends-by : ((d : Slot) → (get_or old last d).kind ≡ kind.Text) → end ≡ last_in (get_or ss (at + 1) d0).kind (at + 1) → end ≤ last
  ends-by text reach = go (cases_lt last end) (cases_lt (at + 1) last)
    where
      far : end ≡ last_in (get_or old (at + 1) d0).kind (at + 1)
      far = reach ∙ ap (λ (s : Slot). last_in s.kind (at + 1)) (next-as d0)

      itself : last ≤ at + 1 → end ≡ at + 1
      itself le =
          let same : at + 1 ≡ last = omega (arith, le, lt) in
          far ∙ ap (λ (k : SlotKind). last_in k (at + 1)) (ap (λ j. (get_or old j d0).kind) same ∙ text d0)

      go : (last < end) ⊎ (end ≤ last) → (at + 1 < last) ⊎ (last ≤ at + 1) → end ≤ last
      go (inr le) other = le
      go (inl over) (inl before) = absurd (not-text (sym (whole (at + 1) last d0 before (subst (λ n. last ≤ n) far (omega (arith, over))) within) ∙ text d0))
      go (inl over) (inr le) = let e = itself le in absurd (omega (arith, over, e, lt))

  -- the next slot becomes nothing, and those that belong to it are nothing already
  pub between-more : (ts : List Slot) → end ≡ last_in (get_or ss (at + 1) d0).kind (at + 1) → at + 1 ≤ end → ts ≡ set ss (at + 1) (hidden (get_or ss (at + 1) d0)) → end ≤ last → Hides (first + 1) (end + 1) old ts
  between-more ts reach order e by =
      let m = h.size in
      let there : at + 1 < length ss = omega (arith, m, lt, within) in
      let one = hides-more (first + 1) (at + 1) old ss ts d0 h (omega (arith, low)) there e in
      record {
        size = one.size;
        inside = λ k d l g. ⊎_elim (λ (x : k < at + 1 + 1). one.inside k d l x) (λ (x : at + 1 + 1 ≤ k). gone k d x g one) (cases_lt k (at + 1 + 1));
        before = one.before;
        following = λ k d l. one.following k d (omega (arith, l, order));
      }
    where
      gone : (k : ℕ) (d : Slot) → at + 1 + 1 ≤ k → k < end + 1 → Hides (first + 1) (at + 1 + 1) old ts → get_or ts k d ≡ hidden (get_or old k d)
      gone k d l g one =
          let far : end ≡ last_in (get_or old (at + 1) d).kind (at + 1) = reach ∙ ap (λ (s : Slot). last_in s.kind (at + 1)) (next-as d) in
          let high : k ≤ last_in (get_or old (at + 1) d).kind (at + 1) = subst (λ x. k ≤ x) far (let q : k ≤ end = omega (arith, g) in q) in
          one.following k d l ∙ already-hidden (get_or old k d) (whole (at + 1) k d (omega (arith, l)) high (let q : k < length old = omega (arith, g, by, within) in q))
