-- Slots that become nothing one after the other, and slots that are cut.
use Rattle.std.specs.Prelude.{◌&&◌}
use Rattle.std.proofs.Common.{◌≡◌, ℕ, zero, suc, ◌+◌, ◌≤◌, ◌<◌, Bool, true, false, true≢false, List, [], ◌∷◌, length, get_or, set, refl, sym, ap, subst, ◌∙◌, arith, nat_lt}
use Rattle.std.specs.Str.{IsCharBoundary}
use Rattle.std.proofs.lemmas.Bool.{ltb-true, ltb-false}
use Rattle.std.proofs.lemmas.List.{get_or_default, get_or-set_same, get_or-set_other, length-set}
use Rattle.cmark_slots.specs.Slots.{HoldNoLink, IsContent, IsSlot, NoNewLink, begins_link}
use Rattle.cmark_slots.specs.Cuts.{Hides, hidden}
use Rattle.cmark_slots.specs.Cuts.{cut_at as slots_cut_at, cut_slot}
use Rattle.cmark_slots.specs.declared.slot.Slot.{Slot}
use Rattle.cmark_slots.specs.declared.slot.SlotKind.{SlotKind}

-- ## What is hidden
pub hides-none : (from : ℕ) (ss : List Slot) → Hides from from ss ss
hides-none from ss = record { size = refl; inside = λ k d low high. absurd (omega (arith, low, high)); before = λ k d lt. refl; following = λ k d le. refl }

pub hides-more : (from at : ℕ) (old ss ts : List Slot) (d : Slot) → Hides from at old ss → from ≤ at → at < length ss → ts ≡ set ss at (hidden (get_or ss at d)) → Hides from (at + 1) old ts
hides-more from at old ss ts d0 h le lt e = record {
  size = ap length e ∙ length-set ss at (hidden (get_or ss at d0)) ∙ h.size;
  inside = λ k d low high. ap (λ (l : List Slot). get_or l k d) e ∙ go k d low (nat_lt k at) refl (omega (arith, high));
  before = λ k d low. ap (λ (l : List Slot). get_or l k d) e ∙ get_or-set_other ss at k (hidden (get_or ss at d0)) d (λ (q : k ≡ at). absurd (omega (arith, q, low, le))) ∙ h.before k d low;
  following = λ k d low. ap (λ (l : List Slot). get_or l k d) e ∙ get_or-set_other ss at k (hidden (get_or ss at d0)) d (λ (q : k ≡ at). absurd (omega (arith, q, low))) ∙ h.following k d (omega (arith, low));
}
  where
    same-there : (k : ℕ) (d : Slot) → k ≡ at → get_or ss at d0 ≡ get_or old k d
    same-there k d q = get_or_default ss at d0 d lt ∙ h.following at d (omega arith) ∙ ap (λ n. get_or old n d) (sym q)

    go : (k : ℕ) (d : Slot) → from ≤ k → (z : Bool) → nat_lt k at ≡ z → k ≤ at → get_or (set ss at (hidden (get_or ss at d0))) k d ≡ hidden (get_or old k d)
    go k d low true b m =
        let lt2 = ltb-true k at b in
        get_or-set_other ss at k (hidden (get_or ss at d0)) d (λ (q : k ≡ at). absurd (omega (arith, q, lt2))) ∙ h.inside k d low lt2
    go k d low false b m =
        let g = ltb-false k at b in
        let q : k ≡ at = omega (arith, g, m) in
        ap (λ n. get_or (set ss at (hidden (get_or ss at d0))) n d) q ∙ get_or-set_same ss at (hidden (get_or ss at d0)) d lt ∙ ap hidden (same-there k d q)

-- ## Brackets that are dropped

-- ## A slot that is cut
pub cut-there : (text : List ℕ) (place at : ℕ) (slots : List Slot) (d : Slot) → at < length slots → set slots at (cut_slot text place (get_or slots at d)) ≡ slots_cut_at text place at slots
cut-there text place at [] d lt = absurd (omega (arith, lt))
cut-there text place zero (slot ∷ slots) d lt = refl
cut-there text place (suc at) (slot ∷ slots) d lt = ap (λ (l : List Slot). slot ∷ l) (cut-there text place at slots d (let q : at < length slots = omega (arith, lt) in q))

pub cut-past : (text : List ℕ) (place at : ℕ) (slots : List Slot) → length slots ≤ at → slots ≡ slots_cut_at text place at slots
cut-past text place at [] le = refl
cut-past text place zero (slot ∷ slots) le = absurd (omega (arith, le))
cut-past text place (suc at) (slot ∷ slots) le = ap (λ (l : List Slot). slot ∷ l) (cut-past text place at slots (let q : length slots ≤ at = omega (arith, le) in q))

second : (x y : Bool) → (x && y) ≡ true → y ≡ true
second true y e = e
second false y e = absurd (true≢false (sym e))

pub cut-stays : (text : List ℕ) (place end : ℕ) (slot : Slot) (k : SlotKind) → IsSlot text end slot → IsCharBoundary text place → (nat_lt slot.start place && nat_lt place slot.end) ≡ true → IsContent text slot.end k
    → IsSlot text end (record { kind = k; start = place; end = slot.end })
cut-stays text place end slot k h edge inside content = record {
  part = record { some = ltb-true place slot.end (second (nat_lt slot.start place) (nat_lt place slot.end) inside); within = h.part.within; starts = edge; ends = h.part.ends };
  before = h.before;
  content = content;
}

pub no-new-set : (ss ts : List Slot) (at : ℕ) (s d0 : Slot) → at < length ss → begins_link s.kind ≡ begins_link (get_or ss at d0).kind → ts ≡ set ss at s → NoNewLink ss ts
no-new-set ss ts at s d0 lt same e = subst (NoNewLink ss) (sym e) (λ from h k d low high.
    let n = length-set ss at s in
    let there : k < length ss = omega (arith, high, n) in
    go from h k d low there (nat_lt k at) (nat_lt at k) refl refl)
  where
    go : (from : ℕ) → HoldNoLink ss from → (k : ℕ) (d : Slot) → from ≤ k → k < length ss → (y z : Bool) → nat_lt k at ≡ y → nat_lt at k ≡ z → begins_link (get_or (set ss at s) k d).kind ≡ false
    go from h k d low there true z b c = let l = ltb-true k at b in ap (λ (t : Slot). begins_link t.kind) (get_or-set_other ss at k s d (λ (q : k ≡ at). absurd (omega (arith, q, l)))) ∙ h k d low there
    go from h k d low there false true b c = let l = ltb-true at k c in ap (λ (t : Slot). begins_link t.kind) (get_or-set_other ss at k s d (λ (q : k ≡ at). absurd (omega (arith, q, l)))) ∙ h k d low there
    go from h k d low there false false b c =
        let g = ltb-false k at b in
        let f = ltb-false at k c in
        let q : k ≡ at = omega (arith, g, f) in
        ap (λ n. begins_link (get_or (set ss at s) n d).kind) q ∙ ap (λ (t : Slot). begins_link t.kind) (get_or-set_same ss at s d lt) ∙ same
        ∙ ap (λ (t : Slot). begins_link t.kind) (get_or_default ss at d0 d lt) ∙ ap (λ n. begins_link (get_or ss n d).kind) (sym q) ∙ h k d low there
