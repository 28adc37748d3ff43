-- Slots that are appended while a text is read.
use Rattle.std.proofs.Common.{◌≡◌, ◌⊎◌, inl, inr, ℕ, ◌+◌, ◌≤◌, ◌<◌, Bool, true, false, List, [], ◌∷◌, ◌++◌, length, refl, sym, ap, subst, arith, get_or, ◌∙◌}
use Rattle.std.specs.Prelude.{max, nat_lt}
use Rattle.std.specs.Str.{IsCharBoundary, IsUtf8}
use Rattle.std.proofs.lemmas.Bool.{cases_lt, ltb-true, ltb-false}
use Rattle.std.proofs.lemmas.List.{length_push, get_or_append_left, get_or_push}
use Rattle.std.proofs.lemmas.List.Elements.{All-push}
use Rattle.std.proofs.lemmas.Str.{IsCharBoundary-after_ascii}
use Rattle.cmark_leaf_text.specs.Reads.{IsPart}
use Rattle.cmark_slots.specs.Slots.{IsContent, IsSlot, AreSlots, AreBrackets, AreFree, HoldNoLink, NoNewLink, PushesText, begins_link}
use Rattle.cmark_slots.specs.declared.bracket.Bracket.{Bracket}
use Rattle.cmark_slots.specs.declared.bracket.Brackets.{Brackets}
use Rattle.cmark_slots.specs.declared.slot.Slot.{Slot}
use Rattle.cmark_slots.specs.declared.slot.SlotKind.{SlotKind}
use Rattle.cmark_slots.specs.declared.slot.SlotKind.TheVariants as kind

no-new-push : (ss : List Slot) (s : Slot) → begins_link s.kind ≡ false → NoNewLink ss (ss ++ (s ∷ []))
no-new-push ss s e = λ from h k d le lt. go from h k d le (nat_lt k (length ss)) refl (let l = length_push ss s in let q : k ≤ length ss = omega (arith, lt, l) in q)
  where
    go : (from : ℕ) → HoldNoLink ss from → (k : ℕ) (d : Slot) → from ≤ k → (z : Bool) → nat_lt k (length ss) ≡ z → k ≤ length ss → begins_link (get_or (ss ++ (s ∷ [])) k d).kind ≡ false
    go from h k d le true b m = ap (λ (t : Slot). begins_link t.kind) (get_or_append_left ss (s ∷ []) d k (ltb-true k (length ss) b)) ∙ h k d le (ltb-true k (length ss) b)
    go from h k d le false b m = ap (λ (t : Slot). begins_link t.kind) (get_or_push ss s d k (let g = ltb-false k (length ss) b in let q : length ss ≡ k = omega (arith, g, m) in q)) ∙ e

-- one more slot
pub no-new : (ss ts : List Slot) (s : Slot) → begins_link s.kind ≡ false → ts ≡ ss ++ (s ∷ []) → NoNewLink ss ts
no-new ss ts s e p = subst (NoNewLink ss) (sym p) (no-new-push ss s e)

pub free-on : (ss ts : List Slot) (bs : List Bracket) (inactive_below : ℕ) → AreFree ss bs inactive_below → NoNewLink ss ts → AreFree ts bs inactive_below
free-on ss ts bs inactive_below h new = λ i d le lt. new (get_or bs i d).slot (h i d le lt)

-- one more bracket, with its own slot
pub free-push : (ss : List Slot) (bs cs : List Bracket) (b : Bracket) (inactive_below : ℕ) → AreFree ss bs inactive_below → HoldNoLink ss b.slot → cs ≡ bs ++ (b ∷ []) → AreFree ss cs inactive_below
free-push ss bs cs b inactive_below h new p = subst (λ l. AreFree ss l inactive_below) (sym p) (λ i d le lt. go i d le (nat_lt i (length bs)) refl (let l = length_push bs b in let q : i ≤ length bs = omega (arith, lt, l) in q))
  where
    go : (i : ℕ) (d : Bracket) → inactive_below ≤ i → (z : Bool) → nat_lt i (length bs) ≡ z → i ≤ length bs → HoldNoLink ss (get_or (bs ++ (b ∷ [])) i d).slot
    go i d le true e m = subst (λ (c : Bracket). HoldNoLink ss c.slot) (sym (get_or_append_left bs (b ∷ []) d i (ltb-true i (length bs) e))) (h i d le (ltb-true i (length bs) e))
    go i d le false e m = subst (λ (c : Bracket). HoldNoLink ss c.slot) (sym (get_or_push bs b d i (let g = ltb-false i (length bs) e in let q : length bs ≡ i = omega (arith, g, m) in q))) new

-- no link begins in the last slot
pub last-holds-none : (ss ts : List Slot) (s : Slot) → begins_link s.kind ≡ false → ts ≡ ss ++ (s ∷ []) → HoldNoLink ts (length ss)
last-holds-none ss ts s e p = subst (λ l. HoldNoLink l (length ss)) (sym p) (λ k d le lt.
    let l = length_push ss s in
    ap (λ (t : Slot). begins_link t.kind) (get_or_push ss s d k (let q : length ss ≡ k = omega (arith, le, lt, l) in q)) ∙ e)

-- a slot of another kind that ends at an offset or later
pub widened : (text : List ℕ) (place end last : ℕ) (slot : Slot) (k : SlotKind) → IsSlot text place slot → IsCharBoundary text end → end ≤ place → last ≡ max slot.end end → ((close : ℕ) → IsContent text close k)
    → IsSlot text place (record { kind = k; start = slot.start; end = last })
widened text place end last slot k s edge before e content = go (cases_lt slot.end end)
  where
    go : (slot.end < end) ⊎ (end ≤ slot.end) → IsSlot text place (record { kind = k; start = slot.start; end = last })
    go (inl lt) =
        let q : end ≡ last = omega (arith, e, lt) in
        record {
          part = record { some = let b = s.part.some in omega (arith, b, lt, q); within = let w = edge.0 in omega (arith, w, q); starts = s.part.starts; ends = subst (IsCharBoundary text) q edge };
          before = omega (arith, before, q);
          content = content last;
        }
    go (inr le) =
        let q : slot.end ≡ last = omega (arith, e, le) in
        record {
          part = record { some = let b = s.part.some in omega (arith, b, q); within = let w = s.part.within in omega (arith, w, q); starts = s.part.starts; ends = subst (IsCharBoundary text) q s.part.ends };
          before = let w = s.before in omega (arith, w, q);
          content = content last;
        }

pub record Keeps (text : List ℕ) (at : ℕ) (ss : List Slot) (v w : Brackets) (bytes : ℕ) : Type 0 where
  pub slots : AreSlots text at ss
  pub brackets : AreBrackets text at v.standing.items
  pub few : length ss ≤ at
  pub free : AreFree ss v.standing.items v.inactive_below
  pub doubled : AreBrackets text at w.standing.items
  pub doubled_free : AreFree ss w.standing.items w.inactive_below
  pub runs : bytes ≤ length ss

module _ (text : List ℕ) where
  pub slots-on : (a b : ℕ) (ss : List Slot) → AreSlots text a ss → a ≤ b → AreSlots text b ss
  slots-on a b ss h le = λ k d lt. let s = h k d lt in record { part = s.part; before = (let e = s.before in let l : (get_or ss k d).end ≤ b = omega (arith, e, le) in l); content = s.content }

  pub brackets-on : (a b : ℕ) (bs : List Bracket) → AreBrackets text a bs → a ≤ b → AreBrackets text b bs
  brackets-on a b bs h le = λ k d lt. let s = h k d lt in record { part = s.part; mark = s.mark; before = (let e = s.before in let l : (get_or bs k d).inside ≤ b = omega (arith, e, le) in l) }

  pub keeps-on : (a b : ℕ) (ss : List Slot) (v w : Brackets) (n : ℕ) → Keeps text a ss v w n → a ≤ b → Keeps text b ss v w n
  keeps-on a b ss v w n h le = record {
    slots = slots-on a b ss h.slots le;
    brackets = brackets-on a b v.standing.items h.brackets le;
    few = (let f = h.few in let q : length ss ≤ b = omega (arith, f, le) in q);
    free = h.free;
    doubled = brackets-on a b w.standing.items h.doubled le;
    doubled_free = h.doubled_free;
    runs = h.runs;
  }

  pub keeps-push : (a b : ℕ) (ss ts : List Slot) (s : Slot) (v w : Brackets) (n : ℕ) → Keeps text a ss v w n → a ≤ b → length ss < b → begins_link s.kind ≡ false → IsSlot text b s → ts ≡ ss ++ (s ∷ []) → Keeps text b ts v w n
  keeps-push a b ss ts s v w n h le room none new e =
      let l = length_push ss s in
      let m = ap length e in
      let r = h.runs in
      record {
        slots = subst (AreSlots text b) (sym e) (All-push (IsSlot text b) ss s (slots-on a b ss h.slots le) new);
        brackets = brackets-on a b v.standing.items h.brackets le;
        few = (let q : length ts ≤ b = omega (arith, l, m, room) in q);
        free = free-on ss ts v.standing.items v.inactive_below h.free (no-new ss ts s none e);
        doubled = brackets-on a b w.standing.items h.doubled le;
        doubled_free = free-on ss ts w.standing.items w.inactive_below h.doubled_free (no-new ss ts s none e);
        runs = let q : n ≤ length ts = omega (arith, l, m, r) in q;
      }

  pub keeps-text : (a b : ℕ) (ss ts : List Slot) (v w : Brackets) (n : ℕ) → Keeps text a ss v w n → a ≤ b → IsCharBoundary text a → IsCharBoundary text b → PushesText a b ss ts → Keeps text b ts v w n
  keeps-text a b ss ts v w n h le starts ends pushed = go (nat_lt a b) refl
    where
      go : (z : Bool) → nat_lt a b ≡ z → Keeps text b ts v w n
      go true e =
          let lt = ltb-true a b e in
          let within = ends.0 in
          let f = h.few in
          keeps-push a b ss ts (record { kind = kind.Text; start = a; end = b }) v w n h le (let q : length ss < b = omega (arith, f, lt) in q) refl
          (record { part = record { some = lt; within = within; starts = starts; ends = ends }; before = (let l : b ≤ b = omega arith in l); content = tt }) (pushed.0 lt)
      go false e =
          let g = ltb-false a b e in
          let k = keeps-on a b ss v w n h le in
          record {
            slots = subst (AreSlots text b) (sym (pushed.1 g)) k.slots;
            brackets = k.brackets;
            few = subst (λ (l : List Slot). length l ≤ b) (sym (pushed.1 g)) k.few;
            free = subst (λ (l : List Slot). AreFree l v.standing.items v.inactive_below) (sym (pushed.1 g)) k.free;
            doubled = k.doubled;
            doubled_free = subst (λ (l : List Slot). AreFree l w.standing.items w.inactive_below) (sym (pushed.1 g)) k.doubled_free;
            runs = subst (λ (l : List Slot). n ≤ length l) (sym (pushed.1 g)) k.runs;
          }

  pub after : (at : ℕ) → IsUtf8 text → at < length text → get_or text at 0 < 128 → IsCharBoundary text (at + 1)
  after at u lt small = IsCharBoundary-after_ascii text at u lt small

  pub part-from : (a b : ℕ) → IsCharBoundary text a → IsCharBoundary text b → a < b → IsPart text a b
  part-from a b starts ends lt = record { some = lt; within = ends.0; starts = starts; ends = ends }

  -- bytes of a run as slots
  pub byte-slot : (a : ℕ) → IsCharBoundary text a → IsUtf8 text → a < length text → get_or text a 0 < 128 → IsSlot text (a + 1) (record { kind = kind.Text; start = a; end = a + 1 })
  byte-slot a starts u lt small =
      let e = after a u lt small in
      record { part = part-from a (a + 1) starts e (let l : a < a + 1 = omega arith in l); before = (let l : a + 1 ≤ a + 1 = omega arith in l); content = tt }

  pub slots-push : (a b : ℕ) (ss ts : List Slot) (s : Slot) → AreSlots text a ss → a ≤ b → IsSlot text b s → ts ≡ ss ++ (s ∷ []) → AreSlots text b ts
  slots-push a b ss ts s h le new e = subst (AreSlots text b) (sym e) (All-push (IsSlot text b) ss s (slots-on a b ss h le) new)
