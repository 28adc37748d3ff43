-- The order of places of the source, and the ends of slots that are parts of the source.
use Rattle.std.specs.Prelude.{All, if◌then◌else◌, nat_lt, Some}
use Rattle.std.proofs.lemmas.Option.{same_Some}
use Rattle.std.proofs.Common.{◌≡◌, ◌⊎◌, inl, inr, ap, ℕ, ◌+◌, ◌-◌, ◌≤◌, ◌<◌, Bool, true, false, List, [], ◌∷◌, length, refl, sym, subst, arith}
use Rattle.std.specs.Str.{IsCharBoundary}
use Rattle.std.proofs.lemmas.Bool.{cases_lt, ltb-true, ltb-false}
use Rattle.cmark_leaf_text.specs.declared.leaf_text.LeafText.{LeafText}
use Rattle.cmark_leaf_text.specs.declared.stretch.Stretch.{Stretch}
use Rattle.cmark_leaf_text.specs.Reads.{IsRead, IsPart, text_of, source_of, place_of}
use Rattle.cmark_leaf_text.specs.Stretches.{AreStretches, joined, place_in, size_of}
use Rattle.cmark_leaf_text.proofs.StretchSteps.{size-joined, part-there}
use Rattle.cmark_inline.specs.MarkupInSource.{IsFound}
use Rattle.cmark_slots.specs.SlotViews.{CanBeGiven, EndsAfter}
use Rattle.cmark_slots.specs.Standing.{AreNamed, EndsIn, source_end}
use Rattle.cmark_values.specs.declared.text.CowStr.{CowStr}
use Rattle.cmark_references.specs.declared.link.Link.{Link}
use Rattle.cmark_inline.specs.declared.markup.FoundHtml.{FoundHtml}
use Rattle.cmark_slots.specs.declared.slot.Slot.{Slot}
use Rattle.cmark_slots.specs.declared.slot.SlotKind.{SlotKind}
use Rattle.cmark_slots.specs.declared.slot.SlotKind.TheVariants as kind

module _ (source : List ℕ) where
  place-low : (first from : ℕ) (ss : List Stretch) (at : ℕ) → AreStretches source first from ss → first ≤ at → at < first + length (joined source ss) → from ≤ place_in ss at
  place-low first from [] at all le lt = absurd (omega (arith, le, lt))
  place-low first from (x ∷ ss) at all le lt = go (λ l m. place-low (first + size_of x) x.end ss at all.1 l m) (nat_lt at (x.at + size_of x)) refl
    where
      go : (first + size_of x ≤ at → at < (first + size_of x) + length (joined source ss) → x.end ≤ place_in ss at) → (z : Bool) → nat_lt at (x.at + size_of x) ≡ z → from ≤ (if z then x.start + (at - x.at) else place_in ss at)
      go following true e = let b = all.0.following in omega (arith, b)
      go following false e =
          let g = ltb-false at (x.at + size_of x) e in
          let p = all.0.place in
          let b = all.0.following in
          let o = all.0.ordered in
          let n = size-joined source x ss all.0.within in
          let r = following (let q : first + size_of x ≤ at = omega (arith, p, g) in q) (let q : at < (first + size_of x) + length (joined source ss) = omega (arith, lt, n) in q) in
          omega (arith, b, o, r)

  -- a later byte has a later place
  pub place-before : (first from : ℕ) (ss : List Stretch) (a b : ℕ) → AreStretches source first from ss → first ≤ a → a < b → b < first + length (joined source ss) → place_in ss a < place_in ss b
  place-before first from [] a b all le ab lt = absurd (omega (arith, le, ab, lt))
  place-before first from (x ∷ ss) a b all le ab lt = go (λ l m. place-before (first + size_of x) x.end ss a b all.1 l ab m) (nat_lt a (x.at + size_of x)) (nat_lt b (x.at + size_of x)) refl refl
    where
      p : x.at ≡ first
      p = all.0.place

      n : length (joined source (x ∷ ss)) ≡ size_of x + length (joined source ss)
      n = size-joined source x ss all.0.within

      go : (first + size_of x ≤ a → b < (first + size_of x) + length (joined source ss) → place_in ss a < place_in ss b) → (y z : Bool) → nat_lt a (x.at + size_of x) ≡ y → nat_lt b (x.at + size_of x) ≡ z
          → (if y then x.start + (a - x.at) else place_in ss a) < (if z then x.start + (b - x.at) else place_in ss b)
      go following true true d e = omega (arith, ab, le, p)
      go following true false d e =
          let l = ltb-true a (x.at + size_of x) d in
          let g = ltb-false b (x.at + size_of x) e in
          let o = all.0.ordered in
          let r = place-low (first + size_of x) x.end ss b all.1 (let q : first + size_of x ≤ b = omega (arith, p, g) in q) (let q : b < (first + size_of x) + length (joined source ss) = omega (arith, lt, n) in q) in
          omega (arith, l, r, o, p, le)
      go following false true d e =
          let g = ltb-false a (x.at + size_of x) d in
          let l = ltb-true b (x.at + size_of x) e in
          absurd (omega (arith, g, l, ab))
      go following false false d e =
          let g = ltb-false a (x.at + size_of x) d in
          following (let q : first + size_of x ≤ a = omega (arith, p, g) in q) (let q : b < (first + size_of x) + length (joined source ss) = omega (arith, lt, n) in q)

-- a slot that ends before a byte of the text ends before the place of that byte
pub ends-at-byte : (leaf : LeafText) → IsRead leaf → (at : ℕ) → IsPart (text_of leaf) at (at + 1) → EndsIn leaf at (Some (place_of leaf at))
ends-at-byte leaf read at part =
    let w = part.within in
    let there = part-there (source_of leaf) leaf.stretches.items at (at + 1) read.stretches part in (
      (λ k lt. place-before (source_of leaf) 0 0 leaf.stretches.items k at read.stretches (omega arith) lt (let q : at < 0 + length (joined (source_of leaf) leaf.stretches.items) = omega (arith, w) in q)),
      there.starts,
      (λ k le lt. following k lt le (cases_lt at k)),
    )
  where
    following : (k : ℕ) → k < length (text_of leaf) → at ≤ k → (at < k) ⊎ (k ≤ at) → place_of leaf at ≤ place_of leaf k
    following k lt le (inl l) =
        let b = place-before (source_of leaf) 0 0 leaf.stretches.items at k read.stretches (omega arith) l (let q : k < 0 + length (joined (source_of leaf) leaf.stretches.items) = omega (arith, lt) in q) in
        omega (arith, b)
    following k lt le (inr g) = subst (λ j. place_of leaf at ≤ place_of leaf j) (let q : at ≡ k = omega (arith, g, le) in q) (omega arith)

pub source-ends : (one other : ℕ) → kind.SourceHtml one ≡ kind.SourceHtml other → one ≡ other
source-ends one other e = same_Some one other (ap source_end e)

-- inline HTML that is a part of the source ends in the source where its slot ends
pub found-ends : (leaf : LeafText) (at : ℕ) (found : FoundHtml) → IsFound leaf at found → ((end : ℕ) → found.kind ≡ kind.SourceHtml end → IsCharBoundary (source_of leaf) end) → EndsIn leaf found.end (source_end found.kind)
found-ends leaf at found (inl t) edge = subst (λ k. EndsIn leaf found.end (source_end k)) (sym t.kind_is) tt
found-ends leaf at found (inr s) edge = subst (λ k. EndsIn leaf found.end (source_end k)) (sym s.kind_is) (s.goes_on.before, edge (place_of leaf at + s.size) s.kind_is, s.goes_on.following)

-- this slot ends after it begins
pub ends-following : (leaf : LeafText) (slot : Slot) (k : SlotKind) → slot.start < slot.end → EndsIn leaf slot.end (source_end k) → EndsAfter leaf slot k
ends-following leaf slot (kind.SourceHtml end) lt e = (e.0 slot.start lt, e.1)
ends-following leaf slot (kind.SourceText end) lt e = (e.0 slot.start lt, e.1)
ends-following leaf slot other lt e = tt

pub left-of : (leaf : LeafText) (texts : List CowStr) (links : List Link) (slots : List Slot) → AreNamed (length texts) (length links) slots → All (λ (slot : Slot). EndsAfter leaf slot slot.kind) slots → CanBeGiven leaf texts links slots
left-of leaf texts links slots named ends = record {
  texts_there = named.texts_there;
  links_there = named.links_there;
  texts_once = named.texts_once;
  links_once = named.links_once;
  ends = ends;
}
