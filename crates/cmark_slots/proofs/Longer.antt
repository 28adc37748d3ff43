-- Slots keep their meaning if the tables of texts and links get longer.
use Rattle.std.proofs.Common.{◌≡◌, ℕ, zero, suc, ◌<◌, List, [], ◌∷◌, ◌++◌, length, Option, Some, None, refl, ap, ◌∙◌, arith}
use Rattle.std.specs.Prelude.{All, slice_get}
use Rattle.cmark_grammar.specs.Items as items
use Rattle.cmark_inline_model.specs.SlotRows as row
use Rattle.cmark_leaf_text.specs.declared.leaf_text.LeafText.{LeafText}
use Rattle.cmark_values.specs.declared.text.CowStr.{CowStr}
use Rattle.cmark_slots.specs.SlotViews.{IsThere, bytes_or_none, first_of, item_slot, link_named, link_tag, linked_or_none, shown_slot, shown_slots, slot_as, slot_end, text_named}
use Rattle.cmark_slots.specs.Standing.{AreNamed}
use Rattle.cmark_references.specs.declared.link.Link.{Link}
use Rattle.cmark_slots.specs.declared.slot.Slot.{Slot}
use Rattle.cmark_slots.specs.declared.slot.SlotKind.{SlotKind}
use Rattle.cmark_slots.specs.declared.slot.SlotKind.TheVariants as kind
use Rattle.cmark_slots.proofs.Placing.{all-head, all-tail}

-- the element at an index is the same in another table
abbrev pub SameAt : {X : Type 0} → Option ℕ → (old new : List X) → Type 0
SameAt None old new = Unit {0}
SameAt (Some index) old new = slice_get new index ≡ slice_get old index

-- ## A slot whose text and link are there as before

module _ (leaf : LeafText) (texts texts1 : List CowStr) (links links1 : List Link) where
  pub same-slot : (slot : Slot) (k : SlotKind) → SameAt (text_named k) texts texts1 → SameAt (link_named k) links links1 → slot_as leaf texts1 links1 slot k ≡ slot_as leaf texts links slot k
  same-slot slot (kind.OwnedText index) s l = ap (λ (o : Option CowStr). item_slot (items.Written (bytes_or_none o)) (first_of leaf slot) (slot_end leaf slot)) s
  same-slot slot (kind.FootnoteReference index) s l = ap (λ (o : Option CowStr). item_slot (items.FootnoteReference (bytes_or_none o)) (first_of leaf slot) (slot_end leaf slot)) s
  same-slot slot (kind.BeginLink element index) s l = ap (λ (o : Option Link). row.BeginSlot (link_tag element (linked_or_none o)) (first_of leaf slot) (slot_end leaf slot)) l
  same-slot slot _ s l = refl

-- ## Longer tables

get-longer : {X : Type 0} (xs more : List X) (i : ℕ) → i < length xs → slice_get (xs ++ more) i ≡ slice_get xs i
get-longer [] more i lt = absurd (omega (arith, lt))
get-longer (x ∷ xs) more zero lt = refl
get-longer (x ∷ xs) more (suc i) lt = get-longer xs more i (omega (arith, lt))

-- the element that is appended to a table
pub get-last : {X : Type 0} (xs : List X) (x : X) → slice_get (xs ++ (x ∷ [])) (length xs) ≡ Some x
get-last [] x = refl
get-last (y ∷ xs) x = get-last xs x

same-longer : {X : Type 0} (named : Option ℕ) (xs more : List X) → IsThere (length xs) named → SameAt named xs (xs ++ more)
same-longer None xs more h = tt
same-longer (Some i) xs more h = get-longer xs more i h

module _ (leaf : LeafText) (texts more_texts : List CowStr) (links more_links : List Link) where
  abbrev HasText : Slot → Type 0
  HasText slot = IsThere (length texts) (text_named slot.kind)

  abbrev HasLink : Slot → Type 0
  HasLink slot = IsThere (length links) (link_named slot.kind)

  all-longer : (slots : List Slot) → All HasText slots → All HasLink slots → shown_slots leaf (texts ++ more_texts) (links ++ more_links) slots ≡ shown_slots leaf texts links slots
  all-longer [] t l = refl
  all-longer (slot ∷ slots) t l =
      let first : shown_slot leaf (texts ++ more_texts) (links ++ more_links) slot ≡ shown_slot leaf texts links slot =
      same-slot leaf texts (texts ++ more_texts) links (links ++ more_links) slot slot.kind (same-longer (text_named slot.kind) texts more_texts (all-head HasText slot slots t)) (same-longer (link_named slot.kind) links more_links (all-head HasLink slot slots l)) in
      ap (λ x. x ∷ shown_slots leaf (texts ++ more_texts) (links ++ more_links) slots) first
      ∙ ap (λ ss. shown_slot leaf texts links slot ∷ ss) (all-longer slots (all-tail HasText slot slots t) (all-tail HasLink slot slots l))

-- slots that name what is there
pub shown-longer : (leaf : LeafText) (texts texts1 more_texts : List CowStr) (links links1 more_links : List Link) (slots : List Slot) → texts1 ≡ texts ++ more_texts → links1 ≡ links ++ more_links → AreNamed (length texts) (length links) slots
    → shown_slots leaf texts1 links1 slots ≡ shown_slots leaf texts links slots
shown-longer leaf texts texts1 more_texts links links1 more_links slots t l named =
    ap (λ x. shown_slots leaf x links1 slots) t ∙ ap (λ x. shown_slots leaf (texts ++ more_texts) x slots) l ∙ all-longer leaf texts more_texts links more_links slots named.texts_there named.links_there
