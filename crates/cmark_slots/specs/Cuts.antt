-- Slots that become Nothing, and slots that are cut at an offset.
use Rattle.std.specs.Prelude.{◌≡◌, ℕ, zero, suc, ◌≤◌, ◌<◌, nat_le, nat_lt, Bool, true, false, ◌&&◌, ◌||◌, if◌then◌else◌, List, [], ◌∷◌, length, get_or}
use Rattle.cmark_grammar.specs.InlineHtml.{takes_lines}
use Rattle.cmark_grammar.specs.Tokens.{slice}
use Rattle.cmark_slots.specs.declared.slot.Slot.{Slot}
use Rattle.cmark_slots.specs.declared.slot.SlotKind.{SlotKind}
use Rattle.cmark_slots.specs.declared.slot.SlotKind.TheVariants as kind

-- End and Nothing have no bytes, and an empty text ends where it begins
abbrev pub has_none_after : (place start : ℕ) → SlotKind → Bool
has_none_after place start kind.End = true
has_none_after place start kind.Nothing = true
has_none_after place start kind.Empty = nat_le start place
has_none_after place start _ = false

-- a slot has no bytes after an offset
abbrev pub ends_by : (place : ℕ) → Slot → Bool
ends_by place slot = has_none_after place slot.start slot.kind || nat_le slot.end place

-- the first slot, from one index on, that ends after an offset
pub record IsFirstAfter (slots : List Slot) (from place at : ℕ) : Type 0 where
  pub order : from ≤ at
  pub within : at ≤ length slots
  pub before : (k : ℕ) (d : Slot) → from ≤ k → k < at → ends_by place (get_or slots k d) ≡ true
  pub shown : (d : Slot) → at < length slots → ends_by place (get_or slots at d) ≡ false
  pub following : (d : Slot) → at < length slots → place < (get_or slots at d).end

-- the slots from one index up to another, exclusive, became Nothing
abbrev pub hidden : Slot → Slot
hidden slot = record { kind = kind.Nothing; start = slot.start; end = slot.end }

pub record Hides (from to : ℕ) (old new : List Slot) : Type 0 where
  pub size : length new ≡ length old
  pub inside : (k : ℕ) (d : Slot) → from ≤ k → k < to → get_or new k d ≡ hidden (get_or old k d)
  pub before : (k : ℕ) (d : Slot) → k < from → get_or new k d ≡ get_or old k d
  pub following : (k : ℕ) (d : Slot) → to ≤ k → get_or new k d ≡ get_or old k d

-- the meaning of a slot that begins at an offset inside it: a tag over several lines stays whole, and a text is a part of the source
abbrev pub cut_kind : (text : List ℕ) → (start end : ℕ) → SlotKind → SlotKind
cut_kind text start end kind.InlineHtml = if takes_lines (slice text start end) then kind.CutHtml start else kind.InlineHtml
cut_kind text start end (kind.CutHtml from) = if takes_lines (slice text from end) then kind.CutHtml from else kind.InlineHtml
cut_kind text start end (kind.OwnedText index) = kind.Whole 0
cut_kind text start end (kind.Character character) = kind.Whole 0
cut_kind text start end other = other

abbrev pub cut_slot : (text : List ℕ) → (place : ℕ) → Slot → Slot
cut_slot text place slot =
    if nat_lt slot.start place && nat_lt place slot.end then record { kind = cut_kind text slot.start slot.end slot.kind; start = place; end = slot.end } else slot

abbrev pub cut_at : (text : List ℕ) → (place at : ℕ) → List Slot → List Slot
cut_at text place at [] = []
cut_at text place zero (slot ∷ slots) = cut_slot text place slot ∷ slots
cut_at text place (suc at) (slot ∷ slots) = slot ∷ cut_at text place at slots
