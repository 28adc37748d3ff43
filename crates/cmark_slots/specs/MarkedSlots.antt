-- The slots after quotes have their characters and emphasis its marks.
use Rattle.std.specs.Prelude.{◌≡◌, ℕ, suc, ◌+◌, ◌<◌, ◌≤◌, max, List, [], ◌∷◌, length, take, drop, set, get_or, All}
use Rattle.cmark_grammar.specs.Emphasis.{Sibling, Delimiter}
use Rattle.cmark_inline_model.specs.SlotRows.{run_places}
use Rattle.cmark_slots.specs.Slots.{byte_slots}
use Rattle.cmark_slots.specs.Cuts.{Hides}
use Rattle.cmark_emphasis.specs.declared.run.PlacedRun.{PlacedRun}
use Rattle.cmark_slots.specs.declared.quote.PlacedQuote.{PlacedQuote}
use Rattle.cmark_slots.specs.declared.slot.Slot.{Slot}
use Rattle.cmark_slots.specs.declared.slot.SlotKind.{SlotKind}
use Rattle.cmark_slots.specs.declared.slot.SlotKind.TheVariants as kind

-- ## Quotes

-- each of these quotes has a slot, which is a text
abbrev pub HaveTexts : List Slot → List PlacedQuote → Type 0
HaveTexts slots placed = All (λ (p : PlacedQuote). (p.slot < length slots) × ((d : Slot) → (get_or slots p.slot d).kind ≡ kind.Text)) placed

-- ## Runs

-- the indices of the slots of their bytes
abbrev pub places_of : List PlacedRun → List ℕ
places_of [] = []
places_of (p ∷ placed) = run_places p.slot p.run_length (places_of placed)

-- the runs as siblings, their bytes counted from an index on
abbrev pub siblings_from : (at : ℕ) → List PlacedRun → List Sibling
siblings_from at [] = []
siblings_from at (p ∷ placed) =
    Delimiter (record { delimiter = p.delimiter; run_length = p.run_length; at = at; left = p.run_length; opens = p.opens; closes = p.closes })
    ∷ siblings_from (at + p.run_length) placed

-- each byte of each run is a text of its own, and the runs follow one another, from this slot and from this offset of the leaf's text on
abbrev pub HaveBytes : List Slot → (from place : ℕ) → List PlacedRun → Type 0
HaveBytes slots from place [] = Unit {0}
HaveBytes slots from place (p ∷ placed) =
    (at : ℕ) × (from ≤ p.slot) × (place ≤ at) × (take p.run_length (drop p.slot slots) ≡ byte_slots at p.run_length) × HaveBytes slots (p.slot + p.run_length) (at + p.run_length) placed

-- ## Whole texts

-- the last slot that belongs to a slot
abbrev pub last_in : SlotKind → (at : ℕ) → ℕ
last_in (kind.Whole last) at = max last at
last_in _ at = at

-- after a whole text the slots up to its last are Nothing
abbrev pub AreWhole : List Slot → Type 0
AreWhole slots = (i k : ℕ) (d : Slot) → i < k → k ≤ last_in (get_or slots i d).kind i → k < length slots → (get_or slots k d).kind ≡ kind.Nothing

-- the last slot of each whole text exists
abbrev pub EndWithin : List Slot → Type 0
EndWithin slots = (i : ℕ) (d : Slot) → i < length slots → last_in (get_or slots i d).kind i < length slots

-- ## Slots that are written

abbrev pub ended : Slot → Slot
ended slot = record { kind = kind.End; start = slot.start; end = slot.end }

abbrev pub begun_as : SlotKind → (end : ℕ) → Slot → Slot
begun_as begun end slot = record { kind = begun; start = slot.start; end = max slot.end end }

abbrev pub whole_to : (last end : ℕ) → Slot → Slot
whole_to last end slot = record { kind = kind.Whole last; start = slot.start; end = max slot.end end }

-- the slots from one index to another became one text
pub record Merges (first last : ℕ) (old new : List Slot) : Type 0 where
  pub between : List Slot
  pub hides : Hides (first + 1) (last + 1) old between
  pub slots_are : (d : Slot) → new ≡ set between first (whole_to last (get_or old last d).end (get_or old first d))

-- ## Bytes

-- these slots are texts, from an index on, one after the other; no text of these ends before an offset
abbrev pub AreAhead : List Slot → (from end : ℕ) → List ℕ → Type 0
AreAhead slots from end [] = Unit {0}
AreAhead slots from end (at ∷ places) =
    (e : ℕ) × (from ≤ at) × (at < length slots) × ((d : Slot) → (get_or slots at d).kind ≡ kind.Text) × ((d : Slot) → (get_or slots at d).end ≡ e) × (end ≤ e)
    × AreAhead slots (suc at) e places

-- the slots before an index are unchanged
abbrev pub SameBefore : (low : ℕ) → (old new : List Slot) → Type 0
SameBefore low old new = (k : ℕ) (d : Slot) → k < low → get_or new k d ≡ get_or old k d
