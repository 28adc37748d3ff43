-- The ranges of the events of a text.
use Rattle.std.specs.Prelude.{◌≡◌, ◌⊎◌, ℕ, ◌≤◌, false, ◌==◌, List, [], ◌∷◌, ◌++◌}
use Rattle.cmark_block_model.specs.Balance.{IsSingle}
use Rattle.cmark_grammar.specs.Event.{Event, Start, End, Ranged}
use Rattle.cmark_grammar.specs.Options.{Options}
use Rattle.cmark_grammar.specs.Tag.{Tag}
use Rattle.cmark_grammar.specs.TagEnd.{end_of}

abbrev pub ranged : Event → (start end : ℕ) → Ranged
ranged event start end = record { event = event; start = start; end = end }

-- each start has its end, with its tag and its range, and the events between are matched too
pub data Matched : List Ranged → Type 0 where
  NoMore : Matched []
  Alone : (r : Ranged) (after : List Ranged) → IsSingle r.event → Matched after → Matched (r ∷ after)
  Pair : (tag : Tag) (start end : ℕ) (inside after : List Ranged) → Matched inside → Matched after
      → Matched (ranged (Start tag) start end ∷ (inside ++ (ranged (End (end_of tag)) start end ∷ after)))

-- each range is inside the first `size` bytes, and does not end before it begins
abbrev pub LieWithin : (size : ℕ) → List Ranged → Type 0
LieWithin size [] = Unit {0}
LieWithin size (r ∷ rs) = (r.start ≤ r.end) × (r.end ≤ size) × LieWithin size rs

-- the events between two offsets are in order, and each element contains the events inside it
pub data InPlace : (from : ℕ) → List Ranged → (to : ℕ) → Type 0 where
  Nothing : (from to : ℕ) → from ≤ to → InPlace from [] to
  Single : (from to : ℕ) (r : Ranged) (after : List Ranged) → IsSingle r.event → from ≤ r.start → r.start ≤ r.end → InPlace r.end after to → InPlace from (r ∷ after) to
  Element : (from to : ℕ) (tag : Tag) (start end : ℕ) (inside after : List Ranged) → from ≤ start → InPlace start inside end → InPlace end after to
      → InPlace from (ranged (Start tag) start end ∷ (inside ++ (ranged (End (end_of tag)) start end ∷ after))) to

-- the bytes do not contain this byte
abbrev pub HasNo : (byte : ℕ) → List ℕ → Type 0
HasNo byte [] = Unit {0}
HasNo byte (b ∷ bs) = ((b == byte) ≡ false) × HasNo byte bs

-- no wikilink shows the text after a pipe: wikilinks are off, or the text has no pipe
abbrev pub HasNoDisplays : Options → List ℕ → Type 0
HasNoDisplays options text = (options.wikilinks ≡ false) ⊎ HasNo 124 text
