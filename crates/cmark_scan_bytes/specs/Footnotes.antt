-- The markers of footnote definitions on a line.
use Rattle.std.specs.Prelude.{◌≡◌, ◌≤◌, ℕ, suc, ◌+◌, List, length, take, drop, slice_index}
use Rattle.cmark_grammar.specs.Characters.{caret, right_bracket}
use Rattle.cmark_grammar.specs.LinkDefinitions.{Parsed}

-- the label at the beginning, which has `size` bytes, and the bytes after `]:`
abbrev pub labelled : List ℕ → (size : ℕ) → Parsed
labelled bytes size = record { bytes = take size bytes; following = drop (suc (suc size)) bytes }

-- the label of the marker at the beginning, which has `size` bytes, and the bytes after the marker
abbrev pub marked : List ℕ → (size : ℕ) → Parsed
marked words size = labelled (drop 2 words) size

-- a caret precedes the marker's label, which has `size` bytes; after the label come its closing bracket and another byte
abbrev pub IsClosed : List ℕ → (size : ℕ) → Type 0
IsClosed words size = (size + 4 ≤ length words) × (slice_index words (size + 2) ≡ right_bracket) × (slice_index words 1 ≡ caret)
