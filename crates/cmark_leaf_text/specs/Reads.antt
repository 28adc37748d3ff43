-- The text of a leaf.
use Rattle.std.specs.Prelude.{◌≡◌, ℕ, ◌≤◌, ◌<◌, Bool, List, length, string_bytes}
use Rattle.std.specs.Str.{IsCharBoundary}
use Rattle.cmark_leaf_text.specs.declared.leaf_text.LeafText.{LeafText}
use Rattle.cmark_leaf_text.specs.Stretches.{AreStretches, joined, place_in}

-- the text, and the source
abbrev pub text_of : LeafText → List ℕ
text_of leaf = joined leaf.source.now leaf.stretches.items

abbrev pub source_of : LeafText → List ℕ
source_of leaf = leaf.source.now

-- whether the text is the content of a table cell
abbrev pub is_cell_of : LeafText → Bool
is_cell_of leaf = leaf.is_cell

-- the offset in the source of a byte of the text
abbrev pub place_of : LeafText → ℕ → ℕ
place_of leaf at = place_in leaf.stretches.items at

-- the text was read whole
pub record IsRead (leaf : LeafText) : Type 0 where
  pub stretches : AreStretches leaf.source.now 0 0 leaf.stretches.items
  pub copied : 1 < length leaf.stretches.items → string_bytes leaf.copied ≡ joined leaf.source.now leaf.stretches.items

-- exactly the bytes of the text before `at` are before `place` in the source
pub record IsFirstFrom (leaf : LeafText) (place at : ℕ) : Type 0 where
  pub within : at ≤ length (text_of leaf)
  pub before : (k : ℕ) → k < at → place_of leaf k < place
  pub following : (k : ℕ) → at ≤ k → k < length (text_of leaf) → place ≤ place_of leaf k

-- the bytes from `from` up to `to`, both at character boundaries
pub record IsPart (text : List ℕ) (from to : ℕ) : Type 0 where
  pub some : from < to
  pub within : to ≤ length text
  pub starts : IsCharBoundary text from
  pub ends : IsCharBoundary text to
