-- The text of a leaf: its lines in the source, without the prefixes of the containers around it (CommonMark 4.2, 4.8 and 5.1). Places are
-- places of the source. Example: the two lines `> a` and `> b` are a paragraph of two stretches.
use Rattle.std.specs.Prelude.{ℕ, ◌+◌, ◌-◌, ◌≤◌, Bool, nat_lt, if◌then◌else◌, min, max, List, [], ◌∷◌, ◌++◌}
use Rattle.cmark_grammar.specs.Tokens.{slice}

-- Lines that touch in the source, with their line endings. A line begins after the prefixes of its containers, with the spaces and tabs
-- before its words. Code, formulas and tags keep these blanks (this profile's own); a line break removes them. A tab that a prefix takes in
-- part belongs to the prefix. The first line of a leaf begins with its words, and the last line ends with them
pub record Stretch : Type 0 where
  pub start : ℕ
  pub end : ℕ

-- a paragraph, a heading or a table cell (GFM 4.10): its stretches, in order
pub record Leaf : Type 0 where
  pub stretches : List Stretch
  pub is_cell : Bool

-- the bytes of a leaf from a place on, and those before it
abbrev pub bytes_from : (source : List ℕ) → List Stretch → (at : ℕ) → List ℕ
bytes_from source [] at = []
bytes_from source (s ∷ more) at = slice source (max at s.start) s.end ++ bytes_from source more at

abbrev pub bytes_before : (source : List ℕ) → List Stretch → (at : ℕ) → List ℕ
bytes_before source [] at = []
bytes_before source (s ∷ more) at = slice source s.start (min at s.end) ++ bytes_before source more at

-- the number of bytes that these stretches have
abbrev pub size_of : List Stretch → ℕ
size_of [] = 0
size_of (s ∷ more) = (s.end - s.start) + size_of more

-- the place from which `left` bytes are left
abbrev pub place_with : (left : ℕ) → List Stretch → ℕ
place_with left [] = 0
place_with left (s ∷ []) = s.end - left
place_with left (s ∷ (t ∷ more)) =
    if nat_lt (size_of (t ∷ more)) left then s.end - (left - size_of (t ∷ more)) else place_with left (t ∷ more)

-- the beginning and the end of a leaf
abbrev pub begin_of : List Stretch → ℕ
begin_of [] = 0
begin_of (s ∷ more) = s.start

abbrev pub end_of : List Stretch → ℕ
end_of stretches = place_with 0 stretches

-- the stretches are in order, after the place `from` and within `size` bytes
abbrev pub InTurn : (from : ℕ) → List Stretch → (size : ℕ) → Type 0
InTurn from [] size = from ≤ size
InTurn from (s ∷ more) size = (from ≤ s.start) × (s.start ≤ s.end) × InTurn s.end more size
