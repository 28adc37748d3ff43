-- Stretches of a source, one after the other, and the text of the lines of a leaf.
use Rattle.std.specs.Prelude.{◌≡◌, ℕ, ◌+◌, ◌-◌, ◌≤◌, nat_lt, if◌then◌else◌, List, [], ◌∷◌, ◌++◌, length, slice_get, Some, ◌<◌}
use Rattle.std.specs.Str.{IsCharBoundary}
use Rattle.cmark_grammar.specs.Tokens.{slice}
use Rattle.cmark_leaf_text.specs.declared.stretch.LeafLine.{LeafLine}
use Rattle.cmark_leaf_text.specs.declared.stretch.Stretch.{Stretch}

-- a line is in the source at or after `from`, and has character boundaries at both ends
pub record IsLine (source : List ℕ) (from : ℕ) (line : LeafLine) : Type 0 where
  pub following : from ≤ line.start
  pub content : line.start ≤ line.content_end
  pub ending : line.content_end ≤ line.line_end
  pub within : line.line_end ≤ length source
  pub starts : IsCharBoundary source line.start
  pub stops : IsCharBoundary source line.content_end
  pub ends : IsCharBoundary source line.line_end

abbrev pub AreLines : (source : List ℕ) → (from : ℕ) → List LeafLine → Type 0
AreLines source from [] = Unit {0}
AreLines source from (line ∷ lines) = IsLine source from line × AreLines source line.line_end lines

-- the bytes of the lines with the line ends between them
abbrev pub leaf_bytes : (source : List ℕ) → List LeafLine → List ℕ
leaf_bytes source [] = []
leaf_bytes source (line ∷ []) = slice source line.start line.content_end
leaf_bytes source (line ∷ next ∷ lines) = slice source line.start line.line_end ++ leaf_bytes source (next ∷ lines)

-- the end of a line in the text: with its line end, if others follow
abbrev pub end_in_leaf : LeafLine → (others : List LeafLine) → ℕ
end_in_leaf line [] = line.content_end
end_in_leaf line (next ∷ others) = line.line_end

abbrev pub size_of : Stretch → ℕ
size_of stretch = stretch.end - stretch.start

-- a stretch is in the source at or after `from`, with character boundaries at both ends; `at` bytes of the text are before it
pub record IsStretch (source : List ℕ) (at from : ℕ) (stretch : Stretch) : Type 0 where
  pub place : stretch.at ≡ at
  pub following : from ≤ stretch.start
  pub ordered : stretch.start ≤ stretch.end
  pub within : stretch.end ≤ length source
  pub starts : IsCharBoundary source stretch.start
  pub ends : IsCharBoundary source stretch.end

abbrev pub AreStretches : (source : List ℕ) → (at from : ℕ) → List Stretch → Type 0
AreStretches source at from [] = Unit {0}
AreStretches source at from (stretch ∷ stretches) = IsStretch source at from stretch × AreStretches source (at + size_of stretch) stretch.end stretches

-- the bytes of the stretches, one after the other
abbrev pub joined : (source : List ℕ) → List Stretch → List ℕ
joined source [] = []
joined source (stretch ∷ stretches) = slice source stretch.start stretch.end ++ joined source stretches

-- the offset in the source of a byte of the stretches
abbrev pub place_in : List Stretch → ℕ → ℕ
place_in [] at = at
place_in (stretch ∷ stretches) at = if nat_lt at (stretch.at + size_of stretch) then stretch.start + (at - stretch.at) else place_in stretches at

-- the offset in the source of a byte of the text of lines
abbrev pub place_on : List LeafLine → ℕ → ℕ
place_on [] at = at
place_on (line ∷ lines) at = if nat_lt at (end_in_leaf line lines - line.start) then line.start + at else place_on lines (at - (end_in_leaf line lines - line.start))

-- the bytes of these stretches have the offsets in the source that the bytes of the lines have
abbrev pub StandAs : (source : List ℕ) → List LeafLine → List Stretch → Type 0
StandAs source lines stretches = (k : ℕ) → k < length (joined source stretches) → place_in stretches k ≡ place_on lines k

-- `count` more bytes follow those of the old stretches, and are in the source from `start` on; the others keep their offsets
pub record PlacesMore (source : List ℕ) (old : List Stretch) (start count : ℕ) (new : List Stretch) : Type 0 where
  pub same : (k : ℕ) → k < length (joined source old) → place_in new k ≡ place_in old k
  pub more : (k : ℕ) → k < count → place_in new (length (joined source old) + k) ≡ start + k

-- a stretch that may still be made longer follows these stretches
pub record IsOpen (source : List ℕ) (stretches : List Stretch) (open_one : Stretch) : Type 0 where
  pub all : AreStretches source 0 0 (stretches ++ (open_one ∷ []))
  pub place : open_one.at ≤ open_one.start

-- stretch `i` begins at or before the byte `at` of the text, and the next stretch after it
pub record FindsStretch (stretches : List Stretch) (at i : ℕ) : Type 0 where
  pub stretch : Stretch
  pub is : slice_get stretches i ≡ Some stretch
  pub before : stretch.at ≤ at
  pub next : (other : Stretch) → slice_get stretches (i + 1) ≡ Some other → at < other.at
