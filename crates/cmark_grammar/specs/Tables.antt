-- Tables: the delimiter row (GFM 4.10).
use Rattle.std.specs.Prelude.{ℕ, Bool, true, false, ◌==◌, ◌&&◌, nat_lt, if◌then◌else◌, List, [], ◌∷◌, drop, codes, Option, Some, None}
use Rattle.cmark_grammar.specs.Characters.{colon, hyphen, pipe}
use Rattle.cmark_grammar.specs.Lines.{onto}
use Rattle.cmark_grammar.specs.Leaves.{is_empty, run, trimmed}
use Rattle.cmark_grammar.specs.HtmlBlocks.{holds}
use Rattle.cmark_grammar.specs.Alignment.{Alignment, Unaligned, Left, Center, Right}

-- the alignment by a colon before the hyphens and one after them
abbrev pub aligned : (before following : Bool) → Alignment
aligned true true = Center
aligned true false = Left
aligned false true = Right
aligned false false = Unaligned

-- no byte, or a colon only
abbrev pub ended : (before : Bool) → List ℕ → Option Alignment
ended before [] = Some (aligned before false)
ended before (b ∷ bs) = if (b == colon) && is_empty bs then Some (aligned before true) else None

-- one or more hyphens at the beginning
abbrev pub hyphens : (before : Bool) → List ℕ → Option Alignment
hyphens before bs = if nat_lt 0 (run hyphen bs) then ended before (drop (run hyphen bs) bs) else None

-- a delimiter cell without blanks at its ends: hyphens, with or without a colon before and after them. Example: `:-:`
abbrev pub alignment_of : List ℕ → Option Alignment
alignment_of [] = None
alignment_of (b ∷ bs) = if b == colon then hyphens true bs else hyphens false (b ∷ bs)

abbrev pub put_first : Option Alignment → Option (List Alignment) → Option (List Alignment)
put_first None more = None
put_first (Some a) None = None
put_first (Some a) (Some more) = Some (a ∷ more)

-- the alignments of the cells, if each is a delimiter cell
abbrev pub alignments : List (List ℕ) → Option (List Alignment)
alignments [] = Some []
alignments (cell ∷ cells) = put_first (alignment_of (trimmed cell)) (alignments cells)

-- the bytes between pipes
abbrev pub cells : List ℕ → List (List ℕ)
cells [] = [] ∷ []
cells (b ∷ bs) = if b == pipe then [] ∷ cells bs else onto b (cells bs)

abbrev pub without_first_pipe : List ℕ → List ℕ
without_first_pipe [] = []
without_first_pipe (b ∷ bs) = if b == pipe then bs else b ∷ bs

abbrev pub without_last_pipe : List ℕ → List ℕ
without_last_pipe [] = []
without_last_pipe (b ∷ []) = if b == pipe then [] else b ∷ []
without_last_pipe (b ∷ c ∷ bs) = b ∷ without_last_pipe (c ∷ bs)

-- the alignments of a table's columns, if this line is a delimiter row: cells with at least one pipe. A pipe may also precede and follow
-- the cells (that there must be a pipe is this profile's own). Example: `|:--|--:|`
abbrev pub delimiter_row : List ℕ → Option (List Alignment)
delimiter_row bs = if holds (codes "|") bs then alignments (cells (without_last_pipe (without_first_pipe (trimmed bs)))) else None
