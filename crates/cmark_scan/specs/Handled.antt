-- The results of a handler of line breaks, beyond the number of prefix bytes.
use Rattle.std.specs.Prelude.{◌≡◌, ℕ, List, Option, Some}
use Rattle.std.specs.Fn.{Shared}
use Rattle.std.specs.Str.{IsUtf8, IsCharBoundary}
use denote.Ref.{Bor}

-- the prefix after a line ending ends at a character boundary
abbrev pub CutsNoCharacter : (prefix : List ℕ → ℕ) → Type 0
CutsNoCharacter prefix = (bs : List ℕ) → IsUtf8 bs → IsCharBoundary bs (prefix bs)

-- The results of a handler of line breaks in labels, which gets the bytes after a line ending: the number of prefix bytes, or `None` if the
-- label ends there.
module _ {H : Type 0} (f : Shared H (Bor (List ℕ) × Unit {0}) (Option ℕ)) (handler : H) where
  -- at most the number of bytes there are, and whole characters
  abbrev pub LabelsWithin : Type 0
  LabelsWithin = (following : Bor (List ℕ)) (n : ℕ) → IsUtf8 following.now → f.post handler (following, tt) (Some n) → IsCharBoundary following.now n

  -- `P` holds of the function that the handler is
  abbrev pub ForLabels : ((List ℕ → Option ℕ) → Type 0) → Type 0
  ForLabels P = (prefix : List ℕ → Option ℕ) → ((following : Bor (List ℕ)) (r : Option ℕ) → f.post handler (following, tt) r → r ≡ prefix following.now) → P prefix
