-- Steps of a scanner from byte to byte.
use Rattle.std.specs.Prelude.{ℕ, List, [], ◌∷◌, Option, Some, None}
use Rattle.cmark_grammar.specs.LinkDefinitions.{Parsed, put}
use Rattle.cmark_scan_bytes.specs.declared.closed.Step.{Step}
use Rattle.cmark_scan_bytes.specs.declared.closed.Step.TheVariants.{Ends, Fails, GoesOn}

-- the part that is read from a byte on, by the effect of the byte and the part read after it. A byte that ends a part is its closer or
-- comes after it
abbrev pub read_closed : Step → ℕ → List ℕ → Option Parsed → Option Parsed
read_closed Ends b bs found = Some (record { bytes = []; following = bs })
read_closed Fails b bs found = None
read_closed GoesOn b bs found = put b found

abbrev pub read_bare : Step → ℕ → List ℕ → Option Parsed → Option Parsed
read_bare Ends b bs found = Some (record { bytes = []; following = b ∷ bs })
read_bare Fails b bs found = None
read_bare GoesOn b bs found = put b found

-- `P`, if the part ends at the byte, or if the byte belongs to it
abbrev pub OnEnds : Step → Type 0 → Type 0
OnEnds Ends P = P
OnEnds Fails P = Unit {0}
OnEnds GoesOn P = Unit {0}

abbrev pub OnGoesOn : Step → Type 0 → Type 0
OnGoesOn Ends P = Unit {0}
OnGoesOn Fails P = Unit {0}
OnGoesOn GoesOn P = P

-- the part with these bytes before it
abbrev pub puts : List ℕ → Option Parsed → Option Parsed
puts [] found = found
puts (b ∷ bs) found = put b (puts bs found)
