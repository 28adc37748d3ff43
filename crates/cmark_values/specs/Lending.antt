-- The zero-copy law: which texts of events are borrowed. It is a law about an event and its range, so that whoever has both and the parsed
-- text can check it.
use Rattle.std.specs.Prelude.{◌≡◌, ◌≢◌, ℕ, ◌≤◌, List, length}
use Rattle.std.specs.Box.{boxed_str_bytes}
use Rattle.cmark_grammar.specs.Tokens.{slice}
use Rattle.cmark_values.specs.Shown.{inline_bytes}
use Rattle.cmark_values.specs.declared.text.CowStr.{CowStr}
use Rattle.cmark_values.specs.declared.text.CowStr.TheVariants.{Boxed, Borrowed, Inlined}

-- a borrowed text equals these bytes, and an owned text does not: so a text is borrowed exactly if it equals these bytes
abbrev pub IsLentBy : (bytes : List ℕ) → CowStr → Type 0
IsLentBy bytes (Borrowed text) = text.now ≡ bytes
IsLentBy bytes (Boxed text) = boxed_str_bytes text ≢ bytes
IsLentBy bytes (Inlined text) = inline_bytes text ≢ bytes

-- some bytes of the source
pub record IsPartOf (source bytes : List ℕ) : Type 0 where
  pub start : ℕ
  pub end : ℕ
  pub ordered : start ≤ end
  pub within : end ≤ length source
  pub are : bytes ≡ slice source start end

-- a borrowed text is some part of the source
abbrev pub IsPartIfBorrowed : (source : List ℕ) → CowStr → Type 0
IsPartIfBorrowed source (Borrowed text) = IsPartOf source text.now
IsPartIfBorrowed source (Boxed text) = Unit {0}
IsPartIfBorrowed source (Inlined text) = Unit {0}

-- no memory is taken for the text
abbrev pub IsBorrowed : CowStr → Type 0
IsBorrowed (Boxed text) = ⊥
IsBorrowed (Borrowed text) = Unit {0}
IsBorrowed (Inlined text) = ⊥
