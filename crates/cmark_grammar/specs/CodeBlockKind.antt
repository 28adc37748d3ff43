-- The kinds of code blocks: indented, or fenced with an info string (CommonMark 4.4 and 4.5).
use Rattle.std.specs.Prelude.{ℕ, List}

pub data CodeBlockKind : Type 0 where
  Indented : CodeBlockKind
  Fenced : (info : List ℕ) → CodeBlockKind
