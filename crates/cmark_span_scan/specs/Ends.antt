-- Line endings in a text.
use Rattle.std.specs.Prelude.{ℕ, ◌≡◌, ◌<◌, List, ◌++◌, take, drop}
use Rattle.std.specs.Str.{IsCharBoundary}
use Rattle.cmark_grammar.specs.CodeSpans.{with_line_ends}

-- the text has no line ending
abbrev pub HasNoEnd : List ℕ → Type 0
HasNoEnd text = (mark : List ℕ) → with_line_ends mark text ≡ text

-- the first line ending is between these offsets
pub record EndsLine (text : List ℕ) (start end : ℕ) : Type 0 where
  pub low : start < end
  pub starts : IsCharBoundary text start
  pub ends : IsCharBoundary text end
  pub same : (mark : List ℕ) → with_line_ends mark text ≡ take start text ++ (mark ++ with_line_ends mark (drop end text))
