-- The places of a literal pipe's backslashes, and of the backslash of an escaped pipe in code and formulas.
use Rattle.std.specs.Prelude.{ℕ, ◌≡◌, ◌+◌, ◌<◌, List, ◌++◌, length, drop, take}
use Rattle.std.specs.Str.{IsCharBoundary}
use Rattle.cmark_grammar.specs.InlineTokens.{without_pipe_escapes}
use Rattle.cmark_grammar.specs.LabelsOverLines.{with_literal_pipes}

-- the bytes up to the first place are kept, and those from there to the second are removed
pub record Drops (text : List ℕ) (start end : ℕ) : Type 0 where
  pub low : start < end
  pub starts : IsCharBoundary text start
  pub ends : IsCharBoundary text end
  pub same : with_literal_pipes text ≡ take start text ++ with_literal_pipes (drop end text)

-- the bytes up to this place are kept, and the backslash there is removed
pub record LeavesOut (text : List ℕ) (at : ℕ) : Type 0 where
  pub within : at < length text
  pub starts : IsCharBoundary text at
  pub ends : IsCharBoundary text (at + 1)
  pub same : without_pipe_escapes text ≡ take at text ++ without_pipe_escapes (drop (at + 1) text)
