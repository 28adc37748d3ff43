-- Closing runs of one class: an open run agrees with all of them, or with none.
use Rattle.std.specs.Prelude.{◌≡◌, ℕ, ◌%◌, ◌<◌, Bool, true, ◌==◌, ◌||◌}
use Rattle.cmark_grammar.specs.Characters.{asterisk, underscore}
use Rattle.cmark_grammar.specs.Emphasis.{Run, can_both}

-- a run that can close, and of which bytes are left
pub record IsClosing (run : Run) : Type 0 where
  pub closes : run.closes ≡ true
  pub left : 0 < run.left

-- `*` or `_`
abbrev pub is_emphasis_delimiter : ℕ → Bool
is_emphasis_delimiter delimiter = (delimiter == asterisk) || (delimiter == underscore)

-- runs of `*` or of `_` whose lengths are equal modulo 3, and which both can open too, or both cannot
pub record IsLike (first second : Run) : Type 0 where
  pub emphasis : is_emphasis_delimiter first.delimiter ≡ true
  pub delimiter : second.delimiter ≡ first.delimiter
  pub run_length : second.run_length % 3 ≡ first.run_length % 3
  pub both : can_both second ≡ can_both first
