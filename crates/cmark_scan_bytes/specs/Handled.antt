-- The results of a handler of line breaks, which gets the bytes after a line ending: the number of prefix bytes.
use Rattle.std.specs.Prelude.{◌≡◌, ◌≤◌, ℕ, List, length}
use Rattle.std.specs.Fn.{Shared}
use denote.Ref.{Bor}

module _ {H : Type 0} (f : Shared H (Bor (List ℕ) × Unit {0}) ℕ) (handler : H) where
  -- at most the number of bytes there are
  abbrev pub AnswersWithin : Type 0
  AnswersWithin = (following : Bor (List ℕ)) (n : ℕ) → f.post handler (following, tt) n → n ≤ length following.now

  -- the results of this function
  abbrev pub Answers : (prefix : List ℕ → ℕ) → Type 0
  Answers prefix = (following : Bor (List ℕ)) (n : ℕ) → f.post handler (following, tt) n → n ≡ prefix following.now

  -- `P` holds of the function that the handler is
  abbrev pub ForAnswers : ((List ℕ → ℕ) → Type 0) → Type 0
  ForAnswers P = (prefix : List ℕ → ℕ) → Answers prefix → P prefix
