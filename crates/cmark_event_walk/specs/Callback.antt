-- The answers of a callback that may be absent.
use Rattle.std.specs.Prelude.{◌≡◌, Option, Some, None}

-- if there is a callback, the answer is its answer; otherwise the answer is None
abbrev pub AnswersIfAny : {F Question Answer : Type 0} → (Answers : F → Question → Option Answer → F → Type 0) → (before : Option F) → Question → Option Answer → (after : Option F) → Type 0
AnswersIfAny {F} Answers None question answer after = (answer ≡ None) × (after ≡ None)
AnswersIfAny {F} Answers (Some callback) question answer after = (next : F) × Answers callback question answer next × (after ≡ Some next)
