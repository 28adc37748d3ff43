-- The status of a call from C, and its meaning for the caller's room and the size.
use Rattle.std.specs.Prelude.{◌≡◌, ◌≢◌, ◌<◌, ◌≤◌, ℕ, List, ◌++◌, drop, length, IsUtf8}

-- the output is at the beginning of the room, the rest of the room is unchanged, and the size is the length of the output
abbrev pub Wrote : (List ℕ → Type 0) → (old new : List ℕ) → ℕ → Type 0
Wrote IsAnswer old new size =
    (answer : List ℕ) × IsAnswer answer × (size ≡ length answer) × (size ≤ length old) × (new ≡ answer ++ drop size old)

-- the output, which has this size, is longer than the room, which is unchanged
abbrev pub IsTooLong : (List ℕ → Type 0) → (old new : List ℕ) → ℕ → Type 0
IsTooLong IsAnswer old new size =
    (answer : List ℕ) × IsAnswer answer × (size ≡ length answer) × (length old < size) × (new ≡ old)

-- there is no output: the room is unchanged, and the size is 0
abbrev pub Refused : (old new : List ℕ) → ℕ → Type 0
Refused old new size = (new ≡ old) × (size ≡ 0)

-- the status, room and size after a call with this text, if `IsAnswer` holds of the allowed outputs
pub record Answers (IsAnswer : List ℕ → Type 0) (text old new : List ℕ) (size status : ℕ) : Type 0 where
  pub is_status : status ≤ 3
  pub done : status ≡ 0 → Wrote IsAnswer old new size
  pub too_long : status ≡ 1 → IsTooLong IsAnswer old new size
  pub not_utf8 : status ≡ 2 → ¬ (IsUtf8 text) × Refused old new size
  pub no_memory : status ≡ 3 → Refused old new size
  pub utf8 : status ≢ 2 → IsUtf8 text
