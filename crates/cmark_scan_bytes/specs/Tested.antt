-- The results of a test of bytes.
use Rattle.std.specs.Prelude.{◌≡◌, ◌<◌, ℕ, Bool}
use Rattle.std.specs.Fn.{Shared}

module _ {F : Type 0} (f : Shared F (ℕ × Unit {0}) Bool) (test : F) where
  -- this function tells whether a byte passes
  abbrev pub Tests : (passes : ℕ → Bool) → Type 0
  Tests passes = (b : ℕ) (r : Bool) → b < 256 → f.post test (b, tt) r → r ≡ passes b

  -- `P` holds of the function that the test is
  abbrev pub ForTests : ((ℕ → Bool) → Type 0) → Type 0
  ForTests P = (passes : ℕ → Bool) → Tests passes → P passes
