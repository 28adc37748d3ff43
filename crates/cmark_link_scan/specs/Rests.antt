-- Suffixes of a text.
use Rattle.std.specs.Prelude.{◌≡◌, ◌≤◌, ℕ, List, length, drop}

-- these are the bytes after some at the beginning
pub record IsRest (bs rest : List ℕ) : Type 0 where
  pub skipped : ℕ
  pub within : skipped ≤ length bs
  pub is : rest ≡ drop skipped bs
