-- Bytes of a text that arrive in chunks. They may end inside a character.
use Rattle.std.specs.Prelude.{◌≡◌, ◌<◌, ℕ, List, ◌++◌, IsUtf8, encode_utf8, length}
use Rattle.std.specs.Char.{IsScalar}

-- the UTF-8 of some character has these bytes, and at least one byte more
pub record BeginsCharacter (begun : List ℕ) : Type 0 where
  pub character : ℕ
  pub more : List ℕ
  pub scalar : IsScalar character
  pub cut : 0 < length more
  pub whole : encode_utf8 character ≡ begun ++ more

-- the bytes are this text, and after it the first bytes of a character, or none
pub record IsCutInto (bytes text begun : List ℕ) : Type 0 where
  pub joined : bytes ≡ text ++ begun
  pub utf8 : IsUtf8 text
  pub begins : BeginsCharacter begun

-- whatever follows these bytes, they are not UTF-8
abbrev pub IsNeverUtf8 : List ℕ → Type 0
IsNeverUtf8 bytes = (more : List ℕ) → ¬ (IsUtf8 (bytes ++ more))
