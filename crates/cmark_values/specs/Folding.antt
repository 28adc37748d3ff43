-- The text by which a text is compared, whatever its case.
use Rattle.std.specs.Prelude.{◌&&◌, ◌||◌, ℕ, Bool, List, String, Option, None, Some, nat_lt, string_bytes}

-- a byte that case folding may change: an upper case letter of ASCII, or a part of a character beyond ASCII
abbrev pub may_fold : ℕ → Bool
may_fold byte = (nat_lt 64 byte && nat_lt byte 91) || nat_lt 127 byte

-- the bytes by which a text is compared: the folded text, or the text itself if there is no folded one
abbrev pub compared : {A : Type 0} → List ℕ → Option (String A) → List ℕ
compared text None = text
compared text (Some folded) = string_bytes folded
