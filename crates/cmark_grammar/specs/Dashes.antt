-- Dashes in place of hyphens, if smart punctuation is on (this profile's own). Example: `--` becomes an en dash, and `---` an em dash.
use Rattle.std.specs.Prelude.{ℕ, zero, suc, ◌==◌, ◌-◌, ◌/◌, ◌%◌, if◌then◌else◌, encode_utf8, List, [], ◌++◌}
use Rattle.cmark_grammar.specs.Characters.{em_dash, en_dash}

-- the number of em dashes (U+2014) and of the en dashes (U+2013) after them
pub record Dashes : Type 0 where
  pub em : ℕ
  pub en : ℕ

-- an em dash replaces three hyphens and an en dash two. Only em dashes appear if 3 divides the number, else only en dashes if it is even.
-- Else there are em dashes, and then as few en dashes as possible
abbrev pub dashes_of : (hyphens : ℕ) → Dashes
dashes_of n =
    if (n % 3) == 0 then record { em = n / 3; en = 0 }
    else if (n % 2) == 0 then record { em = 0; en = n / 2 }
    else if (n % 3) == 2 then record { em = (n - 2) / 3; en = 1 }
    else record { em = (n - 4) / 3; en = 2 }

-- the bytes of a character, repeated `times` times
abbrev pub repeated : (character : ℕ) → (times : ℕ) → List ℕ
repeated character zero = []
repeated character (suc times) = encode_utf8 character ++ repeated character times

-- the text of dashes
abbrev pub dash_text : Dashes → List ℕ
dash_text dashes = repeated em_dash dashes.em ++ repeated en_dash dashes.en
