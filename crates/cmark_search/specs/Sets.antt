-- Sets of ASCII bytes, by sixteen rows of eight bits.
use Rattle.std.specs.Prelude.{ℕ, Bool, false, ◌+◌, ◌/◌, ◌%◌, ◌==◌, ◌&&◌, nat_lt, List, [], ◌∷◌, get_or}
use Rattle.std.specs.Int.{bit_at}
use Rattle.std.specs.Simd.Lanes.{mask_l}

-- a byte is in the set if its high digit is below 8, and the bit with this number is set in the row of its low digit
abbrev pub in_rows : (rows : List ℕ) → ℕ → Bool
in_rows rows byte = nat_lt (byte / 16) 8 && (bit_at (get_or rows (byte % 16) 0) (byte / 16) == 1)

-- a byte is in the set if it equals the key at its low digit
abbrev pub in_keys : (keys : List ℕ) → ℕ → Bool
in_keys keys byte = get_or keys (byte % 16) 0 == byte

-- for each high digit, whether the table has the byte with this low digit and that high digit
abbrev pub column_of : (table : List Bool) → ℕ → List Bool
column_of table low =
    get_or table low false ∷ get_or table (low + 16) false ∷ get_or table (low + 32) false ∷ get_or table (low + 48) false
    ∷ get_or table (low + 64) false ∷ get_or table (low + 80) false ∷ get_or table (low + 96) false ∷ get_or table (low + 112) false ∷ []

-- the row of a table for the bytes with this low digit
abbrev pub row_of : (table : List Bool) → ℕ → ℕ
row_of table low = mask_l (column_of table low)
