-- ASCII letters and digits (named in CommonMark 2.5, 6.5 and 6.6), and the beginnings of byte strings.
use Rattle.std.specs.Prelude.{ℕ, ◌+◌, ◌-◌, Bool, false, ◌&&◌, ◌||◌, nat_le, if◌then◌else◌, List, [], ◌∷◌, length, drop, take, bytes_eq, Option, Some, None}
use Rattle.std.specs.List.{prefix_len}
use Rattle.cmark_grammar.specs.Characters.{capital_a, capital_z, digit_nine, digit_zero, small_a, small_z}

-- an ASCII letter in its lower case, other bytes as they are
abbrev pub lower : ℕ → ℕ
lower b = if nat_le capital_a b && nat_le b capital_z then b + (small_a - capital_a) else b

abbrev pub is_letter : ℕ → Bool
is_letter b = nat_le small_a (lower b) && nat_le (lower b) small_z

abbrev pub is_number : ℕ → Bool
is_number b = nat_le digit_zero b && nat_le b digit_nine

abbrev pub is_alphanumeric : ℕ → Bool
is_alphanumeric b = is_letter b || is_number b

abbrev pub starts : (prefix bs : List ℕ) → Bool
starts prefix bs = bytes_eq (take (length prefix) bs) prefix

abbrev pub first_is : (ℕ → Bool) → List ℕ → Bool
first_is p [] = false
first_is p (b ∷ bs) = p b

-- the bytes after the first ones that all pass the test
abbrev pub after_while : (ℕ → Bool) → List ℕ → List ℕ
after_while p bs = drop (prefix_len p bs) bs

-- the bytes after this prefix, if they begin with it
abbrev pub after_start_of : (prefix bs : List ℕ) → Option (List ℕ)
after_start_of prefix bs = if starts prefix bs then Some (drop (length prefix) bs) else None

-- the bytes after the first occurrence of the closer
abbrev pub after_first_of : (closer : List ℕ) → List ℕ → Option (List ℕ)
after_first_of closer [] = None
after_first_of closer (b ∷ bs) = if starts closer (b ∷ bs) then Some (drop (length closer) (b ∷ bs)) else after_first_of closer bs

-- the bytes after the first one, if it passes the test
abbrev pub after_if : (ℕ → Bool) → List ℕ → Option (List ℕ)
after_if p [] = None
after_if p (b ∷ bs) = if p b then Some bs else None

-- a further part is read after a part that was there
abbrev pub and_then : {A B : Type 0} → Option A → (A → Option B) → Option B
and_then None next = None
and_then (Some x) next = next x
