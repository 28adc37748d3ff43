-- The names of footnotes in a map that holds each name's number, counted from 0.
use Rattle.std.specs.Prelude.{◌≡◌, ℕ, zero, suc, List, [], ◌∷◌, ◌++◌, length, cond, nat_eq, position}
use Rattle.std.specs.BTreeMap.{BTreeMap, get_by}
use Rattle.std.specs.Cmp.Lexicographic.{pointwise, slice_cmp}
use Rattle.std.specs.Ordering.{nat_cmp}

-- bytes gives the name of a key
module _ {K : Type 0} (bytes : K → List ℕ) where
  -- the name with this number
  abbrev pub name_at : List (K × ℕ) → ℕ → List ℕ
  name_at [] n = []
  name_at (e ∷ es) n = cond (nat_eq e.1 n) (bytes e.0) (name_at es n)

  -- the names with the numbers below n, in the order of their numbers
  abbrev pub names_below : List (K × ℕ) → ℕ → List (List ℕ)
  names_below es zero = []
  names_below es (suc n) = names_below es n ++ name_at es n ∷ []

  -- all names, in the order of their numbers
  abbrev pub names_of : List (K × ℕ) → List (List ℕ)
  names_of es = names_below es (length es)

  -- the map holds for each name its index in the list of all names
  abbrev pub IsNumbered : BTreeMap K ℕ → Type 0
  IsNumbered m = (name : List ℕ) → get_by (λ key. slice_cmp nat_cmp name (bytes key)) m ≡ position (pointwise nat_eq name) (names_of m.entries)
