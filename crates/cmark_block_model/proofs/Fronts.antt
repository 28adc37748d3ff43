-- Properties of the first elements of a list.
use Rattle.std.proofs.Common.{◌≡◌, ℕ, zero, suc, ◌+◌, ◌≤◌, ◌<◌, Bool, true, List, [], ◌∷◌, length, drop, take_while, subst, arith}
use Rattle.std.proofs.lemmas.List.Sums.{take_while-cons}

-- a property of the first `n` elements, as far as there are any
abbrev pub Front : {X : Type 0} → (X → Type 0) → ℕ → List X → Type 0
Front Q n [] = Unit {0}
Front Q zero (x ∷ xs) = Unit {0}
Front Q (suc n) (x ∷ xs) = Q x × Front Q n xs

pub front-less : {X : Type 0} (Q : X → Type 0) (m n : ℕ) (xs : List X) → m ≤ n → Front Q n xs → Front Q m xs
front-less Q m n [] le f = tt
front-less Q zero n (x ∷ xs) le f = tt
front-less Q (suc m) zero (x ∷ xs) le f = absurd (omega (arith, le))
front-less Q (suc m) (suc n) (x ∷ xs) le f = (f.0, front-less Q m n xs (omega (arith, le)) f.1)

pub front-add : {X : Type 0} (Q : X → Type 0) (m n : ℕ) (xs : List X) → Front Q m xs → Front Q n (drop m xs) → Front Q (m + n) xs
front-add Q zero n xs f g = subst (λ k. Front Q k xs) (let z : n ≡ 0 + n = omega arith in z) g
front-add Q (suc m) n [] f g = tt
front-add Q (suc m) n (x ∷ xs) f g = subst (λ k. Front Q k (x ∷ xs)) (let z : suc (m + n) ≡ suc m + n = omega arith in z) (f.0, front-add Q m n xs f.1 g)

pub prefix-front : {X : Type 0} (p : X → Bool) (Q : X → Type 0) → ((x : X) → p x ≡ true → Q x) → (xs : List X) → Front Q (length (take_while p xs)) xs
prefix-front p Q holds [] = tt
prefix-front p Q holds (x ∷ xs) = grind (arith, take_while-cons, prefix-front p Q holds xs)

abbrev pub IsAsciiByte : ℕ → Type 0
IsAsciiByte b = b < 128
