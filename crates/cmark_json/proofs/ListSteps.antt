-- Values that are made of the elements of a list, one after the other.
use Rattle.std.proofs.Common.{◌≡◌, ◌+◌, ◌<◌, ◌≤◌, ℕ, List, [], ◌∷◌, ◌++◌, get_or, length, map, take, refl, sym, ap, ◌∙◌}
use Rattle.std.proofs.lemmas.List.{map_push, take_all, take_more}
use Rattle.serde_json.specs.Data.{Data}
use Rattle.serde_json.specs.View.{view}
use Rattle.serde_json.specs.declared.value.Value.{Value}

-- one more element
pub one_more : {A : Type 0} (f : A → Data) (xs : List A) (i : ℕ) (d : A) (values : List Value) (v : Value) → i < length xs → map view values ≡ map f (take i xs) → view v ≡ f (get_or xs i d)
    → map view (values ++ v ∷ []) ≡ map f (take (i + 1) xs)
one_more f xs i d values v lt before e =
    map_push view values v
    ∙ ap (λ l. l ++ view v ∷ []) before
    ∙ ap (λ y. map f (take i xs) ++ y ∷ []) e
    ∙ sym (map_push f (take i xs) (get_or xs i d))
    ∙ ap (map f) (sym (take_more xs i d lt))

composed : {A B C : Type 0} (f : B → C) (g : A → B) (xs : List A) → map (λ x. f (g x)) xs ≡ map f (map g xs)
composed f g [] = refl
composed f g (x ∷ xs) = ap (λ l. f (g x) ∷ l) (composed f g xs)

-- all of them
pub all_made : {A B : Type 0} (f : B → Data) (g : A → B) (xs : List A) (i : ℕ) (values : List Value) → length xs ≤ i → map view values ≡ map (λ x. f (g x)) (take i xs) → map view values ≡ map f (map g xs)
all_made f g xs i values le e = e ∙ ap (map (λ x. f (g x))) (take_all i xs le) ∙ composed f g xs
