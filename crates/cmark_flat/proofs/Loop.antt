-- Reading one element after the other, as a loop does.
use Rattle.std.proofs.Common.{◌≡◌, ℕ, ◌+◌, ◌<◌, ◌≤◌, List, [], ◌∷◌, ◌++◌, Option, Some, None, drop, length, map, refl, sym, ap, subst, ◌∙◌, append_assoc, arith}
use Rattle.std.proofs.lemmas.List.{append-nil, drop-drop, length-drop, map_push, nil_from_length}
use Rattle.cmark_grammar.specs.Attributes.{Attribute}
use Rattle.cmark_flat.specs.Decode.{◌>>=◌, attribute_at, attributes_of, each}
use Rattle.cmark_flat.specs.Records.{shown_record}
use Rattle.cmark_flat.specs.declared.record.Record.{Record}

-- the elements read before, then those that are still to be read
abbrev pub with_front : {B : Type 0} → List B → Option (List B) → Option (List B)
with_front front read = read >>= λ xs. Some (front ++ xs)

-- an element, then those that are still to be read
abbrev pub with_first : {B : Type 0} → Option B → Option (List B) → Option (List B)
with_first first read = first >>= λ x. read >>= λ xs. Some (x ∷ xs)

pub regroup : {B : Type 0} (front : List B) (x : B) (read : Option (List B)) → with_front front (with_first (Some x) read) ≡ with_front (front ++ x ∷ []) read
regroup front x None = refl
regroup front x (Some xs) = ap (λ ys. Some ys) (sym (append_assoc front (x ∷ []) xs))

-- one element more, seen by view
pub one_more : {A B : Type 0} (view : A → B) (front : List A) (x : A) (first : Option B) (read total : Option (List B)) → first ≡ Some (view x) → with_front (map view front) (with_first first read) ≡ total
    → with_front (map view (front ++ x ∷ [])) read ≡ total
one_more view front x first read total h so_far =
    ap (λ f. with_front f read) (map_push view front x)
    ∙ sym (regroup (map view front) (view x) read)
    ∙ ap (λ o. with_front (map view front) (with_first o read)) (sym h)
    ∙ so_far

-- no element
pub no_more : {B : Type 0} (front : List B) (first : Option B) (read total : Option (List B)) → first ≡ None → with_front front (with_first first read) ≡ total → total ≡ None
no_more front first read total h so_far = sym so_far ∙ ap (λ o. with_front front (with_first o read)) h

pub is_done : {B : Type 0} (front : List B) (read total : Option (List B)) → read ≡ Some [] → with_front front read ≡ total → total ≡ Some front
is_done front read total h so_far = sym so_far ∙ ap (λ o. with_front front o) h ∙ ap (λ xs. Some xs) (append-nil front)

-- nothing read before
pub nothing_before : {B : Type 0} (read : Option (List B)) → with_front [] read ≡ read
nothing_before None = refl
nothing_before (Some xs) = refl

-- ---- classes, and the records after them

-- the elements read before, then those that are still to be read
abbrev pub with_classes : {C R : Type 0} → List C → Option (List C × List R) → Option (List C × List R)
with_classes front read = read >>= λ x. Some (front ++ x.0, x.1)

-- ---- each element of a list

pub each_more : {A B C : Type 0} (f : C → Option B) (view : A → B) (rest : List C) (x : C) (after : List C) (front : List A) (a : A) (total : Option (List B)) → rest ≡ x ∷ after → f x ≡ Some (view a)
    → with_front (map view front) (each f rest) ≡ total → with_front (map view (front ++ a ∷ [])) (each f after) ≡ total
each_more f view rest x after front a total split h so_far =
    one_more view front a (f x) (each f after) total h (ap (λ l. with_front (map view front) (each f l)) (sym split) ∙ so_far)

pub each_none : {B C : Type 0} (f : C → Option B) (rest : List C) (x : C) (after : List C) (front : List B) (total : Option (List B)) → rest ≡ x ∷ after → f x ≡ None
    → with_front front (each f rest) ≡ total → total ≡ None
each_none f rest x after front total split h so_far =
    no_more front (f x) (each f after) total h (ap (λ l. with_front front (each f l)) (sym split) ∙ so_far)

-- ---- attributes

pub attribute_step : (rs : List Record) (at : ℕ) (front : List Attribute) (a : Attribute) (total : Option (List Attribute)) → attribute_at (map shown_record (drop at rs)) ≡ Some a
    → with_front front (attributes_of (map shown_record (drop at rs))) ≡ total → with_front (front ++ a ∷ []) (attributes_of (map shown_record (drop (at + 2) rs))) ≡ total
attribute_step rs at front a total h so_far = subst (λ l. with_front (front ++ a ∷ []) (attributes_of (map shown_record l)) ≡ total) (drop-drop 2 at rs) (by (drop at rs) h so_far)
  where
    by : (l : List Record) → attribute_at (map shown_record l) ≡ Some a → with_front front (attributes_of (map shown_record l)) ≡ total → with_front (front ++ a ∷ []) (attributes_of (map shown_record (drop 2 l))) ≡ total
    by [] h so_far = absurd cc
    by (name ∷ []) h so_far = absurd cc
    by (name ∷ value ∷ l) h so_far = sym (regroup front a (attributes_of (map shown_record l))) ∙ ap (λ o. with_front front (with_first o (attributes_of (map shown_record l)))) (sym h) ∙ so_far

pub attribute_fails : (rs : List Record) (at : ℕ) (front : List Attribute) (total : Option (List Attribute)) → at < length rs → attribute_at (map shown_record (drop at rs)) ≡ None
    → with_front front (attributes_of (map shown_record (drop at rs))) ≡ total → total ≡ None
attribute_fails rs at front total lt h so_far = by (drop at rs) (omega (arith, lt, length-drop at rs)) h so_far
  where
    by : (l : List Record) → 0 < length l → attribute_at (map shown_record l) ≡ None → with_front front (attributes_of (map shown_record l)) ≡ total → total ≡ None
    by [] some h so_far = absurd (omega (arith, some))
    by (name ∷ []) some h so_far = sym so_far
    by (name ∷ value ∷ l) some h so_far = sym so_far ∙ ap (λ o. with_front front (with_first o (attributes_of (map shown_record l)))) h

pub attributes_done : (rs : List Record) (at : ℕ) (front : List Attribute) (total : Option (List Attribute)) → length rs ≤ at → with_front front (attributes_of (map shown_record (drop at rs))) ≡ total → total ≡ Some front
attributes_done rs at front total le so_far =
    let none : drop at rs ≡ [] = nil_from_length (drop at rs) (omega (arith, le, length-drop at rs)) in
    is_done front (attributes_of (map shown_record (drop at rs))) total (ap (λ l. attributes_of (map shown_record l)) none) so_far
