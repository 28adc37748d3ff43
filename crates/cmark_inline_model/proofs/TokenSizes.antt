-- A construct that is found at the start of a text is not longer than the text.
use Rattle.std.specs.Prelude.{suc, ◌==◌, ◌&&◌, not, if◌then◌else◌, drop, take_while}
use Rattle.std.proofs.Common.{◌≡◌, ◌<◌, ◌≤◌, ◌+◌, ℕ, Bool, true, false, List, [], ◌∷◌, length, Option, Some, None, refl, arith, length-drop}
use Rattle.std.proofs.lemmas.List.{length-take}
use Rattle.std.proofs.lemmas.Slice.Eq.{bytes_eq-Decides}
use Rattle.cmark_grammar.specs.Answers.{Lookup}
use Rattle.cmark_grammar.specs.Leaves.{is_empty}
use Rattle.cmark_grammar.specs.Letters.{is_alphanumeric, first_is, starts}
use Rattle.cmark_grammar.specs.LineBreaks.{LineBreak, backslash_break_in, blank_break_in}
use Rattle.cmark_grammar.specs.Tokens.{Entity, entity_if, numeric, numeric_in, named, entity_in}
use Rattle.cmark_inline_model.proofs.ShorterRests.{either, ending-shorter, backslash_break-shorter}

pub starts-size : (prefix bs : List ℕ) → starts prefix bs ≡ true → length prefix ≤ length bs
starts-size prefix bs e = grind (arith, bytes_eq-Decides, length-take)

pub first-size : (p : ℕ → Bool) (bs : List ℕ) → first_is p bs ≡ true → 0 < length bs
first-size p [] e = cc
first-size p (b ∷ bs) e = omega arith

-- an entity has at least one byte, and at most n
abbrev pub EntityWithin : ℕ → Option Entity → Type 0
EntityWithin n None = Unit {0}
EntityWithin n (Some entity) = (0 < entity.size) × (entity.size ≤ n)

and_right : (a b : Bool) → (a && b) ≡ true → b ≡ true
and_right true b e = e
and_right false b e = cc

-- one of two values, by the condition
when : {A : Type 0} (P : A → Type 0) (b : Bool) (x y : A) → (b ≡ true → P x) → P y → P (if b then x else y)
when P true x y h k = h refl
when P false x y h k = k

after_closed : (n : ℕ) (bs : List ℕ) → first_is (λ b. b == 59) (drop n bs) ≡ true → n < length bs
after_closed n bs e = let s = first-size (λ b. b == 59) (drop n bs) e in let l = length-drop n bs in omega arith

numeric_within : (base most size n : ℕ) (digits rest : List ℕ) → 0 < size → (first_is (λ b. b == 59) rest ≡ true → length digits + size ≤ n) → EntityWithin n (numeric base most size digits rest)
numeric_within base most size n digits rest p h = grind (arith, when, and_right)

numeric_in_within : (bs : List ℕ) → EntityWithin (length bs + 2) (numeric_in bs)
numeric_in_within bs = grind (arith, when, numeric_within, first-size, after_closed, length-drop)

entity_if_within : (n size : ℕ) (o : Option (List ℕ)) → 0 < size → size ≤ n → EntityWithin n (entity_if o size)
entity_if_within n size None h k = tt
entity_if_within n size (Some bytes) h k = (h, k)

pub entity-within : (lookup : Lookup) (bs : List ℕ) → EntityWithin (suc (length bs)) (entity_in lookup bs)
entity-within lookup bs =
    let n = suc (length bs) in
    let rest : List ℕ = drop 1 bs in
    let name : List ℕ = take_while is_alphanumeric bs in
    let following : List ℕ = drop (length name) bs in
    when (EntityWithin n) (first_is (λ b. b == 35) bs) (numeric_in rest) (named lookup name following)
    (λ e. (let s = first-size (λ b. b == 35) bs e in let l = length-drop 1 bs in larger (length rest + 2) n (numeric_in rest) (omega arith) (numeric_in_within rest)))
    (when (EntityWithin n) (not (is_empty name) && first_is (λ b. b == 59) following) (entity_if (lookup name) (length name + 2)) None
    (λ e. (let c = after_closed (length name) bs (and_right (not (is_empty name)) (first_is (λ b. b == 59) following) e) in entity_if_within n (length name + 2) (lookup name) (omega arith) (omega arith))) tt)
  where
    larger : (a b : ℕ) (o : Option Entity) → a ≤ b → EntityWithin a o → EntityWithin b o
    larger a b None h k = tt
    larger a b (Some x) h k = (k.0, let y = k.1 in omega arith)

-- the text before a break, and the text after it
abbrev pub BreakWithin : ℕ → Option LineBreak → Type 0
BreakWithin n None = Unit {0}
BreakWithin n (Some found) = (found.before + length found.following < n)

pub backslash-within : (bs : List ℕ) → BreakWithin (length bs) (backslash_break_in bs)
backslash-within bs = grind (arith, backslash_break-shorter)

pub blank-within : (bs : List ℕ) → BreakWithin (length bs) (blank_break_in bs)
blank-within bs = grind (arith, ending-shorter, length-drop, either)
