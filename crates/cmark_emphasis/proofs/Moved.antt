-- Runs at other places have the same pairs, at these places.
use Rattle.std.proofs.Common.{◌≡◌, ℕ, suc, ◌+◌, ◌-◌, ◌<◌, ◌≤◌, Bool, true, false, nat_lt, if◌then◌else◌, List, [], ◌∷◌, ◌++◌, Option, Some, None, refl, sym, ap, subst, ◌∙◌, arith}
use Rattle.std.specs.Prelude.{filter}
use Rattle.cmark_grammar.specs.Emphasis.{Run, Pair, agrees, deactivates, paired_count, pair_of, rest_of_closer, rest_of_opener}
use Rattle.cmark_inline_model.proofs.SpanPlaces.{count-closer, count-opener}
use Rattle.cmark_emphasis.specs.Stack.{Chased, and_then, picked, put, stays_open, still_open, chase, or_same, chased, rest_on, pair_all, run_pairs}

-- the run at another place
abbrev pub at_place : Run → ℕ → Run
at_place run at = record { delimiter = run.delimiter; run_length = run.run_length; at = at; left = run.left; opens = run.opens; closes = run.closes }

count-within : (opener closer : Run) → (paired_count opener closer ≤ opener.left) × (paired_count opener closer ≤ closer.left)
count-within opener closer = (count-opener opener closer, count-closer opener closer)

pub agrees-moved : (opener closer : Run) (a b : ℕ) → agrees (at_place opener a) (at_place closer b) ≡ agrees opener closer
unfolding agrees
agrees-moved opener closer a b = refl

pub closer-moved : (opener closer : Run) (a b : ℕ) → rest_of_closer (at_place opener a) (at_place closer b) ≡ at_place (rest_of_closer opener closer) (b + paired_count opener closer)
unfolding rest_of_closer
closer-moved opener closer a b = refl

pub opener-moved : (opener closer : Run) (a b : ℕ) → rest_of_opener (at_place opener a) (at_place closer b) ≡ at_place (rest_of_opener opener closer) a
unfolding rest_of_opener
opener-moved opener closer a b = refl

pub deactivates-moved : (closer : Run) (b : ℕ) → deactivates (at_place closer b) ≡ deactivates closer
unfolding deactivates
deactivates-moved closer b = refl

module _ (place : ℕ → ℕ) where
  -- the bytes that are left of a run have the places from `at` on
  abbrev pub HasPlaces : Run → (at : ℕ) → Type 0
  HasPlaces run at = (j : ℕ) → j < run.left → place (run.at + j) ≡ at + j

  abbrev pub IsMoved : (run moved : Run) → Type 0
  IsMoved run moved = (at : ℕ) × (moved ≡ at_place run at) × HasPlaces run at

  abbrev pub AreMoved : (runs moved : List Run) → Type 0
  AreMoved [] [] = Unit {0}
  AreMoved [] (m ∷ moved) = ⊥
  AreMoved (r ∷ runs) [] = ⊥
  AreMoved (r ∷ runs) (m ∷ moved) = IsMoved r m × AreMoved runs moved

  -- each byte of a pair is at its place
  pub record IsMovedPair (pair moved : Pair) : Type 0 where
    pub delimiter : moved.delimiter ≡ pair.delimiter
    pub count : moved.count ≡ pair.count
    pub opens : pair.count ≤ pair.from
    pub moved_opens : pair.count ≤ moved.from
    pub opening : (j : ℕ) → j < pair.count → place (pair.from - suc j) ≡ moved.from - suc j
    pub closing : (j : ℕ) → j < pair.count → place (pair.to + j) ≡ moved.to + j

  abbrev pub AreMovedPairs : (pairs moved : List Pair) → Type 0
  AreMovedPairs [] [] = Unit {0}
  AreMovedPairs [] (m ∷ moved) = ⊥
  AreMovedPairs (p ∷ pairs) [] = ⊥
  AreMovedPairs (p ∷ pairs) (m ∷ moved) = IsMovedPair p m × AreMovedPairs pairs moved

  record IsMovedState (state moved : Chased) : Type 0 where
    rest : IsMoved state.rest moved.rest
    opens : AreMoved state.opens moved.opens
    pairs : AreMovedPairs state.pairs moved.pairs

  abbrev IsMovedResult : (state moved : Option Chased) → Type 0
  IsMovedResult None None = Unit {0}
  IsMovedResult None (Some m) = ⊥
  IsMovedResult (Some s) None = ⊥
  IsMovedResult (Some s) (Some m) = IsMovedState s m

  pair-moved : (opener closer : Run) (a b : ℕ) → HasPlaces opener a → HasPlaces closer b → IsMovedPair (pair_of opener closer) (pair_of (at_place opener a) (at_place closer b))
  unfolding pair_of
  pair-moved opener closer a b o c =
      let n = count-within opener closer in
      let first = n.0 in
      let second = n.1 in
      record {
        delimiter = refl;
        count = refl;
        opens = omega (arith, first);
        moved_opens = omega (arith, first);
        opening = λ j lt.
            ap place (let q : opener.at + opener.left - suc j ≡ opener.at + (opener.left - suc j) = omega (arith, lt, first) in q)
            ∙ o (opener.left - suc j) (omega (arith, lt, first))
            ∙ (let q : a + (opener.left - suc j) ≡ a + opener.left - suc j = omega (arith, lt, first) in q);
        closing = λ j lt. c j (omega (arith, lt, second));
      }

  rest-moved : (opener closer : Run) (a b : ℕ) → HasPlaces closer b → IsMoved (rest_of_closer opener closer) (rest_of_closer (at_place opener a) (at_place closer b))
  unfolding rest_of_closer
  rest-moved opener closer a b c = (b + paired_count opener closer, closer-moved opener closer a b, go)
    where
      go : HasPlaces (rest_of_closer opener closer) (b + paired_count opener closer)
      go = λ j lt.
          let n : ℕ = paired_count opener closer in
          ap place (let q : closer.at + n + j ≡ closer.at + (n + j) = omega arith in q) ∙ c (n + j) (omega (arith, lt)) ∙ (let q : b + (n + j) ≡ b + n + j = omega arith in q)

  front-moved : (opener closer : Run) (a b : ℕ) → HasPlaces opener a → IsMoved (rest_of_opener opener closer) (rest_of_opener (at_place opener a) (at_place closer b))
  unfolding rest_of_opener
  front-moved opener closer a b o = (a, opener-moved opener closer a b, go)
    where
      go : HasPlaces (rest_of_opener opener closer) a
      go = λ j lt. o j (omega (arith, lt))

  put-moved : (run moved : Run) (opens others : List Run) → IsMoved run moved → AreMoved opens others → AreMoved (put run opens) (put moved others)
  put-moved run moved opens others r h = subst (λ m. AreMoved (put run opens) (put m others)) (sym r.1) (go (nat_lt 0 run.left))
    where
      go : (b : Bool) → AreMoved (if b then run ∷ opens else opens) (if b then at_place run r.0 ∷ others else others)
      go true = ((r.0, refl, r.2), h)
      go false = h

  filter-moved : (opens others : List Run) → AreMoved opens others → AreMoved (filter stays_open opens) (filter stays_open others)
  filter-moved [] [] h = tt
  filter-moved [] (m ∷ others) h = absurd h
  filter-moved (r ∷ opens) [] h = absurd h
  filter-moved (r ∷ opens) (m ∷ others) h = subst (λ x. AreMoved (filter stays_open (r ∷ opens)) (filter stays_open (x ∷ others))) (sym h.0.1) (go (stays_open r) refl (filter-moved opens others h.1))
    where
      go : (b : Bool) → stays_open r ≡ b → AreMoved (filter stays_open opens) (filter stays_open others) → AreMoved (filter stays_open (r ∷ opens)) (filter stays_open (at_place r h.0.0 ∷ others))
      go true e i = rw e ((h.0.0, refl, h.0.2), i)
      go false e i = rw e i

  still-moved : (closer moved : Run) (opens others : List Run) → IsMoved closer moved → AreMoved opens others → AreMoved (still_open closer opens) (still_open moved others)
  still-moved closer moved opens others c h =
      subst (λ b. AreMoved (still_open closer opens) (if b then filter stays_open others else others)) (sym (ap deactivates c.1 ∙ deactivates-moved closer c.0)) (go (deactivates closer))
    where
      go : (b : Bool) → AreMoved (if b then filter stays_open opens else opens) (if b then filter stays_open others else others)
      go true = filter-moved opens others h
      go false = h

  picked-moved : (b : Bool) (here there : Chased) (following others : Option Chased) → IsMovedState here there → IsMovedResult following others → IsMovedResult (picked b here following) (picked b there others)
  picked-moved true here there following others h f = h
  picked-moved false here there following others h f = f

  then-moved : (pair moved : Pair) (stops ends : Chased) (following others : Option Chased) → IsMovedPair pair moved → IsMovedState stops ends → IsMovedResult following others → IsMovedState (and_then pair stops following) (and_then moved ends others)
  then-moved pair moved stops ends None None p s f = s
  then-moved pair moved stops ends None (Some o) p s f = absurd f
  then-moved pair moved stops ends (Some x) None p s f = absurd f
  then-moved pair moved stops ends (Some x) (Some o) p s f = record { rest = f.rest; opens = f.opens; pairs = (p, f.pairs) }

  chase-moved : (closer moved : Run) (opens others : List Run) → IsMoved closer moved → AreMoved opens others → IsMovedResult (chase closer opens) (chase moved others)
  chase-moved closer moved [] [] c h = tt
  chase-moved closer moved [] (m ∷ others) c h = absurd h
  chase-moved closer moved (o ∷ opens) [] c h = absurd h
  chase-moved closer moved (o ∷ opens) (m ∷ others) c h =
      subst (λ x. IsMovedResult (chase closer (o ∷ opens)) (chase x (m ∷ others))) (sym c.1)
      (subst (λ x. IsMovedResult (chase closer (o ∷ opens)) (chase (at_place closer c.0) (x ∷ others))) (sym h.0.1)
      (here (chase-moved (rest_of_closer o closer) (rest_of_closer opener mine) opens others rest h.1) (chase-moved closer mine opens others (c.0, refl, c.2) h.1)))
    where
      opener : Run
      opener = at_place o h.0.0

      mine : Run
      mine = at_place closer c.0

      rest : IsMoved (rest_of_closer o closer) (rest_of_closer opener mine)
      rest = rest-moved o closer h.0.0 c.0 c.2

      front : AreMoved (put (rest_of_opener o closer) opens) (put (rest_of_opener opener mine) others)
      front = put-moved (rest_of_opener o closer) (rest_of_opener opener mine) opens others (front-moved o closer h.0.0 c.0 h.0.2) h.1

      pair : IsMovedPair (pair_of o closer) (pair_of opener mine)
      pair = pair-moved o closer h.0.0 c.0 h.0.2 c.2

      stops : IsMovedState (record { rest = rest_of_closer o closer; opens = still_open (rest_of_closer o closer) (put (rest_of_opener o closer) opens); pairs = pair_of o closer ∷ [] })
          (record { rest = rest_of_closer opener mine; opens = still_open (rest_of_closer opener mine) (put (rest_of_opener opener mine) others); pairs = pair_of opener mine ∷ [] })
      stops = record {
        rest = rest;
        opens = still-moved (rest_of_closer o closer) (rest_of_closer opener mine) (put (rest_of_opener o closer) opens) (put (rest_of_opener opener mine) others) rest front;
        pairs = (pair, tt);
      }

      here : IsMovedResult (chase (rest_of_closer o closer) opens) (chase (rest_of_closer opener mine) others) → IsMovedResult (chase closer opens) (chase mine others) → IsMovedResult (chase closer (o ∷ opens)) (chase mine (opener ∷ others))
      here more passed =
          subst (λ b. IsMovedResult (chase closer (o ∷ opens)) (picked b (and_then (pair_of opener mine)
          (record { rest = rest_of_closer opener mine; opens = still_open (rest_of_closer opener mine) (put (rest_of_opener opener mine) others); pairs = pair_of opener mine ∷ [] })
          (chase (rest_of_closer opener mine) others)) (chase mine others))) (sym (agrees-moved o closer h.0.0 c.0))
          (picked-moved (agrees o closer) _ _ _ _
          (then-moved (pair_of o closer) (pair_of opener mine) _ _ _ _ pair stops more)
          passed)

  chased-moved : (closer moved : Run) (opens others : List Run) → IsMoved closer moved → AreMoved opens others → IsMovedState (chased closer opens) (chased moved others)
  unfolding chased
  chased-moved closer moved opens others c h = go (chase closer opens) (chase moved others) (chase-moved closer moved opens others c h)
    where
      go : (x y : Option Chased) → IsMovedResult x y → IsMovedState (or_same closer opens x) (or_same moved others y)
      go None None f = record { rest = c; opens = still-moved closer moved opens others c h; pairs = tt }
      go None (Some y) f = absurd f
      go (Some x) None f = absurd f
      go (Some x) (Some y) f = f

  rest_on-moved : (rest moved : Run) (opens others : List Run) → IsMoved rest moved → AreMoved opens others → AreMoved (rest_on rest opens) (rest_on moved others)
  rest_on-moved rest moved opens others r h = subst (λ b. AreMoved (rest_on rest opens) (if b then put moved others else others)) (sym (ap (λ (x : Run). x.opens) r.1)) (go rest.opens)
    where
      go : (b : Bool) → AreMoved (if b then put rest opens else opens) (if b then put moved others else others)
      go true = put-moved rest moved opens others r h
      go false = h

  pairs-append : (a b c d : List Pair) → AreMovedPairs a b → AreMovedPairs c d → AreMovedPairs (a ++ c) (b ++ d)
  pairs-append [] [] c d h k = k
  pairs-append [] (y ∷ b) c d h k = absurd h
  pairs-append (x ∷ a) [] c d h k = absurd h
  pairs-append (x ∷ a) (y ∷ b) c d h k = (h.0, pairs-append a b c d h.1 k)

  all-moved : (runs moved opens others : List Run) → AreMoved runs moved → AreMoved opens others → AreMovedPairs (pair_all runs opens) (pair_all moved others)
  all-moved [] [] opens others r h = tt
  all-moved [] (m ∷ moved) opens others r h = absurd r
  all-moved (run ∷ runs) [] opens others r h = absurd r
  all-moved (run ∷ runs) (m ∷ moved) opens others r h =
      let mine = chased-moved run m opens others r.0 h in
      pairs-append (chased run opens).pairs (chased m others).pairs _ _ mine.pairs
      (all-moved runs moved _ _ r.1 (rest_on-moved (chased run opens).rest (chased m others).rest (chased run opens).opens (chased m others).opens mine.rest mine.opens))

  pub pairs-moved : (runs moved : List Run) → AreMoved runs moved → AreMovedPairs (run_pairs runs) (run_pairs moved)
  pairs-moved runs moved r = all-moved runs moved [] [] r tt
