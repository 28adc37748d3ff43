-- Searches examine as many runs if the runs are at other places.
use Rattle.std.proofs.Common.{◌≡◌, ℕ, suc, ◌+◌, Bool, true, false, nat_lt, if◌then◌else◌, List, [], ◌∷◌, refl, sym, ap, subst, ◌∙◌, arith}
use Rattle.std.specs.Prelude.{filter, map}
use Rattle.cmark_grammar.specs.Emphasis.{Run, agrees, deactivates, paired_count, rest_of_closer, rest_of_opener}
use Rattle.cmark_emphasis.specs.Counts.{searches}
use Rattle.cmark_emphasis.specs.Least.{Seeking, Standing, count_of, fresh_in, is_fresh, least_examined, least_from, left_standing, passed_by, put_open, put_up, seek, sought, stays_standing, takes_none, with_more}
use Rattle.cmark_emphasis.proofs.Moved.{agrees-moved, at_place, closer-moved, deactivates-moved, opener-moved}

abbrev IsLike : (run other : Run) → Type 0
IsLike run other = (at : ℕ) × (other ≡ at_place run at)

abbrev pub AreLikeRuns : (runs others : List Run) → Type 0
AreLikeRuns [] [] = Unit {0}
AreLikeRuns [] (o ∷ others) = ⊥
AreLikeRuns (r ∷ runs) [] = ⊥
AreLikeRuns (r ∷ runs) (o ∷ others) = ((at : ℕ) × (o ≡ at_place r at)) × AreLikeRuns runs others

abbrev standing_at : Standing → ℕ → Standing
standing_at s at = record { run = at_place s.run at; fresh = s.fresh }

abbrev AreLike : (ss ts : List Standing) → Type 0
AreLike [] [] = Unit {0}
AreLike [] (t ∷ ts) = ⊥
AreLike (s ∷ ss) [] = ⊥
AreLike (s ∷ ss) (t ∷ ts) = ((at : ℕ) × (t ≡ standing_at s at)) × AreLike ss ts

record IsLikeState (x y : Seeking) : Type 0 where
  rest : IsLike x.rest y.rest
  standing : AreLike x.standing y.standing
  least : y.least ≡ x.least

more-like : (n : ℕ) (x y : Seeking) → IsLikeState x y → IsLikeState (with_more n x) (with_more n y)
more-like n x y h = record { rest = h.rest; standing = h.standing; least = ap (λ m. n + m) h.least }

put-like : (run other : Run) (ss ts : List Standing) → IsLike run other → AreLike ss ts → AreLike (put_up run ss) (put_up other ts)
put-like run other ss ts r h = subst (λ m. AreLike (put_up run ss) (put_up m ts)) (sym r.1) (go (nat_lt 0 run.left))
  where
    go : (b : Bool) → AreLike (if b then record { run = run; fresh = true } ∷ ss else ss) (if b then record { run = at_place run r.0; fresh = true } ∷ ts else ts)
    go true = ((r.0, refl), h)
    go false = h

open-like : (run other : Run) (ss ts : List Standing) → IsLike run other → AreLike ss ts → AreLike (put_open run ss) (put_open other ts)
open-like run other ss ts r h = subst (λ b. AreLike (put_open run ss) (if b then put_up other ts else ts)) (sym (ap (λ (x : Run). x.opens) r.1)) (go run.opens)
  where
    go : (b : Bool) → AreLike (if b then put_up run ss else ss) (if b then put_up other ts else ts)
    go true = put-like run other ss ts r h
    go false = h

filter-like : (ss ts : List Standing) → AreLike ss ts → AreLike (filter stays_standing ss) (filter stays_standing ts)
filter-like [] [] h = tt
filter-like [] (t ∷ ts) h = absurd h
filter-like (s ∷ ss) [] h = absurd h
filter-like (s ∷ ss) (t ∷ ts) h = subst (λ x. AreLike (filter stays_standing (s ∷ ss)) (filter stays_standing (x ∷ ts))) (sym h.0.1) (go (stays_standing s) refl (filter-like ss ts h.1))
  where
    go : (b : Bool) → stays_standing s ≡ b → AreLike (filter stays_standing ss) (filter stays_standing ts) → AreLike (filter stays_standing (s ∷ ss)) (filter stays_standing (standing_at s h.0.0 ∷ ts))
    go true e i = rw e ((h.0.0, refl), i)
    go false e i = rw e i

passed-like : (delimiter : ℕ) (ss ts : List Standing) → AreLike ss ts → AreLike (map (passed_by delimiter) ss) (map (passed_by delimiter) ts)
passed-like delimiter [] [] h = tt
passed-like delimiter [] (t ∷ ts) h = absurd h
passed-like delimiter (s ∷ ss) [] h = absurd h
passed-like delimiter (s ∷ ss) (t ∷ ts) h = ((h.0.0, ap (passed_by delimiter) h.0.1), passed-like delimiter ss ts h.1)

fresh-like : (delimiter : ℕ) (ss ts : List Standing) → AreLike ss ts → fresh_in delimiter ts ≡ fresh_in delimiter ss
fresh-like delimiter [] [] h = refl
fresh-like delimiter [] (t ∷ ts) h = absurd h
fresh-like delimiter (s ∷ ss) [] h = absurd h
fresh-like delimiter (s ∷ ss) (t ∷ ts) h =
    ap (λ x. (if is_fresh delimiter x then 1 else 0) + fresh_in delimiter ts) h.0.1 ∙ ap (λ n. (if is_fresh delimiter s then 1 else 0) + n) (fresh-like delimiter ss ts h.1)

none-like : (closer : Run) (b : ℕ) (ss ts : List Standing) → AreLike ss ts → IsLikeState (takes_none closer ss) (takes_none (at_place closer b) ts)
none-like closer b ss ts h = record {
  rest = (b, refl);
  standing =
      subst (λ d. AreLike (left_standing closer ss) (if searches closer then (if d then filter stays_standing ts else map (passed_by closer.delimiter) ts) else ts)) (sym (deactivates-moved closer b)) (go (searches closer) (deactivates closer));
  least = ap (λ n. if searches closer then n else 0) (fresh-like closer.delimiter ss ts h);
}
  where
    go : (a d : Bool) → AreLike (if a then (if d then filter stays_standing ss else map (passed_by closer.delimiter) ss) else ss) (if a then (if d then filter stays_standing ts else map (passed_by closer.delimiter) ts) else ts)
    go true true = filter-like ss ts h
    go true false = passed-like closer.delimiter ss ts h
    go false d = h

-- a search goes on with the rest of a run, after it took an open one
abbrev more_of : (opener closer : Run) → List Standing → Seeking
more_of opener closer ss = seek (rest_of_closer opener closer) (count_of (rest_of_opener opener closer)) (put_up (rest_of_opener opener closer) ss) ss

seek-like : (closer other : Run) (n : ℕ) (all others ss ts : List Standing) → IsLike closer other → AreLike all others → AreLike ss ts → IsLikeState (seek closer n all ss) (seek other n others ts)
seek-like closer other n all others [] [] c a h = subst (λ x. IsLikeState (takes_none closer all) (takes_none x others)) (sym c.1) (none-like closer c.0 all others a)
seek-like closer other n all others [] (t ∷ ts) c a h = absurd h
seek-like closer other n all others (s ∷ ss) [] c a h = absurd h
seek-like closer other n all others (s ∷ ss) (t ∷ ts) c a h =
    subst (λ x. IsLikeState (seek closer n all (s ∷ ss)) (seek x n others (t ∷ ts))) (sym c.1)
    (subst (λ x. IsLikeState (seek closer n all (s ∷ ss)) (seek mine n others (x ∷ ts))) (sym h.0.1)
    (subst (λ b. IsLikeState (seek closer n all (s ∷ ss)) (if b then taken else seek mine (suc n) others ts)) (sym (agrees-moved s.run closer h.0.0 c.0)) (go (agrees s.run closer)
    (seek-like (rest_of_closer s.run closer) (rest_of_closer opener mine) (count_of (rest_of_opener s.run closer)) (put_up (rest_of_opener s.run closer) ss) (put_up (rest_of_opener opener mine) ts) ss ts
    (c.0 + paired_count s.run closer, closer-moved s.run closer h.0.0 c.0) (put-like (rest_of_opener s.run closer) (rest_of_opener opener mine) ss ts front h.1) h.1)
    (seek-like closer mine (suc n) all others ss ts (c.0, refl) a h.1))))
  where
    mine : Run
    mine = at_place closer c.0

    opener : Run
    opener = at_place s.run h.0.0

    taken : Seeking
    taken = with_more (suc n) (seek (rest_of_closer opener mine) (count_of (rest_of_opener opener mine)) (put_up (rest_of_opener opener mine) ts) ts)

    front : IsLike (rest_of_opener s.run closer) (rest_of_opener opener mine)
    front = (h.0.0, opener-moved s.run closer h.0.0 c.0)

    go : (b : Bool) → IsLikeState (more_of s.run closer ss) (seek (rest_of_closer opener mine) (count_of (rest_of_opener s.run closer)) (put_up (rest_of_opener opener mine) ts) ts) → IsLikeState (seek closer (suc n) all ss) (seek mine (suc n) others ts)
        → IsLikeState (if b then with_more (suc n) (more_of s.run closer ss) else seek closer (suc n) all ss) (if b then taken else seek mine (suc n) others ts)
    go true m p =
        more-like (suc n) _ _ (subst (λ k. IsLikeState (more_of s.run closer ss) (seek (rest_of_closer opener mine) (count_of k) (put_up (rest_of_opener opener mine) ts) ts)) (sym front.1) m)
    go false m p = p

from-like : (runs others : List Run) (ss ts : List Standing) → AreLikeRuns runs others → AreLike ss ts → least_from others ts ≡ least_from runs ss
from-like [] [] ss ts r h = refl
from-like [] (o ∷ others) ss ts r h = absurd r
from-like (run ∷ runs) [] ss ts r h = absurd r
from-like (run ∷ runs) (o ∷ others) ss ts r h =
    let mine : IsLikeState (sought run ss) (sought o ts) = seek-like run o 0 ss ts ss ts r.0 h h in
    let following = from-like runs others _ _ r.1 (open-like (sought run ss).rest (sought o ts).rest (sought run ss).standing (sought o ts).standing mine.rest mine.standing) in
    let least = mine.least in
    omega (arith, least, following)

pub least-like : (runs others : List Run) → AreLikeRuns runs others → least_examined others ≡ least_examined runs
least-like runs others r = from-like runs others [] [] r tt
