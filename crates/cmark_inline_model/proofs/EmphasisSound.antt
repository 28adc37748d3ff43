-- The model's pairs and spans are those of the definition.
use Rattle.std.proofs.Common.{◌≡◌, ◌⊎◌, ◌-◌, Bool, true, false, nat_lt, List, [], ◌∷◌, ◌++◌, Option, Some, None, refl, arith, append_assoc, rules}
use Rattle.cmark_grammar.specs.Spans.{Spans, Nil, Single}
use Rattle.cmark_grammar.specs.Emphasis.{Run, Sibling, Plain, Delimiter, Piece, Whole, Standing, agrees, pair_of, rest_of_opener, rest_of_closer, wrapped, before, row, keep, left_open, stand, Misses, Closes, Pairs, IsEmphasis}
use Rattle.cmark_inline_model.specs.EmphasisModel.{Closed, paired, close, or_none, closed, resolve, pairs_of, spans_of}

pub agrees-empty : (o c : Run) → c.left ≡ 0 → agrees o c ≡ false
unfolding agrees
agrees-empty o c e = grind arith

pub misses-empty : (c : Run) (ps : List Piece) → c.left ≡ 0 → Misses c ps
misses-empty c [] e = tt
misses-empty c (Whole f ∷ ps) e = misses-empty c ps e
misses-empty c (Standing o ∷ ps) e = (agrees-empty o c e, misses-empty c ps e)

pub misses-append : (c : Run) (ps qs : List Piece) → Misses c ps → Misses c qs → Misses c (ps ++ qs)
misses-append c [] qs a b = b
misses-append c (Whole f ∷ ps) qs a b = misses-append c ps qs a b
misses-append c (Standing o ∷ ps) qs a b = (a.0, misses-append c ps qs a.1 b)

pub row-snoc : (ps : List Piece) (p : Piece) (g : Spans) → row (ps ++ p ∷ []) g ≡ before p (row ps g)
row-snoc [] p g = refl
row-snoc (q ∷ ps) p g = row-snoc ps p (before q g)

pub close-empty : (c : Run) (ps : List Piece) (inside : Spans) → c.left ≡ 0 → close c ps inside ≡ None
close-empty c [] inside e = refl
close-empty c (Whole f ∷ ps) inside e = close-empty c ps (before (Whole f) inside) e
close-empty c (Standing o ∷ ps) inside e =
    rw (agrees-empty o c e) (close-empty c ps (before (Standing o) inside) e)

-- either the opener or the closer is used up
pub one_empty : (o c : Run) → ((rest_of_opener o c).left ≡ 0) ⊎ ((rest_of_closer o c).left ≡ 0)
unfolding rest_of_opener rest_of_closer
one_empty o c = grind (arith, nat_lt)

pub keep-empty : (o : Run) (ps : List Piece) → o.left ≡ 0 → keep o ps ≡ ps
keep-empty o ps e = rw e refl

-- the result of a run's course: `None`, if no open run agrees, or the pieces by the definition
abbrev pub Comes : Run → List Piece → Option Closed → Type 0
Comes c ps None = Misses c ps
Comes c ps (Some d) = Closes c ps d.pairs d.rest d.pieces

comes_kept : (o c : Run) (w : Spans) (ps : List Piece) (inside : Spans) → Comes (rest_of_closer o c) (Whole w ∷ ps) (close (rest_of_closer o c) ps inside) → Comes (rest_of_closer o c) (Whole w ∷ keep (rest_of_opener o c) ps) (close (rest_of_closer o c) ps inside)
comes_kept o c w ps inside h = grind (arith, one_empty, keep-empty, close-empty, misses-empty)

abbrev stops_at : Run → Run → Spans → List Piece → Closed
stops_at o c inside ps = record { rest = rest_of_closer o c; pieces = left_open (rest_of_closer o c) (Whole (wrapped (pair_of o c) inside) ∷ keep (rest_of_opener o c) ps); pairs = pair_of o c ∷ [] }

pub comes : (c : Run) (passed ps : List Piece) → Misses c passed → Comes c (passed ++ ps) (close c ps (row passed Nil))
comes c passed [] m = misses-append c passed [] m tt
comes c passed (Whole f ∷ ps) m = search (rules, misses-append, row-snoc, append_assoc, comes c (passed ++ Whole f ∷ []) ps (misses-append c passed (Whole f ∷ []) m tt))
comes c passed (Standing o ∷ ps) m =
    go (agrees o c) refl
    (λ e. comes c (passed ++ Standing o ∷ []) ps (misses-append c passed (Standing o ∷ []) m (e, tt)))
    (comes (rest_of_closer o c) (Whole (wrapped (pair_of o c) (row passed Nil)) ∷ []) ps tt)
  where
    take : (r : Option Closed) → agrees o c ≡ true → Comes (rest_of_closer o c) (Whole (wrapped (pair_of o c) (row passed Nil)) ∷ keep (rest_of_opener o c) ps) r → Comes c (passed ++ (Standing o ∷ ps)) (Some (paired (pair_of o c) (stops_at o c (row passed Nil) ps) r))
    take None e h = record { between = passed; opener = o; front = ps; cut = refl; nearest = m; agree = e; is = refl; so = (h, refl, refl) }
    take (Some d) e h = record { between = passed; opener = o; front = ps; cut = refl; nearest = m; agree = e; is = refl; so = h }

    go : (b : Bool) → agrees o c ≡ b → (agrees o c ≡ false → Comes c ((passed ++ Standing o ∷ []) ++ ps) (close c ps (row (passed ++ Standing o ∷ []) Nil))) → Comes (rest_of_closer o c) (Whole (wrapped (pair_of o c) (row passed Nil)) ∷ ps) (close (rest_of_closer o c) ps (before (Whole (wrapped (pair_of o c) (row passed Nil))) Nil)) → Comes c (passed ++ (Standing o ∷ ps)) (close c (Standing o ∷ ps) (row passed Nil))
    go true e pass on = rw e (take _ e (comes_kept o c (wrapped (pair_of o c) (row passed Nil)) ps (before (Whole (wrapped (pair_of o c) (row passed Nil))) Nil) on))
    go false e pass on = grind (arith, row-snoc, append_assoc)

pub closed-closes : (c : Run) (ps : List Piece) → Closes c ps (closed c ps).pairs (closed c ps).rest (closed c ps).pieces
unfolding closed
closed-closes c ps = go (close c ps Nil) (comes c [] ps tt)
  where
    go : (r : Option Closed) → Comes c ps r → Closes c ps (or_none c ps r).pairs (or_none c ps r).rest (or_none c ps r).pieces
    go None h = (h, refl, refl)
    go (Some d) h = h

pub resolve-pairs : (ts : List Sibling) (ps : List Piece) → Pairs ts ps (resolve ts ps).pairs (resolve ts ps).pieces
resolve-pairs [] ps = (refl, refl)
resolve-pairs (Plain at ∷ ts) ps = resolve-pairs ts (Whole (Single at Nil) ∷ ps)
resolve-pairs (Delimiter c ∷ ts) ps = search (rules, closed-closes, resolve-pairs ts (stand (closed c ps).rest (closed c ps).pieces))

pub sound : (ts : List Sibling) → IsEmphasis ts (pairs_of ts) (spans_of ts)
sound ts = record { last = (resolve ts []).pieces; are = resolve-pairs ts []; become = refl }
