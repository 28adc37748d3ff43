-- The pairs of the stack of runs are those of the model of siblings.
use Rattle.std.proofs.Common.{◌≡◌, ℕ, Bool, true, false, nat_lt, if◌then◌else◌, List, [], ◌∷◌, ◌++◌, Option, Some, None, refl, sym, ap, ◌∙◌}
use Rattle.std.specs.Prelude.{map, filter, drop, length, ◌≤◌}
use Rattle.std.proofs.lemmas.List.{append-nil}
use Rattle.std.proofs.Math.ListN.{drop_of_length-le}
use Rattle.cmark_emphasis.specs.Shown.{shown_placed}
use Rattle.cmark_emphasis.specs.declared.run.PlacedRun.{PlacedRun}
use Rattle.cmark_grammar.specs.Spans.{Spans, Nil, Single, singles}
use Rattle.cmark_grammar.specs.Emphasis.{Run, Pair, Sibling, Plain, Delimiter, Piece, Whole, Standing, agrees, pair_of, rest_of_opener, rest_of_closer, wrapped, before, keep, deactivates, deactivated, is_tilde_or_caret, left_open, stand, runs_of}
use Rattle.cmark_inline_model.specs.EmphasisModel.{Closed, paired, chosen, close, or_none, closed, resolve, pairs_of}
use Rattle.cmark_emphasis.specs.Stack.{Chased, and_then, picked, put, stays_open, still_open, chase, or_same, chased, rest_on, pair_all, run_pairs}

abbrev opens_of : List Piece → List Run
opens_of [] = []
opens_of (Whole f ∷ ps) = opens_of ps
opens_of (Standing r ∷ ps) = r ∷ opens_of ps

abbrev shrunk : Closed → Chased
shrunk d = record { rest = d.rest; opens = opens_of d.pieces; pairs = d.pairs }

abbrev shrink : Option Closed → Option Chased
shrink None = None
shrink (Some d) = Some (shrunk d)

opens-keep : (o : Run) (ps : List Piece) → put o (opens_of ps) ≡ opens_of (keep o ps)
opens-keep o ps = go (nat_lt 0 o.left)
  where
    go : (b : Bool) → (if b then o ∷ opens_of ps else opens_of ps) ≡ opens_of (if b then Standing o ∷ ps else ps)
    go true = refl
    go false = refl

opens-deactivated : (ps : List Piece) → filter stays_open (opens_of ps) ≡ opens_of (map deactivated ps)
opens-deactivated [] = refl
opens-deactivated (Whole f ∷ ps) = opens-deactivated ps
opens-deactivated (Standing r ∷ ps) = go (is_tilde_or_caret r.delimiter) refl (opens-deactivated ps)
  where
    go : (b : Bool) → is_tilde_or_caret r.delimiter ≡ b → filter stays_open (opens_of ps) ≡ opens_of (map deactivated ps) → filter stays_open (r ∷ opens_of ps) ≡ opens_of (deactivated (Standing r) ∷ map deactivated ps)
    go true e i = rw e i
    go false e i = rw e (ap (λ l. r ∷ l) i)

opens-left : (c : Run) (ps : List Piece) → still_open c (opens_of ps) ≡ opens_of (left_open c ps)
opens-left c ps = go (deactivates c)
  where
    go : (b : Bool) → (if b then filter stays_open (opens_of ps) else opens_of ps) ≡ opens_of (if b then map deactivated ps else ps)
    go true = opens-deactivated ps
    go false = refl

shrink-close : (c : Run) (ps : List Piece) (inside : Spans) → chase c (opens_of ps) ≡ shrink (close c ps inside)
shrink-close c [] inside = refl
shrink-close c (Whole f ∷ ps) inside = shrink-close c ps (before (Whole f) inside)
shrink-close c (Standing o ∷ ps) inside =
    go (agrees o c) (close (rest_of_closer o c) ps (before (Whole (wrapped (pair_of o c) inside)) Nil)) (shrink-close (rest_of_closer o c) ps (before (Whole (wrapped (pair_of o c) inside)) Nil)) (shrink-close c ps (before (Standing o) inside))
  where
    on : (r : Option Closed) → and_then (pair_of o c) (record { rest = rest_of_closer o c; opens = still_open (rest_of_closer o c) (put (rest_of_opener o c) (opens_of ps)); pairs = pair_of o c ∷ [] }) (shrink r) ≡ shrunk (paired (pair_of o c) (record { rest = rest_of_closer o c; pieces = left_open (rest_of_closer o c) (Whole (wrapped (pair_of o c) inside) ∷ keep (rest_of_opener o c) ps); pairs = pair_of o c ∷ [] }) r)
    on None = ap {B = Chased} (λ l. record { rest = rest_of_closer o c; opens = l; pairs = pair_of o c ∷ [] }) (ap (still_open (rest_of_closer o c)) (opens-keep (rest_of_opener o c) ps) ∙ opens-left (rest_of_closer o c) (Whole (wrapped (pair_of o c) inside) ∷ keep (rest_of_opener o c) ps))
    on (Some d) = refl

    go : (b : Bool) (r : Option Closed) → chase (rest_of_closer o c) (opens_of ps) ≡ shrink r → chase c (opens_of ps) ≡ shrink (close c ps (before (Standing o) inside)) →
        picked b (and_then (pair_of o c) (record { rest = rest_of_closer o c; opens = still_open (rest_of_closer o c) (put (rest_of_opener o c) (opens_of ps)); pairs = pair_of o c ∷ [] }) (chase (rest_of_closer o c) (opens_of ps))) (chase c (opens_of ps))
        ≡ shrink (chosen b (paired (pair_of o c) (record { rest = rest_of_closer o c; pieces = left_open (rest_of_closer o c) (Whole (wrapped (pair_of o c) inside) ∷ keep (rest_of_opener o c) ps); pairs = pair_of o c ∷ [] }) r) (close c ps (before (Standing o) inside)))
    go true r e f = ap {B = Option Chased} (λ x. Some x) (ap (and_then (pair_of o c) (record { rest = rest_of_closer o c; opens = still_open (rest_of_closer o c) (put (rest_of_opener o c) (opens_of ps)); pairs = pair_of o c ∷ [] })) e ∙ on r)
    go false r e f = f

shrunk-closed : (c : Run) (ps : List Piece) → chased c (opens_of ps) ≡ shrunk (closed c ps)
unfolding chased closed
shrunk-closed c ps = ap (or_same c (opens_of ps)) (shrink-close c ps Nil) ∙ go (close c ps Nil)
  where
    go : (r : Option Closed) → or_same c (opens_of ps) (shrink r) ≡ shrunk (or_none c ps r)
    go None = ap {B = Chased} (λ l. record { rest = c; opens = l; pairs = [] }) (opens-left c ps)
    go (Some d) = refl

opens-stand : (r : Run) (ps : List Piece) → rest_on r (opens_of ps) ≡ opens_of (stand r ps)
opens-stand r ps = go r.opens
  where
    go : (b : Bool) → (if b then put r (opens_of ps) else opens_of ps) ≡ opens_of (if b then keep r ps else Whole (singles r.at r.left Nil) ∷ ps)
    go true = opens-keep r ps
    go false = refl

pairs-resolve : (ts : List Sibling) (ps : List Piece) → pair_all (runs_of ts) (opens_of ps) ≡ (resolve ts ps).pairs
pairs-resolve [] ps = refl
pairs-resolve (Plain at ∷ ts) ps = pairs-resolve ts (Whole (Single at Nil) ∷ ps)
pairs-resolve (Delimiter c ∷ ts) ps =
    ap (λ d. d.pairs ++ pair_all (runs_of ts) (rest_on d.rest d.opens)) (shrunk-closed c ps)
    ∙ ap (λ l. (closed c ps).pairs ++ pair_all (runs_of ts) l) (opens-stand (closed c ps).rest (closed c ps).pieces)
    ∙ ap (λ l. (closed c ps).pairs ++ l) (pairs-resolve ts (stand (closed c ps).rest (closed c ps).pieces))

pub run_pairs-are : (ts : List Sibling) → run_pairs (runs_of ts) ≡ pairs_of ts
run_pairs-are ts = pairs-resolve ts []

-- at the end of the runs
pub pairs_end : (ts : List Sibling) (runs : List PlacedRun) (i : ℕ) (opens : List Run) (a b : List Pair) → length runs ≤ i → a ++ pair_all (map shown_placed (drop i runs)) opens ≡ b ++ run_pairs (map shown_placed runs) → runs_of ts ≡ map shown_placed runs → a ≡ b ++ pairs_of ts
pairs_end ts runs i opens a b le e r =
    sym (append-nil a)
    ∙ ap (λ l. a ++ pair_all (map shown_placed l) opens) (sym (drop_of_length-le runs le))
    ∙ e
    ∙ ap (λ l. b ++ run_pairs l) (sym r)
    ∙ ap (λ l. b ++ l) (run_pairs-are ts)
