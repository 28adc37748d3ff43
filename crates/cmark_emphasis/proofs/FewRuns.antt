-- The pairs of one run, and of two runs, that are the only ones of a list.
use Rattle.std.proofs.Common.{◌≡◌, Bool, true, false, ◌&&◌, nat_lt, if◌then◌else◌, List, [], ◌∷◌, ◌++◌, refl, sym, ap, ◌∙◌}
use Rattle.std.specs.Prelude.{filter}
use Rattle.cmark_grammar.specs.Emphasis.{Run, Pair, Sibling, agrees, pair_of, deactivates, runs_of}
use Rattle.cmark_inline_model.specs.EmphasisModel.{pairs_of}
use Rattle.cmark_emphasis.specs.Stack.{chased, rest_on, run_pairs, stays_open}
use Rattle.cmark_emphasis.proofs.Bridge.{run_pairs-are}

none_inactive : (b : Bool) → (if b then filter stays_open [] else []) ≡ []
none_inactive true = refl
none_inactive false = refl

-- a run alone makes no pair
pub one_run : (run : Run) → run_pairs (run ∷ []) ≡ []
unfolding chased
one_run run = refl

abbrev pub lone_pair : Bool → Pair → List Pair
lone_pair pairs pair = if pairs then pair ∷ [] else []

-- the second run closes the first, if the first is open and agrees
pub two_runs : (first second : Run) → run_pairs (first ∷ (second ∷ [])) ≡ lone_pair (first.opens && (nat_lt 0 first.left && agrees first second)) (pair_of first second)
unfolding chased
two_runs first second = ap (λ opens. (chased second (rest_on first opens)).pairs ++ []) (none_inactive (deactivates first)) ∙ opened first.opens (nat_lt 0 first.left)
  where
    chosen : (a : Bool) → agrees first second ≡ a → (chased second (first ∷ [])).pairs ++ [] ≡ lone_pair a (pair_of first second)
    chosen true e = rw e refl
    chosen false e = rw e refl

    opened : (b l : Bool) → (chased second (if b then (if l then first ∷ [] else []) else [])).pairs ++ [] ≡ lone_pair (b && (l && agrees first second)) (pair_of first second)
    opened true true = chosen (agrees first second) refl
    opened true false = refl
    opened false l = refl

-- the pairs of siblings whose only runs are these
pub two_pairs : (siblings : List Sibling) (first second : Run) (pairs : List Pair) → runs_of siblings ≡ first ∷ (second ∷ []) → pairs ≡ run_pairs (first ∷ (second ∷ [])) → pairs ≡ pairs_of siblings
two_pairs siblings first second pairs are is = is ∙ ap run_pairs (sym are) ∙ run_pairs-are siblings
