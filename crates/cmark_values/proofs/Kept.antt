-- Bytes that a test keeps.
use Rattle.std.proofs.Common.{◌≡◌, ℕ, ◌<◌, ◌≤◌, Bool, true, false, List, length, get_or, position, nat_lt, cond, Option, None, Some, refl, sym, ◌∙◌, arith}
use Rattle.std.proofs.lemmas.Bool.{ltb-false}
use Rattle.std.proofs.lemmas.List.Sums.{fails_before_first}
use Rattle.std.specs.List.{position_or_len}

-- no byte of the text is marked
abbrev pub AllKept : (ℕ → Bool) → List ℕ → Type 0
AllKept mark xs = (k : ℕ) → k < length xs → mark (get_or xs k 0) ≡ false

cond-none : (b : Bool) (n : ℕ) → cond b (Some n) None ≡ None → b ≡ false
cond-none true n e = cc
cond-none false n e = refl

pub all_kept-position : (mark : ℕ → Bool) (xs : List ℕ) (r : Option ℕ) → r ≡ position mark xs → r ≡ None → AllKept mark xs
all_kept-position mark xs r e is k below =
    let past : length xs ≤ position_or_len mark xs = ltb-false (position_or_len mark xs) (length xs) (cond-none (nat_lt (position_or_len mark xs) (length xs)) (position_or_len mark xs) (sym e ∙ is)) in
    fails_before_first mark xs k 0 (omega arith)
