-- The bottoms after a search that found nothing, and after the stack is cut.
use Rattle.std.proofs.Common.{◌≡◌, ◌≢◌, ◌⊎◌, inl, inr, ℕ, ◌+◌, ◌<◌, ◌≤◌, Bool, true, false, List, [], ◌∷◌, ◌++◌, if◌then◌else◌, nat_lt, length, length-append, Some, get_or, sym, ap, ◌∙◌, subst, arith}
use Rattle.std.specs.Prelude.{take, min, slice_set}
use Rattle.std.proofs.Math.Seq.{take-length}
use Rattle.std.proofs.lemmas.Bool.{cases_eq}
use Rattle.std.proofs.lemmas.List.{get_or-take, get_or-set_same, get_or-set_other, get_or_append_left, length-take}
use Rattle.cmark_grammar.specs.Emphasis.{Run, agrees}
use Rattle.cmark_emphasis.specs.Shown.{shown_run, open_runs}
use Rattle.cmark_emphasis.specs.Stack.{NoneAgree}
use Rattle.cmark_emphasis.specs.Bottoms.{AreBottoms, NoneBelow, class_of, active_runs}
use Rattle.cmark_emphasis.specs.Nearest.{with_opener, with_rest}
use Rattle.cmark_emphasis.specs.Classes.{IsClosing}
use Rattle.cmark_emphasis.specs.declared.bottom.OpenersBottom.{OpenersBottom}
use Rattle.cmark_emphasis.specs.declared.run.Run as code_run
use Rattle.cmark_emphasis.proofs.Agreeing.{class_low, class_misses, class_no_tilde}
use Rattle.cmark_emphasis.proofs.ActiveRuns.{each_misses, active_runs-lower}

-- the height of one class is that of the stack now
pub noted : (c : Run) (bottoms : OpenersBottom) (stack : List code_run.Run) (class : ℕ) → AreBottoms bottoms stack → class_of c ≡ Some class → IsClosing c → class < length bottoms.heights → NoneAgree c (open_runs (active_runs bottoms.inactive_below stack)) → AreBottoms (record { heights = slice_set bottoms.heights class (length stack); inactive_below = bottoms.inactive_below }) stack
noted c bottoms stack class h is closes low none = record { emphasis = each; inactive_below = h.inactive_below }
  where
    each_none : (k : ℕ) (d : code_run.Run) → k < length stack → agrees (shown_run (get_or stack k d)) c ≡ false
    each_none = each_misses c bottoms.inactive_below stack (class_no_tilde c class is) (length stack) (omega arith) (subst (λ l. NoneAgree c (open_runs (active_runs bottoms.inactive_below l))) (sym (take-length stack)) none)

    each : (closer : Run) (other : ℕ) → class_of closer ≡ Some other → NoneBelow closer stack (get_or (slice_set bottoms.heights class (length stack)) other 0)
    each closer other e = go (cases_eq other class)
      where
        go : (other ≡ class) ⊎ (other ≢ class) → NoneBelow closer stack (get_or (slice_set bottoms.heights class (length stack)) other 0)
        go (inl same) =
            let now : length stack ≡ get_or (slice_set bottoms.heights class (length stack)) other 0 = sym (ap (λ k. get_or (slice_set bottoms.heights class (length stack)) k 0) same ∙ get_or-set_same bottoms.heights class (length stack) 0 low) in
            subst (NoneBelow closer stack) now
            (record { within = omega arith; none = λ k d lt. class_misses (shown_run (get_or stack k d)) c closer class is (e ∙ ap (λ n. Some n) same) closes (each_none k d lt) })
        go (inr differs) = subst (NoneBelow closer stack) (sym (get_or-set_other bottoms.heights class other (length stack) 0 differs)) (h.emphasis closer other e)

-- the stack is cut, and all heights with it
pub lowered : (old new : OpenersBottom) (stack : List code_run.Run) (height : ℕ) → AreBottoms old stack → ((class : ℕ) → class < 13 → get_or new.heights class 0 ≡ min (get_or old.heights class 0) height) → new.inactive_below ≡ min old.inactive_below height → AreBottoms new (take height stack)
lowered old new stack height h heights inactive_below = record { emphasis = each; inactive_below = under old.inactive_below new.inactive_below inactive_below h.inactive_below }
  where
    under : (n m : ℕ) → m ≡ min n height → n ≤ length stack → m ≤ length (take height stack)
    under n m e le = let l = length-take height stack in omega (arith, e, le, l)

    each : (closer : Run) (class : ℕ) → class_of closer ≡ Some class → NoneBelow closer (take height stack) (get_or new.heights class 0)
    each closer class e =
        let old_one = h.emphasis closer class e in
        let is = heights class (class_low closer class e) in
        record {
          within = under _ _ is old_one.within;
          none = λ k d lt.
              subst (λ r. agrees (shown_run r) closer ≡ false) (sym (get_or-take height stack k d (omega (arith, lt, is)))) (old_one.none k d (omega (arith, lt, is)));
        }

-- the runs that count as open are the same
pub lowered_open : (n m height : ℕ) (stack : List code_run.Run) → m ≡ min n height → active_runs m (take height stack) ≡ active_runs n (take height stack)
lowered_open n m height stack e =
    ap (λ k. active_runs k (take height stack)) e ∙ active_runs-lower n height (take height stack) (let l = length-take height stack in omega (arith, l))

-- a run that is put on the stack is above all heights
pub rest_bottoms : (bottoms : OpenersBottom) (stack : List code_run.Run) (r : code_run.Run) → AreBottoms bottoms stack → AreBottoms bottoms (with_rest r stack)
rest_bottoms bottoms stack r h = go (nat_lt 0 r.left)
  where
    longer : length (stack ++ r ∷ []) ≡ length stack + 1
    longer = length-append stack (r ∷ [])

    go : (b : Bool) → AreBottoms bottoms (if b then stack ++ r ∷ [] else stack)
    go true = record {
      emphasis = λ closer class e.
          let old = h.emphasis closer class e in
          record {
            within = omega (arith, old.within, longer);
            none = λ k d lt.
                subst (λ x. agrees (shown_run x) closer ≡ false) (sym (get_or_append_left stack (r ∷ []) d k (omega (arith, lt, old.within)))) (old.none k d lt);
          };
      inactive_below = omega (arith, h.inactive_below, longer);
    }
    go false = h

pub opener_bottoms : (bottoms : OpenersBottom) (stack : List code_run.Run) (r : code_run.Run) → AreBottoms bottoms stack → AreBottoms bottoms (with_opener r stack)
opener_bottoms bottoms stack r h = go r.opens
  where
    go : (b : Bool) → AreBottoms bottoms (if b then with_rest r stack else stack)
    go true = rest_bottoms bottoms stack r h
    go false = h
