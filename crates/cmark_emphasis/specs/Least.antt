-- A lower bound of the open runs that searches examine: the runs down to the one that a search takes. A search that takes nothing examines
-- at least the runs of its delimiter that were added since the last such search.
use Rattle.std.specs.Prelude.{◌≡◌, ◌⊎◌, ℕ, zero, suc, ◌+◌, ◌<◌, ◌≤◌, Bool, true, false, not, ◌==◌, ◌&&◌, nat_lt, if◌then◌else◌, List, [], ◌∷◌, get_or, map, filter, reverse}
use Rattle.cmark_grammar.specs.Emphasis.{Run, agrees, deactivates, is_tilde_or_caret, rest_of_closer, rest_of_opener}
use Rattle.cmark_emphasis.specs.Bottoms.{bottom_of}
use Rattle.cmark_emphasis.specs.Counts.{searches}
use Rattle.cmark_emphasis.specs.Shown.{shown_run}
use Rattle.cmark_emphasis.specs.Stack.{stays_open}
use Rattle.cmark_emphasis.specs.declared.bottom.OpenersBottom.{OpenersBottom}
use Rattle.cmark_emphasis.specs.declared.run.Run as code_run

-- an open run, and whether it was added since the last search for its delimiter that took nothing
pub record Standing : Type 0 where
  pub run : Run
  pub fresh : Bool

abbrev pub run_of : Standing → Run
run_of s = s.run

abbrev pub stays_standing : Standing → Bool
stays_standing s = stays_open s.run

abbrev pub is_fresh : (delimiter : ℕ) → Standing → Bool
is_fresh delimiter s = s.fresh && (s.run.delimiter == delimiter)

-- the number of fresh runs of a delimiter among these
abbrev pub fresh_in : (delimiter : ℕ) → List Standing → ℕ
fresh_in delimiter [] = 0
fresh_in delimiter (s ∷ ss) = (if is_fresh delimiter s then 1 else 0) + fresh_in delimiter ss

-- no longer fresh, if it is a run of this delimiter
abbrev pub passed_by : (delimiter : ℕ) → Standing → Standing
passed_by delimiter s = record { run = s.run; fresh = s.fresh && not (s.run.delimiter == delimiter) }

-- the open runs after a search that took nothing
abbrev pub left_standing : (closer : Run) → List Standing → List Standing
left_standing closer ss = if searches closer then (if deactivates closer then filter stays_standing ss else map (passed_by closer.delimiter) ss) else ss

-- 1 if bytes of a run are left, and then it is added; otherwise 0
abbrev pub count_of : Run → ℕ
count_of run = if nat_lt 0 run.left then 1 else 0

abbrev pub put_up : Run → List Standing → List Standing
put_up run ss = if nat_lt 0 run.left then record { run = run; fresh = true } ∷ ss else ss

abbrev pub put_open : Run → List Standing → List Standing
put_open run ss = if run.opens then put_up run ss else ss

-- the state after the searches of a closing run: its rest, the open runs, the nearest first, and a lower bound of the runs examined
pub record Seeking : Type 0 where
  pub rest : Run
  pub standing : List Standing
  pub least : ℕ

abbrev pub with_more : ℕ → Seeking → Seeking
with_more n s = record { rest = s.rest; standing = s.standing; least = n + s.least }

-- a search that takes nothing
abbrev pub takes_none : (closer : Run) → List Standing → Seeking
takes_none closer ss = record { rest = closer; standing = left_standing closer ss; least = if searches closer then fresh_in closer.delimiter ss else 0 }

-- a search that has passed `passed` of all open runs, and still has these ahead
abbrev pub seek : (closer : Run) → (passed : ℕ) → (all : List Standing) → List Standing → Seeking
seek closer passed all [] = takes_none closer all
seek closer passed all (s ∷ ss) =
    if agrees s.run closer then with_more (suc passed) (seek (rest_of_closer s.run closer) (count_of (rest_of_opener s.run closer)) (put_up (rest_of_opener s.run closer) ss) ss)
    else seek closer (suc passed) all ss

abbrev pub sought : (closer : Run) → List Standing → Seeking
sought closer ss = seek closer 0 ss ss

-- the runs of a list of siblings, one after the other
abbrev pub least_from : List Run → List Standing → ℕ
least_from [] ss = 0
least_from (run ∷ runs) ss = (sought run ss).least + least_from runs (put_open (sought run ss).rest (sought run ss).standing)

abbrev pub least_examined : List Run → ℕ
least_examined runs = least_from runs []

-- ## On a stack

-- the open runs of a stack, the nearest last, on which all tildes and carets below a height are inactive
abbrev pub active_in : (inactive_below : ℕ) → List Standing → List Standing
active_in inactive_below [] = []
active_in zero (s ∷ ss) = s ∷ ss
active_in (suc inactive_below) (s ∷ ss) = if stays_standing s then s ∷ active_in inactive_below ss else active_in inactive_below ss

-- these are the open runs of this stack, and below the bottom of a closing run no run is fresh
pub record AreStanding (bottoms : OpenersBottom) (stack : List code_run.Run) (standing : List Standing) : Type 0 where
  pub marked : List Standing
  pub runs : map run_of marked ≡ map shown_run stack
  pub stale : (closer : Run) (k : ℕ) (d : Standing) → k < bottom_of bottoms closer → is_fresh closer.delimiter (get_or marked k d) ≡ false
  pub are : standing ≡ reverse (active_in bottoms.inactive_below marked)

-- runs that may be no longer fresh after a search that took nothing: those of its delimiter, and, if it makes tildes and carets inactive,
-- all of these
abbrev pub IsOfKind : (closer other : Run) → Type 0
IsOfKind closer other = (other.delimiter ≡ closer.delimiter) ⊎ (deactivates closer ≡ true) × (is_tilde_or_caret other.delimiter ≡ true)

-- the searches of a run among these open runs are over. `rest` is left of it, the other runs are open on this stack, and the count grew
-- by at least the lower bound
pub record HasSought (closer : Run) (standing : List Standing) (before after : ℕ) (bottoms : OpenersBottom) (stack : List code_run.Run) (rest : Run) : Type 0 where
  pub rest_is : (sought closer standing).rest ≡ rest
  pub stand : AreStanding bottoms stack (sought closer standing).standing
  pub least : before + (sought closer standing).least ≤ after
