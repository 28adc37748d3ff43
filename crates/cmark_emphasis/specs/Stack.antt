-- The pairs of a list of runs, by one pass with a stack of open runs, the nearest first.
use Rattle.std.specs.Prelude.{◌≡◌, Bool, true, false, not, nat_lt, if◌then◌else◌, Option, Some, None, List, [], ◌∷◌, ◌++◌, map, filter}
use Rattle.cmark_grammar.specs.Emphasis.{Run, Pair, agrees, pair_of, rest_of_opener, rest_of_closer, is_tilde_or_caret, deactivates}
use Rattle.cmark_emphasis.specs.Shown.{shown_pair, open_runs}
use Rattle.cmark_emphasis.specs.declared.run.Run as code_run
use Rattle.cmark_emphasis.specs.declared.run.Pair as code_pair

-- the state after a run has closed all that it can: its rest, the open runs, and its pairs
pub record Chased : Type 0 where
  pub rest : Run
  pub opens : List Run
  pub pairs : List Pair

abbrev pub and_then : Pair → Chased → Option Chased → Chased
and_then pair stops None = stops
and_then pair stops (Some chased) = record chased { pairs = pair ∷ chased.pairs }

abbrev pub picked : Bool → Chased → Option Chased → Option Chased
picked true here following = Some here
picked false here following = following

abbrev pub put : Run → List Run → List Run
put run opens = if nat_lt 0 run.left then run ∷ opens else opens

abbrev pub stays_open : Run → Bool
stays_open run = not (is_tilde_or_caret run.delimiter)

-- the open runs after a closing run that finds nothing
abbrev pub still_open : Run → List Run → List Run
still_open closer opens = if deactivates closer then filter stays_open opens else opens

abbrev pub chase : Run → List Run → Option Chased
chase closer [] = None
chase closer (opener ∷ opens) =
    picked (agrees opener closer)
    (and_then (pair_of opener closer)
    (record {
      rest = rest_of_closer opener closer;
      opens = still_open (rest_of_closer opener closer) (put (rest_of_opener opener closer) opens);
      pairs = pair_of opener closer ∷ [];
    })
    (chase (rest_of_closer opener closer) opens))
    (chase closer opens)

abbrev pub or_same : Run → List Run → Option Chased → Chased
or_same closer opens None = record { rest = closer; opens = still_open closer opens; pairs = [] }
or_same closer opens (Some chased) = chased

unfoldable pub chased : Run → List Run → Chased
chased closer opens = or_same closer opens (chase closer opens)

abbrev pub rest_on : Run → List Run → List Run
rest_on run opens = if run.opens then put run opens else opens

abbrev pub pair_all : List Run → List Run → List Pair
pair_all [] opens = []
pair_all (run ∷ runs) opens =
    let mine = chased run opens in
    mine.pairs ++ pair_all runs (rest_on mine.rest mine.opens)

-- the pairs of these runs
abbrev pub run_pairs : List Run → List Pair
run_pairs runs = pair_all runs []

abbrev pub NoneAgree : Run → List Run → Type 0
NoneAgree closer [] = Unit {0}
NoneAgree closer (opener ∷ opens) = (agrees opener closer ≡ false) × NoneAgree closer opens

-- the state after this run has closed over this stack, if these pairs were made before
abbrev pub course_from : Run → List code_run.Run → List code_pair.Pair → Chased
course_from closer stack pairs =
    let mine = chased closer (open_runs stack) in
    record mine { pairs = map shown_pair pairs ++ mine.pairs }
