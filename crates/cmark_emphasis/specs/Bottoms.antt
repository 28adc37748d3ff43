-- How far down the stack the search for an open run goes (`openers_bottom` in the appendix of CommonMark).
use Rattle.std.specs.Prelude.{◌≡◌, ℕ, zero, suc, ◌+◌, ◌%◌, ◌<◌, ◌≤◌, Bool, false, ◌==◌, ◌&&◌, if◌then◌else◌, Option, Some, None, List, [], ◌∷◌, length, get_or, All}
use Rattle.cmark_grammar.specs.Characters.{asterisk, equals_sign, underscore}
use Rattle.cmark_grammar.specs.Emphasis.{Run, agrees, can_both, is_tilde_or_caret}
use Rattle.cmark_emphasis.specs.Shown.{IsPlaced, shown_run}
use Rattle.cmark_emphasis.specs.Stack.{stays_open}
use Rattle.cmark_emphasis.specs.declared.run.Run as code_run
use Rattle.cmark_emphasis.specs.declared.bottom.OpenersBottom.{OpenersBottom}

-- the properties of a run that matter beside its delimiter: whether it can both open and close, and its length modulo 3
abbrev pub rank : Run → ℕ
rank run = (if can_both run then 3 else 0) + run.run_length % 3

-- the class of a run of `*` or `_`, or of two `=`: an open run agrees with all closing runs of a class, or with none
abbrev pub class_of : Run → Option ℕ
class_of run = if run.delimiter == asterisk then Some (rank run) else if run.delimiter == underscore then Some (6 + rank run) else if (run.delimiter == equals_sign) && (run.run_length == 2) then Some 12 else None

-- neither a tilde nor a caret
abbrev pub stays : code_run.Run → Bool
stays run = stays_open (shown_run run)

-- the open runs of a stack on which all tildes and carets below this height are inactive
abbrev pub active_runs : (inactive_below : ℕ) → List code_run.Run → List code_run.Run
active_runs inactive_below [] = []
active_runs zero (run ∷ stack) = run ∷ stack
active_runs (suc inactive_below) (run ∷ stack) = if stays run then run ∷ active_runs inactive_below stack else active_runs inactive_below stack

-- no run below this height of the stack agrees with the closing one
pub record NoneBelow (closer : Run) (stack : List code_run.Run) (height : ℕ) : Type 0 where
  pub within : height ≤ length stack
  pub none : (k : ℕ) (d : code_run.Run) → k < height → agrees (shown_run (get_or stack k d)) closer ≡ false

-- these are bottoms of this stack: below the bottom of a class, no run agrees with a closing run of the class
pub record AreBottoms (bottoms : OpenersBottom) (stack : List code_run.Run) : Type 0 where
  pub emphasis : (closer : Run) (class : ℕ) → class_of closer ≡ Some class → NoneBelow closer stack (get_or bottoms.heights class 0)
  pub inactive_below : bottoms.inactive_below ≤ length stack

-- the open runs on the stack have their bytes in slots, and these are their bottoms
pub record IsStack (bottoms : OpenersBottom) (stack : List code_run.Run) : Type 0 where
  pub placed : All IsPlaced stack
  pub bottom : AreBottoms bottoms stack

abbrev pub or_other : Option ℕ → (heights : List ℕ) → (other : ℕ) → ℕ
or_other None heights other = other
or_other (Some class) heights other = get_or heights class 0

-- the height at which the search of a closing run ends: the bottom of its class, or, for tildes and carets, the height below which they are
-- inactive
abbrev pub bottom_of : OpenersBottom → (closer : Run) → ℕ
bottom_of bottoms closer = or_other (class_of closer) bottoms.heights (if is_tilde_or_caret closer.delimiter then bottoms.inactive_below else 0)
