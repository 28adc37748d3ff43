-- The result of a search for an open run, and the run that is put back on the stack.
use Rattle.std.specs.Prelude.{◌≡◌, ℕ, true, nat_lt, if◌then◌else◌, Some, List, [], ◌∷◌, ◌++◌, take, slice_get}
use Rattle.cmark_grammar.specs.Emphasis.{Run, agrees}
use Rattle.cmark_emphasis.specs.Shown.{shown_run, open_runs}
use Rattle.cmark_emphasis.specs.Stack.{NoneAgree}
use Rattle.cmark_emphasis.specs.Bottoms.{active_runs}
use Rattle.cmark_emphasis.specs.declared.run.Run as code_run

-- the last open run of the stack that agrees, if the tildes and carets below this height are inactive
pub record IsNearest (closer : Run) (inactive_below : ℕ) (stack : List code_run.Run) (i : ℕ) : Type 0 where
  pub opener : code_run.Run
  pub passed : List Run
  pub read : slice_get stack i ≡ Some opener
  pub agree : agrees (shown_run opener) closer ≡ true
  pub cut : open_runs (active_runs inactive_below stack) ≡ passed ++ (shown_run opener ∷ open_runs (active_runs inactive_below (take i stack)))
  pub miss : NoneAgree closer passed

-- the stack with the rest of a run, unless that is empty
abbrev pub with_rest : code_run.Run → List code_run.Run → List code_run.Run
with_rest run stack = if nat_lt 0 run.left then stack ++ run ∷ [] else stack

-- the stack with the rest of a run that has closed all that it can: it stays if it can open
abbrev pub with_opener : code_run.Run → List code_run.Run → List code_run.Run
with_opener run stack = if run.opens then with_rest run stack else stack
