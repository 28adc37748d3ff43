-- What each call at a special byte keeps, for every byte.
use Rattle.std.specs.Prelude.{◌≡◌, ℕ, List, Result, IfOk, OnOk}
use Rattle.std.specs.declared.alloc.AllocError.{AllocError}
use Rattle.cmark_inline.specs.Sound.{KeepsSound}
use Rattle.cmark_inline.specs.Stands.{Moves}
use Rattle.cmark_inline.specs.declared.state.InlineState.{InlineState}
use Rattle.cmark_inline.specs.declared.step.Cursor.{Cursor}

-- the rest of the reference expansion limit and the counted steps stay. If memory is not refused, the slots stay sound, and the text was
-- read beyond the cursor
pub record ReadsOn (text : List ℕ) (here : Cursor) (old new : InlineState) (result : Result Cursor AllocError) : Type 0 where
  pub expansion_left : new.expansion_left ≡ old.expansion_left
  pub steps : new.steps ≡ old.steps
  pub keeps : OnOk result (KeepsSound old new)
  pub moves : IfOk result (Moves text here.at new)
