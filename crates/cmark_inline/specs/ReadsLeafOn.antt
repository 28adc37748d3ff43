-- What each call at a special byte of a leaf keeps.
use Rattle.std.specs.Prelude.{◌≡◌, ℕ, List, Result, IfOk, OnOk}
use Rattle.std.specs.declared.alloc.AllocError.{AllocError}
use Rattle.cmark_leaf_text.specs.declared.leaf_text.LeafText.{LeafText}
use Rattle.cmark_slots.specs.Standing.{AreEnded}
use Rattle.cmark_inline.specs.Sound.{IsSound}
use Rattle.cmark_inline.specs.Stands.{Moves}
use Rattle.cmark_inline.specs.declared.state.InlineState.{InlineState}
use Rattle.cmark_inline.specs.declared.step.Cursor.{Cursor}

-- like `ReadsOn`, but the ends of slots are those in this leaf
pub record ReadsLeafOn (leaf : LeafText) (text : List ℕ) (here : Cursor) (old new : InlineState) (result : Result Cursor AllocError) : Type 0 where
  pub expansion_left : new.expansion_left ≡ old.expansion_left
  pub steps : new.steps ≡ old.steps
  pub sound : IsSound old → OnOk result (IsSound new)
  pub ends : OnOk result (AreEnded leaf old.slots.items → AreEnded leaf new.slots.items)
  pub moves : IfOk result (Moves text here.at new)
