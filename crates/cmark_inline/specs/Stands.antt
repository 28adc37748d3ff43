-- Facts that hold while the text of a leaf is read.
use Rattle.std.specs.Prelude.{◌≡◌, false, ℕ, ◌+◌, ◌*◌, ◌≤◌, ◌<◌, List, length, slice_index}
use Rattle.std.specs.Str.{IsCharBoundary}
use Rattle.cmark_inline.specs.declared.reference.LinkReference.{LinkReference}
use Rattle.cmark_inline.specs.declared.link.Target.{Target}
use Rattle.cmark_inline.specs.declared.state.InlineState.{InlineState}
use Rattle.cmark_inline.specs.declared.step.Cursor.{Cursor}
use Rattle.cmark_slots.specs.Slots.{AreBrackets, AreFree, AreSlots, IsSlot, PushesText, begins_link, bytes_of}
use Rattle.cmark_slots.specs.declared.slot.Slot.{Slot}

-- the state of a pass that has read the text up to the offset `at`. All slots, brackets and doubled brackets end by this offset. There are
-- at most `at` slots, and one for each byte of the delimiter runs. No link begins after a bracket that may form one. At most 15 open runs are
-- examined for each byte: those examined so far, with 15 for each run that is not resolved
pub record Stands (text : List ℕ) (at : ℕ) (state : InlineState) : Type 0 where
  pub slots : AreSlots text at state.slots.items
  pub brackets : AreBrackets text at state.brackets.standing.items
  pub few : length state.slots.items ≤ at
  pub free : AreFree state.slots.items state.brackets.standing.items state.brackets.inactive_below
  pub doubled : AreBrackets text at state.doubled.standing.items
  pub doubled_free : AreFree state.slots.items state.doubled.standing.items state.doubled.inactive_below
  pub runs : bytes_of state.delimiters.placed.items ≤ length state.slots.items
  pub examined : state.delimiters.examined + 15 * length state.delimiters.placed.items ≤ 15 * at

-- the offsets of a cursor are in order, and character boundaries of the text
pub record IsCursor (text : List ℕ) (cursor : Cursor) : Type 0 where
  pub pending : IsCharBoundary text cursor.pending
  pub at : IsCharBoundary text cursor.at
  pub ordered : cursor.pending ≤ cursor.at

-- a byte of ASCII is at the cursor, and the slots and brackets of the state end by the pending text
pub record IsAtByte (text : List ℕ) (here : Cursor) (state : InlineState) : Type 0 where
  pub stands : Stands text here.pending state
  pub cursor : IsCursor text here
  pub within : here.at < length text
  pub ascii : slice_index text here.at < 128

-- the text was read beyond the offset `at`
pub record Moves (text : List ℕ) (at : ℕ) (state : InlineState) (next : Cursor) : Type 0 where
  pub stands : Stands text next.pending state
  pub cursor : IsCursor text next
  pub further : at < next.at

-- the text from `start` to `end` may become a slot, unless it is empty
pub record IsPendingUpTo (text : List ℕ) (start end : ℕ) : Type 0 where
  pub starts : IsCharBoundary text start
  pub stops : IsCharBoundary text end
  pub following : start ≤ end

-- the slot ends after the pending text, which ends at `text_end`, and after the offset `at`. It begins no link
pub record ComesNext (text : List ℕ) (at text_end : ℕ) (slot : Slot) : Type 0 where
  pub ordered : text_end < slot.end
  pub is : IsSlot text slot.end slot
  pub further : at < slot.end
  pub kind : begins_link slot.kind ≡ false

-- memory sufficed for the slot of the pending text from `start` to `end`
pub record Flushes (start end : ℕ) (old : InlineState) : Type 0 where
  pub flushed : InlineState
  pub pushes : PushesText start end old.slots.items flushed.slots.items
  pub others : flushed ≡ record old { slots = flushed.slots }

-- a target ends after its closing bracket, and so do the bytes that it uses up
pub record IsTarget (text : List ℕ) (close : ℕ) (target : Target) : Type 0 where
  pub following : close < target.end
  pub ordered : target.end ≤ target.resume
  pub ends : IsCharBoundary text target.end
  pub resume : IsCharBoundary text target.resume

-- a call leaves the slots, the brackets and the runs as they were
pub record SameSpans (old new : InlineState) : Type 0 where
  pub slots : new.slots ≡ old.slots
  pub brackets : new.brackets ≡ old.brackets
  pub doubled : new.doubled ≡ old.doubled
  pub delimiters : new.delimiters ≡ old.delimiters

-- a reference ends after its closing bracket, and so do the bytes that it uses up
pub record IsLinkReference (text : List ℕ) (close : ℕ) (link_reference : LinkReference) : Type 0 where
  pub following : close < link_reference.end
  pub ordered : link_reference.end ≤ link_reference.resume
  pub ends : IsCharBoundary text link_reference.end
  pub resume : IsCharBoundary text link_reference.resume
