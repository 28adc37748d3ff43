-- The items of a stream of safe events.
use Rattle.std.specs.Prelude.{◌≡◌, ℕ, Bool, true, false, List, MatchBool, Option, Some, None, Result, Ok, Err}
use Rattle.std.specs.declared.alloc.AllocError.{AllocError}
use Rattle.std.specs.declared.ops.Range.{Range}
use Rattle.std.specs.Iterator.{Count, count_unless}
use Rattle.cmark_text.specs.declared.event.Event.{Event}
use Rattle.cmark_text.specs.Shown.{shown}
use Rattle.cmark_safe.specs.declared.stream.SafeEvents.{SafeEvents}
use Rattle.cmark_safe.specs.Memory.{NeedsMemory}
use Rattle.cmark_safe.specs.SafeEvents.{safe}

-- an event is the safe form of another
abbrev pub IsSafeForm : (further : List ℕ) → (event made : Event) → Type 0
IsSafeForm further event made = shown made ≡ safe further (shown event)

-- an event with its range is the safe form of another event with this range
abbrev pub IsSafeRanged : (further : List ℕ) → (item made : Event × Range ℕ) → Type 0
IsSafeRanged further item made = IsSafeForm further item.0 made.0 × (made.1 ≡ item.1)

abbrev pub RangedNeedsMemory : Event × Range ℕ → Type 0
RangedNeedsMemory item = NeedsMemory item.0

-- the item that is given for an item of the iterator: its safe form, or this error item. If memory for a name is refused, an error item
-- is given, and the stream is over
abbrev pub GivesFor : {T : Type 0} → (IsMade : T → T → Type 0) → (NeedsMemory : T → Type 0) → (item given : Option (Result T AllocError)) → (is_over : Bool) → Type 0
GivesFor IsMade NeedsMemory None given is_over = (given ≡ None) × (is_over ≡ false)
GivesFor IsMade NeedsMemory (Some (Err e)) given is_over = (given ≡ Some (Err e)) × (is_over ≡ false)
GivesFor IsMade NeedsMemory (Some (Ok x)) None is_over = ⊥
GivesFor IsMade NeedsMemory (Some (Ok x)) (Some (Ok made)) is_over = IsMade x made × (is_over ≡ false)
GivesFor IsMade NeedsMemory (Some (Ok x)) (Some (Err e)) is_over = NeedsMemory x × (is_over ≡ true)

module _ {S T : Type 0} (IsMade : List ℕ → T → T → Type 0) (NeedsMemory : T → Type 0) where
  -- one call, of a stream that is not over
  pub record GivesOne (steps : S → Option (Result T AllocError) → S → Type 0) (old : SafeEvents S) (given : Option (Result T AllocError)) (new : SafeEvents S) : Type 0 where
    pub item : Option (Result T AllocError)
    pub step : steps old.iter item new.iter
    pub gives : GivesFor (IsMade old.further.now) NeedsMemory item given new.is_over
    pub further : new.further.now ≡ old.further.now

  -- a stream that is over gives nothing
  abbrev pub Gives : (S → Option (Result T AllocError) → S → Type 0) → SafeEvents S → Option (Result T AllocError) → SafeEvents S → Type 0
  Gives steps old given new = MatchBool old.is_over ((given ≡ None) × (new ≡ old)) (GivesOne steps old given new)

-- unless the stream is over, the iterator may be called
abbrev pub CanGo : {S : Type 0} → (S → Type 0) → SafeEvents S → Type 0
CanGo can s = s.is_over ≡ false → can s.iter

abbrev pub items_left : {S : Type 0} → (S → Count) → SafeEvents S → Count
items_left remaining s = count_unless s.is_over (remaining s.iter)
