-- The two streams as readers ahead of their iterators, and the effects of their calls.
use Rattle.std.specs.Prelude.{◌≡◌, ℕ, string_bytes, option_map, Option, String, Result, Ok, Err}
use Rattle.std.specs.declared.alloc.AllocError.{AllocError}
use Rattle.std.specs.declared.ops.Range.{Range}
use Rattle.cmark_grammar.specs.Event as grammar
use Rattle.cmark_merge.specs.Merge.{TextAt, event_of, ranged_of, text_of_event, text_of_ranged}
use Rattle.cmark_text.specs.declared.event.Event.{Event}
use Rattle.cmark_text.specs.declared.event.Event.TheVariants.{Text}
use Rattle.cmark_values.specs.declared.text.CowStr.{CowStr}
use Rattle.cmark_text.specs.Shown.{shown}
use Rattle.cmark_values.specs.Shown.{IsBoxed, text_bytes}
use Rattle.cmark_merge.specs.declared.offset.TextMergeWithOffset.{TextMergeWithOffset}
use Rattle.cmark_merge.specs.declared.stream.DummyOffsets.{DummyOffsets}
use Rattle.cmark_merge.specs.declared.stream.TextMergeStream.{TextMergeStream}
use Rattle.cmark_merge.specs.Merging.{GivesMerged}
use Rattle.cmark_merge.specs.Reading.{Ahead}

-- an item of the iterators
abbrev pub Item : Type 0
Item = Result Event AllocError

abbrev pub RangedItem : Type 0
RangedItem = Result (Event × Range ℕ) AllocError

-- an event that is an owned text
abbrev pub IsOwnedText : Event → Type 0
IsOwnedText (Text text) = IsBoxed text
IsOwnedText _ = ⊥

abbrev pub IsOwnedRanged : Event × Range ℕ → Type 0
IsOwnedRanged p = IsOwnedText p.0

abbrev pub shown_ranged : Event × Range ℕ → grammar.Ranged
shown_ranged p = record { event = shown p.0; start = p.1.start; end = p.1.end }

-- a text with its range
abbrev pub text_item : CowStr × Range ℕ → RangedItem
text_item p = Ok (Text p.0, p.1)

abbrev pub text_at : CowStr × Range ℕ → TextAt
text_at p = record { text = text_bytes p.0; start = p.1.start; end = p.1.end }

abbrev pub string_at : {A : Type 0} → String A × Range ℕ → TextAt
string_at p = record { text = string_bytes p.0; start = p.1.start; end = p.1.end }

-- an item without its range
abbrev pub without_range : RangedItem → Item
without_range (Ok p) = Ok p.0
without_range (Err e) = Err e

-- an item with an empty range
abbrev pub with_range : Item → RangedItem
with_range (Ok event) = Ok (event, record { start = 0; end = 0 })
with_range (Err e) = Err e

module _ {S : Type 0} where
  -- the stream that keeps ranges
  abbrev pub ranged_ahead : TextMergeWithOffset S → Ahead S RangedItem
  ranged_ahead s = record { iter = s.iter; held = s.held; is_over = s.is_over }

  abbrev pub GivesRanged : (S → Option RangedItem → S → Type 0) → TextMergeWithOffset S → Option RangedItem → TextMergeWithOffset S → Type 0
  GivesRanged steps old given new = GivesMerged steps text_of_ranged ranged_of shown_ranged IsOwnedRanged (ranged_ahead old) given (ranged_ahead new)

  -- the stream of events alone: it is the other stream over events with empty ranges
  abbrev pub ahead : TextMergeStream S → Ahead S Item
  ahead s = record { iter = s.inner.iter.iter; held = option_map without_range s.inner.held; is_over = s.inner.is_over }

  abbrev pub Gives : (S → Option Item → S → Type 0) → TextMergeStream S → Option Item → TextMergeStream S → Type 0
  Gives steps old given new = GivesMerged steps text_of_event event_of shown IsOwnedText (ahead old) given (ahead new)

-- an iterator, seen as one whose items have ranges
abbrev pub dummy_iter : {S : Type 0} → DummyOffsets S → S
dummy_iter s = s.iter

abbrev pub dummy_steps : {S X Y : Type 0} → (X → Y) → (S → Option X → S → Type 0) → DummyOffsets S → Option Y → DummyOffsets S → Type 0
dummy_steps {X = X} placed steps s given t = (item : Option X) × steps (dummy_iter s) item (dummy_iter t) × (given ≡ option_map placed item)
