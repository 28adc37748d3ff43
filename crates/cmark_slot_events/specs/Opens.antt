-- The events of a leaf, and the elements that are open between them.
use Rattle.std.specs.Prelude.{◌≡◌, ℕ, ◌+◌, ◌-◌, ◌*◌, List, [], ◌∷◌, ◌++◌, length, All}
use Rattle.cmark_grammar.specs.TagEnd as end
use Rattle.cmark_grammar.specs.TagEnd.{end_of}
use Rattle.cmark_grammar.specs.Event.{Event, Start, End, Ranged}
use Rattle.cmark_inline_model.specs.LeafSpans.{IsInline, IsRange, IsSpan}
use Rattle.cmark_text.specs.Shown.{shown_end}
use Rattle.cmark_slot_events.specs.declared.leaf_events.Opened.{Opened}
use Rattle.cmark_slots.specs.declared.slot.LinkElement.{LinkElement}
use Rattle.cmark_slots.specs.declared.slot.LinkElement.TheVariants as element
use Rattle.cmark_slot_events.specs.declared.leaf_events.LeafEvents.{LeafEvents}
use Rattle.cmark_leaf_text.specs.Reads.{IsPart}

-- the end of a link or an image
abbrev pub element_end : LinkElement → end.TagEnd
element_end element.Link = end.Link
element_end element.Autolink = end.Link
element_end element.Image = end.Image

-- an element ends like this, and has this range
pub record EndsAs (tag : end.TagEnd) (start end : ℕ) (one : Opened) : Type 0 where
  pub tag_is : shown_end one.tag ≡ tag
  pub start_is : one.start ≡ start
  pub end_is : one.end ≡ end

-- a start opens an element, an end closes the element that was opened last, and other events leave the list unchanged. The element opened
-- last is the last of the list
abbrev pub Opens : (old : List Opened) → Event → (start end : ℕ) → (new : List Opened) → Type 0
Opens old (Start tag) start end new = IsSpan tag × ((one : Opened) × EndsAs (end_of tag) start end one × (new ≡ old ++ (one ∷ [])))
Opens old (End tag) start end new = (one : Opened) × EndsAs tag start end one × (old ≡ new ++ (one ∷ []))
Opens old event start end new = IsInline event × (new ≡ old)

-- an event, and the elements that are open after it
pub record Follows (source : List ℕ) (old : List Opened) (r : Ranged) (new : List Opened) : Type 0 where
  pub range : IsRange source r.start r.end
  pub opens : Opens old r.event r.start r.end new

-- an upper bound of the events left: two for each slot that was not given, and an end for each open element
abbrev pub events_left : LeafEvents → ℕ
events_left events = 2 * (length events.slots.items - events.walk.next) + length events.walk.opened.items

-- the open elements have their ranges in the source
abbrev pub AreOpened : (source : List ℕ) → List Opened → Type 0
AreOpened source opened = All (λ (one : Opened). IsPart source one.start one.end) opened
