-- The ranges of the events of a text, and the effect of a wikilink's pipe on them (this profile's own).
use Rattle.std.specs.Prelude.{◌≡◌, ◌⊎◌, ℕ, ◌-◌, ◌≤◌, ◌<◌, true, List, [], ◌∷◌, ◌++◌, get_or}
use Rattle.cmark_block_model.specs.Balance.{IsSingle}
use Rattle.cmark_grammar.specs.Event.{Event, Start, End, TaskListMarker, Ranged}
use Rattle.cmark_grammar.specs.Options.{Options}
use Rattle.cmark_grammar.specs.Tag.{Tag, Link, Image, DefinitionListTitle}
use Rattle.cmark_grammar.specs.TagEnd.{end_of}
use Rattle.cmark_inline_model.specs.ReadingRanges.{ranged}

-- wikilinks are enabled, and a pipe is directly before this offset
pub record IsAfterPipe (options : Options) (text : List ℕ) (at : ℕ) : Type 0 where
  pub wikilinks : options.wikilinks ≡ true
  pub some : 0 < at
  pub pipe : get_or text (at - 1) 0 ≡ 124

abbrev pub IsLinkOrImage : Tag → Type 0
IsLinkOrImage (Link linked) = Unit {0}
IsLinkOrImage (Image linked) = Unit {0}
IsLinkOrImage _ = ⊥

abbrev pub IsTask : Event → Type 0
IsTask (TaskListMarker is_checked) = Unit {0}
IsTask _ = ⊥

-- the first event is a task marker, or the start of a title that begins with one
abbrev pub BeginsWithTask : List Ranged → Type 0
BeginsWithTask [] = ⊥
BeginsWithTask (r ∷ others) = IsTask r.event ⊎ ((r.event ≡ Start DefinitionListTitle) × BeginsWithTask others)

-- no event is a task marker
abbrev pub HasNoTasks : List Ranged → Type 0
HasNoTasks [] = Unit {0}
HasNoTasks (r ∷ others) = (IsTask r.event → ⊥) × HasNoTasks others

-- an element begins where it is written to begin, with two exceptions. A link or an image that a pipe cuts begins directly after the pipe.
-- A paragraph, a heading, a title, or the definition list of that title begins after its task marker (GFM 5.3)
abbrev pub BeginsAt : Options → (text : List ℕ) → Tag → List Ranged → (written start : ℕ) → Type 0
BeginsAt options text tag inside written start =
    (start ≡ written) ⊎ ((IsLinkOrImage tag × (written < start) × IsAfterPipe options text start) ⊎ ((written ≤ start) × BeginsWithTask inside))

-- the events between two offsets are in order, and each element contains the events inside it, except for cuts by a pipe and for task
-- markers. In these cases the content of the element begins where the element is written to begin, which is after all events before it, or
-- with the task marker
pub data InPlaceButCut (options : Options) (text : List ℕ) : (from : ℕ) → List Ranged → (to : ℕ) → Type 0 where
  Nothing : (from to : ℕ) → from ≤ to → InPlaceButCut options text from [] to
  Single : (from to : ℕ) (r : Ranged) (after : List Ranged) → IsSingle r.event → from ≤ r.start → r.start ≤ r.end → InPlaceButCut options text r.end after to
      → InPlaceButCut options text from (r ∷ after) to
  Element : (from to : ℕ) (tag : Tag) (written start end : ℕ) (inside after : List Ranged) → from ≤ written → BeginsAt options text tag inside written start → start ≤ end
      → InPlaceButCut options text written inside end → InPlaceButCut options text end after to
      → InPlaceButCut options text from (ranged (Start tag) start end ∷ (inside ++ (ranged (End (end_of tag)) start end ∷ after))) to
