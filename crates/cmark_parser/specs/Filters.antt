-- The change that a filter makes to an event.
use Rattle.std.specs.Prelude.{◌≡◌, ℕ, List, refl}
use Rattle.cmark_grammar.specs.Event.{Event, SoftBreak, Text}
use Rattle.cmark_safe.specs.SafeEvents.{safe}
use Rattle.cmark_parser.specs.declared.filter.Filtering.{Filtering}
use Rattle.cmark_parser.specs.declared.filter.Filtering.TheVariants.{AsTheyAre, Safe}

-- the event as it is, or its safe form with these further schemes
abbrev pub filtered_by : Filtering → Event → Event
filtered_by AsTheyAre event = event
filtered_by (Safe further) event = safe further.now event

-- each filter leaves texts and soft breaks as they are
pub keeps_texts : (filter : Filtering) (text : List ℕ) → filtered_by filter (Text text) ≡ Text text
keeps_texts AsTheyAre text = refl
keeps_texts (Safe further) text = refl

pub keeps_soft_breaks : (filter : Filtering) → filtered_by filter SoftBreak ≡ SoftBreak
keeps_soft_breaks AsTheyAre = refl
keeps_soft_breaks (Safe further) = refl
