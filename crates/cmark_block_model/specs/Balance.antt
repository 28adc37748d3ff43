-- Lists of events whose starts and ends match.
use Rattle.std.specs.Prelude.{List, [], ◌∷◌, ◌++◌}
use Rattle.cmark_grammar.specs.Tag.{Tag}
use Rattle.cmark_grammar.specs.TagEnd.{end_of}
use Rattle.cmark_grammar.specs.Event.{Event, Start, End, Text, Code, InlineMath, DisplayMath, Html, InlineHtml, FootnoteReference, SoftBreak, HardBreak, Rule, TaskListMarker}

-- an event that is neither a start nor an end
abbrev pub IsSingle : Event → Type 0
IsSingle (Start tag) = ⊥
IsSingle (End tag) = ⊥
IsSingle (Text text) = Unit {0}
IsSingle (Code text) = Unit {0}
IsSingle (InlineMath text) = Unit {0}
IsSingle (DisplayMath text) = Unit {0}
IsSingle (Html text) = Unit {0}
IsSingle (InlineHtml text) = Unit {0}
IsSingle (FootnoteReference label) = Unit {0}
IsSingle SoftBreak = Unit {0}
IsSingle HardBreak = Unit {0}
IsSingle Rule = Unit {0}
IsSingle (TaskListMarker is_checked) = Unit {0}

-- each start has its end, with its tag, and the events between them are balanced too
pub data Balanced : List Event → Type 0 where
  Nothing : Balanced []
  Single : (event : Event) (after : List Event) → IsSingle event → Balanced after → Balanced (event ∷ after)
  Element : (tag : Tag) (inside after : List Event) → Balanced inside → Balanced after → Balanced (Start tag ∷ (inside ++ (End (end_of tag) ∷ after)))
