-- The events of a document (this profile's own, as in the original). Example: the events of `a` are the start of a paragraph, a text and
-- the end of the paragraph.
use Rattle.std.specs.Prelude.{ℕ, Bool, List}
use Rattle.cmark_grammar.specs.Tag.{Tag}
use Rattle.cmark_grammar.specs.TagEnd.{TagEnd}

pub data Event : Type 0 where
  Start : Tag → Event
  End : TagEnd → Event
  Text : List ℕ → Event
  Code : List ℕ → Event
  InlineMath : List ℕ → Event
  DisplayMath : List ℕ → Event
  Html : List ℕ → Event
  InlineHtml : List ℕ → Event
  FootnoteReference : (label : List ℕ) → Event
  SoftBreak : Event
  HardBreak : Event
  Rule : Event
  TaskListMarker : (is_checked : Bool) → Event

-- an event with the range of the text that it comes from
pub record Ranged : Type 0 where
  pub event : Event
  pub start : ℕ
  pub end : ℕ
