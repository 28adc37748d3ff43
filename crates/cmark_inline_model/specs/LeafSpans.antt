-- How the spans of a leaf nest (CommonMark 6), and the events of a document whose leaves have such spans.
use Rattle.std.specs.Prelude.{◌≡◌, ℕ, ◌≤◌, List, [], ◌∷◌, ◌++◌, length}
use Rattle.std.specs.Str.{IsCharBoundary}
use Rattle.cmark_grammar.specs.Tag.{Tag, Emphasis, Strong, Strikethrough, Superscript, Subscript, Highlight, Link, Image}
use Rattle.cmark_grammar.specs.TagEnd.{end_of}
use Rattle.cmark_grammar.specs.Event.{Event, Start, End, Text, Code, InlineMath, DisplayMath, InlineHtml, FootnoteReference, SoftBreak, HardBreak, Ranged}
use Rattle.cmark_grammar.specs.LeafText.{Leaf}
use Rattle.cmark_grammar.specs.SpanDocuments.{Segment, Given, Content}

-- the elements that are spans, and their other events
abbrev pub IsSpan : Tag → Type 0
IsSpan Emphasis = Unit {0}
IsSpan Strong = Unit {0}
IsSpan Strikethrough = Unit {0}
IsSpan Superscript = Unit {0}
IsSpan Subscript = Unit {0}
IsSpan Highlight = Unit {0}
IsSpan (Link linked) = Unit {0}
IsSpan (Image linked) = Unit {0}
IsSpan _ = ⊥

abbrev pub IsInline : Event → Type 0
IsInline (Text text) = Unit {0}
IsInline (Code text) = Unit {0}
IsInline (InlineMath text) = Unit {0}
IsInline (DisplayMath text) = Unit {0}
IsInline (InlineHtml text) = Unit {0}
IsInline (FootnoteReference label) = Unit {0}
IsInline SoftBreak = Unit {0}
IsInline HardBreak = Unit {0}
IsInline _ = ⊥

-- a range of the text whose ends are character boundaries; the range of an event may be empty
pub record IsRange (text : List ℕ) (start end : ℕ) : Type 0 where
  pub ordered : start ≤ end
  pub within : end ≤ length text
  pub starts : IsCharBoundary text start
  pub ends : IsCharBoundary text end

abbrev pub ranged : Event → (start end : ℕ) → Ranged
ranged event start end = record { event = event; start = start; end = end }

-- events by themselves, and elements around others: each start has its end after it, with its tag and its range
pub data Nested (text : List ℕ) : List Ranged → Type 0 where
  Nothing : Nested text []
  Single : (r : Ranged) (after : List Ranged) → IsInline r.event → IsRange text r.start r.end → Nested text after → Nested text (r ∷ after)
  Element : (tag : Tag) (start end : ℕ) (inside after : List Ranged) → IsSpan tag → IsRange text start end → Nested text inside → Nested text after
      → Nested text (ranged (Start tag) start end ∷ (inside ++ (ranged (End (end_of tag)) start end ∷ after)))

-- the nesting of a leaf's spans, and nothing more, whatever the leaf's text is. `ReadsLeaf` determines which spans a leaf has
pub record AreSpans (text : List ℕ) (leaf : Leaf) (spans : List Ranged) : Type 0 where
  pub nested : Nested text spans

-- the events of a document in order: its own events, and in place of each leaf its spans
abbrev pub AreGiven : (text : List ℕ) → List Segment → List Ranged → Type 0
AreGiven text [] events = events ≡ []
AreGiven text (Given r ∷ others) events = (later : List Ranged) × (events ≡ r ∷ later) × AreGiven text others later
AreGiven text (Content leaf ∷ others) events = (spans later : List Ranged) × (events ≡ spans ++ later) × AreSpans text leaf spans × AreGiven text others later
