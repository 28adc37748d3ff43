-- The events of a leaf's spans (CommonMark 6), each with its range in the source.
use Rattle.std.specs.Prelude.{ℕ, List, [], ◌∷◌, ◌++◌}
use Rattle.cmark_grammar.specs.Event as event
use Rattle.cmark_grammar.specs.Event.{Event, Start, End, Ranged}
use Rattle.cmark_grammar.specs.Items.{ItemKind, Written, Code, InlineMath, DisplayMath, Html, OwnedHtml, FootnoteReference, SoftBreak, HardBreak, Item}
use Rattle.cmark_grammar.specs.Siblings.{Inline, Nil, Single, Around}
use Rattle.cmark_grammar.specs.TagEnd.{end_of}
use Rattle.cmark_grammar.specs.Tokens.{slice}

module _ (source : List ℕ) where
  -- the source bytes of an item
  abbrev pub as_written : Item → List ℕ
  as_written x = slice source x.start x.end

  abbrev pub event_of : Item → ItemKind → Event
  event_of x (Written text) = event.Text text
  event_of x (Code text) = event.Code text
  event_of x (InlineMath text) = event.InlineMath text
  event_of x (DisplayMath text) = event.DisplayMath text
  event_of x Html = event.InlineHtml (as_written x)
  event_of x (OwnedHtml text) = event.InlineHtml text
  event_of x (FootnoteReference label) = event.FootnoteReference label
  event_of x SoftBreak = event.SoftBreak
  event_of x HardBreak = event.HardBreak
  event_of x _ = event.Text (as_written x)

  abbrev pub over : (start end : ℕ) → Event → Ranged
  over start end e = record { event = e; start = start; end = end }

  abbrev pub inline_events : Inline → List Ranged
  inline_events Nil = []
  inline_events (Single x after) = over x.start x.end (event_of x x.kind) ∷ inline_events after
  inline_events (Around tag start end inside after) =
      over start end (Start tag) ∷ (inline_events inside ++ (over start end (End (end_of tag)) ∷ inline_events after))
