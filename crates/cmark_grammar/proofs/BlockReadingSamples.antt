-- The events of documents of blocks, by computation.
use Rattle.std.specs.Prelude.{◌≡◌, ℕ, true, false, [], ◌∷◌, codes, None}
use Rattle.std.proofs.Common.{refl}
use Rattle.cmark_grammar.specs.BlockDocument.{Paragraph, TightParagraph, ThematicBreak, BlockQuote, BlockList, ListItem, TaskMarker, Text, Nil, Node, node}
use Rattle.cmark_grammar.specs.BlockReading.{block_reading}
use Rattle.cmark_grammar.specs.Event.{Event, Start, End, Rule, TaskListMarker, Ranged}
use Rattle.cmark_grammar.specs.Event as event
use Rattle.cmark_grammar.specs.Tag as tag
use Rattle.cmark_grammar.specs.TagEnd as end

abbrev at : Event → (start end : ℕ) → Ranged
at event start end = record { event = event; start = start; end = end }

-- an element around its text, and one event after it: `> a` and `***`
quote : block_reading (Node (node (BlockQuote None) 0 4) (Node (node Paragraph 2 4) (Node (node (Text (codes "a")) 2 3) Nil Nil) Nil) (Node (node ThematicBreak 4 8) Nil Nil))
    ≡ at (Start (tag.BlockQuote None)) 0 4 ∷ at (Start tag.Paragraph) 2 4 ∷ at (event.Text (codes "a")) 2 3 ∷ at (End end.Paragraph) 2 4 ∷ at (End (end.BlockQuote None)) 0 4 ∷ at Rule 4 8 ∷ []
quote = refl

-- a paragraph of a tight list is read as its text: `- a`
tight : block_reading (Node (node (BlockList None true) 0 4) (Node (node ListItem 0 4) (Node (node TightParagraph 2 4) (Node (node (Text (codes "a")) 2 3) Nil Nil) Nil) Nil) Nil)
    ≡ at (Start (tag.Listing None)) 0 4 ∷ at (Start tag.ListItem) 0 4 ∷ at (event.Text (codes "a")) 2 3 ∷ at (End end.ListItem) 0 4 ∷ at (End (end.Listing false)) 0 4 ∷ []
tight = refl

-- a task marker is the first event in the paragraph after it
task : block_reading (Node (node (TaskMarker true) 2 5) Nil (Node (node Paragraph 6 8) (Node (node (Text (codes "a")) 6 7) Nil Nil) Nil))
    ≡ at (Start tag.Paragraph) 6 8 ∷ at (TaskListMarker true) 2 5 ∷ at (event.Text (codes "a")) 6 7 ∷ at (End end.Paragraph) 6 8 ∷ []
task = refl
