-- Documents with task list items, by computation: the places of the markers, and the blocks after them.
use Rattle.std.specs.Prelude.{◌≡◌, ◌∷◌, [], true, false, codes, Some, None}
use Rattle.std.proofs.Common.{refl}
use Rattle.cmark_grammar.specs.Attributes.{no_attributes}
use Rattle.cmark_grammar.specs.BlockDocument.{Heading, BlockList, ListItem, TaskMarker, TightParagraph, Text, outline, node}
use Rattle.cmark_grammar.specs.BlockReading.{block_reading}
use Rattle.cmark_block_model.specs.BlocksModel.{begin, blocks}
use Rattle.cmark_grammar.specs.Containers.{enter, keeps}
use Rattle.cmark_block_model.specs.DocumentModel.{document}
use Rattle.cmark_grammar.specs.Entities.{basic_entity}
use Rattle.cmark_grammar.specs.Event as event
use Rattle.cmark_inline_model.specs.LeafSpans.{ranged}
use Rattle.cmark_grammar.specs.Leaves.{underlines}
use Rattle.cmark_grammar.specs.Openings.{opens, texts, lazily}
use Rattle.cmark_grammar.specs.Options.{Options, no_options}
use Rattle.cmark_grammar.specs.Tag as tag
use Rattle.cmark_grammar.specs.TagEnd as end

abbrev tasklists : Options
tasklists = record no_options { tasklists = true }

-- a marker comes before the text of its item; its range is the box and the blank
checked : outline (document (codes "- [x] a\n") tasklists basic_entity) ≡
    node (BlockList None true) 0 8 ∷ node ListItem 0 8 ∷ node (TaskMarker true) 2 5 ∷ node TightParagraph 6 8 ∷ node (Text (codes "a")) 6 7 ∷ []
unfolding blocks begin opens texts lazily enter keeps underlines
checked = refl

-- with the option off it is text
off : outline (document (codes "- [x] a\n") no_options basic_entity) ≡
    node (BlockList None true) 0 8 ∷ node ListItem 0 8 ∷ node TightParagraph 2 8 ∷ node (Text (codes "[x] a")) 2 7 ∷ []
unfolding blocks begin opens texts lazily enter keeps underlines
off = refl

-- after the box the text begins a paragraph, whatever it looks like
heading_in_text : outline (document (codes "- [ ] # a") tasklists basic_entity) ≡
    node (BlockList None true) 0 9 ∷ node ListItem 0 9 ∷ node (TaskMarker false) 2 5 ∷ node TightParagraph 6 9 ∷ node (Text (codes "# a")) 6 9 ∷ []
unfolding blocks begin opens texts lazily enter keeps underlines
heading_in_text = refl

-- which an underline makes a heading
underlined : outline (document (codes "- [ ] a\n  ===") tasklists basic_entity) ≡
    node (BlockList None true) 0 13 ∷ node ListItem 0 13 ∷ node (TaskMarker false) 2 5 ∷ node (Heading 1 no_attributes) 6 13 ∷ node (Text (codes "a")) 6 7 ∷ []
unfolding blocks begin opens texts lazily enter keeps underlines
underlined = refl

-- a box without text after it is text
empty : outline (document (codes "- [x]\n") tasklists basic_entity) ≡
    node (BlockList None true) 0 6 ∷ node ListItem 0 6 ∷ node TightParagraph 2 6 ∷ node (Text (codes "[x]")) 2 5 ∷ []
unfolding blocks begin opens texts lazily enter keeps underlines
empty = refl

-- in a loose list the marker is read first in its paragraph
first : block_reading (document (codes "1. [x] a\n\n2. b") tasklists basic_entity) ≡
    ranged (event.Start (tag.Listing (Some 1))) 0 14 ∷ ranged (event.Start tag.ListItem) 0 10 ∷ ranged (event.Start tag.Paragraph) 7 9 ∷ ranged (event.TaskListMarker true) 3 6 ∷ ranged (event.Text (codes "a")) 7 8
    ∷ ranged (event.End end.Paragraph) 7 9 ∷ ranged (event.End end.ListItem) 0 10 ∷ ranged (event.Start tag.ListItem) 10 14 ∷ ranged (event.Start tag.Paragraph) 13 14 ∷ ranged (event.Text (codes "b")) 13 14
    ∷ ranged (event.End end.Paragraph) 13 14 ∷ ranged (event.End end.ListItem) 10 14 ∷ ranged (event.End (end.Listing true)) 0 14 ∷ []
unfolding blocks begin opens texts lazily enter keeps underlines
first = refl
