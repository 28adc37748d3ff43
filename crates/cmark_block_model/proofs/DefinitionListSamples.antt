-- Documents with definition lists, by computation: the lines that begin definitions, the paragraphs that are titles, and the places of
-- nodes.
use Rattle.std.specs.Prelude.{◌≡◌, ◌∷◌, [], true, false, codes, None, map, List, ℕ}
use Rattle.std.proofs.Common.{refl}
use Rattle.cmark_grammar.specs.Attributes.{no_attributes}
use Rattle.cmark_grammar.specs.BlockDocument.{Paragraph, TightParagraph, Heading, BlockQuote, BlockList, ListItem, ThematicBreak, TaskMarker, DefinitionList, DefinitionListTitle, DefinitionListDefinition, Text, outline, node}
use Rattle.cmark_grammar.specs.BlockReading.{block_reading}
use Rattle.cmark_block_model.specs.BlocksModel.{begin, blocks}
use Rattle.cmark_grammar.specs.Containers.{enter, keeps}
use Rattle.cmark_block_model.specs.DocumentModel.{document}
use Rattle.cmark_grammar.specs.Entities.{basic_entity}
use Rattle.cmark_grammar.specs.Event as event
use Rattle.cmark_grammar.specs.Event.{Event, Start, End, TaskListMarker, Ranged}
use Rattle.cmark_grammar.specs.Leaves.{underlines}
use Rattle.cmark_grammar.specs.Openings.{opens, texts, lazily}
use Rattle.cmark_grammar.specs.Options.{Options, no_options}
use Rattle.cmark_grammar.specs.Tag as tag
use Rattle.cmark_grammar.specs.TagEnd as tag_end

abbrev definitions : Options
definitions = record no_options { definition_list = true }

abbrev with_tasks : Options
with_tasks = record no_options { definition_list = true; tasklists = true }

-- a title and its definition; the title's paragraph is not a node of its own
simple : outline (document (codes "Term\n: def\n") definitions basic_entity) ≡
    node (DefinitionList true) 0 11 ∷ node DefinitionListTitle 0 5 ∷ node (Text (codes "Term")) 0 4 ∷
    node DefinitionListDefinition 5 11 ∷ node TightParagraph 7 11 ∷ node (Text (codes "def")) 7 10 ∷ []
unfolding blocks begin opens texts lazily enter keeps underlines
simple = refl

-- with the option off it is text
off : outline (document (codes "Term\n: def\n") no_options basic_entity) ≡ node Paragraph 0 11 ∷ node (Text (codes "Term\n: def")) 0 10 ∷ []
unfolding blocks begin opens texts lazily enter keeps underlines
off = refl

-- no blank is required after the marker; without a blank the width is 1
no_blank : outline (document (codes "A\n:b\n c\n") definitions basic_entity) ≡
    node (DefinitionList true) 0 8 ∷ node DefinitionListTitle 0 2 ∷ node (Text (codes "A")) 0 1 ∷
    node DefinitionListDefinition 2 8 ∷ node TightParagraph 3 8 ∷ node (Text (codes "b\n")) 3 5 ∷ node (Text (codes "c")) 6 7 ∷ []
unfolding blocks begin opens texts lazily enter keeps underlines
no_blank = refl

-- a blank line between title and definition makes the list loose
blank_before : outline (document (codes "A\n\n: b\n") definitions basic_entity) ≡
    node (DefinitionList false) 0 7 ∷ node DefinitionListTitle 0 2 ∷ node (Text (codes "A")) 0 1 ∷
    node DefinitionListDefinition 3 7 ∷ node Paragraph 5 7 ∷ node (Text (codes "b")) 5 6 ∷ []
unfolding blocks begin opens texts lazily enter keeps underlines
blank_before = refl

-- and so does one between two definitions, and one between two blocks of a definition
blank_between : outline (document (codes "A\n: b\n\n: c\n") definitions basic_entity) ≡
    node (DefinitionList false) 0 11 ∷ node DefinitionListTitle 0 2 ∷ node (Text (codes "A")) 0 1 ∷
    node DefinitionListDefinition 2 7 ∷ node Paragraph 4 6 ∷ node (Text (codes "b")) 4 5 ∷
    node DefinitionListDefinition 7 11 ∷ node Paragraph 9 11 ∷ node (Text (codes "c")) 9 10 ∷ []
unfolding blocks begin opens texts lazily enter keeps underlines
blank_between = refl

blank_inside : outline (document (codes "A\n: b\n\n  c\n") definitions basic_entity) ≡
    node (DefinitionList false) 0 11 ∷ node DefinitionListTitle 0 2 ∷ node (Text (codes "A")) 0 1 ∷
    node DefinitionListDefinition 2 11 ∷ node Paragraph 4 6 ∷ node (Text (codes "b")) 4 5 ∷ node Paragraph 9 11 ∷ node (Text (codes "c")) 9 10 ∷ []
unfolding blocks begin opens texts lazily enter keeps underlines
blank_inside = refl

-- titles and definitions in a row form one list, which a blank line before a title leaves tight
one_list : outline (document (codes "A\n: b\n: c\n\nD\n: e\n") definitions basic_entity) ≡
    node (DefinitionList true) 0 17 ∷ node DefinitionListTitle 0 2 ∷ node (Text (codes "A")) 0 1 ∷
    node DefinitionListDefinition 2 6 ∷ node TightParagraph 4 6 ∷ node (Text (codes "b")) 4 5 ∷
    node DefinitionListDefinition 6 11 ∷ node TightParagraph 8 10 ∷ node (Text (codes "c")) 8 9 ∷
    node DefinitionListTitle 11 13 ∷ node (Text (codes "D")) 11 12 ∷
    node DefinitionListDefinition 13 17 ∷ node TightParagraph 15 17 ∷ node (Text (codes "e")) 15 16 ∷ []
unfolding blocks begin opens texts lazily enter keeps underlines
one_list = refl

-- a paragraph without a definition after it comes after the list
after_list : outline (document (codes "A\n: b\n\nC\n") definitions basic_entity) ≡
    node (DefinitionList true) 0 7 ∷ node DefinitionListTitle 0 2 ∷ node (Text (codes "A")) 0 1 ∷
    node DefinitionListDefinition 2 7 ∷ node TightParagraph 4 6 ∷ node (Text (codes "b")) 4 5 ∷ node Paragraph 7 9 ∷ node (Text (codes "C")) 7 8 ∷ []
unfolding blocks begin opens texts lazily enter keeps underlines
after_list = refl

-- and one before another paragraph is no title
last_paragraph : outline (document (codes "A\n\nB\n: c\n") definitions basic_entity) ≡
    node Paragraph 0 2 ∷ node (Text (codes "A")) 0 1 ∷ node (DefinitionList true) 3 9 ∷ node DefinitionListTitle 3 5 ∷ node (Text (codes "B")) 3 4 ∷
    node DefinitionListDefinition 5 9 ∷ node TightParagraph 7 9 ∷ node (Text (codes "c")) 7 8 ∷ []
unfolding blocks begin opens texts lazily enter keeps underlines
last_paragraph = refl

-- a heading is not a title, nor is a link reference definition; a paragraph that looks like one is, if a definition interrupts it
after_heading : outline (document (codes "# A\n: b\n") definitions basic_entity) ≡
    node (Heading 1 no_attributes) 0 4 ∷ node (Text (codes "A")) 2 3 ∷ node Paragraph 4 8 ∷ node (Text (codes ": b")) 4 7 ∷ []
unfolding blocks begin opens texts lazily enter keeps underlines
after_heading = refl

after_underline : outline (document (codes "A\n: b\n\nC\n===\n: d\n") definitions basic_entity) ≡
    node (DefinitionList true) 0 7 ∷ node DefinitionListTitle 0 2 ∷ node (Text (codes "A")) 0 1 ∷
    node DefinitionListDefinition 2 7 ∷ node TightParagraph 4 6 ∷ node (Text (codes "b")) 4 5 ∷
    node (Heading 1 no_attributes) 7 13 ∷ node (Text (codes "C")) 7 8 ∷ node Paragraph 13 17 ∷ node (Text (codes ": d")) 13 16 ∷ []
unfolding blocks begin opens texts lazily enter keeps underlines
after_underline = refl

unfinished : outline (document (codes "[a]:\n:b\n") definitions basic_entity) ≡
    node (DefinitionList true) 0 8 ∷ node DefinitionListTitle 0 5 ∷ node (Text (codes "[a]:")) 0 4 ∷
    node DefinitionListDefinition 5 8 ∷ node TightParagraph 6 8 ∷ node (Text (codes "b")) 6 7 ∷ []
unfolding blocks begin opens texts lazily enter keeps underlines
unfinished = refl

-- a lazy line is text, except in a definition, where a marker begins another one
lazy_in_quote : outline (document (codes "> A\n: b\n") definitions basic_entity) ≡
    node (BlockQuote None) 0 8 ∷ node Paragraph 2 8 ∷ node (Text (codes "A\n: b")) 2 7 ∷ []
unfolding blocks begin opens texts lazily enter keeps underlines
lazy_in_quote = refl

lazy_in_definition : outline (document (codes "A\n: - x\n: b\n") definitions basic_entity) ≡
    node (DefinitionList true) 0 12 ∷ node DefinitionListTitle 0 2 ∷ node (Text (codes "A")) 0 1 ∷
    node DefinitionListDefinition 2 8 ∷ node (BlockList None true) 4 8 ∷ node ListItem 4 8 ∷ node TightParagraph 6 8 ∷ node (Text (codes "x")) 6 7 ∷
    node DefinitionListDefinition 8 12 ∷ node TightParagraph 10 12 ∷ node (Text (codes "b")) 10 11 ∷ []
unfolding blocks begin opens texts lazily enter keeps underlines
lazy_in_definition = refl

lazy_in_both : outline (document (codes "> A\n> : x\n: b\n") definitions basic_entity) ≡
    node (BlockQuote None) 0 14 ∷ node (DefinitionList true) 2 14 ∷ node DefinitionListTitle 2 4 ∷ node (Text (codes "A")) 2 3 ∷
    node DefinitionListDefinition 6 14 ∷ node TightParagraph 8 14 ∷ node (Text (codes "x\n: b")) 8 13 ∷ []
unfolding blocks begin opens texts lazily enter keeps underlines
lazy_in_both = refl

-- a definition whose first line is blank ends at a blank line directly after it
bare : outline (document (codes "A\n:\n\n  x\n") definitions basic_entity) ≡
    node (DefinitionList true) 0 4 ∷ node DefinitionListTitle 0 2 ∷ node (Text (codes "A")) 0 1 ∷ node DefinitionListDefinition 2 4 ∷
    node Paragraph 7 9 ∷ node (Text (codes "x")) 7 8 ∷ []
unfolding blocks begin opens texts lazily enter keeps underlines
bare = refl

-- four columns of indent begin nothing, three do
far : outline (document (codes "A\n    : b\n") definitions basic_entity) ≡ node Paragraph 0 10 ∷ node (Text (codes "A\n    : b")) 0 9 ∷ []
unfolding blocks begin opens texts lazily enter keeps underlines
far = refl

near : outline (document (codes "A\n   : b\n") definitions basic_entity) ≡
    node (DefinitionList true) 0 9 ∷ node DefinitionListTitle 0 2 ∷ node (Text (codes "A")) 0 1 ∷
    node DefinitionListDefinition 2 9 ∷ node TightParagraph 7 9 ∷ node (Text (codes "b")) 7 8 ∷ []
unfolding blocks begin opens texts lazily enter keeps underlines
near = refl

-- another block ends the list
ended : outline (document (codes "A\n: b\n***\nC\n: d\n") definitions basic_entity) ≡
    node (DefinitionList true) 0 6 ∷ node DefinitionListTitle 0 2 ∷ node (Text (codes "A")) 0 1 ∷
    node DefinitionListDefinition 2 6 ∷ node TightParagraph 4 6 ∷ node (Text (codes "b")) 4 5 ∷ node ThematicBreak 6 10 ∷
    node (DefinitionList true) 10 16 ∷ node DefinitionListTitle 10 12 ∷ node (Text (codes "C")) 10 11 ∷
    node DefinitionListDefinition 12 16 ∷ node TightParagraph 14 16 ∷ node (Text (codes "d")) 14 15 ∷ []
unfolding blocks begin opens texts lazily enter keeps underlines
ended = refl

-- in an item, the list is one of its blocks: a blank line inside the list leaves the item's list tight, a blank line after it does not
in_item : outline (document (codes "- A\n\n  : b\n") definitions basic_entity) ≡
    node (BlockList None true) 0 11 ∷ node ListItem 0 11 ∷ node (DefinitionList false) 2 11 ∷ node DefinitionListTitle 2 4 ∷ node (Text (codes "A")) 2 3 ∷
    node DefinitionListDefinition 7 11 ∷ node Paragraph 9 11 ∷ node (Text (codes "b")) 9 10 ∷ []
unfolding blocks begin opens texts lazily enter keeps underlines
in_item = refl

after_in_item : outline (document (codes "- A\n  : b\n\n  C\n") definitions basic_entity) ≡
    node (BlockList None false) 0 15 ∷ node ListItem 0 15 ∷ node (DefinitionList true) 2 11 ∷ node DefinitionListTitle 2 4 ∷ node (Text (codes "A")) 2 3 ∷
    node DefinitionListDefinition 6 11 ∷ node TightParagraph 8 10 ∷ node (Text (codes "b")) 8 9 ∷ node Paragraph 13 15 ∷ node (Text (codes "C")) 13 14 ∷ []
unfolding blocks begin opens texts lazily enter keeps underlines
after_in_item = refl

title_in_item : outline (document (codes "- A\n  : b\n\n  C\n  : d\n") definitions basic_entity) ≡
    node (BlockList None true) 0 21 ∷ node ListItem 0 21 ∷ node (DefinitionList true) 2 21 ∷ node DefinitionListTitle 2 4 ∷ node (Text (codes "A")) 2 3 ∷
    node DefinitionListDefinition 6 11 ∷ node TightParagraph 8 10 ∷ node (Text (codes "b")) 8 9 ∷ node DefinitionListTitle 13 15 ∷ node (Text (codes "C")) 13 14 ∷
    node DefinitionListDefinition 17 21 ∷ node TightParagraph 19 21 ∷ node (Text (codes "d")) 19 20 ∷ []
unfolding blocks begin opens texts lazily enter keeps underlines
title_in_item = refl

-- in the document a task marker comes before the list; its event is the first one in the title (GFM 5.3)
task : outline (document (codes "- [x] a\n  : b\n") with_tasks basic_entity) ≡
    node (BlockList None true) 0 14 ∷ node ListItem 0 14 ∷ node (TaskMarker true) 2 5 ∷ node (DefinitionList true) 6 14 ∷ node DefinitionListTitle 6 8 ∷ node (Text (codes "a")) 6 7 ∷
    node DefinitionListDefinition 10 14 ∷ node TightParagraph 12 14 ∷ node (Text (codes "b")) 12 13 ∷ []
unfolding blocks begin opens texts lazily enter keeps underlines
task = refl

abbrev events_of : List ℕ → List Event
events_of text = map Ranged.event (block_reading (document text with_tasks basic_entity))

task_read : events_of (codes "- [x] a\n  : b\n") ≡
    Start (tag.Listing None) ∷ Start tag.ListItem ∷ Start tag.DefinitionList ∷ Start tag.DefinitionListTitle ∷ TaskListMarker true ∷ event.Text (codes "a") ∷
    End tag_end.DefinitionListTitle ∷ Start tag.DefinitionListDefinition ∷ event.Text (codes "b") ∷ End tag_end.DefinitionListDefinition ∷ End tag_end.DefinitionList ∷
    End tag_end.ListItem ∷ End (tag_end.Listing false) ∷ []
unfolding blocks begin opens texts lazily enter keeps underlines
task_read = refl
