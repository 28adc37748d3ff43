-- Metadata blocks, by computation: which lines begin and end them, and which do not.
use Rattle.std.specs.Prelude.{◌≡◌, ◌∷◌, [], true, codes, None}
use Rattle.std.proofs.Common.{refl}
use Rattle.cmark_grammar.specs.Attributes.{no_attributes}
use Rattle.cmark_grammar.specs.Options.{Options, no_options}
use Rattle.cmark_grammar.specs.Containers.{enter, keeps}
use Rattle.cmark_grammar.specs.Leaves.{underlines}
use Rattle.cmark_grammar.specs.MetadataBlockKind.{YamlStyle, PlusesStyle}
use Rattle.cmark_grammar.specs.Openings.{opens, texts, lazily}
use Rattle.cmark_block_model.specs.BlocksModel.{begin, blocks}
use Rattle.cmark_grammar.specs.Entities.{basic_entity}
use Rattle.cmark_grammar.specs.BlockDocument.{Paragraph, Heading, ThematicBreak, MetadataBlock, BlockQuote, FootnoteDefinition, Text, outline, node}
use Rattle.cmark_block_model.specs.DocumentModel.{document}

abbrev yaml : Options
yaml = record no_options { yaml_style_metadata_blocks = true }

abbrev pluses : Options
pluses = record no_options { pluses_delimited_metadata_blocks = true }

-- the lines between the delimiters are one literal text
between : outline (document (codes "---\na: *b*\n\n\tc\n--- \nd\n") yaml basic_entity) ≡
    node (MetadataBlock YamlStyle) 0 20 ∷ node (Text (codes "a: *b*\n\n\tc\n")) 4 15 ∷ node Paragraph 20 22 ∷ node (Text (codes "d")) 20 21 ∷ []
unfolding blocks begin opens texts lazily enter keeps underlines
between = refl

-- with the option off there is no metadata block
off : outline (document (codes "---\na\n---\n") pluses basic_entity) ≡ node ThematicBreak 0 4 ∷ node (Heading 2 no_attributes) 4 10 ∷ node (Text (codes "a")) 4 5 ∷ []
unfolding blocks begin opens texts lazily enter keeps underlines
off = refl

-- between lines of pluses
with_pluses : outline (document (codes "+++\na\n...\n+++\n") pluses basic_entity) ≡ node (MetadataBlock PlusesStyle) 0 14 ∷ node (Text (codes "a\n...\n")) 4 10 ∷ []
unfolding blocks begin opens texts lazily enter keeps underlines
with_pluses = refl

-- dots end a block of the first kind
dots : outline (document (codes "---\na\n...\nb") yaml basic_entity) ≡
    node (MetadataBlock YamlStyle) 0 10 ∷ node (Text (codes "a\n")) 4 6 ∷ node Paragraph 10 11 ∷ node (Text (codes "b")) 10 11 ∷ []
unfolding blocks begin opens texts lazily enter keeps underlines
dots = refl

-- no metadata block without a line that ends it
not_ended : outline (document (codes "---\na\n +++\n") yaml basic_entity) ≡ node ThematicBreak 0 4 ∷ node Paragraph 4 11 ∷ node (Text (codes "a\n +++")) 4 10 ∷ []
unfolding blocks begin opens texts lazily enter keeps underlines
not_ended = refl

-- no metadata block before a blank line, or before the line that would end it
before_blank : outline (document (codes "---\n\n---\n") yaml basic_entity) ≡ node ThematicBreak 0 4 ∷ node ThematicBreak 5 9 ∷ []
unfolding blocks begin opens texts lazily enter keeps underlines
before_blank = refl

empty : outline (document (codes "---\n...\na\n---\n") yaml basic_entity) ≡ node ThematicBreak 0 4 ∷ node (Heading 2 no_attributes) 4 14 ∷ node (Text (codes "...\na")) 4 9 ∷ []
unfolding blocks begin opens texts lazily enter keeps underlines
empty = refl

-- no metadata block after an indent, or in a container
indented : outline (document (codes " ---\na\n---\n") yaml basic_entity) ≡ node ThematicBreak 1 5 ∷ node (Heading 2 no_attributes) 5 11 ∷ node (Text (codes "a")) 5 6 ∷ []
unfolding blocks begin opens texts lazily enter keeps underlines
indented = refl

in_quote : outline (document (codes ">---\n>a\n>---\n") yaml basic_entity) ≡
    node (BlockQuote None) 0 13 ∷ node ThematicBreak 1 5 ∷ node (Heading 2 no_attributes) 6 13 ∷ node (Text (codes "a")) 6 7 ∷ []
unfolding blocks begin opens texts lazily enter keeps underlines
in_quote = refl

-- no metadata block in a footnote definition of the old style, which has no prefix
abbrev with_notes : Options
with_notes = record no_options { footnotes = true; old_footnotes = true; yaml_style_metadata_blocks = true }

in_definition : outline (document (codes "[^1]: # a\n---\nb\n---\n") with_notes basic_entity) ≡
    node (FootnoteDefinition (codes "1")) 0 20 ∷ node (Heading 1 no_attributes) 6 10 ∷ node (Text (codes "a")) 8 9 ∷ node ThematicBreak 10 14 ∷ node (Heading 2 no_attributes) 14 20 ∷ node (Text (codes "b")) 14 15 ∷ []
unfolding blocks begin opens texts lazily enter keeps underlines
in_definition = refl

in_empty_definition : outline (document (codes "[^1]:\n---\nb\n---\n") with_notes basic_entity) ≡
    node (FootnoteDefinition (codes "1")) 0 16 ∷ node ThematicBreak 6 10 ∷ node (Heading 2 no_attributes) 10 16 ∷ node (Text (codes "b")) 10 11 ∷ []
unfolding blocks begin opens texts lazily enter keeps underlines
in_empty_definition = refl

-- nor after a container in it that ends there
in_definition_after_quote : outline (document (codes "[^1]: > a\n---\nb\n---\n") with_notes basic_entity) ≡
    node (FootnoteDefinition (codes "1")) 0 20 ∷ node (BlockQuote None) 6 10 ∷ node Paragraph 8 10 ∷ node (Text (codes "a")) 8 9 ∷ node ThematicBreak 10 14 ∷ node (Heading 2 no_attributes) 14 20 ∷ node (Text (codes "b")) 14 15 ∷ []
unfolding blocks begin opens texts lazily enter keeps underlines
in_definition_after_quote = refl

-- the blank line that ends the definition leaves it
after_definition : outline (document (codes "[^1]: a\n\n---\nb\n---\n") with_notes basic_entity) ≡
    node (FootnoteDefinition (codes "1")) 0 8 ∷ node Paragraph 6 8 ∷ node (Text (codes "a")) 6 7 ∷ node (MetadataBlock YamlStyle) 9 19 ∷ node (Text (codes "b\n")) 13 15 ∷ []
unfolding blocks begin opens texts lazily enter keeps underlines
after_definition = refl

-- after a container that ends with it
after_block_quote : outline (document (codes "> a\n---\nb\n---\n") yaml basic_entity) ≡
    node (BlockQuote None) 0 4 ∷ node Paragraph 2 4 ∷ node (Text (codes "a")) 2 3 ∷ node (MetadataBlock YamlStyle) 4 14 ∷ node (Text (codes "b\n")) 8 10 ∷ []
unfolding blocks begin opens texts lazily enter keeps underlines
after_block_quote = refl

-- it interrupts no paragraph
after_paragraph : outline (document (codes "a\n+++\nb\n+++\n") pluses basic_entity) ≡ node Paragraph 0 12 ∷ node (Text (codes "a\n+++\nb\n+++")) 0 11 ∷ []
unfolding blocks begin opens texts lazily enter keeps underlines
after_paragraph = refl

underline : outline (document (codes "a\n---\nb\n---\n") yaml basic_entity) ≡
    node (Heading 2 no_attributes) 0 6 ∷ node (Text (codes "a")) 0 1 ∷ node (Heading 2 no_attributes) 6 12 ∷ node (Text (codes "b")) 6 7 ∷ []
unfolding blocks begin opens texts lazily enter keeps underlines
underline = refl
