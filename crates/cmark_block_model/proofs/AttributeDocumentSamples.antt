-- Documents with attributes of headings, by computation: where attributes are, and what is left of the heading's content.
use Rattle.std.specs.Prelude.{◌≡◌, true, [], ◌∷◌, codes, List, ℕ, Some, None}
use Rattle.std.proofs.Common.{refl}
use Rattle.cmark_grammar.specs.Attributes.{Attributes, no_attributes}
use Rattle.cmark_grammar.specs.Entities.{basic_entity}
use Rattle.cmark_grammar.specs.Leaves.{underlines}
use Rattle.cmark_grammar.specs.Containers.{enter, keeps}
use Rattle.cmark_grammar.specs.Openings.{opens, texts, lazily}
use Rattle.cmark_block_model.specs.BlocksModel.{begin, blocks}
use Rattle.cmark_grammar.specs.BlockDocument.{Heading, Text, Paragraph, BlockQuote, BlockNode, node, outline}
use Rattle.cmark_block_model.specs.DocumentModel.{document}
use Rattle.cmark_grammar.specs.Options.{Options, no_options}

abbrev with_attributes : Options
with_attributes = record no_options { heading_attributes = true }

abbrev read : List ℕ → List BlockNode
read text = outline (document text with_attributes basic_entity)

abbrev identified : List ℕ → Attributes
identified name = record no_attributes { id = Some name }

abbrev classed : List ℕ → Attributes
classed name = record no_attributes { classes = name ∷ [] }

-- attributes are removed, and the blanks before them too
taken_off : read (codes "# a {#b}\n") ≡ node (Heading 1 (identified (codes "b"))) 0 9 ∷ node (Text (codes "a")) 2 3 ∷ []
unfolding blocks begin opens texts lazily enter keeps underlines
taken_off = refl

-- without the option they are text
no_option : outline (document (codes "# a {#b}\n") no_options basic_entity) ≡ node (Heading 1 no_attributes) 0 9 ∷ node (Text (codes "a {#b}")) 2 8 ∷ []
unfolding blocks begin opens texts lazily enter keeps underlines
no_option = refl

-- first of all, and a closing sequence after them
before_the_closing_sequence : read (codes "# a # {#b}") ≡ node (Heading 1 (identified (codes "b"))) 0 10 ∷ node (Text (codes "a")) 2 3 ∷ []
unfolding blocks begin opens texts lazily enter keeps underlines
before_the_closing_sequence = refl

after_no_closing_sequence : read (codes "# {#b} #") ≡ node (Heading 1 no_attributes) 0 8 ∷ node (Text (codes "{#b}")) 2 6 ∷ []
unfolding blocks begin opens texts lazily enter keeps underlines
after_no_closing_sequence = refl

-- the last braces are the attributes, which contain no braces
last_braces : read (codes "# {.a{.b}") ≡ node (Heading 1 (classed (codes "b"))) 0 9 ∷ node (Text (codes "{.a")) 2 5 ∷ []
unfolding blocks begin opens texts lazily enter keeps underlines
last_braces = refl

two_at_the_end : read (codes "# {.a}}") ≡ node (Heading 1 no_attributes) 0 7 ∷ node (Text (codes "{.a}}")) 2 7 ∷ []
unfolding blocks begin opens texts lazily enter keeps underlines
two_at_the_end = refl

-- backslashes escape nothing there
backslash : read (codes "# a \\{.b\\}") ≡ node (Heading 1 (classed (codes "b\\"))) 0 10 ∷ node (Text (codes "a \\")) 2 5 ∷ []
unfolding blocks begin opens texts lazily enter keeps underlines
backslash = refl

nothing_left : read (codes "# {}") ≡ node (Heading 1 no_attributes) 0 4 ∷ []
unfolding blocks begin opens texts lazily enter keeps underlines
nothing_left = refl

-- a paragraph has no attributes
paragraph : read (codes "a {#b}") ≡ node Paragraph 0 6 ∷ node (Text (codes "a {#b}")) 0 6 ∷ []
unfolding blocks begin opens texts lazily enter keeps underlines
paragraph = refl

-- ## Setext headings

setext : read (codes "a {#b}\n===\n") ≡ node (Heading 1 (identified (codes "b"))) 0 11 ∷ node (Text (codes "a")) 0 1 ∷ []
unfolding blocks begin opens texts lazily enter keeps underlines
setext = refl

setext_no_option : outline (document (codes "a {#b}\n===\n") no_options basic_entity) ≡ node (Heading 1 no_attributes) 0 11 ∷ node (Text (codes "a {#b}")) 0 6 ∷ []
unfolding blocks begin opens texts lazily enter keeps underlines
setext_no_option = refl

-- braces over several lines, whose endings separate words
over_lines : read (codes "a {#b\n.c}\n===") ≡ node (Heading 1 (record no_attributes { id = Some (codes "b"); classes = codes "c" ∷ [] })) 0 13 ∷ node (Text (codes "a")) 0 1 ∷ []
unfolding blocks begin opens texts lazily enter keeps underlines
over_lines = refl

-- the lines before the braces stay, without the white space after them
on_a_line_of_their_own : read (codes "a\n b  \r\n{.c}\n---\n") ≡ node (Heading 2 (classed (codes "c"))) 0 17 ∷ node (Text (codes "a\n b")) 0 4 ∷ []
unfolding blocks begin opens texts lazily enter keeps underlines
on_a_line_of_their_own = refl

-- prefixes are not part of the attributes
after_prefixes : read (codes "> a {#b\n>  .c}\n> ===") ≡ node (BlockQuote None) 0 20 ∷ node (Heading 1 (record no_attributes { id = Some (codes "b"); classes = codes "c" ∷ [] })) 2 20 ∷ node (Text (codes "a")) 2 3 ∷ []
unfolding blocks begin opens texts lazily enter keeps underlines
after_prefixes = refl

stretches_before : read (codes "> a\n> b\n> {#c}\n> ===") ≡ node (BlockQuote None) 0 20 ∷ node (Heading 1 (identified (codes "c"))) 2 20 ∷ node (Text (codes "a\n")) 2 4 ∷ node (Text (codes "b")) 6 7 ∷ []
unfolding blocks begin opens texts lazily enter keeps underlines
stretches_before = refl

-- blanks and line endings before the braces go with them, and no other white space
setext_form_feed : read (codes "a\u{c} {}\n===") ≡ node (Heading 1 no_attributes) 0 9 ∷ node (Text (codes "a\u{c}")) 0 2 ∷ []
unfolding blocks begin opens texts lazily enter keeps underlines
setext_form_feed = refl

setext_line_of_braces : read (codes "a \n{}\n===") ≡ node (Heading 1 no_attributes) 0 9 ∷ node (Text (codes "a")) 0 1 ∷ []
unfolding blocks begin opens texts lazily enter keeps underlines
setext_line_of_braces = refl

setext_last_braces : read (codes "{a} {b{c}\n===") ≡ node (Heading 1 no_attributes) 0 13 ∷ node (Text (codes "{a} {b")) 0 6 ∷ []
unfolding blocks begin opens texts lazily enter keeps underlines
setext_last_braces = refl

setext_nothing_left : read (codes "{.a}\n===") ≡ node (Heading 1 (classed (codes "a"))) 0 8 ∷ []
unfolding blocks begin opens texts lazily enter keeps underlines
setext_nothing_left = refl

setext_no_end : read (codes "{.a\n}}\n===") ≡ node (Heading 1 no_attributes) 0 10 ∷ node (Text (codes "{.a\n}}")) 0 6 ∷ []
unfolding blocks begin opens texts lazily enter keeps underlines
setext_no_end = refl
