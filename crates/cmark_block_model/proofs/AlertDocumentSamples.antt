-- Alerts, by computation: the lines that are tags, and the lines after them.
use Rattle.std.specs.Prelude.{◌≡◌, ◌∷◌, [], true, codes, Some, None}
use Rattle.std.proofs.Common.{refl}
use Rattle.cmark_grammar.specs.Options.{Options, no_options}
use Rattle.cmark_grammar.specs.Containers.{enter, keeps}
use Rattle.cmark_grammar.specs.Leaves.{underlines}
use Rattle.cmark_grammar.specs.BlockQuoteKind.{Note, Tip, Important, Warning, Caution}
use Rattle.cmark_grammar.specs.Openings.{opens, texts, lazily}
use Rattle.cmark_block_model.specs.BlocksModel.{begin, blocks}
use Rattle.cmark_grammar.specs.Entities.{basic_entity}
use Rattle.cmark_grammar.specs.BlockDocument.{Paragraph, IndentedCode, BlockQuote, BlockList, ListItem, Text, outline, node}
use Rattle.cmark_block_model.specs.DocumentModel.{document}

abbrev gfm : Options
gfm = record no_options { gfm = true }

-- the tag is not part of the alert's text
note : outline (document (codes "> [!NOTE]\n> a\n") gfm basic_entity) ≡ node (BlockQuote (Some Note)) 0 14 ∷ node Paragraph 12 14 ∷ node (Text (codes "a")) 12 13 ∷ []
unfolding blocks begin opens texts lazily enter keeps underlines
note = refl

-- with the option off there is no alert
off : outline (document (codes "> [!NOTE]\n> a\n") no_options basic_entity) ≡
    node (BlockQuote None) 0 14 ∷ node Paragraph 2 14 ∷ node (Text (codes "[!NOTE]\n")) 2 10 ∷ node (Text (codes "a")) 12 13 ∷ []
unfolding blocks begin opens texts lazily enter keeps underlines
off = refl

-- letters in any case, no space before the tag, blanks after it; and a lazy line directly after the tag begins a paragraph
tip : outline (document (codes ">[!tIp] \t\nb") gfm basic_entity) ≡ node (BlockQuote (Some Tip)) 0 11 ∷ node Paragraph 10 11 ∷ node (Text (codes "b")) 10 11 ∷ []
unfolding blocks begin opens texts lazily enter keeps underlines
tip = refl

-- a lazy line after a blank line does not, inside or outside
inside_blank : outline (document (codes "> [!IMPORTANT]\n>\nb") gfm basic_entity) ≡ node (BlockQuote (Some Important)) 0 17 ∷ node Paragraph 17 18 ∷ node (Text (codes "b")) 17 18 ∷ []
unfolding blocks begin opens texts lazily enter keeps underlines
inside_blank = refl

outside_blank : outline (document (codes "> [!NOTE]\n\nb") gfm basic_entity) ≡ node (BlockQuote (Some Note)) 0 10 ∷ node Paragraph 11 12 ∷ node (Text (codes "b")) 11 12 ∷ []
unfolding blocks begin opens texts lazily enter keeps underlines
outside_blank = refl

-- no paragraph is open after the tag: a line with all prefixes begins the same block as elsewhere
code : outline (document (codes "> [!WARNING]\n>     b") gfm basic_entity) ≡ node (BlockQuote (Some Warning)) 0 20 ∷ node IndentedCode 19 20 ∷ node (Text (codes "b")) 19 20 ∷ []
unfolding blocks begin opens texts lazily enter keeps underlines
code = refl

-- the tag's line has no other content
with_text : outline (document (codes "> [!NOTE] a\n") gfm basic_entity) ≡ node (BlockQuote None) 0 12 ∷ node Paragraph 2 12 ∷ node (Text (codes "[!NOTE] a")) 2 11 ∷ []
unfolding blocks begin opens texts lazily enter keeps underlines
with_text = refl

-- no second blank precedes the tag
indented : outline (document (codes ">  [!NOTE]") gfm basic_entity) ≡ node (BlockQuote None) 0 10 ∷ node Paragraph 3 10 ∷ node (Text (codes "[!NOTE]")) 3 10 ∷ []
unfolding blocks begin opens texts lazily enter keeps underlines
indented = refl

-- nor is a later line a tag
later : outline (document (codes ">\n> [!NOTE]") gfm basic_entity) ≡ node (BlockQuote None) 0 11 ∷ node Paragraph 4 11 ∷ node (Text (codes "[!NOTE]")) 4 11 ∷ []
unfolding blocks begin opens texts lazily enter keeps underlines
later = refl

-- an alert in an item, with a lazy line after its tag
in_item : outline (document (codes "- > [!caution]\nb") gfm basic_entity) ≡
    node (BlockList None true) 0 16 ∷ node ListItem 0 16 ∷ node (BlockQuote (Some Caution)) 2 16 ∷ node Paragraph 15 16 ∷ node (Text (codes "b")) 15 16 ∷ []
unfolding blocks begin opens texts lazily enter keeps underlines
in_item = refl

-- an alert of its tag alone
empty : outline (document (codes "> [!TIP]") gfm basic_entity) ≡ node (BlockQuote (Some Tip)) 0 8 ∷ []
unfolding blocks begin opens texts lazily enter keeps underlines
empty = refl
