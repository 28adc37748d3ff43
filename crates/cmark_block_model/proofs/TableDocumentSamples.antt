-- Documents with tables, by computation: the lines that are heads and rows, and the places of nodes.
use Rattle.std.specs.Prelude.{◌≡◌, ◌∷◌, [], true, codes, Some, None}
use Rattle.std.proofs.Common.{refl}
use Rattle.cmark_grammar.specs.Alignment.{Unaligned, Left, Center, Right}
use Rattle.cmark_grammar.specs.BlockDocument.{Paragraph, BlockQuote, BlockList, ListItem, TightParagraph, Table, TableHead, TableRow, TableCell, Text, outline, node}
use Rattle.cmark_block_model.specs.BlocksModel.{begin, blocks}
use Rattle.cmark_grammar.specs.Containers.{enter, keeps}
use Rattle.cmark_block_model.specs.DocumentModel.{document}
use Rattle.cmark_grammar.specs.Entities.{basic_entity}
use Rattle.cmark_grammar.specs.Leaves.{underlines}
use Rattle.cmark_grammar.specs.Openings.{opens, texts, lazily}
use Rattle.cmark_grammar.specs.Options.{Options, no_options}

abbrev tables : Options
tables = record no_options { tables = true }

-- a head, and a row at whose end a cell is filled in: the delimiter row belongs to neither
filled : outline (document (codes "a|b \n-|-\nc\n") tables basic_entity) ≡
    node (Table (Unaligned ∷ Unaligned ∷ [])) 0 11 ∷ node TableHead 0 5 ∷ node TableCell 0 1 ∷ node (Text (codes "a")) 0 1 ∷ node TableCell 2 4 ∷ node (Text (codes "b")) 2 3 ∷
    node TableRow 9 11 ∷ node TableCell 9 10 ∷ node (Text (codes "c")) 9 10 ∷ node TableCell 11 11 ∷ []
unfolding blocks begin opens texts lazily enter keeps underlines
filled = refl

-- with the option off it is text
off : outline (document (codes "a|b\n-|-\n") no_options basic_entity) ≡ node Paragraph 0 8 ∷ node (Text (codes "a|b\n-|-")) 0 7 ∷ []
unfolding blocks begin opens texts lazily enter keeps underlines
off = refl

-- a delimiter row has a pipe, the same number of cells as the head, and at most three columns of indent
few : outline (document (codes "a|b\n-|-|-\n") tables basic_entity) ≡ node Paragraph 0 10 ∷ node (Text (codes "a|b\n-|-|-")) 0 9 ∷ []
unfolding blocks begin opens texts lazily enter keeps underlines
few = refl

far : outline (document (codes "|a|\n    |-|") tables basic_entity) ≡ node Paragraph 0 11 ∷ node (Text (codes "|a|\n    |-|")) 0 11 ∷ []
unfolding blocks begin opens texts lazily enter keeps underlines
far = refl

-- a row of one pipe is filled in, a further delimiter row is a row, and four columns of indent begin nothing
rows : outline (document (codes "|a|\n|-|\n|\n|-|\n    # b") tables basic_entity) ≡
    node (Table (Unaligned ∷ [])) 0 21 ∷ node TableHead 0 4 ∷ node TableCell 1 2 ∷ node (Text (codes "a")) 1 2 ∷ node TableRow 8 10 ∷ node TableCell 10 10 ∷
    node TableRow 10 14 ∷ node TableCell 11 12 ∷ node (Text (codes "-")) 11 12 ∷ node TableRow 18 21 ∷ node TableCell 18 21 ∷ node (Text (codes "# b")) 18 21 ∷ []
unfolding blocks begin opens texts lazily enter keeps underlines
rows = refl

-- a table interrupts a paragraph only if it begins with a pipe
interrupts : outline (document (codes "a\n|b|\n|:-|") tables basic_entity) ≡
    node Paragraph 0 2 ∷ node (Text (codes "a")) 0 1 ∷ node (Table (Left ∷ [])) 2 10 ∷ node TableHead 2 6 ∷ node TableCell 3 4 ∷ node (Text (codes "b")) 3 4 ∷ []
unfolding blocks begin opens texts lazily enter keeps underlines
interrupts = refl

interrupts_not : outline (document (codes "a\nb|\n-|") tables basic_entity) ≡ node Paragraph 0 7 ∷ node (Text (codes "a\nb|\n-|")) 0 7 ∷ []
unfolding blocks begin opens texts lazily enter keeps underlines
interrupts_not = refl

-- outside of a block quote's paragraph too, if the delimiter row has the prefixes that the head has
lazy : outline (document (codes "> a\n|b|\n|-|") tables basic_entity) ≡
    node (BlockQuote None) 0 4 ∷ node Paragraph 2 4 ∷ node (Text (codes "a")) 2 3 ∷ node (Table (Unaligned ∷ [])) 4 11 ∷ node TableHead 4 8 ∷ node TableCell 5 6 ∷ node (Text (codes "b")) 5 6 ∷ []
unfolding blocks begin opens texts lazily enter keeps underlines
lazy = refl

lazy_not : outline (document (codes "> a\n|b|\n> |-|") tables basic_entity) ≡
    node (BlockQuote None) 0 13 ∷ node Paragraph 2 13 ∷ node (Text (codes "a\n|b|\n")) 2 8 ∷ node (Text (codes "|-|")) 10 13 ∷ []
unfolding blocks begin opens texts lazily enter keeps underlines
lazy_not = refl

-- each list marker ends a table
markers : outline (document (codes "a|b\n:-:|-:\n2) c") tables basic_entity) ≡
    node (Table (Center ∷ Right ∷ [])) 0 11 ∷ node TableHead 0 4 ∷ node TableCell 0 1 ∷ node (Text (codes "a")) 0 1 ∷ node TableCell 2 3 ∷ node (Text (codes "b")) 2 3 ∷
    node (BlockList (Some 2) true) 11 15 ∷ node ListItem 11 15 ∷ node TightParagraph 14 15 ∷ node (Text (codes "c")) 14 15 ∷ []
unfolding blocks begin opens texts lazily enter keeps underlines
markers = refl
