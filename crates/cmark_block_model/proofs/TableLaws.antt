-- The number of cells of each row is the number of the table's columns.
use Rattle.std.proofs.Common.{ℕ, zero, suc, ◌+◌, Bool, true, false, List, [], ◌∷◌, length, refl, sym, subst, Option, Some, None, arith, rules}
use Rattle.std.specs.Prelude.{if◌then◌else◌}
use Rattle.cmark_grammar.specs.Answers.{Lookup}
use Rattle.cmark_grammar.specs.Options.{Options}
use Rattle.cmark_grammar.specs.Rows.{Row, first_place, start_of, last_line_end, begin_of, words_of, without}
use Rattle.cmark_grammar.specs.Containers.{BlockQuote, Item, Footnote, ListDefinition}
use Rattle.cmark_grammar.specs.Openings.{Leaf, AtxHeading as AtxHeadingLeaf, IndentedCode as IndentedCodeLeaf, FencedCode as FencedCodeLeaf, HtmlBlock as HtmlBlockLeaf, MetadataBlock as MetadataBlockLeaf, Table as TableLeaf}
use Rattle.cmark_grammar.specs.Blocks.{Blocks, Nil as NoBlocks, BlankLine, Paragraph as ParagraphBlock, SetextHeading, LeafBlock, ContainerBlock}
use Rattle.cmark_grammar.specs.Lists.{ListBefore, tight_after, goes_on, definition_delimiter, is_title, title_tight_after}
use Rattle.cmark_grammar.specs.Tokens.{Piece, end_place, piece_if, texts_then, words_end, stretch_then, stretches, paragraph_tokens, html_then, html_tokens, verbatim_line, after_hashes, heading_columns, code_pieces, fenced_lines, lines_before}
use Rattle.cmark_grammar.specs.SetextAttributes.{content_of, texts_before, without_braces, setext_tokens}
use Rattle.cmark_grammar.specs.BlockDocument.{ListItem, DefinitionList, DefinitionListTitle, DefinitionListDefinition, BlockKind, BlockNode, BlockDocument, Nil, Node, node}
use Rattle.cmark_grammar.specs.Derivation.{task_then, leaf_then, item_then, list_kind, paragraph_kind, document_of, Derives}
use Rattle.cmark_block_model.specs.TableShape.{AreCells, AreRows, IsRectangular, HasRectangularTables}
use Rattle.cmark_grammar.specs.Metadata.{ends_metadata}
use Rattle.cmark_grammar.specs.Columns.{Column}
use Rattle.cmark_grammar.specs.TableRows.{cells_start, cells_of}
use Rattle.cmark_grammar.specs.TableTokens.{cells_then, row_cells, row_tokens}
use Rattle.cmark_grammar.specs.TaskItems.{after_box}

-- `columns` cells, whatever the row contains
cells-counted : (text : List ℕ) (columns at line_end : ℕ) (cells : List (List ℕ)) → AreCells columns (cells_then text columns at line_end cells)
cells-counted text zero at line_end cells = tt
cells-counted text (suc columns) at line_end [] = (refl, cells-counted text columns at line_end [])
cells-counted text (suc columns) at line_end (cell ∷ cells) = (refl, cells-counted text columns (suc (at + length cell)) line_end cells)

row-counted : (text : List ℕ) (columns : ℕ) (r : Row) → AreCells columns (row_cells text columns r)
row-counted text columns r = cells-counted text columns (cells_start r) r.line_end (cells_of (words_of r))

rows-counted : (text : List ℕ) (columns : ℕ) (rs : List Row) → AreRows columns (row_tokens text columns rs)
rows-counted text columns [] = tt
rows-counted text columns (r ∷ rs) = (refl, row-counted text columns r, rows-counted text columns rs)

-- leaves contain no table
texts-rectangular : (ps : List Piece) (after : BlockDocument) → HasRectangularTables after → HasRectangularTables (texts_then ps after)
texts-rectangular [] after h = h
texts-rectangular (p ∷ ps) after h = grind (arith, texts-rectangular ps after h)

stretch-rectangular : (text : List ℕ) (start end : ℕ) (after : BlockDocument) → HasRectangularTables after → HasRectangularTables (stretch_then text start end after)
stretch-rectangular text start end after h = texts-rectangular (piece_if text start end []) after h

stretches-rectangular : (text : List ℕ) (begin : ℕ) (r : Row) (more : List Row) → HasRectangularTables (stretches text begin r more)
stretches-rectangular text begin r [] = stretch-rectangular text begin (words_end r) Nil tt
stretches-rectangular text begin r (s ∷ more) = search (rules, stretch-rectangular, stretches-rectangular text begin s more, stretches-rectangular text (begin_of s) s more)

before-rectangular : (text : List ℕ) (at : ℕ) (d : BlockDocument) → HasRectangularTables d → HasRectangularTables (texts_before text at d)
before-rectangular text at Nil h = tt
before-rectangular text at (Node n inside after) h = grind (arith, stretch-rectangular, before-rectangular text at after h.2)

braces-rectangular : (text : List ℕ) (attributes : Bool) (cs : List Column) (d : BlockDocument) → HasRectangularTables d → HasRectangularTables (without_braces text attributes cs d)
braces-rectangular text attributes cs d h = grind (arith, before-rectangular)

setext-rectangular : (text : List ℕ) (attributes : Bool) (first : Row) (more : List Row) → HasRectangularTables (setext_tokens text attributes first more)
setext-rectangular text attributes first more =
    braces-rectangular text attributes (content_of (first ∷ more)) (paragraph_tokens text first more) (stretches-rectangular text (start_of first) first more)

html-then-rectangular : (ps : List Piece) (after : BlockDocument) → HasRectangularTables after → HasRectangularTables (html_then ps after)
html-then-rectangular [] after h = h
html-then-rectangular (p ∷ ps) after h = grind (arith, html-then-rectangular ps after h)

html-rectangular : (text : List ℕ) (rs : List Row) → HasRectangularTables (html_tokens text rs)
html-rectangular text [] = tt
html-rectangular text (r ∷ rs) = html-then-rectangular (verbatim_line text r.columns r) (html_tokens text rs) (html-rectangular text rs)

cells-rectangular : (text : List ℕ) (columns at line_end : ℕ) (cells : List (List ℕ)) → HasRectangularTables (cells_then text columns at line_end cells)
cells-rectangular text zero at line_end cells = tt
cells-rectangular text (suc columns) at line_end [] = (tt, tt, cells-rectangular text columns at line_end [])
cells-rectangular text (suc columns) at line_end (cell ∷ cells) = search (rules, stretch-rectangular, cells-rectangular text columns (suc (at + length cell)) line_end cells)

row-rectangular : (text : List ℕ) (columns : ℕ) (r : Row) → HasRectangularTables (row_cells text columns r)
row-rectangular text columns r = cells-rectangular text columns (cells_start r) r.line_end (cells_of (words_of r))

rows-rectangular : (text : List ℕ) (columns : ℕ) (rs : List Row) → HasRectangularTables (row_tokens text columns rs)
rows-rectangular text columns [] = tt
rows-rectangular text columns (r ∷ rs) = (tt, row-rectangular text columns r, rows-rectangular text columns rs)

leaf-rectangular : (text : List ℕ) (options : Options) (lookup : Lookup) (leaf : Leaf) (first : Row) (more : List Row) (after : BlockDocument) → HasRectangularTables after → HasRectangularTables (leaf_then text options lookup leaf first more after)
leaf-rectangular text options lookup (AtxHeadingLeaf level) first more after h =
    (tt, stretch-rectangular text (first_place first.content_end (after_hashes level first)) (end_place (first_place first.content_end (after_hashes level first)) (heading_columns options.heading_attributes level first)) Nil tt, h)
leaf-rectangular text options lookup IndentedCodeLeaf first more after h = (tt, texts-rectangular (code_pieces text 4 (first ∷ more)) Nil tt, h)
leaf-rectangular text options lookup (FencedCodeLeaf fence) first more after h = (tt, texts-rectangular (code_pieces text fence.indented (fenced_lines fence more)) Nil tt, h)
leaf-rectangular text options lookup (HtmlBlockLeaf kind) first more after h = (tt, html-rectangular text (first ∷ more), h)
leaf-rectangular text options lookup (MetadataBlockLeaf kind) first more after h = (tt, texts-rectangular (code_pieces text 0 (lines_before (ends_metadata kind) more)) Nil tt, h)
leaf-rectangular text options lookup (TableLeaf alignments) first more after h = grind (arith, row-counted, rows-counted, row-rectangular, rows-rectangular)
leaf-rectangular text options lookup _ first more after h = (tt, tt, h)

task-rectangular : (task : Option Bool) (start end : ℕ) (inside : BlockDocument) → HasRectangularTables inside → HasRectangularTables (task_then task start end inside)
task-rectangular None start end inside h = h
task-rectangular (Some is_checked) start end inside h = (tt, tt, h)

list-rectangular : (delimiter : ℕ) (number : Option ℕ) (tight : Bool) (inside : BlockDocument) → IsRectangular (list_kind delimiter number tight) inside
list-rectangular delimiter number tight inside = grind arith

item-rectangular : (joins : Bool) (list : BlockKind) (item : BlockNode) (inside after : BlockDocument) → ((items : BlockDocument) → IsRectangular list items) → IsRectangular item.kind inside → HasRectangularTables inside → HasRectangularTables after → HasRectangularTables (item_then joins list item inside after)
item-rectangular joins list item inside after l k i a = grind arith

-- a paragraph, as a title or as itself
title-rectangular : (is_title tight : Bool) (other : BlockKind) (start end : ℕ) (inside after following : BlockDocument) → IsRectangular other inside → HasRectangularTables inside → HasRectangularTables after → HasRectangularTables following
    → HasRectangularTables (if is_title then item_then true (DefinitionList tight) (node DefinitionListTitle start end) inside after else Node (node other start end) inside following)
title-rectangular true tight other start end inside after following k i a b = item-rectangular true (DefinitionList tight) (node DefinitionListTitle start end) inside after (λ items. tt) tt i a
title-rectangular false tight other start end inside after following k i a b = (k, i, b)

module _ (text : List ℕ) (options : Options) (lookup : Lookup) where
  document-rectangular : (direct : Bool) (before : Option ListBefore) (b : Blocks) → HasRectangularTables (document_of text options lookup direct before b)
  document-rectangular direct before NoBlocks = tt
  document-rectangular direct before (BlankLine line after) = document-rectangular direct before after
  document-rectangular direct before (ParagraphBlock first more after) =
      let tight = title_tight_after before after in
      title-rectangular (is_title after) tight (paragraph_kind direct) (start_of first) (last_line_end first more) (paragraph_tokens text first more)
      (document_of text options lookup direct (Some (record { delimiter = definition_delimiter; tight = tight })) after) (document_of text options lookup direct None after)
      (of_kind direct) (stretches-rectangular text (start_of first) first more) (document-rectangular direct (Some (record { delimiter = definition_delimiter; tight = tight })) after) (document-rectangular direct None after)
    where
      of_kind : (z : Bool) → IsRectangular (paragraph_kind z) (paragraph_tokens text first more)
      of_kind true = tt
      of_kind false = tt
  document-rectangular direct before (SetextHeading level first more underline after) = (tt, setext-rectangular text options.heading_attributes first more, document-rectangular direct None after)
  document-rectangular direct before (LeafBlock leaf first more after) = leaf-rectangular text options lookup leaf first more (document_of text options lookup direct None after) (document-rectangular direct None after)
  document-rectangular direct before (ContainerBlock (BlockQuote alert) first more inside after) = (tt, document-rectangular false None inside, document-rectangular direct None after)
  document-rectangular direct before (ContainerBlock (Footnote label old size) first more inside after) = (tt, document-rectangular false None inside, document-rectangular direct None after)
  document-rectangular direct before (ContainerBlock (Item delimiter number width task) first more inside after) =
      let tight = tight_after before delimiter inside after in
      item-rectangular (goes_on delimiter after) (list_kind delimiter number tight) (node ListItem (begin_of first) (last_line_end first more))
      (task_then task (begin_of (without width first)) (begin_of (without (after_box task width) first)) (document_of text options lookup tight None inside))
      (document_of text options lookup direct (Some (record { delimiter = delimiter; tight = tight })) after) (list-rectangular delimiter number tight) tt
      (task-rectangular task _ _ (document_of text options lookup tight None inside) (document-rectangular tight None inside)) (document-rectangular direct (Some (record { delimiter = delimiter; tight = tight })) after)
  document-rectangular direct before (ContainerBlock (ListDefinition width) first more inside after) =
      let tight = tight_after before definition_delimiter inside after in
      item-rectangular (goes_on definition_delimiter after) (DefinitionList tight) (node DefinitionListDefinition (begin_of first) (last_line_end first more))
      (document_of text options lookup tight None inside) (document_of text options lookup direct (Some (record { delimiter = definition_delimiter; tight = tight })) after) (λ items. tt) tt
      (document-rectangular tight None inside) (document-rectangular direct (Some (record { delimiter = definition_delimiter; tight = tight })) after)

pub derived-rectangular : (text : List ℕ) (options : Options) (lookup : Lookup) (d : BlockDocument) → Derives text options lookup d → HasRectangularTables d
derived-rectangular text options lookup d h = subst HasRectangularTables (sym h.2) (document-rectangular text options lookup false None h.0)
