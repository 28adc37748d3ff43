-- Texts that are not owned are the bytes of their ranges.
use Rattle.std.proofs.Common.{◌≡◌, ℕ, zero, suc, ◌+◌, ◌-◌, ◌≤◌, ◌<◌, Bool, true, false, ◌==◌, ◌&&◌, not, List, [], ◌∷◌, ◌++◌, length, drop, take, take_while, refl, sym, ap, ◌∙◌, subst, arith, Option, Some, None, true≢false, drop-drop, take-add, rules}
use Rattle.std.specs.Prelude.{if◌then◌else◌, nat_lt}
use Rattle.cmark_grammar.specs.Answers.{Lookup}
use Rattle.cmark_grammar.specs.Options.{Options}
use Rattle.cmark_grammar.specs.Columns.{Column, is_blank_byte, drop_end}
use Rattle.cmark_grammar.specs.Rows.{Row, first_place, begin_of, start_of, words_of, without, last_line_end}
use Rattle.cmark_grammar.specs.Containers.{BlockQuote, Item, Footnote, ListDefinition}
use Rattle.cmark_grammar.specs.Openings.{Leaf, AtxHeading as AtxHeadingLeaf, IndentedCode as IndentedCodeLeaf, FencedCode as FencedCodeLeaf, HtmlBlock as HtmlBlockLeaf, MetadataBlock as MetadataBlockLeaf, Table as TableLeaf}
use Rattle.cmark_grammar.specs.Blocks.{Blocks, Nil as NoBlocks, BlankLine, Paragraph as ParagraphBlock, SetextHeading, LeafBlock, ContainerBlock}
use Rattle.cmark_grammar.specs.SetextAttributes.{content_of, texts_before, without_braces, setext_tokens}
use Rattle.cmark_grammar.specs.Lists.{ListBefore, tight_after, goes_on, definition_delimiter, is_title, title_tight_after}
use Rattle.cmark_grammar.specs.BlockDocument.{ListItem, BlockNode, BlockDocument, Nil, Node, node, BlockKind, DefinitionList, DefinitionListTitle, DefinitionListDefinition}
use Rattle.cmark_grammar.specs.Derivation.{task_then, leaf_then, item_then, paragraph_kind, document_of, Derives, list_kind}
use Rattle.cmark_block_model.specs.Ranges.{IsSlice, HasSlices}
use Rattle.cmark_grammar.specs.Tokens.{slice, Piece, texts_then, end_place, words_end, stretch_then, stretches, paragraph_tokens, after_hashes, heading_columns, piece_if, plain_line, left_columns, spaces_if, verbatim_line, merge, merge_all, code_columns, code_pieces, fenced_lines, html_then, html_tokens, lines_before}
use Rattle.cmark_grammar.specs.Metadata.{ends_metadata}
use Rattle.cmark_grammar.specs.TableRows.{cells_start, cells_of}
use Rattle.cmark_grammar.specs.TableTokens.{cells_then, row_cells, row_tokens}
use Rattle.cmark_grammar.specs.TaskItems.{after_box}
use Rattle.cmark_block_model.proofs.TaskLaws.{task-sliced}

both : (x y : Bool) → (x && y) ≡ true → (x ≡ true) × (y ≡ true)
both true y e = (refl, e)
both false y e = absurd (true≢false (sym e))

not-true : (x : Bool) → not x ≡ true → x ≡ false
not-true true e = absurd (true≢false (sym e))
not-true false e = refl

same : (a b : ℕ) → (a == b) ≡ true → a ≡ b
same a b e = grind (arith)

less : (a b : ℕ) → nat_lt a b ≡ true → a < b
less a b e = grind (arith)

module _ (text : List ℕ) where
  slice-join : (a b c : ℕ) → a ≤ b → b ≤ c → slice text a b ++ slice text b c ≡ slice text a c
  slice-join a b c le lf =
      ap (λ xs. take (b - a) (drop a text) ++ take (c - b) xs) (ap (λ n. drop n text) (let s : b ≡ a + (b - a) = omega (arith, le) in s) ∙ sym (drop-drop (b - a) a text))
      ∙ sym (take-add (b - a) (c - b) (drop a text))
      ∙ ap (λ n. take n (drop a text)) (let s : (b - a) + (c - b) ≡ c - a = omega (arith, le, lf) in s)

  -- pieces that are not owned are slices
  abbrev AreSliced : List Piece → Type 0
  AreSliced [] = Unit {0}
  AreSliced (p ∷ ps) = (p.owned ≡ false → (p.start ≤ p.end) × (p.bytes ≡ slice text p.start p.end)) × AreSliced ps

  texts-sliced : (ps : List Piece) (after : BlockDocument) → AreSliced ps → HasSlices text after → HasSlices text (texts_then ps after)
  texts-sliced [] after h a = a
  texts-sliced (p ∷ ps) after h a = grind (arith, texts-sliced ps after h.1 a)

  html_then-sliced : (ps : List Piece) (after : BlockDocument) → AreSliced ps → HasSlices text after → HasSlices text (html_then ps after)
  html_then-sliced [] after h a = a
  html_then-sliced (p ∷ ps) after h a = grind (arith, html_then-sliced ps after h.1 a)

  piece_if-sliced : (start end : ℕ) (ps : List Piece) → AreSliced ps → AreSliced (piece_if text start end ps)
  piece_if-sliced start end ps h = grind (arith, less)

  stretch-sliced : (start end : ℕ) (after : BlockDocument) → HasSlices text after → HasSlices text (stretch_then text start end after)
  stretch-sliced start end after a = texts-sliced (piece_if text start end []) after (piece_if-sliced start end [] tt) a

  stretches-sliced : (begin : ℕ) (r : Row) (more : List Row) → HasSlices text (stretches text begin r more)
  stretches-sliced begin r [] = stretch-sliced begin (words_end r) Nil tt
  stretches-sliced begin r (s ∷ more) = search (rules, stretch-sliced, stretches-sliced begin s more, stretches-sliced (begin_of s) s more)

  paragraph-sliced : (r : Row) (more : List Row) → HasSlices text (paragraph_tokens text r more)
  paragraph-sliced r more = stretches-sliced (start_of r) r more

  before-sliced : (at : ℕ) (d : BlockDocument) → HasSlices text d → HasSlices text (texts_before text at d)
  before-sliced at Nil h = tt
  before-sliced at (Node n inside after) h = grind (arith, stretch-sliced, before-sliced at after h.2)

  braces-sliced : (attributes : Bool) (cs : List Column) (d : BlockDocument) → HasSlices text d → HasSlices text (without_braces text attributes cs d)
  braces-sliced attributes cs d h = grind (arith, before-sliced)

  setext-sliced : (attributes : Bool) (r : Row) (more : List Row) → HasSlices text (setext_tokens text attributes r more)
  setext-sliced attributes r more = braces-sliced attributes (content_of (r ∷ more)) (paragraph_tokens text r more) (paragraph-sliced r more)

  plain_line-sliced : (from : ℕ) (r : Row) → AreSliced (plain_line text from r)
  plain_line-sliced from r = search (rules, piece_if-sliced)

  spaces_if-sliced : (n at : ℕ) (ps : List Piece) → AreSliced ps → AreSliced (spaces_if n at ps)
  spaces_if-sliced zero at ps h = h
  spaces_if-sliced (suc n) at ps h = ((λ o. absurd (true≢false o)), h)

  verbatim-sliced : (cs : List Column) (r : Row) → AreSliced (verbatim_line text cs r)
  verbatim-sliced cs r = spaces_if-sliced (left_columns cs) (first_place r.content_end cs) (plain_line text (first_place r.content_end cs) r) (plain_line-sliced (first_place r.content_end cs) r)

  merge-sliced : (p : Piece) (ps : List Piece) → (p.owned ≡ false → (p.start ≤ p.end) × (p.bytes ≡ slice text p.start p.end)) → AreSliced ps → AreSliced (merge p ps)
  merge-sliced p ps k h = grind (arith, both, same, not-true, slice-join)

  merge_all-sliced : (ps following : List Piece) → AreSliced ps → AreSliced following → AreSliced (merge_all ps following)
  merge_all-sliced [] following h b = b
  merge_all-sliced (p ∷ ps) following h b = merge-sliced p (merge_all ps following) h.0 (merge_all-sliced ps following h.1 b)

  code-sliced : (most : ℕ) (rs : List Row) → AreSliced (code_pieces text most rs)
  code-sliced most [] = tt
  code-sliced most (r ∷ rs) = merge_all-sliced (verbatim_line text (code_columns most r) r) (code_pieces text most rs) (verbatim-sliced (code_columns most r) r) (code-sliced most rs)

  html-sliced : (rs : List Row) → HasSlices text (html_tokens text rs)
  html-sliced [] = tt
  html-sliced (r ∷ rs) = html_then-sliced (verbatim_line text r.columns r) (html_tokens text rs) (verbatim-sliced r.columns r) (html-sliced rs)

  cells-sliced : (columns at line_end : ℕ) (cells : List (List ℕ)) → HasSlices text (cells_then text columns at line_end cells)
  cells-sliced zero at line_end cells = tt
  cells-sliced (suc columns) at line_end [] = (tt, tt, cells-sliced columns at line_end [])
  cells-sliced (suc columns) at line_end (cell ∷ cells) =
      (tt, stretch-sliced (at + length (take_while is_blank_byte cell)) (at + length (drop_end is_blank_byte cell)) Nil tt, cells-sliced columns (suc (at + length cell)) line_end cells)

  row-sliced : (columns : ℕ) (r : Row) → HasSlices text (row_cells text columns r)
  row-sliced columns r = cells-sliced columns (cells_start r) r.line_end (cells_of (words_of r))

  rows-sliced : (columns : ℕ) (rs : List Row) → HasSlices text (row_tokens text columns rs)
  rows-sliced columns [] = tt
  rows-sliced columns (r ∷ rs) = (tt, row-sliced columns r, rows-sliced columns rs)

  leaf-sliced : (options : Options) (lookup : Lookup) (leaf : Leaf) (first : Row) (more : List Row) (after : BlockDocument) → HasSlices text after → HasSlices text (leaf_then text options lookup leaf first more after)
  leaf-sliced options lookup (AtxHeadingLeaf level) first more after a = (tt, stretch-sliced (first_place first.content_end (after_hashes level first)) (end_place (first_place first.content_end (after_hashes level first)) (heading_columns options.heading_attributes level first)) Nil tt, a)
  leaf-sliced options lookup IndentedCodeLeaf first more after a = (tt, texts-sliced (code_pieces text 4 (first ∷ more)) Nil (code-sliced 4 (first ∷ more)) tt, a)
  leaf-sliced options lookup (FencedCodeLeaf fence) first more after a = (tt, texts-sliced (code_pieces text fence.indented (fenced_lines fence more)) Nil (code-sliced fence.indented (fenced_lines fence more)) tt, a)
  leaf-sliced options lookup (HtmlBlockLeaf kind) first more after a = (tt, html-sliced (first ∷ more), a)
  leaf-sliced options lookup (MetadataBlockLeaf kind) first more after a = (tt, texts-sliced (code_pieces text 0 (lines_before (ends_metadata kind) more)) Nil (code-sliced 0 (lines_before (ends_metadata kind) more)) tt, a)
  leaf-sliced options lookup (TableLeaf alignments) first more after a = (tt, (tt, row-sliced (length alignments) first, rows-sliced (length alignments) (drop 1 more)), a)
  leaf-sliced options lookup _ first more after a = (tt, tt, a)

  list-slice : (delimiter : ℕ) (number : Option ℕ) (tight : Bool) (start end : ℕ) → IsSlice text (list_kind delimiter number tight) start end
  list-slice delimiter number tight start end = grind arith

  item-sliced : (joins : Bool) (list : BlockKind) (item : BlockNode) (inside after : BlockDocument) → ((start end : ℕ) → IsSlice text list start end) → IsSlice text item.kind item.start item.end → HasSlices text inside → HasSlices text after → HasSlices text (item_then joins list item inside after)
  item-sliced joins list item inside after l k i a = grind arith

  -- a paragraph, as a title or as itself
  title-sliced : (is_title tight : Bool) (other : BlockKind) (start end : ℕ) (inside after following : BlockDocument) → IsSlice text other start end → HasSlices text inside → HasSlices text after → HasSlices text following
      → HasSlices text (if is_title then item_then true (DefinitionList tight) (node DefinitionListTitle start end) inside after else Node (node other start end) inside following)
  title-sliced true tight other start end inside after following k i a b = item-sliced true (DefinitionList tight) (node DefinitionListTitle start end) inside after (λ s e. tt) tt i a
  title-sliced false tight other start end inside after following k i a b = (k, i, b)

  paragraph-slice : (z : Bool) (start end : ℕ) → IsSlice text (paragraph_kind z) start end
  paragraph-slice true start end = tt
  paragraph-slice false start end = tt

  document-sliced : (options : Options) (lookup : Lookup) (direct : Bool) (before : Option ListBefore) (b : Blocks) → HasSlices text (document_of text options lookup direct before b)
  document-sliced options lookup direct before NoBlocks = tt
  document-sliced options lookup direct before (BlankLine line after) = document-sliced options lookup direct before after
  document-sliced options lookup direct before (ParagraphBlock first more after) =
      let tight = title_tight_after before after in
      title-sliced (is_title after) tight (paragraph_kind direct) (start_of first) (last_line_end first more) (paragraph_tokens text first more)
      (document_of text options lookup direct (Some (record { delimiter = definition_delimiter; tight = tight })) after) (document_of text options lookup direct None after)
      (paragraph-slice direct _ _) (paragraph-sliced first more) (document-sliced options lookup direct (Some (record { delimiter = definition_delimiter; tight = tight })) after) (document-sliced options lookup direct None after)
  document-sliced options lookup direct before (SetextHeading level first more underline after) = (tt, setext-sliced options.heading_attributes first more, document-sliced options lookup direct None after)
  document-sliced options lookup direct before (LeafBlock leaf first more after) =
      leaf-sliced options lookup leaf first more (document_of text options lookup direct None after) (document-sliced options lookup direct None after)
  document-sliced options lookup direct before (ContainerBlock (BlockQuote alert) first more inside after) =
      (tt, document-sliced options lookup false None inside, document-sliced options lookup direct None after)
  document-sliced options lookup direct before (ContainerBlock (Footnote label old size) first more inside after) =
      (tt, document-sliced options lookup false None inside, document-sliced options lookup direct None after)
  document-sliced options lookup direct before (ContainerBlock (Item delimiter number width task) first more inside after) =
      let tight = tight_after before delimiter inside after in
      item-sliced (goes_on delimiter after) (list_kind delimiter number tight) (node ListItem _ _) (task_then task (begin_of (without width first)) (begin_of (without (after_box task width) first)) (document_of text options lookup tight None inside)) (document_of text options lookup direct (Some (record { delimiter = delimiter; tight = tight })) after) (list-slice delimiter number tight) tt
      (task-sliced text task _ _ (document_of text options lookup tight None inside) (document-sliced options lookup tight None inside)) (document-sliced options lookup direct (Some (record { delimiter = delimiter; tight = tight })) after)
  document-sliced options lookup direct before (ContainerBlock (ListDefinition width) first more inside after) =
      let tight = tight_after before definition_delimiter inside after in
      item-sliced (goes_on definition_delimiter after) (DefinitionList tight) (node DefinitionListDefinition _ _) (document_of text options lookup tight None inside) (document_of text options lookup direct (Some (record { delimiter = definition_delimiter; tight = tight })) after) (λ s e. tt) tt
      (document-sliced options lookup tight None inside) (document-sliced options lookup direct (Some (record { delimiter = definition_delimiter; tight = tight })) after)

pub derived-slices : (text : List ℕ) (options : Options) (lookup : Lookup) (d : BlockDocument) → Derives text options lookup d → HasSlices text d
derived-slices text options lookup d h = subst (HasSlices text) (sym h.2) (document-sliced text options lookup false None h.0)
