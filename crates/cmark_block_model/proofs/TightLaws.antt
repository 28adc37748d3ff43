-- A paragraph directly in an item of a tight list is not an element.
use Rattle.std.proofs.Common.{◌≡◌, ℕ, zero, suc, ◌+◌, Bool, true, false, ◌==◌, List, [], ◌∷◌, length, refl, sym, subst, Option, Some, None, true≢false, arith, ◌&&◌, rules}
use Rattle.std.specs.Prelude.{if◌then◌else◌}
use Rattle.cmark_grammar.specs.Answers.{Lookup}
use Rattle.cmark_grammar.specs.Options.{Options}
use Rattle.cmark_grammar.specs.Rows.{Row, start_of, last_line_end, begin_of, words_of, without}
use Rattle.cmark_grammar.specs.Containers.{BlockQuote, Item, Footnote, ListDefinition}
use Rattle.cmark_grammar.specs.Openings.{Leaf}
use Rattle.cmark_grammar.specs.Blocks.{Blocks, Nil as NoBlocks, BlankLine, Paragraph as ParagraphBlock, SetextHeading, LeafBlock, ContainerBlock}
use Rattle.cmark_grammar.specs.SetextAttributes.{content_of, texts_before, without_braces, setext_tokens}
use Rattle.cmark_grammar.specs.Lists.{ListBefore, tight_after, goes_on, definition_delimiter, is_title, title_tight_after}
use Rattle.cmark_grammar.specs.Tokens.{Piece, piece_if, texts_then, words_end, stretch_then, stretches, paragraph_tokens, html_then, html_tokens, html_kind_of, verbatim_line}
use Rattle.cmark_grammar.specs.BlockDocument.{ListItem, BlockNode, BlockDocument, Nil, Node, node, BlockKind, DefinitionList, DefinitionListTitle, DefinitionListDefinition}
use Rattle.cmark_grammar.specs.Derivation.{task_then, leaf_then, item_then, paragraph_kind, document_of, Derives, list_kind}
use Rattle.cmark_block_model.specs.Tightness.{tight_within, IsElement, HasTightParagraphs}
use Rattle.cmark_grammar.specs.Columns.{Column}
use Rattle.cmark_grammar.specs.TableRows.{cells_start, cells_of}
use Rattle.cmark_grammar.specs.TableTokens.{cells_then, row_cells, row_tokens}
use Rattle.cmark_grammar.specs.TaskItems.{after_box}
use Rattle.cmark_block_model.proofs.TaskLaws.{task-tight}

texts_tight : (tight : Bool) (ps : List Piece) (after : BlockDocument) → HasTightParagraphs tight after → HasTightParagraphs tight (texts_then ps after)
texts_tight tight [] after h = h
texts_tight tight (p ∷ ps) after h = grind (arith, texts_tight tight ps after h)

stretch_tight : (tight : Bool) (text : List ℕ) (start end : ℕ) (after : BlockDocument) → HasTightParagraphs tight after → HasTightParagraphs tight (stretch_then text start end after)
stretch_tight tight text start end after h = texts_tight tight (piece_if text start end []) after h

stretches_tight : (tight : Bool) (text : List ℕ) (begin : ℕ) (r : Row) (more : List Row) → HasTightParagraphs tight (stretches text begin r more)
stretches_tight tight text begin r [] = stretch_tight tight text begin (words_end r) Nil tt
stretches_tight tight text begin r (s ∷ more) = search (rules, stretch_tight, stretches_tight tight text begin s more, stretches_tight tight text (begin_of s) s more)

paragraph_tight : (tight : Bool) (text : List ℕ) (r : Row) (more : List Row) → HasTightParagraphs tight (paragraph_tokens text r more)
paragraph_tight tight text r more = stretches_tight tight text (start_of r) r more

before_tight : (tight : Bool) (text : List ℕ) (at : ℕ) (d : BlockDocument) → HasTightParagraphs tight d → HasTightParagraphs tight (texts_before text at d)
before_tight tight text at Nil h = tt
before_tight tight text at (Node n inside after) h = grind (arith, stretch_tight, before_tight tight text at after h.2)

braces_tight : (tight : Bool) (text : List ℕ) (attributes : Bool) (cs : List Column) (d : BlockDocument) → HasTightParagraphs tight d → HasTightParagraphs tight (without_braces text attributes cs d)
braces_tight tight text attributes cs d h = grind (arith, before_tight)

setext_tight : (tight : Bool) (text : List ℕ) (attributes : Bool) (r : Row) (more : List Row) → HasTightParagraphs tight (setext_tokens text attributes r more)
setext_tight tight text attributes r more = braces_tight tight text attributes (content_of (r ∷ more)) (paragraph_tokens text r more) (paragraph_tight tight text r more)

html_piece : (tight owned : Bool) (bytes : List ℕ) (start end : ℕ) → IsElement tight (html_kind_of (record { owned = owned; bytes = bytes; start = start; end = end }))
html_piece tight true bytes start end = tt
html_piece tight false bytes start end = tt

html_then_tight : (tight : Bool) (ps : List Piece) (after : BlockDocument) → HasTightParagraphs tight after → HasTightParagraphs tight (html_then ps after)
html_then_tight tight [] after h = h
html_then_tight tight (p ∷ ps) after h = (html_piece tight p.owned p.bytes p.start p.end, tt, html_then_tight tight ps after h)

html_tight : (text : List ℕ) (tight : Bool) (rs : List Row) → HasTightParagraphs tight (html_tokens text rs)
html_tight text tight [] = tt
html_tight text tight (r ∷ rs) = html_then_tight tight (verbatim_line text r.columns r) (html_tokens text rs) (html_tight text tight rs)

cells_tight : (text : List ℕ) (tight : Bool) (columns at line_end : ℕ) (cells : List (List ℕ)) → HasTightParagraphs tight (cells_then text columns at line_end cells)
cells_tight text tight zero at line_end cells = tt
cells_tight text tight (suc columns) at line_end [] = (tt, tt, cells_tight text tight columns at line_end [])
cells_tight text tight (suc columns) at line_end (cell ∷ cells) = search (rules, stretch_tight, cells_tight text tight columns (suc (at + length cell)) line_end cells)

row_tight : (text : List ℕ) (tight : Bool) (columns : ℕ) (r : Row) → HasTightParagraphs tight (row_cells text columns r)
row_tight text tight columns r = cells_tight text tight columns (cells_start r) r.line_end (cells_of (words_of r))

rows_tight : (text : List ℕ) (tight : Bool) (columns : ℕ) (rs : List Row) → HasTightParagraphs tight (row_tokens text columns rs)
rows_tight text tight columns [] = tt
rows_tight text tight columns (r ∷ rs) = (tt, row_tight text false columns r, rows_tight text tight columns rs)

leaf_tight : (text : List ℕ) (options : Options) (lookup : Lookup) (tight : Bool) (leaf : Leaf) (first : Row) (more : List Row) (after : BlockDocument) → HasTightParagraphs tight after → HasTightParagraphs tight (leaf_then text options lookup leaf first more after)
leaf_tight text options lookup tight leaf first more after h = grind (arith, stretch_tight, texts_tight, html_tight, row_tight, rows_tight)

module _ (text : List ℕ) (options : Options) (lookup : Lookup) where
  -- if the list continues, the next node is its rest
  pub record Rest (tight : Bool) (d : BlockDocument) : Type 0 where
    pub list : BlockNode
    pub items : BlockDocument
    pub after : BlockDocument
    pub is : d ≡ Node list items after
    pub kind : (z : Bool) → tight_within z list.kind ≡ tight

  if_true : (b x y : Bool) → b ≡ true → (if b then x else y) ≡ x
  if_true b x y e = rw e refl

  eqb_sym : (a b : ℕ) → (a == b) ≡ true → (b == a) ≡ true
  eqb_sym a b e = grind (arith)

  is_both : (a b : Bool) → (a && b) ≡ true → (a ≡ true) × (b ≡ true)
  is_both true b e = (refl, e)
  is_both false b e = absurd (true≢false (sym e))

  list_within : (delimiter : ℕ) (number : Option ℕ) (tight z : Bool) → tight_within z (list_kind delimiter number tight) ≡ tight
  list_within delimiter number tight z = grind arith

  list_element : (delimiter : ℕ) (number : Option ℕ) (tight z : Bool) → IsElement z (list_kind delimiter number tight)
  list_element delimiter number tight z = grind arith

  rest_of_item : (joins : Bool) (list : BlockKind) (tight : Bool) (item : BlockNode) (inside after : BlockDocument) → ((z : Bool) → tight_within z list ≡ tight) → Rest tight (item_then joins list item inside after)
  rest_of_item joins list tight item inside after k = grind arith

  pub rest_of : (direct tight : Bool) (delimiter : ℕ) (b : Blocks) → goes_on delimiter b ≡ true → Rest tight (document_of text options lookup direct (Some (record { delimiter = delimiter; tight = tight })) b)
  rest_of direct tight delimiter NoBlocks e = absurd (true≢false (sym e))
  rest_of direct tight delimiter (BlankLine line after) e = rest_of direct tight delimiter after e
  rest_of direct tight delimiter (ParagraphBlock first more after) e = grind (arith, is_both, if_true, eqb_sym, rest_of_item)
  rest_of direct tight delimiter (ContainerBlock (BlockQuote alert) first more inside after) e = absurd (true≢false (sym e))
  rest_of direct tight delimiter (ContainerBlock (Footnote label old size) first more inside after) e = absurd (true≢false (sym e))
  rest_of direct tight delimiter (ContainerBlock (Item m number width task) first more inside after) e = grind (arith, if_true, eqb_sym, rest_of_item, list_within)
  rest_of direct tight delimiter (ContainerBlock (ListDefinition width) first more inside after) e = grind (arith, if_true, eqb_sym, rest_of_item)
  rest_of direct tight delimiter _ e = absurd (true≢false (sym e))

  item_tight : (direct joins : Bool) (list : BlockKind) (tight within : Bool) (item : BlockNode) (inside after : BlockDocument) → IsElement direct list → ((z : Bool) → tight_within z list ≡ tight) → IsElement tight item.kind → tight_within tight item.kind ≡ within
      → (joins ≡ true → Rest tight after) → HasTightParagraphs within inside → HasTightParagraphs direct after → HasTightParagraphs direct (item_then joins list item inside after)
  item_tight direct joins list tight within item inside after l t k w rest i a = grind arith

  -- a paragraph, as a title or as itself
  title_tight : (is_title direct tight : Bool) (start end : ℕ) (inside after following : BlockDocument) → (is_title ≡ true → Rest tight after) → HasTightParagraphs false inside → HasTightParagraphs direct after → HasTightParagraphs direct following
      → HasTightParagraphs direct (if is_title then item_then true (DefinitionList tight) (node DefinitionListTitle start end) inside after else Node (node (paragraph_kind direct) start end) inside following)
  title_tight is_title direct tight start end inside after following rest i a b = grind (arith, item_tight)

  -- a definition follows a title, and continues its list
  pub title_goes_on : (b : Blocks) → is_title b ≡ true → goes_on definition_delimiter b ≡ true
  title_goes_on (BlankLine line after) e = title_goes_on after e
  title_goes_on (ParagraphBlock first more after) e = absurd (true≢false (sym e))
  title_goes_on (ContainerBlock (BlockQuote alert) first more inside after) e = e
  title_goes_on (ContainerBlock (Footnote label old size) first more inside after) e = e
  title_goes_on (ContainerBlock (Item delimiter number width task) first more inside after) e = absurd (true≢false (sym e))
  title_goes_on (ContainerBlock (ListDefinition width) first more inside after) e = refl
  title_goes_on _ e = e

  pub document-tight : (direct : Bool) (before : Option ListBefore) (b : Blocks) → HasTightParagraphs direct (document_of text options lookup direct before b)
  document-tight direct before NoBlocks = tt
  document-tight direct before (BlankLine line after) = document-tight direct before after
  document-tight direct before (ParagraphBlock first more after) =
      let tight = title_tight_after before after in
      title_tight (is_title after) direct tight (start_of first) (last_line_end first more) (paragraph_tokens text first more)
      (document_of text options lookup direct (Some (record { delimiter = definition_delimiter; tight = tight })) after) (document_of text options lookup direct None after)
      (λ e. rest_of direct tight definition_delimiter after (title_goes_on after e)) (paragraph_tight false text first more)
      (document-tight direct (Some (record { delimiter = definition_delimiter; tight = tight })) after) (document-tight direct None after)
  document-tight direct before (SetextHeading level first more underline after) = (tt, setext_tight false text options.heading_attributes first more, document-tight direct None after)
  document-tight direct before (LeafBlock leaf first more after) = leaf_tight text options lookup direct leaf first more (document_of text options lookup direct None after) (document-tight direct None after)
  document-tight direct before (ContainerBlock (BlockQuote alert) first more inside after) = (tt, document-tight false None inside, document-tight direct None after)
  document-tight direct before (ContainerBlock (Footnote label old size) first more inside after) = (tt, document-tight false None inside, document-tight direct None after)
  document-tight direct before (ContainerBlock (Item delimiter number width task) first more inside after) =
      let tight = tight_after before delimiter inside after in
      item_tight direct (goes_on delimiter after) (list_kind delimiter number tight) tight tight (node ListItem (begin_of first) (last_line_end first more)) (task_then task (begin_of (without width first)) (begin_of (without (after_box task width) first)) (document_of text options lookup tight None inside)) (document_of text options lookup direct (Some (record { delimiter = delimiter; tight = tight })) after)
      (list_element delimiter number tight direct) (list_within delimiter number tight) tt refl
      (rest_of direct tight delimiter after) (task-tight tight task _ _ (document_of text options lookup tight None inside) (document-tight tight None inside)) (document-tight direct (Some (record { delimiter = delimiter; tight = tight })) after)
  document-tight direct before (ContainerBlock (ListDefinition width) first more inside after) =
      let tight = tight_after before definition_delimiter inside after in
      item_tight direct (goes_on definition_delimiter after) (DefinitionList tight) tight tight (node DefinitionListDefinition (begin_of first) (last_line_end first more)) (document_of text options lookup tight None inside) (document_of text options lookup direct (Some (record { delimiter = definition_delimiter; tight = tight })) after)
      tt (λ z. refl) tt refl
      (rest_of direct tight definition_delimiter after) (document-tight tight None inside) (document-tight direct (Some (record { delimiter = definition_delimiter; tight = tight })) after)

pub derived-tight : (text : List ℕ) (options : Options) (lookup : Lookup) (d : BlockDocument) → Derives text options lookup d → HasTightParagraphs false d
derived-tight text options lookup d h = subst (HasTightParagraphs false) (sym h.2) (document-tight text options lookup false None h.0)
