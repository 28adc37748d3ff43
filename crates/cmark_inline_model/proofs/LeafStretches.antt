-- A property of the stretches of each paragraph holds of each leaf of a document that is derived, if it also holds of at most one stretch,
-- and of stretches that are cut at an offset.
use Rattle.std.specs.Prelude.{if◌then◌else◌}
use Rattle.std.proofs.Common.{◌≡◌, ℕ, zero, suc, ◌+◌, ◌<◌, Bool, true, false, List, [], ◌∷◌, ◌++◌, length, drop, refl, sym, ◌∙◌, subst, arith, Option, Some, None, true≢false, rules}
use Rattle.cmark_grammar.specs.Answers.{Lookup}
use Rattle.cmark_grammar.specs.BlockDocument.{BlockKind, ListItem, BlockNode, BlockDocument, Nil, Node, node, DefinitionList, DefinitionListTitle, DefinitionListDefinition}
use Rattle.cmark_grammar.specs.BlockReading.{Reads, First, starts_before, over, first_event, read_as}
use Rattle.cmark_grammar.specs.Blocks.{Blocks, Nil as NoBlocks, BlankLine, Paragraph as ParagraphBlock, SetextHeading, LeafBlock, ContainerBlock, AreText, Body, after_leaf, place_in}
use Rattle.cmark_grammar.specs.Columns.{Column}
use Rattle.cmark_grammar.specs.Containers.{Container, BlockQuote, Item, Footnote, ListDefinition, insides}
use Rattle.cmark_grammar.specs.Derivation.{leaf_then, item_then, task_then, document_of, Derives, list_kind, paragraph_kind}
use Rattle.cmark_grammar.specs.Event.{Ranged}
use Rattle.cmark_grammar.specs.LeafText.{Stretch}
use Rattle.cmark_grammar.specs.Lists.{ListBefore, tight_after, goes_on, definition_delimiter, is_title, title_tight_after}
use Rattle.cmark_grammar.specs.Metadata.{ends_metadata}
use Rattle.cmark_grammar.specs.Openings.{Leaf, AtxHeading as AtxHeadingLeaf, IndentedCode as IndentedCodeLeaf, FencedCode as FencedCodeLeaf, HtmlBlock as HtmlBlockLeaf, MetadataBlock as MetadataBlockLeaf, Table as TableLeaf}
use Rattle.cmark_grammar.specs.Options.{Options}
use Rattle.cmark_grammar.specs.Places.{Place, Apart, AfterTitle, over_blank}
use Rattle.cmark_grammar.specs.Rows.{Row, rows, without, first_place, begin_of, start_of, last_line_end, words_of}
use Rattle.cmark_grammar.specs.SetextAttributes.{content_of, texts_before, without_braces, setext_tokens}
use Rattle.cmark_grammar.specs.SpanDocuments.{Segment, Given, Content, stretches_of, is_leaf, inside_of, node_segments, first_of_segments, with_first_segment, segments}
use Rattle.cmark_grammar.specs.TableRows.{cells_start, cells_of}
use Rattle.cmark_grammar.specs.TableTokens.{cells_then, row_cells, row_tokens, table_tokens}
use Rattle.cmark_grammar.specs.TaskItems.{after_box}
use Rattle.cmark_grammar.specs.Tokens.{Piece, texts_then, text_kind_of, html_kind_of, html_then, code_tokens, html_tokens, fenced_lines, lines_before, piece_if, stretch_then, stretches, end_place, words_end, paragraph_tokens, heading_tokens, after_hashes, heading_columns}

-- ## Texts are no leaves

abbrev AreTexts : BlockDocument → Type 0
AreTexts Nil = Unit {0}
AreTexts (Node node inside after) = (is_leaf node.kind ≡ false) × (inside ≡ Nil) × AreTexts after

text_kind : (p : Piece) → is_leaf (text_kind_of p) ≡ false
text_kind p = grind arith

html_kind : (p : Piece) → is_leaf (html_kind_of p) ≡ false
html_kind p = grind arith

pieces_are_texts : (ps : List Piece) (after : BlockDocument) → AreTexts after → AreTexts (texts_then ps after)
pieces_are_texts [] after h = h
pieces_are_texts (p ∷ ps) after h = (text_kind p, refl, pieces_are_texts ps after h)

html_are_texts : (ps : List Piece) (after : BlockDocument) → AreTexts after → AreTexts (html_then ps after)
html_are_texts [] after h = h
html_are_texts (p ∷ ps) after h = (html_kind p, refl, html_are_texts ps after h)

list_no_leaf : (delimiter : ℕ) (number : Option ℕ) (tight : Bool) → is_leaf (list_kind delimiter number tight) ≡ false
list_no_leaf delimiter number tight = grind arith

module _ (text : List ℕ) where
  stretches_are_texts : (begin : ℕ) (r : Row) (more : List Row) → AreTexts (stretches text begin r more)
  stretches_are_texts begin r [] = pieces_are_texts (piece_if text begin (words_end r) []) Nil tt
  stretches_are_texts begin r (s ∷ more) = search (rules, pieces_are_texts, stretches_are_texts begin s more, stretches_are_texts (begin_of s) s more)

  before_are_texts : (at : ℕ) (d : BlockDocument) → AreTexts d → AreTexts (texts_before text at d)
  before_are_texts at Nil h = tt
  before_are_texts at (Node n inside after) h = grind (arith, pieces_are_texts, before_are_texts at after h.2)

  braces_are_texts : (attributes : Bool) (cs : List Column) (d : BlockDocument) → AreTexts d → AreTexts (without_braces text attributes cs d)
  braces_are_texts attributes cs d h = grind (arith, before_are_texts)

  heading_are_texts : (attributes : Bool) (level : ℕ) (r : Row) → AreTexts (heading_tokens text attributes level r)
  heading_are_texts attributes level r =
      let start = first_place r.content_end (after_hashes level r) in pieces_are_texts (piece_if text start (end_place start (heading_columns attributes level r)) []) Nil tt

  html_tokens_are_texts : (rows : List Row) → AreTexts (html_tokens text rows)
  html_tokens_are_texts [] = tt
  html_tokens_are_texts (r ∷ more) = html_are_texts _ (html_tokens text more) (html_tokens_are_texts more)

-- ## Documents

-- it holds of the stretches of each leaf
abbrev pub AllLeaves : (List Stretch → Type 0) → List Segment → Type 0
AllLeaves Holds [] = Unit {0}
AllLeaves Holds (Given r ∷ others) = AllLeaves Holds others
AllLeaves Holds (Content leaf ∷ others) = Holds leaf.stretches × AllLeaves Holds others

-- a property of some lines, and the property that the stretches of a paragraph or a heading then have
pub record KeepsStretches (text : List ℕ) (options : Options) (Holds : List Stretch → Type 0) (AreRows : List Row → Type 0) : Type 0 where
  pub none : Holds []
  pub one : (start end : ℕ) → start < end → Holds (record { start = start; end = end } ∷ [])
  pub paragraph : (first : Row) (more rest : List Row) → AreRows (first ∷ (more ++ rest)) → AreText options more rest → Holds (stretches_of (paragraph_tokens text first more))
  pub cut : (at : ℕ) (d : BlockDocument) → Holds (stretches_of d) → Holds (stretches_of (texts_before text at d))
  pub following : (r : Row) (rs : List Row) → AreRows (r ∷ rs) → AreRows rs
  pub inside : (k : Container) (first : Row) (more rest : List Row) → AreRows (first ∷ (more ++ rest)) → AreRows (insides k first more)

module _ (text : List ℕ) (options : Options) (Holds : List Stretch → Type 0) (AreRows : List Row → Type 0) (keeps : KeepsStretches text options Holds AreRows) where
  -- it holds of the paragraphs, the headings and the cells of a document
  abbrev AreHeld : BlockDocument → Type 0
  AreHeld Nil = Unit {0}
  AreHeld (Node node inside after) = (is_leaf node.kind ≡ true → Holds (stretches_of inside)) × AreHeld inside × AreHeld after

  no_leaf : (inside : BlockDocument) → false ≡ true → Holds (stretches_of inside)
  no_leaf inside e = absurd (true≢false (sym e))

  rows_following : (a b : List Row) → AreRows (a ++ b) → AreRows b
  rows_following [] b h = h
  rows_following (r ∷ a) b h = rows_following a b (keeps.following r (a ++ b) h)

  texts_held : (document : BlockDocument) → AreTexts document → AreHeld document
  texts_held Nil h = tt
  texts_held (Node node inside after) h = ((λ e. absurd (true≢false (sym e ∙ h.0))), subst AreHeld (sym h.1) tt, texts_held after h.2)

  stretch_held : (start end : ℕ) → Holds (stretches_of (stretch_then text start end Nil))
  stretch_held start end = grind arith

  braces_held : (attributes : Bool) (cs : List Column) (d : BlockDocument) → Holds (stretches_of d) → Holds (stretches_of (without_braces text attributes cs d))
  braces_held attributes cs d h = grind arith

  cells_held : (columns at line_end : ℕ) (cells : List (List ℕ)) → AreHeld (cells_then text columns at line_end cells)
  cells_held zero at line_end cells = tt
  cells_held (suc columns) at line_end [] = ((λ e. keeps.none), tt, cells_held columns at line_end [])
  cells_held (suc columns) at line_end (cell ∷ cells) = search (rules, stretch_held, texts_held, pieces_are_texts, cells_held columns (suc (at + length cell)) line_end cells)

  row_held : (columns : ℕ) (r : Row) → AreHeld (row_cells text columns r)
  row_held columns r = cells_held columns (cells_start r) r.line_end (cells_of (words_of r))

  rows_held : (columns : ℕ) (rs : List Row) → AreHeld (row_tokens text columns rs)
  rows_held columns [] = tt
  rows_held columns (r ∷ rs) = (no_leaf (row_cells text columns r), row_held columns r, rows_held columns rs)

  leaf_held : (lookup : Lookup) (leaf : Leaf) (first : Row) (more : List Row) (after : BlockDocument) → AreHeld after → AreHeld (leaf_then text options lookup leaf first more after)
  leaf_held lookup (AtxHeadingLeaf level) first more after a = grind (arith, stretch_held, texts_held, heading_are_texts)
  leaf_held lookup IndentedCodeLeaf first more after a =
      let inside = code_tokens text 4 (first ∷ more) in (no_leaf inside, texts_held inside (pieces_are_texts _ Nil tt), a)
  leaf_held lookup (FencedCodeLeaf fence) first more after a =
      let inside = code_tokens text fence.indented (fenced_lines fence more) in (no_leaf inside, texts_held inside (pieces_are_texts _ Nil tt), a)
  leaf_held lookup (HtmlBlockLeaf kind) first more after a =
      let inside = html_tokens text (first ∷ more) in (no_leaf inside, texts_held inside (html_tokens_are_texts text (first ∷ more)), a)
  leaf_held lookup (MetadataBlockLeaf kind) first more after a =
      let inside = code_tokens text 0 (lines_before (ends_metadata kind) more) in (no_leaf inside, texts_held inside (pieces_are_texts _ Nil tt), a)
  leaf_held lookup (TableLeaf alignments) first more after a =
      (no_leaf (table_tokens text (length alignments) first more), (no_leaf (row_cells text (length alignments) first), row_held (length alignments) first, rows_held (length alignments) (drop 1 more)), a)
  leaf_held lookup _ first more after a = (no_leaf Nil, tt, a)

  item_held : (joins : Bool) (list : BlockKind) (item : BlockNode) (inside after : BlockDocument) → is_leaf list ≡ false → (is_leaf item.kind ≡ true → Holds (stretches_of inside)) → AreHeld inside → AreHeld after
      → AreHeld (item_then joins list item inside after)
  item_held joins list item inside after l e i a = grind arith

  -- a paragraph, as a title or as itself
  title_held : (is_title tight : Bool) (other : BlockKind) (start end : ℕ) (inside after following : BlockDocument) → Holds (stretches_of inside) → AreHeld inside → AreHeld after → AreHeld following
      → AreHeld (if is_title then item_then true (DefinitionList tight) (node DefinitionListTitle start end) inside after else Node (node other start end) inside following)
  title_held true tight other start end inside after following e i a b = item_held true (DefinitionList tight) (node DefinitionListTitle start end) inside after refl (λ f. e) i a
  title_held false tight other start end inside after following e i a b = ((λ f. e), i, b)

  task_held : (task : Option Bool) (start end : ℕ) (inside : BlockDocument) → AreHeld inside → AreHeld (task_then task start end inside)
  task_held None start end inside h = h
  task_held (Some is_checked) start end inside h = (λ e. absurd (true≢false (sym e)), tt, h)

  document_held : (lookup : Lookup) (direct : Bool) (before : Option ListBefore) (following : Place) (all : List Row) (b : Blocks) → Body options following all b → AreRows all → AreHeld (document_of text options lookup direct before b)
  document_held lookup direct before following all NoBlocks body g = tt
  document_held lookup direct before following all (BlankLine line after) body g =
      let c : AreRows (line ∷ body.rest) = subst AreRows body.cut g in
      document_held lookup direct before (over_blank following) body.rest after body.after (keeps.following line body.rest c)
  document_held lookup direct before following all (ParagraphBlock first more after) body g =
      let c : AreRows (first ∷ (more ++ body.rest)) = subst AreRows body.cut g in
      let s = rows_following (first ∷ more) body.rest c in
      let tight = title_tight_after before after in
      title_held (is_title after) tight (paragraph_kind direct) (start_of first) (last_line_end first more) (paragraph_tokens text first more)
      (document_of text options lookup direct (Some (record { delimiter = definition_delimiter; tight = tight })) after) (document_of text options lookup direct None after)
      (keeps.paragraph first more body.rest c body.others) (texts_held (paragraph_tokens text first more) (stretches_are_texts text (start_of first) first more))
      (document_held lookup direct (Some (record { delimiter = definition_delimiter; tight = tight })) AfterTitle body.rest after body.after s)
      (document_held lookup direct None AfterTitle body.rest after body.after s)
  document_held lookup direct before following all (SetextHeading level first more underline after) body g =
      let c : AreRows (first ∷ (more ++ (underline ∷ body.rest))) = subst AreRows body.cut g in
      let s = rows_following (first ∷ more) (underline ∷ body.rest) c in (
        (λ e. braces_held options.heading_attributes (content_of (first ∷ more)) (paragraph_tokens text first more) (keeps.paragraph first more (underline ∷ body.rest) c body.others)),
        texts_held (setext_tokens text options.heading_attributes first more) (braces_are_texts text options.heading_attributes (content_of (first ∷ more)) (paragraph_tokens text first more) (stretches_are_texts text (start_of first) first more)),
        document_held lookup direct None Apart body.rest after body.after (keeps.following underline body.rest s),
      )
  document_held lookup direct before following all (LeafBlock leaf first more after) body g =
      let c : AreRows (first ∷ (more ++ body.rest)) = subst AreRows body.cut g in
      let s = rows_following (first ∷ more) body.rest c in
      leaf_held lookup leaf first more (document_of text options lookup direct None after) (document_held lookup direct None (after_leaf leaf) body.rest after body.after s)
  document_held lookup direct before following all (ContainerBlock (BlockQuote alert) first more inside after) body g =
      let c : AreRows (first ∷ (more ++ body.rest)) = subst AreRows body.cut g in
      let s = rows_following (first ∷ more) body.rest c in (
        no_leaf (document_of text options lookup false None inside),
        document_held lookup false None (place_in (BlockQuote alert)) (insides (BlockQuote alert) first more) inside body.contents (keeps.inside (BlockQuote alert) first more body.rest c),
        document_held lookup direct None Apart body.rest after body.after s,
      )
  document_held lookup direct before following all (ContainerBlock (Footnote label old size) first more inside after) body g =
      let c : AreRows (first ∷ (more ++ body.rest)) = subst AreRows body.cut g in
      let s = rows_following (first ∷ more) body.rest c in (
        no_leaf (document_of text options lookup false None inside),
        document_held lookup false None (place_in (Footnote label old size)) (insides (Footnote label old size) first more) inside body.contents (keeps.inside (Footnote label old size) first more body.rest c),
        document_held lookup direct None Apart body.rest after body.after s,
      )
  document_held lookup direct before following all (ContainerBlock (Item delimiter number width task) first more inside after) body g =
      let c : AreRows (first ∷ (more ++ body.rest)) = subst AreRows body.cut g in
      let s = rows_following (first ∷ more) body.rest c in
      let tight = tight_after before delimiter inside after in
      item_held (goes_on delimiter after) (list_kind delimiter number tight) (node ListItem (begin_of first) (last_line_end first more))
      (task_then task (begin_of (without width first)) (begin_of (without (after_box task width) first)) (document_of text options lookup tight None inside))
      (document_of text options lookup direct (Some (record { delimiter = delimiter; tight = tight })) after) (list_no_leaf delimiter number tight) (λ f. absurd (true≢false (sym f)))
      (task_held task (begin_of (without width first)) (begin_of (without (after_box task width) first)) (document_of text options lookup tight None inside)
      (document_held lookup tight None (place_in (Item delimiter number width task)) (insides (Item delimiter number width task) first more) inside body.contents (keeps.inside (Item delimiter number width task) first more body.rest c)))
      (document_held lookup direct (Some (record { delimiter = delimiter; tight = tight })) Apart body.rest after body.after s)
  document_held lookup direct before following all (ContainerBlock (ListDefinition width) first more inside after) body g =
      let c : AreRows (first ∷ (more ++ body.rest)) = subst AreRows body.cut g in
      let s = rows_following (first ∷ more) body.rest c in
      let tight = tight_after before definition_delimiter inside after in
      item_held (goes_on definition_delimiter after) (DefinitionList tight) (node DefinitionListDefinition (begin_of first) (last_line_end first more)) (document_of text options lookup tight None inside)
      (document_of text options lookup direct (Some (record { delimiter = definition_delimiter; tight = tight })) after) refl (λ f. absurd (true≢false (sym f)))
      (document_held lookup tight None (place_in (ListDefinition width)) (insides (ListDefinition width) first more) inside body.contents (keeps.inside (ListDefinition width) first more body.rest c))
      (document_held lookup direct (Some (record { delimiter = definition_delimiter; tight = tight })) AfterTitle body.rest after body.after s)

  -- ## Leaves

  leaves_append : (a b : List Segment) → AllLeaves Holds a → AllLeaves Holds b → AllLeaves Holds (a ++ b)
  leaves_append [] b h k = k
  leaves_append (Given r ∷ a) b h k = leaves_append a b h k
  leaves_append (Content leaf ∷ a) b h k = (h.0, leaves_append a b h.1 k)

  inside_leaves : (kind : BlockKind) (content : BlockDocument) (others : List Segment) → (is_leaf kind ≡ true → Holds (stretches_of content)) → AllLeaves Holds others → AllLeaves Holds (inside_of kind content others)
  inside_leaves kind content others h k = grind arith

  node_leaves : (reads : Reads) (node : BlockNode) (inside : List Segment) → AllLeaves Holds inside → AllLeaves Holds (node_segments reads node inside)
  node_leaves reads node inside h = grind (arith, leaves_append)

  first_leaves : (element : ℕ) (r : Ranged) (others : List Segment) → AllLeaves Holds others → AllLeaves Holds (first_of_segments element (Given r) others)
  first_leaves zero r others h = h
  first_leaves (suc element) r [] h = tt
  first_leaves (suc element) r (Given x ∷ others) h = first_leaves element r others h
  first_leaves (suc element) r (Content leaf ∷ others) h = (h.0, first_leaves element r others h.1)

  with_leaves : (reads : Reads) (element : ℕ) (at : BlockNode) (others : List Segment) → AllLeaves Holds others → AllLeaves Holds (with_first_segment (first_event reads) element at others)
  with_leaves (First event) element at others h = first_leaves element (over at event) others h
  with_leaves _ element at others h = h

  segments_leaves : (document : BlockDocument) → AreHeld document → AllLeaves Holds (segments document)
  segments_leaves Nil h = tt
  segments_leaves (Node node inside after) h =
      let own = inside_of node.kind inside (segments inside) in
      with_leaves (read_as node.kind) (starts_before after) node (node_segments (read_as node.kind) node own ++ segments after)
      (leaves_append (node_segments (read_as node.kind) node own) (segments after)
      (node_leaves (read_as node.kind) node own (inside_leaves node.kind inside (segments inside) h.0 (segments_leaves inside h.1)))
      (segments_leaves after h.2))

  -- the leaves of any lines
  pub lines-leaves : (lookup : Lookup) (all : List Row) (b : Blocks) → Body options Apart all b → AreRows all → AllLeaves Holds (segments (document_of text options lookup false None b))
  lines-leaves lookup all b body g = segments_leaves (document_of text options lookup false None b) (document_held lookup false None Apart all b body g)

  pub derived-leaves : (lookup : Lookup) (document : BlockDocument) → Derives text options lookup document → AreRows (rows text) → AllLeaves Holds (segments document)
  derived-leaves lookup document h g =
      segments_leaves document (subst AreHeld (sym h.2) (document_held lookup false None Apart (rows text) h.0 h.1 g))
