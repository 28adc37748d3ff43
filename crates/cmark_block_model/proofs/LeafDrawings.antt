-- What is drawn has the events and the leaves of the document.
use Rattle.std.proofs.Common.{◌≡◌, ℕ, zero, suc, ◌+◌, ◌*◌, ◌≤◌, Bool, true, false, ◌==◌, nat_lt, if◌then◌else◌, List, [], ◌∷◌, ◌++◌, length, drop, take_while, Option, None, Some, refl, ap, ◌∙◌, sym, subst, arith, length-append}
use Rattle.cmark_grammar.specs.Answers.{Lookup}
use Rattle.cmark_grammar.specs.Options.{Options}
use Rattle.cmark_grammar.specs.Event.{End}
use Rattle.cmark_grammar.specs.TagEnd.{end_of}
use Rattle.cmark_grammar.specs.Rows.{Row, without, first_place, begin_of, start_of, last_line_end, words_of}
use Rattle.cmark_grammar.specs.Containers.{BlockQuote, Item, Footnote, ListDefinition}
use Rattle.cmark_grammar.specs.Openings.{Leaf, AtxHeading as AtxHeadingLeaf, IndentedCode as IndentedCodeLeaf, FencedCode as FencedCodeLeaf, HtmlBlock as HtmlBlockLeaf, MetadataBlock as MetadataBlockLeaf, Table as TableLeaf}
use Rattle.cmark_grammar.specs.Blocks.{Blocks, Nil as NoBlocks, BlankLine, Paragraph as ParagraphBlock, SetextHeading, LeafBlock, ContainerBlock}
use Rattle.cmark_grammar.specs.Lists.{ListBefore, tight_after, goes_on, definition_delimiter, is_title, title_tight_after}
use Rattle.cmark_grammar.specs.Tokens.{Piece, end_place, piece_if, texts_then, words_end, stretch_then, stretches, html_then, html_tokens, verbatim_line, after_hashes, heading_columns, code_pieces, fenced_lines, lines_before, paragraph_tokens}
use Rattle.cmark_grammar.specs.Columns.{is_blank_byte, drop_end}
use Rattle.cmark_grammar.specs.SetextAttributes.{content_of, ends_in_braces, attributes_place, texts_before, texts_if, setext_tokens}
use Rattle.cmark_grammar.specs.TableRows.{cells_start, cells_of}
use Rattle.cmark_grammar.specs.TableTokens.{cells_then, row_cells, row_tokens}
use Rattle.cmark_grammar.specs.BlockDocument.{Text, OwnedText, ListItem, BlockKind, BlockNode, BlockDocument, Nil, Node, node, BlockList, DefinitionList, DefinitionListTitle, DefinitionListDefinition}
use Rattle.cmark_grammar.specs.BlockReading.{Reads, Around, Inside, First, read_as, over, first_event, starts_before}
use Rattle.cmark_grammar.specs.Derivation.{Derives, leaf_then, item_then, task_then, document_of, list_kind, paragraph_kind}
use Rattle.cmark_block_model.specs.DocumentModel.{document}
use Rattle.cmark_block_model.specs.DrawnDocument.{is_definition, node_unless, settled, without_definitions}
use Rattle.cmark_grammar.specs.LeafText.{Stretch}
use Rattle.cmark_block_model.specs.Ranges.{count_nodes, count_tables}
use Rattle.cmark_grammar.specs.SpanDocuments.{Segment, Given, Content, is_leaf, is_cell, leaf_of, stretches_of, inside_of, node_segments, first_of_segments, with_first_segment, segments}
use Rattle.cmark_grammar.specs.TaskItems.{after_box}
use Rattle.cmark_grammar.specs.Metadata.{ends_metadata}
use Rattle.cmark_block_model.proofs.CountLaws.{derived-count, derived-tables}
use Rattle.cmark_block_model.specs.BlockPass.{pass_over}
use Rattle.cmark_block_model.proofs.Drawings.{derived, silent, whole-begins}
use Rattle.cmark_block_model.proofs.Theorem.{pass-draws}

-- these nodes contain no definition
abbrev AreNoDefinitions : BlockDocument → Type 0
AreNoDefinitions Nil = Unit {0}
AreNoDefinitions (Node n inside after) = (is_definition n.kind ≡ false) × AreNoDefinitions after

-- the leaves contain no definition
abbrev pub HasWholeLeaves : BlockDocument → Type 0
HasWholeLeaves Nil = Unit {0}
HasWholeLeaves (Node n inside after) = (is_leaf n.kind ≡ true → AreNoDefinitions inside) × HasWholeLeaves inside × HasWholeLeaves after

texts-free : (ps : List Piece) (after : BlockDocument) → AreNoDefinitions after → AreNoDefinitions (texts_then ps after)
texts-free [] after h = h
texts-free (p ∷ ps) after h = (kind p.owned, texts-free ps after h)
  where
    kind : (z : Bool) → is_definition (if z then OwnedText p.bytes else Text p.bytes) ≡ false
    kind true = refl
    kind false = refl

stretch-free : (text : List ℕ) (start end : ℕ) (after : BlockDocument) → AreNoDefinitions after → AreNoDefinitions (stretch_then text start end after)
stretch-free text start end after h = texts-free (piece_if text start end []) after h

stretches-free : (text : List ℕ) (begin : ℕ) (r : Row) (more : List Row) → AreNoDefinitions (stretches text begin r more)
stretches-free text begin r [] = stretch-free text begin (words_end r) Nil tt
stretches-free text begin r (s ∷ more) = go (begin_of s == r.line_end) (stretches-free text begin s more) (stretches-free text (begin_of s) s more)
  where
    go : (z : Bool) → AreNoDefinitions (stretches text begin s more) → AreNoDefinitions (stretches text (begin_of s) s more)
        → AreNoDefinitions (if z then stretches text begin s more else stretch_then text begin r.line_end (stretches text (begin_of s) s more))
    go true p q = p
    go false p q = stretch-free text begin r.line_end (stretches text (begin_of s) s more) q

texts-whole : (ps : List Piece) (after : BlockDocument) → HasWholeLeaves after → HasWholeLeaves (texts_then ps after)
texts-whole [] after h = h
texts-whole (p ∷ ps) after h = (λ e. tt, tt, texts-whole ps after h)

stretch-whole : (text : List ℕ) (start end : ℕ) (after : BlockDocument) → HasWholeLeaves after → HasWholeLeaves (stretch_then text start end after)
stretch-whole text start end after h = texts-whole (piece_if text start end []) after h

stretches-whole : (text : List ℕ) (begin : ℕ) (r : Row) (more : List Row) → HasWholeLeaves (stretches text begin r more)
stretches-whole text begin r [] = stretch-whole text begin (words_end r) Nil tt
stretches-whole text begin r (s ∷ more) = go (begin_of s == r.line_end) (stretches-whole text begin s more) (stretches-whole text (begin_of s) s more)
  where
    go : (z : Bool) → HasWholeLeaves (stretches text begin s more) → HasWholeLeaves (stretches text (begin_of s) s more)
        → HasWholeLeaves (if z then stretches text begin s more else stretch_then text begin r.line_end (stretches text (begin_of s) s more))
    go true p q = p
    go false p q = stretch-whole text begin r.line_end (stretches text (begin_of s) s more) q

before-free : (text : List ℕ) (at : ℕ) (d : BlockDocument) → AreNoDefinitions d → AreNoDefinitions (texts_before text at d)
before-free text at Nil h = tt
before-free text at (Node n inside after) h = go (nat_lt n.end at) (before-free text at after h.1)
  where
    go : (z : Bool) → AreNoDefinitions (texts_before text at after) → AreNoDefinitions (if z then Node n inside (texts_before text at after) else stretch_then text n.start at Nil)
    go true ih = (h.0, ih)
    go false ih = stretch-free text n.start at Nil tt

before-whole : (text : List ℕ) (at : ℕ) (d : BlockDocument) → HasWholeLeaves d → HasWholeLeaves (texts_before text at d)
before-whole text at Nil h = tt
before-whole text at (Node n inside after) h = go (nat_lt n.end at) (before-whole text at after h.2)
  where
    go : (z : Bool) → HasWholeLeaves (texts_before text at after) → HasWholeLeaves (if z then Node n inside (texts_before text at after) else stretch_then text n.start at Nil)
    go true ih = (h.0, h.1, ih)
    go false ih = stretch-whole text n.start at Nil tt

-- the content of a setext heading
setext-free : (text : List ℕ) (attributes : Bool) (r : Row) (more : List Row) → AreNoDefinitions (setext_tokens text attributes r more) × HasWholeLeaves (setext_tokens text attributes r more)
setext-free text false r more = (stretches-free text (start_of r) r more, stretches-whole text (start_of r) r more)
setext-free text true r more = go (ends_in_braces (content_of (r ∷ more)))
  where
    go : (z : Bool) → let d = texts_if z text (attributes_place (content_of (r ∷ more))) (paragraph_tokens text r more) in AreNoDefinitions d × HasWholeLeaves d
    go true = (
      before-free text (attributes_place (content_of (r ∷ more))) (paragraph_tokens text r more) (stretches-free text (start_of r) r more),
      before-whole text (attributes_place (content_of (r ∷ more))) (paragraph_tokens text r more) (stretches-whole text (start_of r) r more),
    )
    go false = (stretches-free text (start_of r) r more, stretches-whole text (start_of r) r more)

html-then-whole : (ps : List Piece) (after : BlockDocument) → HasWholeLeaves after → HasWholeLeaves (html_then ps after)
html-then-whole [] after h = h
html-then-whole (p ∷ ps) after h = (λ e. tt, tt, html-then-whole ps after h)

html-whole : (text : List ℕ) (rs : List Row) → HasWholeLeaves (html_tokens text rs)
html-whole text [] = tt
html-whole text (r ∷ rs) = html-then-whole (verbatim_line text r.columns r) (html_tokens text rs) (html-whole text rs)

no-leaf : (kind : Bool) → kind ≡ false → (P : Type 0) → kind ≡ true → P
no-leaf kind e P f = absurd (let q : true ≡ false = sym f ∙ e in cc)

cells-whole : (text : List ℕ) (columns at line_end : ℕ) (cells : List (List ℕ)) → HasWholeLeaves (cells_then text columns at line_end cells)
cells-whole text zero at line_end cells = tt
cells-whole text (suc columns) at line_end [] = (λ e. tt, tt, cells-whole text columns at line_end [])
cells-whole text (suc columns) at line_end (cell ∷ cells) =
    let start = at + length (take_while is_blank_byte cell) in
    let end = at + length (drop_end is_blank_byte cell) in
    (λ e. stretch-free text start end Nil tt, stretch-whole text start end Nil tt, cells-whole text columns (suc (at + length cell)) line_end cells)

row-whole : (text : List ℕ) (columns : ℕ) (r : Row) → HasWholeLeaves (row_cells text columns r)
row-whole text columns r = cells-whole text columns (cells_start r) r.line_end (cells_of (words_of r))

rows-whole : (text : List ℕ) (columns : ℕ) (rs : List Row) → HasWholeLeaves (row_tokens text columns rs)
rows-whole text columns [] = tt
rows-whole text columns (r ∷ rs) = (λ e. no-leaf false refl _ e, row-whole text columns r, rows-whole text columns rs)

leaf-whole : (text : List ℕ) (options : Options) (lookup : Lookup) (leaf : Leaf) (first : Row) (more : List Row) (after : BlockDocument) → HasWholeLeaves after → HasWholeLeaves (leaf_then text options lookup leaf first more after)
leaf-whole text options lookup (AtxHeadingLeaf level) first more after h =
    let start = first_place first.content_end (after_hashes level first) in
    let end = end_place start (heading_columns options.heading_attributes level first) in
    (λ e. stretch-free text start end Nil tt, stretch-whole text start end Nil tt, h)
leaf-whole text options lookup IndentedCodeLeaf first more after h = (λ e. texts-free (code_pieces text 4 (first ∷ more)) Nil tt, texts-whole (code_pieces text 4 (first ∷ more)) Nil tt, h)
leaf-whole text options lookup (FencedCodeLeaf fence) first more after h =
    (λ e. texts-free (code_pieces text fence.indented (fenced_lines fence more)) Nil tt, texts-whole (code_pieces text fence.indented (fenced_lines fence more)) Nil tt, h)
leaf-whole text options lookup (HtmlBlockLeaf kind) first more after h = (λ e. no-leaf false refl _ e, html-whole text (first ∷ more), h)
leaf-whole text options lookup (MetadataBlockLeaf kind) first more after h =
    (λ e. texts-free (code_pieces text 0 (lines_before (ends_metadata kind) more)) Nil tt, texts-whole (code_pieces text 0 (lines_before (ends_metadata kind) more)) Nil tt, h)
leaf-whole text options lookup (TableLeaf alignments) first more after h =
    (λ e. no-leaf false refl _ e, ((λ e. no-leaf false refl _ e), row-whole text (length alignments) first, rows-whole text (length alignments) (drop 1 more)), h)
leaf-whole text options lookup _ first more after h = (λ e. tt, tt, h)

item-whole : (joins : Bool) (list : BlockKind) (item : BlockNode) (inside after : BlockDocument) → is_leaf list ≡ false → (is_leaf item.kind ≡ true → AreNoDefinitions inside) → HasWholeLeaves inside → HasWholeLeaves after
    → HasWholeLeaves (item_then joins list item inside after)
item-whole false list item inside after l k i a = (λ e. no-leaf _ l _ e, (k, i, tt), a)
item-whole true list item inside Nil l k i a = (λ e. no-leaf _ l _ e, (k, i, tt), tt)
item-whole true list item inside (Node others items after) l k i a = (λ e. no-leaf _ l _ e, (k, i, a.1), a.2)

list-no-leaf : (delimiter : ℕ) (number : Option ℕ) (tight : Bool) → is_leaf (list_kind delimiter number tight) ≡ false
list-no-leaf delimiter number tight = go (delimiter == definition_delimiter)
  where
    go : (z : Bool) → is_leaf (if z then DefinitionList tight else BlockList number tight) ≡ false
    go true = refl
    go false = refl

-- a paragraph, as a title or as itself
title-whole : (is_title tight : Bool) (other : BlockKind) (start end : ℕ) (inside after following : BlockDocument) → AreNoDefinitions inside → HasWholeLeaves inside → HasWholeLeaves after → HasWholeLeaves following
    → HasWholeLeaves (if is_title then item_then true (DefinitionList tight) (node DefinitionListTitle start end) inside after else Node (node other start end) inside following)
title-whole true tight other start end inside after following f i a b = item-whole true (DefinitionList tight) (node DefinitionListTitle start end) inside after refl (λ e. f) i a
title-whole false tight other start end inside after following f i a b = (λ e. f, i, b)

task-whole : (task : Option Bool) (start end : ℕ) (inside : BlockDocument) → HasWholeLeaves inside → HasWholeLeaves (task_then task start end inside)
task-whole None start end inside h = h
task-whole (Some is_checked) start end inside h = (λ e. no-leaf false refl _ e, tt, h)

pub document-whole : (text : List ℕ) (options : Options) (lookup : Lookup) (direct : Bool) (before : Option ListBefore) (b : Blocks) → HasWholeLeaves (document_of text options lookup direct before b)
document-whole text options lookup direct before NoBlocks = tt
document-whole text options lookup direct before (BlankLine line after) = document-whole text options lookup direct before after
document-whole text options lookup direct before (ParagraphBlock first more after) =
    let tight = title_tight_after before after in
    title-whole (is_title after) tight (paragraph_kind direct) (start_of first) (last_line_end first more) (paragraph_tokens text first more)
    (document_of text options lookup direct (Some (record { delimiter = definition_delimiter; tight = tight })) after) (document_of text options lookup direct None after)
    (stretches-free text (start_of first) first more) (stretches-whole text (start_of first) first more)
    (document-whole text options lookup direct (Some (record { delimiter = definition_delimiter; tight = tight })) after) (document-whole text options lookup direct None after)
document-whole text options lookup direct before (SetextHeading level first more underline after) =
    let h = setext-free text options.heading_attributes first more in (λ e. h.0, h.1, document-whole text options lookup direct None after)
document-whole text options lookup direct before (LeafBlock leaf first more after) = leaf-whole text options lookup leaf first more (document_of text options lookup direct None after) (document-whole text options lookup direct None after)
document-whole text options lookup direct before (ContainerBlock (BlockQuote alert) first more inside after) = (λ e. no-leaf false refl _ e, document-whole text options lookup false None inside, document-whole text options lookup direct None after)
document-whole text options lookup direct before (ContainerBlock (Footnote label old size) first more inside after) = (λ e. no-leaf false refl _ e, document-whole text options lookup false None inside, document-whole text options lookup direct None after)
document-whole text options lookup direct before (ContainerBlock (Item delimiter number width task) first more inside after) =
    let tight = tight_after before delimiter inside after in
    item-whole (goes_on delimiter after) (list_kind delimiter number tight) (node ListItem (begin_of first) (last_line_end first more)) (task_then task (begin_of (without width first)) (begin_of (without (after_box task width) first)) (document_of text options lookup tight None inside)) (document_of text options lookup direct (Some (record { delimiter = delimiter; tight = tight })) after) (list-no-leaf delimiter number tight) (λ e. no-leaf false refl _ e)
    (task-whole task _ _ (document_of text options lookup tight None inside) (document-whole text options lookup tight None inside)) (document-whole text options lookup direct (Some (record { delimiter = delimiter; tight = tight })) after)
document-whole text options lookup direct before (ContainerBlock (ListDefinition width) first more inside after) =
    let tight = tight_after before definition_delimiter inside after in
    item-whole (goes_on definition_delimiter after) (DefinitionList tight) (node DefinitionListDefinition (begin_of first) (last_line_end first more)) (document_of text options lookup tight None inside) (document_of text options lookup direct (Some (record { delimiter = definition_delimiter; tight = tight })) after) refl (λ e. no-leaf false refl _ e)
    (document-whole text options lookup tight None inside) (document-whole text options lookup direct (Some (record { delimiter = definition_delimiter; tight = tight })) after)

pub derived-whole : (text : List ℕ) (options : Options) (lookup : Lookup) (d : BlockDocument) → Derives text options lookup d → HasWholeLeaves d
derived-whole text options lookup d h = subst HasWholeLeaves (sym h.2) (document-whole text options lookup false None h.0)

-- a leaf without definitions keeps its stretches
same-stretches : (d : BlockDocument) → AreNoDefinitions d → stretches_of (without_definitions d) ≡ stretches_of d
same-stretches Nil h = refl
same-stretches (Node n inside after) h =
    ap (λ b. stretches_of (node_unless b n (without_definitions inside) (without_definitions after))) h.0 ∙ ap (λ (more : List Stretch). record { start = n.start; end = n.end } ∷ more) (same-stretches after h.1)

same-inside : (kind : BlockKind) (b : Bool) (inside : BlockDocument) (others more : List Segment) → (b ≡ true → AreNoDefinitions inside) → others ≡ more
    → (if b then Content (leaf_of kind (without_definitions inside)) ∷ [] else others) ≡ (if b then Content (leaf_of kind inside) ∷ [] else more)
same-inside kind true inside others more free e = ap (λ (l : List Stretch). Content (record { stretches = l; is_cell = is_cell kind }) ∷ []) (same-stretches inside (free refl))
same-inside kind false inside others more free e = e

-- a document without its definitions has the events and leaves of the document
pub whole-segments : (d : BlockDocument) → HasWholeLeaves d → segments (without_definitions d) ≡ segments d
whole-segments Nil h = refl
whole-segments (Node n inside after) h = go (is_definition n.kind) refl (whole-segments inside h.1) (whole-segments after h.2)
  where
    go : (b : Bool) → is_definition n.kind ≡ b → segments (without_definitions inside) ≡ segments inside → segments (without_definitions after) ≡ segments after
        → segments (node_unless b n (without_definitions inside) (without_definitions after)) ≡ with_first_segment (first_event (read_as n.kind)) (starts_before after) n (node_segments (read_as n.kind) n (inside_of n.kind inside (segments inside)) ++ segments after)
    go true e i a = a ∙ ap (λ r. with_first_segment (first_event r) (starts_before after) n (node_segments r n (inside_of n.kind inside (segments inside)) ++ segments after)) (sym (silent n.kind e))
    go false e i a =
        ap (λ z. with_first_segment (first_event (read_as n.kind)) z n (node_segments (read_as n.kind) n (inside_of n.kind (without_definitions inside) (segments (without_definitions inside))) ++ segments (without_definitions after))) (whole-begins after)
        ∙ ap (λ l. with_first_segment (first_event (read_as n.kind)) (starts_before after) n (node_segments (read_as n.kind) n l ++ segments (without_definitions after))) (same-inside n.kind (is_leaf n.kind) inside (segments (without_definitions inside)) (segments inside) h.0 i)
        ∙ ap (λ l. with_first_segment (first_event (read_as n.kind)) (starts_before after) n (node_segments (read_as n.kind) n (inside_of n.kind inside (segments inside)) ++ l)) a

-- a node gives three at most
node-few : (r : Reads) (n : BlockNode) (l : List Segment) → length (node_segments r n l) ≤ 2 + length l
node-few (Around tag) n l = let e = length-append l (Given (over n (End (end_of tag))) ∷ []) in omega (arith, e)
node-few _ n l = omega arith

-- a further event comes first in the events after it
first-few : (starts : ℕ) (e : Segment) (others : List Segment) → length (first_of_segments starts e others) ≤ 1 + length others
first-few zero e others = omega arith
first-few (suc starts) e [] = omega arith
first-few (suc starts) e (s ∷ others) = let f = first-few starts e others in omega (arith, f)

with-few : (r : Reads) (element : ℕ) (n : BlockNode) (l others : List Segment) → length (with_first_segment (first_event r) element n (node_segments r n l ++ others)) ≤ 2 + (length l + length others)
with-few (Around tag) element n l others = let e = length-append (node_segments (Around tag) n l) others in let f = node-few (Around tag) n l in omega (arith, e, f)
with-few Inside element n l others = let e = length-append l others in omega (arith, e)
with-few (First event) element n l others = let f = first-few element (Given (over n event)) others in omega (arith, f)
with-few _ element n l others = omega arith

inside-few : (kind : BlockKind) (b : Bool) (content : BlockDocument) (others : List Segment) → length (if b then Content (leaf_of kind content) ∷ [] else others) ≤ 1 + length others
inside-few kind true content others = omega arith
inside-few kind false content others = omega arith

pub segments-count : (d : BlockDocument) → length (segments d) ≤ 3 * count_nodes d
segments-count Nil = omega arith
segments-count (Node n inside after) =
    let own = inside_of n.kind inside (segments inside) in
    let f = with-few (read_as n.kind) (starts_before after) n own (segments after) in
    let g = inside-few n.kind (is_leaf n.kind) inside (segments inside) in
    let i = segments-count inside in
    let a = segments-count after in
    omega (arith, f, g, i, a)

pub segments-few : (text : List ℕ) (options : Options) (lookup : Lookup) (d : BlockDocument) → Derives text options lookup d → length (segments d) ≤ 12 * length text + 786432 * count_tables d
segments-few text options lookup d h = let a = segments-count d in let b = derived-count text options lookup d h in omega (arith, a, b)

-- there are no more tables than bytes
pub segments-bounded : (text : List ℕ) (options : Options) (lookup : Lookup) (d : BlockDocument) → Derives text options lookup d → length (segments d) ≤ 786444 * length text
segments-bounded text options lookup d h = let a = segments-few text options lookup d h in let b = derived-tables text options lookup d h in omega (arith, a, b)

pub drawn-segments : (text : List ℕ) (options : Options) (lookup : Lookup) → segments (settled false (pass_over text options lookup).drawing.here) ≡ segments (document text options lookup)
drawn-segments text options lookup =
    ap segments (pass-draws text options lookup).0 ∙ whole-segments (document text options lookup) (derived-whole text options lookup (document text options lookup) (derived text options lookup))
