-- The nodes of a derived document are in order in the text, each around the nodes inside it.
use Rattle.std.proofs.Common.{◌≡◌, ℕ, suc, ◌+◌, ◌≤◌, Bool, true, false, List, [], ◌∷◌, ◌++◌, length, drop, refl, sym, subst, arith, Option, Some, None, rules}
use Rattle.cmark_grammar.specs.Answers.{Lookup}
use Rattle.cmark_grammar.specs.Options.{Options}
use Rattle.cmark_grammar.specs.Places.{Place, Apart, AfterTitle, over_blank}
use Rattle.cmark_grammar.specs.Columns.{indent}
use Rattle.cmark_grammar.specs.Rows.{Row, rows, first_place, begin_of, start_of, last_line_end, without}
use Rattle.cmark_grammar.specs.BlockQuoteKind.{BlockQuoteKind}
use Rattle.cmark_grammar.specs.Containers.{Container, BlockQuote, Item, Footnote, ListDefinition, is_alert, unless_tag, enter, block_quote_width, footnote_width, one_blank, strips, is_bare_start, insides}
use Rattle.cmark_grammar.specs.Openings.{Leaf, ThematicBreak as ThematicBreakLeaf, AtxHeading as AtxHeadingLeaf, IndentedCode as IndentedCodeLeaf, FencedCode as FencedCodeLeaf, HtmlBlock as HtmlBlockLeaf, LinkDefinition as LinkDefinitionLeaf, MetadataBlock as MetadataBlockLeaf, Table as TableLeaf}
use Rattle.cmark_grammar.specs.Blocks.{Blocks, Nil as NoBlocks, BlankLine, Paragraph as ParagraphBlock, SetextHeading, LeafBlock, ContainerBlock, after_leaf, place_in, Body}
use Rattle.cmark_grammar.specs.SetextAttributes.{setext_tokens}
use Rattle.cmark_block_model.proofs.SetextLaws.{setext-order}
use Rattle.cmark_grammar.specs.Lists.{ListBefore, tight_after, goes_on, definition_delimiter, is_title, title_tight_after}
use Rattle.cmark_grammar.specs.Tokens.{fenced_lines, paragraph_tokens, code_tokens, code_columns, lines_before}
use Rattle.cmark_grammar.specs.BlockDocument.{ListItem, BlockNode, BlockDocument, Nil, Node, node, BlockKind, DefinitionList, DefinitionListTitle, DefinitionListDefinition}
use Rattle.cmark_grammar.specs.Derivation.{task_then, leaf_then, item_then, document_of, Derives, list_kind, paragraph_kind}
use Rattle.cmark_block_model.specs.Ranges.{InOrder}
use Rattle.cmark_grammar.specs.Metadata.{ends_metadata}
use Rattle.cmark_grammar.specs.Leaves.{closes_fence}
use Rattle.cmark_block_model.proofs.TableRanges.{row_cells-order, row_tokens-order}
use Rattle.cmark_grammar.specs.TableTokens.{row_tokens}
use Rattle.cmark_block_model.proofs.RowPlaces.{drop-mono, Lies, begin-start, start-content_end, Lies-without, Along, Along-split, Along-le, strips-Along, text-Along}
use Rattle.cmark_block_model.proofs.TokenRanges.{InOrder-lower, InOrder-upper, paragraph-order, heading-order, code-order, code_place, indented-order, before-Along, html-order}
use Rattle.cmark_grammar.specs.TaskItems.{after_box}
use Rattle.cmark_block_model.proofs.TaskLaws.{task-order}
use Rattle.std.specs.Prelude.{if◌then◌else◌}

-- the end of some lines is not before the first line's end
line_end-le : (first : Row) (more : List Row) → Along first.line_end more (last_line_end first more) → first.line_end ≤ last_line_end first more
line_end-le first more h = Along-le first.line_end more (last_line_end first more) h

start-line_end : (from : ℕ) (r : Row) → Lies from r → start_of r ≤ r.line_end
start-line_end from r h = let a : start_of r ≤ r.content_end = start-content_end from r h in let b : r.content_end ≤ r.line_end = h.2 in omega (arith, a, b)

from-start : (from : ℕ) (r : Row) → Lies from r → from ≤ start_of r
from-start from r h = let a : from ≤ begin_of r = h.0 in let b : begin_of r ≤ start_of r = begin-start from r h in omega (arith, a, b)

leaf-order : (text : List ℕ) (options : Options) (lookup : Lookup) (from : ℕ) (leaf : Leaf) (first : Row) (more : List Row) (after : BlockDocument) (to : ℕ) → Lies from first → Along first.line_end more (last_line_end first more) → InOrder (last_line_end first more) after to → InOrder from (leaf_then text options lookup leaf first more after) to
leaf-order text options lookup from ThematicBreakLeaf first more after to h a o =
    let p : start_of first ≤ first.line_end = start-line_end from first h in let q : first.line_end ≤ last_line_end first more = line_end-le first more a in
    (from-start from first h, omega (arith, p, q), o)
leaf-order text options lookup from (AtxHeadingLeaf level) first more after to h a o = (from-start from first h, heading-order text options.heading_attributes level from first (last_line_end first more) h (line_end-le first more a), o)
leaf-order text options lookup from IndentedCodeLeaf first more after to h a o =
    let d = code_place 4 from first h in
    let b : from ≤ begin_of first = h.0 in
    let e : begin_of first ≤ first_place first.content_end (code_columns 4 first) = d.1 in
    (omega (arith, b, e), indented-order text 4 from first more (last_line_end first more) h a, o)
leaf-order text options lookup from (FencedCodeLeaf fence) first more after to h a o = (
  from-start from first h,
  InOrder-lower (start_of first) first.line_end (code_tokens text fence.indented (fenced_lines fence more)) (last_line_end first more) (start-line_end from first h)
      (code-order text fence.indented first.line_end (fenced_lines fence more) (last_line_end first more) (before-Along (closes_fence fence) first.line_end more (last_line_end first more) a)),
  o,
)
leaf-order text options lookup from (HtmlBlockLeaf kind) first more after to h a o = search (rules, html-order)
leaf-order text options lookup from (LinkDefinitionLeaf definition) first more after to h a o =
    let p : start_of first ≤ first.line_end = start-line_end from first h in let q : first.line_end ≤ last_line_end first more = line_end-le first more a in
    (from-start from first h, omega (arith, p, q), o)
leaf-order text options lookup from (MetadataBlockLeaf kind) first more after to h a o = (
  from-start from first h,
  InOrder-lower (start_of first) first.line_end (code_tokens text 0 (lines_before (ends_metadata kind) more)) (last_line_end first more) (start-line_end from first h)
      (code-order text 0 first.line_end (lines_before (ends_metadata kind) more) (last_line_end first more) (before-Along (ends_metadata kind) first.line_end more (last_line_end first more) a)),
  o,
)
leaf-order text options lookup from (TableLeaf alignments) first more after to h a o =
    (from-start from first h, (omega arith, row_cells-order text (length alignments) from first h, rows more a), o)
  where
    rows : (rs : List Row) → Along first.line_end rs (last_line_end first more) → InOrder first.line_end (row_tokens text (length alignments) (drop 1 rs)) (last_line_end first more)
    rows [] b = b
    rows (r ∷ rs) b =
        InOrder-lower first.line_end r.line_end (row_tokens text (length alignments) rs) (last_line_end first more) (let s = from-start first.line_end r b.0 in let p = start-line_end first.line_end r b.0 in omega (arith, s, p))
        (row_tokens-order text (length alignments) r.line_end rs (last_line_end first more) from-start b.1)

item-order : (from : ℕ) (joins : Bool) (list : BlockKind) (item : BlockNode) (inside after : BlockDocument) (to : ℕ) → from ≤ item.start → InOrder item.start inside item.end → InOrder item.end after to → InOrder from (item_then joins list item inside after) to
item-order from false list item inside after to a i o = (a, (omega arith, i, omega arith), o)
item-order from true list item inside Nil to a i o = (a, (omega arith, i, omega arith), o)
item-order from true list item inside (Node others items after) to a i o = (a, (omega arith, i, InOrder-lower item.end others.start items others.end o.0 o.1), o.2)

-- a paragraph, as a title or as itself
title-order : (from : ℕ) (is_title : Bool) (list kind other : BlockKind) (start end : ℕ) (inside after following : BlockDocument) (to : ℕ) → from ≤ start → InOrder start inside end → InOrder end after to → InOrder end following to
    → InOrder from (if is_title then item_then true list (node kind start end) inside after else Node (node other start end) inside following) to
title-order from true list kind other start end inside after following to s i a b = item-order from true list (node kind start end) inside after to s i a
title-order from false list kind other start end inside after following to s i a b = (s, i, b)

-- inside a container the lines come after its start
enter-Lies : (k : Container) (from : ℕ) (r : Row) → Lies from r → Lies (begin_of r) (enter k r)
unfolding enter
enter-Lies k from r h = Lies-without _ from r h

enter-line_end : (k : Container) (r : Row) → (enter k r).line_end ≡ r.line_end
unfolding enter
enter-line_end k r = refl

quote-Lies : (alert : Option BlockQuoteKind) (from : ℕ) (r : Row) → Lies from r → Lies (start_of r) (enter (BlockQuote alert) r)
unfolding enter
quote-Lies alert from r h =
    let l = Lies-without (block_quote_width r) from r h in
    (drop-mono (indent r.columns) (block_quote_width r) (begin_of r) r.columns r.content_end (wide (one_blank (drop (suc (indent r.columns)) r.columns))) h.1, l.1, l.2)
  where
    wide : (n : ℕ) → indent r.columns ≤ suc (indent r.columns + n)
    wide n = omega arith

footnote-Lies : (label : List ℕ) (old : Bool) (size from : ℕ) (r : Row) → Lies from r → Lies (start_of r) (enter (Footnote label old size) r)
unfolding enter
footnote-Lies label old size from r h =
    let l = Lies-without (footnote_width size r) from r h in
    (drop-mono (indent r.columns) (footnote_width size r) (begin_of r) r.columns r.content_end (omega arith) h.1, l.1, l.2)

Along-lower : (from mid : ℕ) (rs : List Row) (to : ℕ) → from ≤ mid → Along mid rs to → Along from rs to
Along-lower from mid [] to le a = omega (arith, le, a)
Along-lower from mid (r ∷ rs) to le a = let l = a.0 in ((let b = l.0 in omega (arith, le, b), l.1, l.2), a.1)

box-wider : (task : Option Bool) (width : ℕ) → width ≤ after_box task width
box-wider None width = omega arith
box-wider (Some is_checked) width = omega arith

box-Lies : (delimiter : ℕ) (number : Option ℕ) (width : ℕ) (task : Option Bool) (from : ℕ) (r : Row) → Lies from r → Lies (begin_of (without (after_box task width) r)) (enter (Item delimiter number width task) r)
unfolding enter
box-Lies delimiter number width task from r h = let l = Lies-without (after_box task width) from r h in (omega arith, l.1, l.2)

insides-Along : (k : Container) (from : ℕ) (first : Row) (more : List Row) (to : ℕ) → Lies from (enter k first) → Along first.line_end more to → Along from (insides k first more) to
insides-Along k from first more to l a = go (is_alert k)
  where
    others : Along (enter k first).line_end (strips k (is_bare_start k first) more) to
    others = subst (λ p. Along p (strips k (is_bare_start k first) more) to) (sym (enter-line_end k first)) (strips-Along k (is_bare_start k first) first.line_end more to a)

    go : (is_tag : Bool) → Along from (unless_tag is_tag (enter k first) (strips k (is_bare_start k first) more)) to
    go true = Along-lower from (enter k first).line_end (strips k (is_bare_start k first) more) to (Along-le from (enter k first ∷ []) (enter k first).line_end (l, omega arith)) others
    go false = (l, others)

module _ (text : List ℕ) (options : Options) (lookup : Lookup) where
  pub document-order : (direct : Bool) (before : Option ListBefore) (following : Place) (from : ℕ) (all : List Row) (b : Blocks) (to : ℕ) → Body options following all b → Along from all to → InOrder from (document_of text options lookup direct before b) to
  document-order direct before following from all NoBlocks to body a = subst (λ ls. Along from ls to) body a
  document-order direct before following from all (BlankLine line after) to body a =
      let c : Along from (line ∷ body.rest) to = subst (λ ls. Along from ls to) body.cut a in
      let p : from ≤ start_of line = from-start from line c.0 in
      let q : start_of line ≤ line.line_end = start-line_end from line c.0 in
      InOrder-lower from line.line_end (document_of text options lookup direct before after) to (omega (arith, p, q)) (document-order direct before (over_blank following) line.line_end body.rest after to body.after c.1)
  document-order direct before following from all (ParagraphBlock first more after) to body a =
      let c : Along from (first ∷ (more ++ body.rest)) to = subst (λ ls. Along from ls to) body.cut a in
      let s = Along-split first more body.rest to c.1 in
      let tight = title_tight_after before after in
      title-order from (is_title after) (DefinitionList tight) DefinitionListTitle (paragraph_kind direct) (start_of first) (last_line_end first more) (paragraph_tokens text first more)
      (document_of text options lookup direct (Some (record { delimiter = definition_delimiter; tight = tight })) after) (document_of text options lookup direct None after) to
      (from-start from first c.0) (paragraph-order text from first more c.0 s.0)
      (document-order direct (Some (record { delimiter = definition_delimiter; tight = tight })) AfterTitle (last_line_end first more) body.rest after to body.after s.1)
      (document-order direct None AfterTitle (last_line_end first more) body.rest after to body.after s.1)
  document-order direct before following from all (SetextHeading level first more underline after) to body a =
      let c : Along from (first ∷ (more ++ (underline ∷ body.rest))) to = subst (λ ls. Along from ls to) body.cut a in
      let s = Along-split first more (underline ∷ body.rest) to c.1 in
      let p : last_line_end first more ≤ start_of underline = from-start (last_line_end first more) underline s.1.0 in
      let q : start_of underline ≤ underline.line_end = start-line_end (last_line_end first more) underline s.1.0 in (
        from-start from first c.0,
        InOrder-upper (start_of first) (setext_tokens text options.heading_attributes first more) (last_line_end first more) underline.line_end (omega (arith, p, q)) (setext-order text options.heading_attributes from first more c.0 s.0),
        document-order direct None Apart underline.line_end body.rest after to body.after s.1.1,
      )
  document-order direct before following from all (LeafBlock leaf first more after) to body a =
      let c : Along from (first ∷ (more ++ body.rest)) to = subst (λ ls. Along from ls to) body.cut a in
      let s = Along-split first more body.rest to c.1 in
      leaf-order text options lookup from leaf first more (document_of text options lookup direct None after) to c.0 s.0
      (document-order direct None (after_leaf leaf) (last_line_end first more) body.rest after to body.after s.1)
  document-order direct before following from all (ContainerBlock (BlockQuote alert) first more inside after) to body a =
      let c : Along from (first ∷ (more ++ body.rest)) to = subst (λ ls. Along from ls to) body.cut a in
      let s = Along-split first more body.rest to c.1 in (
        from-start from first c.0,
        document-order false None (place_in (BlockQuote alert)) (start_of first) (insides (BlockQuote alert) first more) inside (last_line_end first more) body.contents (insides-Along (BlockQuote alert) (start_of first) first more (last_line_end first more) (quote-Lies alert from first c.0) s.0),
        document-order direct None Apart (last_line_end first more) body.rest after to body.after s.1,
      )
  document-order direct before following from all (ContainerBlock (Footnote label old size) first more inside after) to body a =
      let c : Along from (first ∷ (more ++ body.rest)) to = subst (λ ls. Along from ls to) body.cut a in
      let s = Along-split first more body.rest to c.1 in (
        from-start from first c.0,
        document-order false None (place_in (Footnote label old size)) (start_of first) (insides (Footnote label old size) first more) inside (last_line_end first more) body.contents (insides-Along (Footnote label old size) (start_of first) first more (last_line_end first more) (footnote-Lies label old size from first c.0) s.0),
        document-order direct None Apart (last_line_end first more) body.rest after to body.after s.1,
      )
  document-order direct before following from all (ContainerBlock (Item delimiter number width task) first more inside after) to body a =
      let c : Along from (first ∷ (more ++ body.rest)) to = subst (λ ls. Along from ls to) body.cut a in
      let s = Along-split first more body.rest to c.1 in
      let tight = tight_after before delimiter inside after in
      item-order from (goes_on delimiter after) (list_kind delimiter number tight) (node ListItem (begin_of first) (last_line_end first more)) (task_then task (begin_of (without width first)) (begin_of (without (after_box task width) first)) (document_of text options lookup tight None inside)) (document_of text options lookup direct (Some (record { delimiter = delimiter; tight = tight })) after) to
      c.0.0
      (task-order (begin_of first) task (begin_of (without width first)) (begin_of (without (after_box task width) first)) (document_of text options lookup tight None inside) (last_line_end first more)
      (Lies-without width from first c.0).0 (drop-mono width (after_box task width) (begin_of first) first.columns first.content_end (box-wider task width) c.0.1)
      (document-order tight None (place_in (Item delimiter number width task)) (begin_of first) (insides (Item delimiter number width task) first more) inside (last_line_end first more) body.contents (insides-Along (Item delimiter number width task) (begin_of first) first more (last_line_end first more) (enter-Lies (Item delimiter number width task) from first c.0) s.0))
      (document-order tight None (place_in (Item delimiter number width task)) (begin_of (without (after_box task width) first)) (insides (Item delimiter number width task) first more) inside (last_line_end first more) body.contents
      (insides-Along (Item delimiter number width task) (begin_of (without (after_box task width) first)) first more (last_line_end first more) (box-Lies delimiter number width task from first c.0) s.0)))
      (document-order direct (Some (record { delimiter = delimiter; tight = tight })) Apart (last_line_end first more) body.rest after to body.after s.1)
  document-order direct before following from all (ContainerBlock (ListDefinition width) first more inside after) to body a =
      let c : Along from (first ∷ (more ++ body.rest)) to = subst (λ ls. Along from ls to) body.cut a in
      let s = Along-split first more body.rest to c.1 in
      let tight = tight_after before definition_delimiter inside after in
      item-order from (goes_on definition_delimiter after) (DefinitionList tight) (node DefinitionListDefinition (begin_of first) (last_line_end first more)) (document_of text options lookup tight None inside) (document_of text options lookup direct (Some (record { delimiter = definition_delimiter; tight = tight })) after) to
      c.0.0
      (document-order tight None (place_in (ListDefinition width)) (begin_of first) (insides (ListDefinition width) first more) inside (last_line_end first more) body.contents (insides-Along (ListDefinition width) (begin_of first) first more (last_line_end first more) (enter-Lies (ListDefinition width) from first c.0) s.0))
      (document-order direct (Some (record { delimiter = definition_delimiter; tight = tight })) AfterTitle (last_line_end first more) body.rest after to body.after s.1)

pub derived-order : (text : List ℕ) (options : Options) (lookup : Lookup) (d : BlockDocument) → Derives text options lookup d → InOrder 0 d (length text)
derived-order text options lookup d h =
    subst (λ x. InOrder 0 x (length text)) (sym h.2) (document-order text options lookup false None Apart 0 (rows text) h.0 (length text) h.1 (text-Along text))
