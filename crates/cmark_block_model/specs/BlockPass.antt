-- The next line in the block pass.
use Rattle.std.specs.Prelude.{ℕ, zero, suc, ◌-◌, Bool, true, false, ◌==◌, ◌&&◌, ◌||◌, not, nat_le, if◌then◌else◌, List, [], ◌∷◌, ◌++◌, length, take, Option, Some, None}
use Rattle.cmark_grammar.specs.Answers.{Lookup}
use Rattle.cmark_grammar.specs.Columns.{Column}
use Rattle.cmark_grammar.specs.Options.{Options}
use Rattle.cmark_grammar.specs.Rows.{Row, rows, without, shown, first_place, begin_of, start_of, words_of}
use Rattle.cmark_grammar.specs.Leaves.{Continuation, GoesOn, Closes, Waits, Stops, underlines, code_continuation, closes_fence}
use Rattle.cmark_grammar.specs.HtmlBlocks.{holds_end, html_continuation}
use Rattle.cmark_grammar.specs.Containers.{Container, BlockQuote, Item, Footnote, ListDefinition, is_alert, enter, keeps, strips}
use Rattle.cmark_grammar.specs.Openings.{Leaf, ThematicBreak, AtxHeading, IndentedCode, FencedCode, HtmlBlock, LinkDefinition, Opening, Blank, Nests, Takes, Plain, opens_at, interrupts, texts, lazily, MetadataBlock, Table}
use Rattle.cmark_grammar.specs.Tokens.{Piece, resolved, words_end, stretch_then, heading_tokens, heading_attributes, verbatim_line, html_then, code_columns}
use Rattle.cmark_grammar.specs.SetextAttributes.{content_of, setext_attributes}
use Rattle.cmark_grammar.specs.TableRows.{count_missing, most_filled}
use Rattle.cmark_grammar.specs.TableTokens.{row_tokens, table_tokens}
use Rattle.cmark_grammar.specs.Derivation.{last_content_end, reference_of, task_then, list_kind}
use Rattle.cmark_grammar.specs.Lists.{definition_delimiter}
use Rattle.cmark_grammar.specs.BlockDocument as document
use Rattle.cmark_grammar.specs.BlockDocument.{BlockDocument, BlockKind, Nil, Node, node}
use Rattle.cmark_grammar.specs.BlockQuoteKind.{BlockQuoteKind}
use Rattle.cmark_grammar.specs.Labels.{normal_form}
use Rattle.cmark_grammar.specs.Metadata.{ends_metadata}
use Rattle.cmark_grammar.specs.Blocks.{place_in}
use Rattle.cmark_grammar.specs.Places.{Place, Apart, AfterTitle}
use Rattle.cmark_grammar.specs.TaskItems.{after_box}
use Rattle.cmark_block_model.specs.Drawing.{Drawing, drawn, opened, closed_as, closed_at, retitled, enclosed, released, unbraced}
use Rattle.cmark_block_model.specs.CodeLines.{code_line, rest_of, texts_of}
use Rattle.cmark_block_model.specs.OpenBlocks.{OpenList, Title, Siblings, no_siblings, OpenContainer, OpenLeaf, Closed, AfterTag, InParagraph, InDefinition, InIndented, InFenced, InHtml, takes_lazy, Pass, at_start, InMetadata, InTable}

-- the list closed, if it is open
abbrev pub list_closed : Option OpenList → Drawing → Drawing
list_closed None d = d
list_closed (Some l) d = closed_as (list_kind l.delimiter l.number (not l.loose)) l.end d

-- a paragraph that was drawn in a definition list and is not a title is put after that list, and the list is closed
abbrev pub released_from : Option OpenList → Drawing → Drawing
released_from None d = d
released_from (Some l) d = released (list_kind l.delimiter l.number (not l.loose)) l.end d

abbrev pub title_released : Option Title → Drawing → Drawing
title_released None d = d
title_released (Some t) d = released_from t.list d

-- the last sibling has ended, and no item or definition of its list follows
abbrev pub ended : Siblings → Drawing → Drawing
ended s d = list_closed s.list (title_released s.title d)

-- the open list, if it is a definition list
abbrev pub definitions_in : Option OpenList → Option OpenList
definitions_in None = None
definitions_in (Some l) = if l.delimiter == definition_delimiter then Some l else None

-- the siblings with another block that is not an item, with a paragraph, with another item of a list, and after an item that contains these
-- blocks
abbrev pub siblings_with_block : Siblings → Siblings
siblings_with_block s = record { has_line = true; blank = false; parted = s.parted || s.blank; list = None; title = None }

abbrev pub siblings_with_paragraph : Siblings → Siblings
siblings_with_paragraph s = record (siblings_with_block s) { title = Some (record { list = definitions_in s.list; parted = s.parted }) }

abbrev pub siblings_with_item : OpenList → Siblings → Siblings
siblings_with_item l s = record s { blank = false; list = Some (record l { loose = l.loose || s.blank }) }

abbrev pub list_after : Option OpenList → (parted : Bool) → (end : ℕ) → Option OpenList
list_after None parted end = None
list_after (Some l) parted end = Some (record l { loose = l.loose || parted; end = end })

abbrev pub siblings_after_item : (end : ℕ) → (inside around : Siblings) → Siblings
siblings_after_item end inside around = record around { blank = inside.blank; list = list_after around.list inside.parted end }

-- a block begins that is not an item
abbrev pub block_begun : Pass → Pass
block_begun p = record p { drawing = ended p.inner p.drawing; inner = siblings_with_block p.inner }

-- the drawing before a paragraph begins: a definition list stays open
abbrev pub ended_but : Option OpenList → Siblings → Drawing → Drawing
ended_but (Some l) s d = d
ended_but None s d = ended s d

-- the place of a line after these siblings, as far as a definition may begin there
abbrev pub place_with : Option Title → Option OpenList → Place
place_with (Some t) list = AfterTitle
place_with None (Some l) = AfterTitle
place_with None None = Apart

abbrev pub place_of : Siblings → Place
place_of s = place_with s.title (definitions_in s.list)

-- an item begins a list
abbrev pub list_begun : (delimiter : ℕ) → Option ℕ → (start : ℕ) → Pass → Pass
list_begun delimiter number start p = let q = block_begun p in record q {
  drawing = opened start (list_kind delimiter number false) q.drawing;
  inner = record q.inner { list = Some (record { delimiter = delimiter; number = number; loose = false; end = start }) };
}

-- an item continues a list
abbrev pub list_goes_on : OpenList → Pass → Pass
list_goes_on l p = record p { inner = siblings_with_item l p.inner }

abbrev pub item_begun : (delimiter : ℕ) → Option ℕ → (start : ℕ) → Pass → Option OpenList → Pass
item_begun delimiter number start p None = list_begun delimiter number start p
item_begun delimiter number start p (Some l) = if l.delimiter == delimiter then list_goes_on l p else list_begun delimiter number start p

-- a definition begins after its title, which the paragraph becomes. It is in the definition list that was open before the paragraph, or
-- begins one
abbrev pub title_made : Option OpenList → (parted : Bool) → (start : ℕ) → Pass → Pass
title_made None parted start p = record p {
  drawing = enclosed (document.DefinitionList false) document.DefinitionListTitle p.drawing;
  inner = record p.inner { blank = false; list = Some (record { delimiter = definition_delimiter; number = None; loose = p.inner.blank; end = start }); title = None };
}
title_made (Some l) parted start p = record p {
  drawing = retitled document.DefinitionListTitle p.drawing;
  inner = record p.inner { blank = false; parted = parted; list = Some (record l { loose = l.loose || p.inner.blank }); title = None };
}

-- a definition begins after its title or after another definition
abbrev pub definition_after : Option Title → (start : ℕ) → Pass → Pass
definition_after None start p = item_begun definition_delimiter None start p p.inner.list
definition_after (Some t) start p = title_made t.list t.parted start p

abbrev pub inside_of : Container → Pass → Pass
inside_of k p = record p { inner = no_siblings; outer = p.outer ++ record { container = k; around = p.inner } ∷ [] }

abbrev pub node_opened : (start : ℕ) → BlockKind → Pass → Pass
node_opened start kind p = record p { drawing = opened start kind p.drawing }

-- a container begins at a place
abbrev pub block_quote_begun : (alert : Option BlockQuoteKind) → (start : ℕ) → Pass → Pass
block_quote_begun alert start p = inside_of (BlockQuote alert) (node_opened start (document.BlockQuote alert) (block_begun p))

-- a footnote's label is added after the earlier ones
abbrev pub footnote_noted : (label : List ℕ) → Pass → Pass
footnote_noted label p = record p { footnotes = p.footnotes ++ normal_form label ∷ [] }

abbrev pub footnote_begun : (label : List ℕ) → (old : Bool) → (size start : ℕ) → Pass → Pass
footnote_begun label old size start p = inside_of (Footnote label old size) (node_opened start (document.FootnoteDefinition (normal_form label)) (footnote_noted label (block_begun p)))

abbrev pub item_begun_in : (delimiter : ℕ) → Option ℕ → (width : ℕ) → Option Bool → (start : ℕ) → Pass → Pass
item_begun_in delimiter number width task start p = inside_of (Item delimiter number width task) (node_opened start document.ListItem (item_begun delimiter number start p p.inner.list))

abbrev pub definition_begun_in : (width start : ℕ) → Pass → Pass
definition_begun_in width start p = inside_of (ListDefinition width) (node_opened start document.DefinitionListDefinition (definition_after p.inner.title start p))

abbrev pub with_drawn : BlockDocument → Pass → Pass
with_drawn document p = record p { drawing = drawn document p.drawing }

-- a container begins on a line
abbrev pub container_begun : Container → Row → Pass → Pass
container_begun (BlockQuote alert) r p = block_quote_begun alert (start_of r) p
container_begun (Footnote label old size) r p = footnote_begun label old size (start_of r) p
container_begun (Item delimiter number width task) r p =
    with_drawn (task_then task (begin_of (without width r)) (begin_of (without (after_box task width) r)) Nil) (item_begun_in delimiter number width task (begin_of r) p)
container_begun (ListDefinition width) r p = definition_begun_in width (begin_of r) p

-- the siblings around a closed container, with the container as the last of them
abbrev pub after_container : Container → (end : ℕ) → (inside around : Siblings) → Siblings
after_container (BlockQuote alert) end inside around = around
after_container (Footnote label old size) end inside around = record around { blank = inside.blank }
after_container (Item delimiter number width task) end inside around = siblings_after_item end inside around
after_container (ListDefinition width) end inside around = siblings_after_item end inside around

-- the innermost container closed
abbrev pub container_closed : OpenContainer → List OpenContainer → Pass → Pass
container_closed c outer p = record p {
  drawing = closed_at p.line_end (ended p.inner p.drawing);
  inner = after_container c.container p.line_end p.inner c.around;
  outer = outer;
}

abbrev pub is_item : Container → Bool
is_item (BlockQuote alert) = false
is_item (Item delimiter number width task) = true
is_item (Footnote label old size) = false
is_item (ListDefinition width) = true

-- after an alert's tag its line begins no other block
abbrev pub inside_begun : (is_alert : Bool) → (outside begun : Pass) → Pass
inside_begun true outside begun = record outside { leaf = AfterTag }
inside_begun false outside begun = begun

abbrev pub is_some : List Row → Bool
is_some [] = false
is_some (r ∷ rs) = true

-- the lines of a paragraph that are kept before the next line: all lines, if attributes of headings are read
abbrev pub kept_lines : (attributes : Bool) → (before : List Row) → (last : Row) → List Row
kept_lines false before last = before
kept_lines true before last = before ++ last ∷ []

abbrev pub node_closed : (end : ℕ) → Pass → Pass
node_closed end p = record p { drawing = closed_at end p.drawing; leaf = Closed }

-- a line after a table is another row, if the table has `columns` columns and `left` more cells may be filled in (GFM 4.10)
abbrev pub is_row : Options → (columns left : ℕ) → Row → Bool
is_row options columns left r = not (interrupts options false r []) && nat_le (count_missing columns r) left

module _ (text : List ℕ) (options : Options) (lookup : Lookup) where
  -- the lines ahead, seen from inside the open containers
  abbrev pub ahead_in : List OpenContainer → List Row → List Row
  ahead_in [] rs = rs
  ahead_in (c ∷ cs) rs = ahead_in cs (shown (strips c.container false rs))

  -- the last stretch of a paragraph, without the blanks at the end of its last line
  abbrev pub last_stretch : (from : ℕ) → (last : Row) → BlockDocument
  last_stretch from last = stretch_then text from (words_end last) Nil

  -- the open leaf closed, if any
  abbrev pub close_leaf : OpenLeaf → Pass → Pass
  close_leaf Closed p = p
  close_leaf AfterTag p = record p { leaf = Closed }
  close_leaf (InParagraph before from last) p = node_closed p.line_end (with_drawn (last_stretch from last) p)
  close_leaf (InDefinition left) p = record p { leaf = Closed }
  close_leaf (InTable columns left has_delimiter) p = node_closed p.line_end p
  close_leaf (InIndented waits end blank) p =
      let q = node_closed end (with_drawn (texts_of (rest_of waits)) p) in record q { inner = record q.inner { blank = is_some blank } }
  close_leaf (InFenced fence waits) p = node_closed p.line_end (with_drawn (texts_of (rest_of waits)) p)
  close_leaf (InHtml kind) p = node_closed p.line_end p
  close_leaf (InMetadata kind waits) p = node_closed p.line_end (with_drawn (texts_of (rest_of waits)) p)

  abbrev pub leaf_closed : Pass → Pass
  leaf_closed p = close_leaf p.leaf p

  -- all containers closed except the outer ones; `inner` are the others, the outermost first
  abbrev pub containers_closed : (outer inner : List OpenContainer) → Pass → Pass
  containers_closed outer [] p = p
  containers_closed outer (c ∷ cs) p = container_closed c outer (containers_closed (outer ++ c ∷ []) cs p)

  -- a paragraph begins, in the open definition list if any, or continues. A line that begins at the end of the line before it is in the
  -- same stretch. Else that stretch is drawn with its line ending, and another stretch begins
  abbrev pub paragraph_begun : Row → Pass → Pass
  paragraph_begun r p =
      let q = record p { drawing = ended_but (definitions_in p.inner.list) p.inner p.drawing; inner = siblings_with_paragraph p.inner } in
      let o = node_opened (start_of r) document.Paragraph q in record o { leaf = InParagraph [] (start_of r) r }

  abbrev pub paragraph_line : (before : List Row) → (from : ℕ) → (last : Row) → Row → Pass → Pass
  paragraph_line before from last r p =
      if begin_of r == last.line_end then record p { leaf = InParagraph (kept_lines options.heading_attributes before last) from r }
      else let q = with_drawn (stretch_then text from last.line_end Nil) p in record q { leaf = InParagraph (kept_lines options.heading_attributes before last) (begin_of r) r }

  -- a paragraph that an underline makes a heading: its drawn text loses the attributes at its end
  abbrev pub heading_closed : (level : ℕ) → (content : List Column) → (end : ℕ) → Drawing → Drawing
  heading_closed level content end d = closed_as (document.Heading level (setext_attributes options.heading_attributes content)) end (unbraced text options.heading_attributes content d.here d.up)

  -- a paragraph that an underline makes a heading; it is not a title
  abbrev pub heading_made : (level : ℕ) → (before : List Row) → (from : ℕ) → (last : Row) → Row → Pass → Pass
  heading_made level before from last r p = let q = with_drawn (last_stretch from last) p in record q {
    drawing = title_released q.inner.title (heading_closed level (content_of (before ++ last ∷ [])) r.line_end q.drawing);
    inner = record q.inner { title = None };
    leaf = Closed;
  }

  -- a line of code, without at most `most` columns of indent
  abbrev pub code_drawn : (most : ℕ) → Row → Option Piece → (Option Piece → OpenLeaf) → Pass → Pass
  code_drawn most r waits leaf p = let run = code_line text most r waits in let q = with_drawn (texts_of run.done) p in record q { leaf = leaf run.waits }

  abbrev pub indented_line : Row → Option Piece → Pass → Pass
  indented_line r waits p = code_drawn 4 r waits (λ left. InIndented left r.line_end []) p

  -- blank lines that belong to indented code, because a later line does
  abbrev pub indented_lines : List Row → Option Piece → (end : ℕ) → Pass → Pass
  indented_lines [] waits end p = record p { leaf = InIndented waits end [] }
  indented_lines (r ∷ rs) waits end p =
      let run = code_line text 4 r waits in indented_lines rs run.waits r.line_end (with_drawn (texts_of run.done) p)

  abbrev pub html_line : Row → Pass → Pass
  html_line r p = with_drawn (html_then (verbatim_line text r.columns r) Nil) p

  abbrev pub html_begun : (at_once : Bool) → (kind : ℕ) → (end : ℕ) → Pass → Pass
  html_begun true kind end p = node_closed end p
  html_begun false kind end p = record p { leaf = InHtml kind }

  -- a leaf begins on a line; for a link reference definition `more` of the lines ahead are read. Of a table the head is drawn
  abbrev pub leaf_begun : Leaf → (more : ℕ) → Row → (ahead : List Row) → Pass → Pass
  leaf_begun ThematicBreak more r ahead p = with_drawn (Node (node document.ThematicBreak (start_of r) r.line_end) Nil Nil) (block_begun p)
  leaf_begun (AtxHeading level) more r ahead p =
      with_drawn (Node (node (document.Heading level (heading_attributes options.heading_attributes level r)) (start_of r) r.line_end) (heading_tokens text options.heading_attributes level r) Nil) (block_begun p)
  leaf_begun IndentedCode more r ahead p = indented_line r None (node_opened (first_place r.content_end (code_columns 4 r)) document.IndentedCode (block_begun p))
  leaf_begun (FencedCode fence) more r ahead p =
      let q = node_opened (start_of r) (document.FencedCode (resolved lookup fence.info)) (block_begun p) in record q { leaf = InFenced fence None }
  leaf_begun (HtmlBlock kind) more r ahead p =
      html_begun (nat_le kind 5 && holds_end kind (words_of r)) kind r.line_end (html_line r (node_opened (begin_of r) document.HtmlBlock (block_begun p)))
  leaf_begun (LinkDefinition definition) more r ahead p =
      let q = block_begun p in record q {
        leaf = InDefinition more;
        references = q.references ++ reference_of lookup definition (start_of r) (last_content_end r (take more ahead)) ∷ [];
      }
  leaf_begun (MetadataBlock kind) more r ahead p = let q = node_opened (start_of r) (document.MetadataBlock kind) (block_begun p) in record q { leaf = InMetadata kind None }
  leaf_begun (Table alignments) more r ahead p =
      let q = with_drawn (table_tokens text (length alignments) r []) (node_opened (start_of r) (document.Table alignments) (block_begun p)) in
      record q { leaf = InTable (length alignments) most_filled false }

  abbrev pub begin_as : Opening → (Container → Pass) → Row → (ahead : List Row) → (bare : Bool) → Pass → Pass
  begin_as Blank inside r ahead bare p = record p { inner = record p.inner { has_line = true; blank = p.inner.has_line }; bare = bare }
  begin_as (Nests k) inside r ahead bare p = inside k
  begin_as (Takes leaf more) inside r ahead bare p = leaf_begun leaf more r ahead p
  begin_as Plain inside r ahead bare p = paragraph_begun r p

  -- the pass after a line at a place inside the open containers, with these whole lines after it; each container takes at least one column
  abbrev pub begin_in : (columns : ℕ) → Place → Row → (next : List Row) → (bare : Bool) → Pass → Pass
  begin_in zero place r next bare p = p
  begin_in (suc columns) place r next bare p =
      begin_as (opens_at options place r (ahead_in p.outer next))
      (λ k. inside_begun (is_alert k) (container_begun k r p) (begin_in columns (place_in k) (enter k r) next (is_item k) (container_begun k r p))) r (ahead_in p.outer next) bare p

  abbrev pub begin : Row → (next : List Row) → Pass → Pass
  begin r next p = begin_in (suc (length r.columns)) (place_of p.inner) r next false p

  abbrev pub underlined_or : Option ℕ → (ℕ → Pass) → Pass → Pass
  underlined_or (Some level) underlined other = underlined level
  underlined_or None underlined other = other

  abbrev pub indented_continuation : Continuation → Option Piece → (end : ℕ) → List Row → Row → List Row → Pass → Pass
  indented_continuation GoesOn waits end blank r next p = indented_lines (blank ++ r ∷ []) waits end p
  indented_continuation Closes waits end blank r next p = begin r next (leaf_closed p)
  indented_continuation Waits waits end blank r next p = record p { leaf = InIndented waits end (blank ++ r ∷ []) }
  indented_continuation Stops waits end blank r next p = begin r next (leaf_closed p)

  abbrev pub html_goes_on : Continuation → Row → List Row → Pass → Pass
  html_goes_on GoesOn r next p = html_line r p
  html_goes_on Closes r next p = node_closed r.line_end (html_line r p)
  html_goes_on Waits r next p = html_line r p
  html_goes_on Stops r next p = begin r next (leaf_closed p)

  -- another row of a table
  abbrev pub table_row : (columns left : ℕ) → Row → Pass → Pass
  table_row columns left r p = record (with_drawn (row_tokens text columns (r ∷ [])) p) { leaf = InTable columns (left - count_missing columns r) true }

  -- a line that lacks no prefix, after the open leaf
  abbrev pub leaf_fed : OpenLeaf → Row → (next : List Row) → Pass → Pass
  leaf_fed Closed r next p = begin r next p
  leaf_fed AfterTag r next p = begin r next (leaf_closed p)
  leaf_fed (InParagraph before from last) r next p =
      underlined_or (underlines r) (λ level. heading_made level before from last r p)
      (if texts options r (ahead_in p.outer next) then paragraph_line before from last r p else begin r next (leaf_closed p))
  leaf_fed (InDefinition zero) r next p = begin r next (leaf_closed p)
  leaf_fed (InDefinition (suc left)) r next p = record p { leaf = InDefinition left }
  leaf_fed (InTable columns left false) r next p = record p { leaf = InTable columns left true }
  leaf_fed (InTable columns left true) r next p = if is_row options columns left r then table_row columns left r p else begin r next (leaf_closed p)
  leaf_fed (InIndented waits end blank) r next p = indented_continuation (code_continuation r) waits end blank r next p
  leaf_fed (InFenced fence waits) r next p =
      if closes_fence fence r then node_closed r.line_end (with_drawn (texts_of (rest_of waits)) p) else code_drawn fence.indented r waits (InFenced fence) p
  leaf_fed (InHtml kind) r next p = html_goes_on (html_continuation kind r) r next p
  leaf_fed (InMetadata kind waits) r next p =
      if ends_metadata kind r then node_closed r.line_end (with_drawn (texts_of (rest_of waits)) p) else code_drawn 0 r waits (InMetadata kind) p

  -- a lazy line: it continues a paragraph, or begins one after a definition or an alert's tag
  abbrev pub lazy_fed : OpenLeaf → Row → Pass → Pass
  lazy_fed (InParagraph before from last) r p = paragraph_line before from last r p
  lazy_fed (InDefinition left) r p = paragraph_begun r p
  lazy_fed AfterTag r p = paragraph_begun r p
  lazy_fed Closed r p = p
  lazy_fed (InIndented waits end blank) r p = p
  lazy_fed (InFenced fence waits) r p = p
  lazy_fed (InHtml kind) r p = p
  lazy_fed (InMetadata kind waits) r p = p
  lazy_fed (InTable columns left has_delimiter) r p = p

  -- the containers that keep a line, those that do not, and the rest of the line
  pub record LineKeepers : Type 0 where
    pub kept : List OpenContainer
    pub missed : List OpenContainer
    pub left : Row

  abbrev pub is_last : List OpenContainer → Bool
  is_last [] = true
  is_last (c ∷ cs) = false

  abbrev pub kept_if : Option Row → (Row → LineKeepers) → LineKeepers → LineKeepers
  kept_if (Some s) on off = on s
  kept_if None on off = off

  abbrev pub kept_by : (outer : List OpenContainer) → List OpenContainer → (bare : Bool) → Row → LineKeepers
  kept_by outer [] bare r = record { kept = outer; missed = []; left = r }
  kept_by outer (c ∷ cs) bare r =
      kept_if (keeps c.container (bare && is_last cs) r) (λ s. kept_by (outer ++ c ∷ []) cs bare s) (record { kept = outer; missed = c ∷ cs; left = r })

  -- the pass after a line that lacks the prefixes of the containers `missed`
  abbrev pub line_with : (missed kept : List OpenContainer) → Row → (next : List Row) → Pass → Pass
  line_with [] kept r next p = leaf_fed p.leaf r next p
  line_with (c ∷ cs) kept r next p =
      if lazily options c.container r (ahead_in kept next) && takes_lazy p.leaf then lazy_fed p.leaf r p
      else begin r next (containers_closed kept (c ∷ cs) (leaf_closed p))

  -- the next line, with the whole lines after it
  abbrev pub line_fed : Row → (next : List Row) → Pass → Pass
  line_fed r next p = let w = kept_by [] p.outer p.bare r in let q = line_with w.missed w.kept w.left next (record p { bare = false }) in record q { line_end = r.line_end }

  abbrev pub lines_fed : List Row → Pass → Pass
  lines_fed [] p = p
  lines_fed (r ∷ rs) p = lines_fed rs (line_fed r rs p)

  -- everything is closed at the end of the text
  abbrev pub all_closed : Pass → Pass
  all_closed p = let q = containers_closed [] p.outer (leaf_closed p) in record q { drawing = ended q.inner q.drawing }

  -- the pass over a text
  unfoldable pub pass_over : Pass
  pass_over = all_closed (lines_fed (rows text) at_start)
