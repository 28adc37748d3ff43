-- The pass as a function of the open blocks of the model: each field by the open lines and the lines ahead.
use Rattle.std.proofs.Common.{◌≡◌, ℕ, suc, ◌-◌, ◌≤◌, Bool, true, false, ◌==◌, List, [], ◌∷◌, ◌++◌, length, take, drop, refl, ap, sym, arith, rules}
use Rattle.std.specs.Prelude.{if◌then◌else◌}
use Rattle.cmark_grammar.specs.Options.{Options}
use Rattle.cmark_grammar.specs.Answers.{Lookup}
use Rattle.cmark_grammar.specs.Rows.{Row, start_of, begin_of, last_line_end, first_place}
use Rattle.cmark_grammar.specs.Leaves.{closes_fence}
use Rattle.cmark_grammar.specs.Containers.{Container, is_bare_start, bare_after}
use Rattle.cmark_grammar.specs.Openings.{Leaf, ThematicBreak, AtxHeading, IndentedCode, FencedCode, HtmlBlock, LinkDefinition, MetadataBlock, Table, count_rows}
use Rattle.cmark_grammar.specs.Alignment.{Alignment}
use Rattle.cmark_grammar.specs.TableRows.{count_missing, most_filled}
use Rattle.cmark_grammar.specs.TableTokens.{row_cells, row_tokens, table_tokens}
use Rattle.cmark_block_model.specs.BlocksModel.{within}
use Rattle.cmark_block_model.specs.BlocksByLine.{Verbatim, Indented, Fenced, HtmlLines, OpenLines, Between, AfterTag, InParagraph, InLeaf, InVerbatim, InContainer, Metadata}
use Rattle.cmark_grammar.specs.Tokens.{resolved, words_end, stretch_then, stretches, html_tokens, html_then, verbatim_line, code_columns}
use Rattle.cmark_grammar.specs.SetextAttributes.{line_end_column, content_of, without_braces, setext_attributes}
use Rattle.cmark_grammar.specs.BlockDocument as document
use Rattle.cmark_grammar.specs.BlockDocument.{BlockDocument, Nil, Node, node, join}
use Rattle.cmark_grammar.specs.Metadata.{ends_metadata}
use Rattle.cmark_block_model.specs.BlockPass.{is_row, kept_lines}
use Rattle.cmark_block_model.specs.CodeLines.{no_run, texts_of}
use Rattle.cmark_block_model.specs.OpenBlocks.{OpenContainer, OpenLeaf, Closed, AfterTag as AfterTagLeaf, InParagraph as InParagraphLeaf, InDefinition, InIndented, InFenced, InHtml, Pass, InMetadata, InTable}
use Rattle.cmark_block_model.proofs.PlainTokens.{stretch-join, html-join}
use Rattle.cmark_block_model.proofs.CodeRuns.{code_run}
use Rattle.cmark_block_model.proofs.Replay.{Level, begun, paragraph_begun, level_opened, level_drawn, standing, entered, leaf_level, replay}

-- a line that lacks no prefix
abbrev pub whole : Row → Row
whole r = record r { lazy = false }

pub whole-same : (r : Row) → r.lazy ≡ false → whole r ≡ r
whole-same r e = ap (λ z. record { columns = r.columns; at = r.at; content_end = r.content_end; line_end = r.line_end; lazy = z; held = r.held }) (sym e)

abbrev pub last_of : Row → List Row → Row
last_of first [] = first
last_of first (r ∷ more) = last_of r more

pub last_push : (first : Row) (more : List Row) (r : Row) → last_of first (more ++ r ∷ []) ≡ r
last_push first [] r = refl
last_push first (s ∷ more) r = last_push s more r

pub line_end_push : (first : Row) (more : List Row) (r : Row) → last_line_end first (more ++ r ∷ []) ≡ r.line_end
line_end_push first [] r = refl
line_end_push first (s ∷ more) r = line_end_push s more r

-- the beginning of the stretch of the last of these lines, if the stretch of the first begins at `begin`
abbrev pub last_begin : (begin : ℕ) → Row → List Row → ℕ
last_begin begin first [] = begin
last_begin begin first (r ∷ more) = if begin_of r == first.line_end then last_begin begin r more else last_begin (begin_of r) r more

pub begin_push : (begin : ℕ) (first : Row) (more : List Row) (r : Row)
    → last_begin begin first (more ++ r ∷ []) ≡ (if begin_of r == (last_of first more).line_end then last_begin begin first more else begin_of r)
begin_push begin first [] r = refl
begin_push begin first (s ∷ more) r = search (rules, begin_push begin s more r, begin_push (begin_of s) s more r)

-- the lines that a paragraph keeps before its last one
abbrev pub kept_line : Bool → Row → List Row → List Row
kept_line false r rs = []
kept_line true r rs = r ∷ rs

abbrev pub kept_before : Bool → Row → List Row → List Row
kept_before attributes first [] = []
kept_before attributes first (r ∷ more) = kept_line attributes (whole first) (kept_before attributes r more)

pub kept_push : (attributes : Bool) (first : Row) (more : List Row) (r : Row) → kept_before attributes first (more ++ r ∷ []) ≡ kept_lines attributes (kept_before attributes first more) (whole (last_of first more))
kept_push false first [] r = refl
kept_push false first (s ∷ more) r = refl
kept_push true first [] r = refl
kept_push true first (s ∷ more) r = ap (λ rs. whole first ∷ rs) (kept_push true s more r)

content-kept : (first : Row) (more : List Row) → content_of (kept_before true first more ++ whole (last_of first more) ∷ []) ≡ content_of (first ∷ more)
content-kept first [] = refl
content-kept first (r ∷ []) = refl
content-kept first (r ∷ (s ∷ more)) = ap (λ cs. first.columns ++ line_end_column first ∷ cs) (content-kept r (s ∷ more))

pub attributes-kept : (attributes : Bool) (first : Row) (more : List Row)
    → setext_attributes attributes (content_of (kept_before attributes first more ++ whole (last_of first more) ∷ [])) ≡ setext_attributes attributes (content_of (first ∷ more))
attributes-kept false first more = refl
attributes-kept true first more = ap (setext_attributes true) (content-kept first more)

pub braces-kept : (text : List ℕ) (attributes : Bool) (first : Row) (more : List Row) (d : BlockDocument)
    → without_braces text attributes (content_of (kept_before attributes first more ++ whole (last_of first more) ∷ [])) d ≡ without_braces text attributes (content_of (first ∷ more)) d
braces-kept text false first more d = refl
braces-kept text true first more d = ap (λ cs. without_braces text true cs d) (content-kept first more)

abbrev pub pass_with : Level → List OpenContainer → Bool → OpenLeaf → ℕ → Pass
pass_with l outer bare leaf line_end = record { drawing = l.drawing; inner = l.inner; outer = outer; bare = bare; leaf = leaf; line_end = line_end; references = l.noted.references; footnotes = l.noted.footnotes }

-- the number of cells that may still be filled in after these rows of a table with `columns` columns, if `left` may before them
abbrev pub cells_left : (columns left : ℕ) → (rows : List Row) → ℕ
cells_left columns left [] = left
cells_left columns left (r ∷ rows) = cells_left columns (left - count_missing columns r) rows

pub left-push : (columns left : ℕ) (rows : List Row) (r : Row) → cells_left columns left (rows ++ r ∷ []) ≡ cells_left columns left rows - count_missing columns r
left-push columns left [] r = refl
left-push columns left (s ∷ rows) r = left-push columns (left - count_missing columns s) rows r

-- a table with `columns` columns after these lines, the first of which is the delimiter row
abbrev pub table_leaf : (columns : ℕ) → (had : List Row) → OpenLeaf
table_leaf columns [] = InTable columns most_filled false
table_leaf columns (delimiter ∷ rows) = InTable columns (cells_left columns most_filled rows) true

abbrev pub leaf_left : Leaf → (had : List Row) → (left : ℕ) → OpenLeaf
leaf_left (LinkDefinition definition) had left = InDefinition left
leaf_left (Table alignments) had left = table_leaf (length alignments) had
leaf_left _ had left = Closed

-- how many lines the leaf takes is looked up ahead
abbrev pub is_looked_up : Leaf → Bool
is_looked_up (LinkDefinition definition) = true
is_looked_up (Table alignments) = true
is_looked_up _ = false

-- the bare flag; it is that of the container around if nothing is open
abbrev pub bare_at : Bool → OpenLines → Bool
bare_at bare (Between closed) = bare
bare_at bare (InContainer closed k first more inside) = bare_at (bare_after (is_bare_start k first) more) inside
bare_at bare _ = false

-- no line of these closes the block
abbrev pub AreBefore : (closes : Row → Bool) → List Row → Type 0
AreBefore closes [] = Unit {0}
AreBefore closes (r ∷ rs) = (closes r ≡ false) × AreBefore closes rs

-- the invariant of the open blocks: the bare flag of the container around, the end of the last line, and the lines ahead
abbrev pub FitsVerbatim : Verbatim → Row → (had waiting : List Row) → ℕ → Type 0
FitsVerbatim Indented first had waiting n = Unit {0}
FitsVerbatim (Fenced fence) first had waiting n = (waiting ≡ []) × (last_line_end first had ≡ n) × AreBefore (closes_fence fence) had
FitsVerbatim (HtmlLines kind) first had waiting n = (waiting ≡ []) × (last_line_end first had ≡ n)
FitsVerbatim (Metadata kind) first had waiting n = (waiting ≡ []) × (last_line_end first had ≡ n) × AreBefore (ends_metadata kind) had

-- the number of a table's lines to come, after these
abbrev pub lines_left : Options → (columns : ℕ) → (had ahead : List Row) → ℕ
lines_left options columns [] ahead = suc (count_rows options columns most_filled (drop 1 ahead))
lines_left options columns (delimiter ∷ rows) ahead = count_rows options columns (cells_left columns most_filled rows) ahead

-- if a line is left, the next one is a row; if none is left, it is not
pub row-taken : (options : Options) (columns cells left : ℕ) (r : Row) (ahead : List Row) → suc left ≡ count_rows options columns cells (r ∷ ahead)
    → (is_row options columns cells r ≡ true) × (left ≡ count_rows options columns (cells - count_missing columns r) ahead)
row-taken options columns cells left r ahead e = grind arith

pub no-row : (options : Options) (columns cells : ℕ) (r : Row) (ahead : List Row) → 0 ≡ count_rows options columns cells (r ∷ ahead) → is_row options columns cells r ≡ false
no-row options columns cells r ahead e = grind arith

abbrev pub FitsLeaf : Options → Leaf → Row → (had : List Row) → (left : ℕ) → (ahead : List Row) → ℕ → Type 0
FitsLeaf options (Table alignments) first had left ahead n = (last_line_end first had ≡ n) × (left ≡ lines_left options (length alignments) had ahead)
FitsLeaf options _ first had left ahead n = Unit {0}

abbrev pub Fits : Options → Bool → OpenLines → List Row → ℕ → Type 0
Fits options bare (Between closed) ahead n = Unit {0}
Fits options bare AfterTag ahead n = bare ≡ false
Fits options bare (InParagraph closed first more) ahead n = (bare ≡ false) × (last_line_end first more ≡ n)
Fits options bare (InLeaf closed leaf first had left) ahead n = (bare ≡ false) × (left ≤ length ahead) × (is_looked_up leaf ≡ false → left ≡ 0) × FitsLeaf options leaf first had left ahead n
Fits options bare (InVerbatim closed verbatim first had waiting) ahead n = (bare ≡ false) × FitsVerbatim verbatim first had waiting n
Fits options bare (InContainer closed k first more inside) ahead n =
    (bare ≡ false) × (last_line_end first more ≡ n) × Fits options (bare_after (is_bare_start k first) more) inside (within k (bare_after (is_bare_start k first) more) ahead) n

module _ (text : List ℕ) (options : Options) (lookup : Lookup) where
  -- the stretches of a paragraph but the last
  abbrev pub lines_drawn : (begin : ℕ) → Row → List Row → BlockDocument
  lines_drawn begin first [] = Nil
  lines_drawn begin first (r ∷ more) = if begin_of r == first.line_end then lines_drawn begin r more else stretch_then text begin first.line_end (lines_drawn (begin_of r) r more)

  pub drawn-tokens : (begin : ℕ) (first : Row) (more : List Row) → stretches text begin first more ≡ join (lines_drawn begin first more) (stretch_then text (last_begin begin first more) (words_end (last_of first more)) Nil)
  drawn-tokens begin first [] = refl
  drawn-tokens begin first (r ∷ more) = search (rules, stretch-join, drawn-tokens begin r more, drawn-tokens (begin_of r) r more)

  -- the drawing of another line
  abbrev pub one_more : Bool → (begin line_end : ℕ) → BlockDocument → BlockDocument
  one_more touches begin line_end before = if touches then before else join before (stretch_then text begin line_end Nil)

  pub drawn-push : (begin : ℕ) (first : Row) (more : List Row) (r : Row)
      → lines_drawn begin first (more ++ r ∷ []) ≡ one_more (begin_of r == (last_of first more).line_end) (last_begin begin first more) (last_of first more).line_end (lines_drawn begin first more)
  drawn-push begin first [] r = refl
  drawn-push begin first (s ∷ more) r = search (rules, stretch-join, drawn-push begin s more r, drawn-push (begin_of s) s more r)

  pub html-push : (rs : List Row) (r : Row) → html_tokens text (rs ++ r ∷ []) ≡ join (html_tokens text rs) (html_then (verbatim_line text r.columns r) Nil)
  html-push [] r = refl
  html-push (s ∷ rs) r = cc (html-push rs r, html-join (verbatim_line text s.columns s) (html_tokens text rs) (html_then (verbatim_line text r.columns r) Nil))

  pub rows-push : (columns : ℕ) (rows : List Row) (r : Row) → row_tokens text columns (rows ++ r ∷ []) ≡ join (row_tokens text columns rows) (row_tokens text columns (r ∷ []))
  rows-push columns [] r = refl
  rows-push columns (s ∷ rows) r = ap (Node (node document.TableRow (start_of s) s.line_end) (row_cells text columns s)) (rows-push columns rows r)

  abbrev pub paragraph_open : Row → List Row → Level → Level
  paragraph_open first more l = level_drawn (lines_drawn (start_of first) first more) (level_opened (start_of first) document.Paragraph (paragraph_begun l))

  abbrev pub verbatim_level : Verbatim → Row → List Row → Level → Level
  verbatim_level Indented first had l =
      level_drawn (texts_of (code_run text 4 no_run (first ∷ had)).done) (level_opened (first_place first.content_end (code_columns 4 first)) document.IndentedCode (begun l))
  verbatim_level (Fenced fence) first had l =
      level_drawn (texts_of (code_run text fence.indented no_run had).done) (level_opened (start_of first) (document.FencedCode (resolved lookup fence.info)) (begun l))
  verbatim_level (HtmlLines kind) first had l =
      level_drawn (html_tokens text (first ∷ had)) (level_opened (begin_of first) document.HtmlBlock (begun l))
  verbatim_level (Metadata kind) first had l =
      level_drawn (texts_of (code_run text 0 no_run had).done) (level_opened (start_of first) (document.MetadataBlock kind) (begun l))

  abbrev pub verbatim_leaf : Verbatim → Row → (had waiting : List Row) → OpenLeaf
  verbatim_leaf Indented first had waiting = InIndented (code_run text 4 no_run (first ∷ had)).waits (last_line_end first had) waiting
  verbatim_leaf (Fenced fence) first had waiting = InFenced fence (code_run text fence.indented no_run had).waits
  verbatim_leaf (HtmlLines kind) first had waiting = InHtml kind
  verbatim_leaf (Metadata kind) first had waiting = InMetadata kind (code_run text 0 no_run had).waits

  -- a table has only the rows that were fed
  abbrev pub table_open : List Alignment → Row → (had : List Row) → Level → Level
  table_open alignments first had l = level_drawn (table_tokens text (length alignments) first had) (level_opened (start_of first) (document.Table alignments) (begun l))

  abbrev pub leaf_open : Leaf → Row → (had following : List Row) → Level → Level
  leaf_open ThematicBreak first had following l = leaf_level text options lookup ThematicBreak first (had ++ following) l
  leaf_open (AtxHeading level) first had following l = leaf_level text options lookup (AtxHeading level) first (had ++ following) l
  leaf_open IndentedCode first had following l = leaf_level text options lookup IndentedCode first (had ++ following) l
  leaf_open (FencedCode fence) first had following l = leaf_level text options lookup (FencedCode fence) first (had ++ following) l
  leaf_open (HtmlBlock kind) first had following l = leaf_level text options lookup (HtmlBlock kind) first (had ++ following) l
  leaf_open (MetadataBlock kind) first had following l = leaf_level text options lookup (MetadataBlock kind) first (had ++ following) l
  leaf_open (LinkDefinition definition) first had following l = leaf_level text options lookup (LinkDefinition definition) first (had ++ following) l
  leaf_open (Table alignments) first had following l = table_open alignments first had l

  abbrev pub paragraph_leaf : Row → List Row → OpenLeaf
  paragraph_leaf first more = InParagraphLeaf (kept_before options.heading_attributes first more) (last_begin (start_of first) first more) (whole (last_of first more))

  -- the innermost level
  abbrev pub inner_at : OpenLines → List Row → Level → Level
  inner_at (Between closed) ahead l = replay text options lookup closed l
  inner_at AfterTag ahead l = l
  inner_at (InParagraph closed first more) ahead l = paragraph_open first more (replay text options lookup closed l)
  inner_at (InLeaf closed leaf first had left) ahead l = leaf_open leaf first had (take left ahead) (replay text options lookup closed l)
  inner_at (InVerbatim closed verbatim first had waiting) ahead l = verbatim_level verbatim first had (replay text options lookup closed l)
  inner_at (InContainer closed k first more inside) ahead l =
      inner_at inside (within k (bare_after (is_bare_start k first) more) ahead) (entered k first (replay text options lookup closed l))

  abbrev pub leaf_at : OpenLines → OpenLeaf
  leaf_at (Between closed) = Closed
  leaf_at AfterTag = AfterTagLeaf
  leaf_at (InParagraph closed first more) = paragraph_leaf first more
  leaf_at (InLeaf closed leaf first had left) = leaf_left leaf had left
  leaf_at (InVerbatim closed verbatim first had waiting) = verbatim_leaf verbatim first had waiting
  leaf_at (InContainer closed k first more inside) = leaf_at inside

  abbrev pub container_at : Container → Row → Level → OpenContainer
  container_at k first l = record { container = k; around = (standing k first l).inner }

  abbrev pub containers_at : OpenLines → Level → List OpenContainer
  containers_at (InContainer closed k first more inside) l =
      container_at k first (replay text options lookup closed l) ∷ containers_at inside (entered k first (replay text options lookup closed l))
  containers_at _ l = []

  abbrev pub pass_at : OpenLines → List Row → Level → List OpenContainer → Bool → ℕ → Pass
  pass_at o ahead l outer bare n = pass_with (inner_at o ahead l) (outer ++ containers_at o l) (bare_at bare o) (leaf_at o) n
