-- The blocks that a line begins, and the lines that interrupt a paragraph (CommonMark 3 to 5). Example: `# a` begins a heading and
-- interrupts a paragraph; `2. a` begins an item and does not interrupt one.
use Rattle.std.specs.Prelude.{ℕ, suc, Bool, true, false, ◌==◌, ◌&&◌, ◌||◌, not, nat_le, if◌then◌else◌, List, Option, Some, None, ◌∷◌, ◌-◌, length, drop, []}
use Rattle.cmark_grammar.specs.Characters.{number_sign}
use Rattle.cmark_grammar.specs.Alignment.{Alignment}
use Rattle.cmark_grammar.specs.Rows.{Row, is_blank_line, indent_of, words_of, without}
use Rattle.cmark_grammar.specs.Leaves.{Fence, underlines, counted, run, is_thematic_break, is_atx_heading, fence_of, fence_continuation, code_continuation}
use Rattle.cmark_grammar.specs.HtmlBlocks.{html_kind, html_lines}
use Rattle.cmark_grammar.specs.LinkDefinitions.{Definition, Defined, definition_in, bytes_over, line_ends}
use Rattle.cmark_grammar.specs.Containers.{Container, BlockQuote, Item, Footnote, ListDefinition, item_of, is_block_quote, container_of}
use Rattle.cmark_grammar.specs.DefinitionLists.{begins_definition, definition_at, is_definition}
use Rattle.cmark_grammar.specs.Footnotes.{Footnotes, footnotes_in, are_read, do_interrupt, footnote_in, is_label_found, is_footnote_label}
use Rattle.cmark_grammar.specs.Metadata.{metadata_kind, holds_metadata, metadata_continuation}
use Rattle.cmark_grammar.specs.MetadataBlockKind.{MetadataBlockKind}
use Rattle.cmark_grammar.specs.Options.{Options}
use Rattle.cmark_grammar.specs.Places.{Place, is_after_task}
use Rattle.cmark_grammar.specs.TableRows.{count_rows as count_rows_until, most_filled, table_head, table_interrupts}

-- a leaf block other than a paragraph
pub data Leaf : Type 0 where
  ThematicBreak : Leaf
  AtxHeading : (level : ℕ) → Leaf
  IndentedCode : Leaf
  FencedCode : (fence : Fence) → Leaf
  HtmlBlock : (kind : ℕ) → Leaf
  LinkDefinition : (definition : Definition) → Leaf
  MetadataBlock : (kind : MetadataBlockKind) → Leaf
  Table : (alignments : List Alignment) → Leaf

-- the opening of a line: nothing, if the line is blank; a container; a leaf, with the number of lines ahead that belong to it; or else a
-- paragraph
pub data Opening : Type 0 where
  Blank : Opening
  Nests : (container : Container) → Opening
  Takes : (leaf : Leaf) → (more : ℕ) → Opening
  Plain : Opening

-- the first opening, or, if that is a paragraph, the second one
abbrev pub or_else : Opening → Opening → Opening
or_else Plain other = other
or_else Blank other = Blank
or_else (Nests container) other = Nests container
or_else (Takes leaf more) other = Takes leaf more

abbrev pub nests_if : Option Container → Opening
nests_if (Some container) = Nests container
nests_if None = Plain

abbrev pub is_one : Option ℕ → Bool
is_one None = true
is_one (Some n) = n == 1

-- a paragraph is interrupted by an item of its own container only if the item is not blank and its number, if any, is 1 (CommonMark 5.2)
abbrev pub item_interrupts : (same : Bool) → Row → Option Container → Bool
item_interrupts same r None = false
item_interrupts same r (Some (BlockQuote alert)) = false
item_interrupts same r (Some (Footnote label old size)) = false
item_interrupts same r (Some (ListDefinition width)) = false
item_interrupts same r (Some (Item delimiter number width task)) = not same || (is_one number && not (is_blank_line (without width r)))

abbrev pub is_some_fence : Option Fence → Bool
is_some_fence (Some fence) = true
is_some_fence None = false

-- HTML blocks of kind 7 do not interrupt a paragraph (CommonMark 4.6)
abbrev pub html_interrupts : Option ℕ → Bool
html_interrupts None = false
html_interrupts (Some kind) = nat_le kind 6

abbrev pub fenced_if : Option Fence → List Row → Opening
fenced_if (Some fence) ahead = Takes (FencedCode fence) (counted (fence_continuation fence) ahead)
fenced_if None ahead = Plain

abbrev pub html_if : Row → List Row → Option ℕ → Opening
html_if r ahead (Some kind) = Takes (HtmlBlock kind) (html_lines kind r ahead)
html_if r ahead None = Plain

abbrev pub is_none : Option ℕ → Bool
is_none (Some n) = false
is_none None = true

-- a footnote definition, indented by at most three columns, that interrupts a paragraph
abbrev pub footnote_interrupts : Footnotes → Row → Bool
footnote_interrupts footnotes r = do_interrupt footnotes && (nat_le (indent_of r) 3 && is_label_found (footnote_in (words_of r)))

-- with footnotes on, the words begin with a footnote's label, and not with a link's
abbrev pub begins_no_link : Footnotes → List ℕ → Bool
begins_no_link footnotes words = are_read footnotes && is_footnote_label words

abbrev pub put_if : Bool → Row → List Row → List Row
put_if true r rs = r ∷ rs
put_if false r rs = []

abbrev pub defined_if : (lines : ℕ) → Option Defined → Opening
defined_if lines (Some found) = Takes (LinkDefinition found.definition) (lines - line_ends found.following)
defined_if lines None = Plain

abbrev pub break_if : Bool → Opening
break_if true = Takes ThematicBreak 0
break_if false = Plain

abbrev pub heading_if : Bool → (level : ℕ) → Opening
heading_if true level = Takes (AtxHeading level) 0
heading_if false level = Plain

-- a metadata block, if the lines ahead belong to one
abbrev pub metadata_begun : Option MetadataBlockKind → List Row → Opening
metadata_begun None ahead = Plain
metadata_begun (Some kind) ahead = if holds_metadata kind ahead then Takes (MetadataBlock kind) (counted (metadata_continuation kind) ahead) else Plain

module _ (options : Options) where
  -- whether a line interrupts a paragraph that is in its container or inside further ones (CommonMark 4.8)
  abbrev pub interrupts : (same : Bool) → Row → List Row → Bool
  interrupts same r ahead =
      is_blank_line r || (footnote_interrupts (footnotes_in options) r || (nat_le (indent_of r) 3 && (is_block_quote r || (item_interrupts same r (item_of r) || (is_thematic_break (words_of r)
      || (is_atx_heading (words_of r) || (is_some_fence (fence_of (indent_of r) (words_of r)) || html_interrupts (html_kind (words_of r)))))))))

  -- the line continues a paragraph in the same container, or, if the line is lazy, further inside
  unfoldable pub texts : Row → List Row → Bool
  texts r ahead = not (interrupts (not r.lazy) r ahead || (table_interrupts options r ahead || begins_definition options r))

  -- the line lacks the prefix of this container and of the inner ones, and continues a paragraph there. The marker of another definition
  -- ends only a definition
  unfoldable pub lazily : Container → Row → List Row → Bool
  lazily k r ahead = not (interrupts false r ahead || (table_interrupts options r ahead || (is_definition k && begins_definition options r)))

  -- the lines ahead up to the first that does not continue a paragraph
  abbrev pub text_lines : List Row → List Row
  text_lines [] = []
  text_lines (r ∷ ahead) = put_if (texts r ahead && is_none (underlines r)) r (text_lines ahead)

  -- a link reference definition, whose further lines could continue a paragraph (CommonMark 4.7). With footnotes on, a label that begins
  -- with `^` and has more bytes does not begin one
  abbrev pub definition_of : Row → List Row → Opening
  definition_of r ahead =
      if begins_no_link (footnotes_in options) (words_of r) then Plain else defined_if (length (text_lines ahead)) (definition_in (bytes_over r (text_lines ahead)))

  -- the number of rows of a table with `columns` columns (GFM 4.10). The rows end before the first line that interrupts the table, as each
  -- list marker does, or for which more than `left` cells would be filled in. No table interrupts a table
  abbrev pub count_rows : (columns left : ℕ) → List Row → ℕ
  count_rows columns left ahead = count_rows_until (interrupts false) columns left ahead

  -- a table has a head, then a delimiter row, and then its rows (GFM 4.10)
  abbrev pub table_if : Option (List Alignment) → List Row → Opening
  table_if None ahead = Plain
  table_if (Some alignments) ahead = Takes (Table alignments) (suc (count_rows (length alignments) most_filled (drop 1 ahead)))

  -- the opening of a line that begins no other leaf
  abbrev pub text_of : Row → List Row → Opening
  text_of r ahead = or_else (definition_of r ahead) (table_if (table_head options r ahead) ahead)

  -- the first leaf that matches the line; if there is none, a paragraph
  abbrev pub leaf_of : Row → List Row → Opening
  leaf_of r ahead =
      or_else (html_if r ahead (html_kind (words_of r)))
      (or_else (break_if (is_thematic_break (words_of r)))
      (or_else (heading_if (is_atx_heading (words_of r)) (run number_sign (words_of r)))
      (or_else (fenced_if (fence_of (indent_of r) (words_of r)) ahead)
      (text_of r ahead))))

  -- the opening of a line that lacks no prefix: from four columns of indent on, only indented code
  abbrev pub whole_opens : Row → List Row → Opening
  whole_opens r ahead =
      if is_blank_line r then Blank
      else if nat_le 4 (indent_of r) then Takes IndentedCode (counted code_continuation ahead)
      else or_else (nests_if (container_of options r)) (leaf_of r ahead)

  -- the opening of a line, with these lines ahead. A lazy line can begin only a paragraph. Metadata comes first: its first line is
  -- neither blank nor indented, and begins no container
  unfoldable pub opens : Row → List Row → Opening
  opens r ahead = if r.lazy then Plain else or_else (metadata_begun (metadata_kind options r) ahead) (whole_opens r ahead)

-- the line after a task marker begins a paragraph, unless it is blank
abbrev pub text_begun : Row → Opening
text_begun r = if is_blank_line r then Blank else Plain

abbrev pub definition_or : Option ℕ → (other : Opening) → Opening
definition_or (Some width) other = Nests (ListDefinition width)
definition_or None other = other

module _ (options : Options) where
  -- the opening of a line at a place, with these lines ahead
  abbrev pub opens_at : Place → Row → List Row → Opening
  opens_at place r ahead = if is_after_task place && not r.lazy then text_begun r else definition_or (definition_at options place r) (opens options r ahead)
