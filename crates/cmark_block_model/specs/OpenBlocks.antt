-- The open parts of the block pass: the containers, the siblings in each of them, and the leaf.
use Rattle.std.specs.Prelude.{ℕ, Bool, true, false, List, [], Option, None}
use Rattle.cmark_grammar.specs.Rows.{Row}
use Rattle.cmark_grammar.specs.Leaves.{Fence}
use Rattle.cmark_grammar.specs.Containers.{Container}
use Rattle.cmark_grammar.specs.Tokens.{Piece}
use Rattle.cmark_grammar.specs.BlockDocument.{Reference}
use Rattle.cmark_grammar.specs.MetadataBlockKind.{MetadataBlockKind}
use Rattle.cmark_block_model.specs.Drawing.{Drawing, nothing_drawn}

-- a list that may get further items, or titles and definitions. It has its character and the number of its first item; whether it is known
-- to be loose; and the end of its last item
pub record OpenList : Type 0 where
  pub delimiter : ℕ
  pub number : Option ℕ
  pub loose : Bool
  pub end : ℕ

-- the state before a paragraph that a definition may make a title. List: the definition list that was open; the paragraph is then drawn in
-- it. Parted: a blank line separated two blocks
pub record Title : Type 0 where
  pub list : Option OpenList
  pub parted : Bool

-- The blocks of a container so far.
--
-- - Has_line: it has a block, a blank line, or only blanks after its marker.
-- - Blank: a blank line is at the end. Parted: a blank line separates two of the blocks. The blanks after the marker do not count as a line.
-- - List: the list of which the last block is an item.
-- - Title: the state before the last block, if that is a paragraph, which may be a title. A definition list to which the paragraph may
--   belong stays open, but the paragraph is not an item of `list`.
pub record Siblings : Type 0 where
  pub has_line : Bool
  pub blank : Bool
  pub parted : Bool
  pub list : Option OpenList
  pub title : Option Title

abbrev pub no_siblings : Siblings
no_siblings = record { has_line = false; blank = false; parted = false; list = None; title = None }

-- an open container, with the siblings before it
pub record OpenContainer : Type 0 where
  pub container : Container
  pub around : Siblings

-- The open leaf, if there is one. Directly after an alert's tag no leaf is open yet.
--
-- - A paragraph has its last line, and the place at which the stretch of that line begins. The stretch is drawn when the next line shows
--   whether it continues. If attributes of headings are read, the paragraph has its earlier lines too, for it may become a heading.
-- - A link reference definition has lines to come.
-- - A table has the number of its columns, the number of cells that may still be filled in, and whether its delimiter row was fed.
-- - Indented code, fenced code and metadata have the stretch of the text that waits. Indented code also has the end of its last line, and
--   the blank lines after that.
pub data OpenLeaf : Type 0 where
  Closed : OpenLeaf
  AfterTag : OpenLeaf
  InParagraph : (before : List Row) → (from : ℕ) → (last : Row) → OpenLeaf
  InDefinition : (left : ℕ) → OpenLeaf
  InTable : (columns left : ℕ) → (has_delimiter : Bool) → OpenLeaf
  InIndented : (waits : Option Piece) → (end : ℕ) → (blank : List Row) → OpenLeaf
  InFenced : (fence : Fence) → (waits : Option Piece) → OpenLeaf
  InHtml : (kind : ℕ) → OpenLeaf
  InMetadata : (kind : MetadataBlockKind) → (waits : Option Piece) → OpenLeaf

-- a lazy line may follow the leaf
abbrev pub takes_lazy : OpenLeaf → Bool
takes_lazy Closed = false
takes_lazy AfterTag = true
takes_lazy (InParagraph before from last) = true
takes_lazy (InDefinition left) = true
takes_lazy (InTable columns left has_delimiter) = false
takes_lazy (InIndented waits end blank) = false
takes_lazy (InFenced fence waits) = false
takes_lazy (InHtml kind) = false
takes_lazy (InMetadata kind waits) = false

-- the state of the pass: the drawing; the innermost siblings; the containers around them, the outermost first. Bare: the last line was the
-- blank first line of an item, which is the innermost container. Then the leaf; the place at which the next line begins; the link reference
-- definitions; and the labels of the footnote definitions, in order
pub record Pass : Type 0 where
  pub drawing : Drawing
  pub inner : Siblings
  pub outer : List OpenContainer
  pub bare : Bool
  pub leaf : OpenLeaf
  pub line_end : ℕ
  pub references : List Reference
  pub footnotes : List (List ℕ)

abbrev pub at_start : Pass
at_start = record { drawing = nothing_drawn; inner = no_siblings; outer = []; bare = false; leaf = Closed; line_end = 0; references = []; footnotes = [] }
