-- The level after closed blocks: the drawing, the siblings' flags, the references and the labels of footnotes, block by block.
use Rattle.std.specs.Prelude.{ℕ, Bool, true, false, ◌==◌, ◌||◌, List, [], ◌∷◌, ◌++◌, Option, Some, None}
use Rattle.cmark_grammar.specs.Options.{Options}
use Rattle.cmark_grammar.specs.Answers.{Lookup}
use Rattle.cmark_grammar.specs.SetextAttributes.{content_of, setext_attributes, setext_tokens}
use Rattle.cmark_grammar.specs.Rows.{Row, without, start_of, begin_of, last_line_end}
use Rattle.cmark_grammar.specs.Labels.{normal_form}
use Rattle.cmark_grammar.specs.Containers.{Container, BlockQuote, Item, Footnote, ListDefinition}
use Rattle.cmark_grammar.specs.Openings.{Leaf, ThematicBreak, AtxHeading, IndentedCode, FencedCode, HtmlBlock, LinkDefinition, MetadataBlock, Table}
use Rattle.cmark_grammar.specs.Blocks.{Blocks, Nil, BlankLine, Paragraph, SetextHeading, LeafBlock, ContainerBlock, join}
use Rattle.cmark_grammar.specs.Tokens.{paragraph_tokens}
use Rattle.cmark_grammar.specs.TaskItems.{after_box}
use Rattle.cmark_grammar.specs.Derivation.{last_content_end, reference_of, leaf_then, task_then, list_kind}
use Rattle.cmark_grammar.specs.Lists.{definition_delimiter}
use Rattle.cmark_grammar.specs.BlockDocument as document
use Rattle.cmark_grammar.specs.BlockDocument.{BlockDocument, BlockKind, Reference, Node, node}
use Rattle.cmark_block_model.specs.Drawing.{Drawing, drawn, opened, closed_at, retitled, enclosed}
use Rattle.cmark_block_model.specs.OpenBlocks.{OpenList, Title, Siblings, no_siblings}
use Rattle.cmark_block_model.specs.BlockPass.{ended, ended_but, title_released, definitions_in, siblings_with_block, siblings_with_paragraph, after_container}
use Rattle.std.proofs.Common.{◌≡◌, refl}

-- the link reference definitions, and the labels of the footnote definitions
pub record Noted : Type 0 where
  pub references : List Reference
  pub footnotes : List (List ℕ)

-- the innermost level
pub record Level : Type 0 where
  pub drawing : Drawing
  pub inner : Siblings
  pub noted : Noted

-- a block begins that is no item
abbrev pub begun : Level → Level
begun l = record l { drawing = ended l.inner l.drawing; inner = siblings_with_block l.inner }

-- a paragraph begins
abbrev pub paragraph_begun : Level → Level
paragraph_begun l = record l { drawing = ended_but (definitions_in l.inner.list) l.inner l.drawing; inner = siblings_with_paragraph l.inner }

-- a paragraph is not a title after all
abbrev pub untitled : Level → Level
untitled l = record l { drawing = title_released l.inner.title l.drawing; inner = record l.inner { title = None } }

abbrev pub list_level : (delimiter : ℕ) → Option ℕ → (start : ℕ) → Level → Level
list_level delimiter number start l = let q = begun l in record q {
  drawing = opened start (list_kind delimiter number false) q.drawing;
  inner = record q.inner { list = Some (record { delimiter = delimiter; number = number; loose = false; end = start }) };
}

abbrev pub same_list : OpenList → Level → Level
same_list o l = record l { inner = record l.inner { blank = false; list = Some (record o { loose = o.loose || l.inner.blank }) } }

abbrev pub item_if : Bool → (delimiter : ℕ) → Option ℕ → (start : ℕ) → OpenList → Level → Level
item_if true delimiter number start o l = same_list o l
item_if false delimiter number start o l = list_level delimiter number start l

abbrev pub item_level : (delimiter : ℕ) → Option ℕ → (start : ℕ) → Level → Option OpenList → Level
item_level delimiter number start l None = list_level delimiter number start l
item_level delimiter number start l (Some o) = item_if (o.delimiter == delimiter) delimiter number start o l

-- a definition begins after a title
abbrev pub title_level : Option OpenList → (parted : Bool) → (start : ℕ) → Level → Level
title_level None parted start l = record l {
  drawing = enclosed (document.DefinitionList false) document.DefinitionListTitle l.drawing;
  inner = record l.inner { blank = false; list = Some (record { delimiter = definition_delimiter; number = None; loose = l.inner.blank; end = start }); title = None };
}
title_level (Some o) parted start l = record l {
  drawing = retitled document.DefinitionListTitle l.drawing;
  inner = record l.inner { blank = false; parted = parted; list = Some (record o { loose = o.loose || l.inner.blank }); title = None };
}

abbrev pub definition_level : Option Title → (start : ℕ) → Level → Level
definition_level None start l = item_level definition_delimiter None start l l.inner.list
definition_level (Some t) start l = title_level t.list t.parted start l

abbrev pub level_opened : (start : ℕ) → BlockKind → Level → Level
level_opened start kind l = record l { drawing = opened start kind l.drawing }

abbrev pub level_drawn : BlockDocument → Level → Level
level_drawn d l = record l { drawing = drawn d l.drawing }

-- the nodes inside an item, after its task marker, if it has one
abbrev pub marked : Option Bool → (width : ℕ) → Row → BlockDocument → BlockDocument
marked task width r inside = task_then task (begin_of (without width r)) (begin_of (without (after_box task width) r)) inside

-- a footnote's label is noted
abbrev pub footnote_level : (label : List ℕ) → Level → Level
footnote_level label l = record l { noted = record l.noted { footnotes = l.noted.footnotes ++ normal_form label ∷ [] } }

-- a container begins: its node is open, and these are the siblings before it
abbrev pub standing : Container → Row → Level → Level
standing (BlockQuote alert) r l = level_opened (start_of r) (document.BlockQuote alert) (begun l)
standing (Footnote label old size) r l = level_opened (start_of r) (document.FootnoteDefinition (normal_form label)) (footnote_level label (begun l))
standing (Item delimiter number width task) r l = level_drawn (marked task width r document.Nil) (level_opened (begin_of r) document.ListItem (item_level delimiter number (begin_of r) l l.inner.list))
standing (ListDefinition width) r l = level_opened (begin_of r) document.DefinitionListDefinition (definition_level l.inner.title (begin_of r) l)

abbrev pub entered : Container → Row → Level → Level
entered k r l = record (standing k r l) { inner = no_siblings }

-- the container closed
abbrev pub left_by : Container → (around : Siblings) → (end : ℕ) → Level → Level
left_by k around end l = record l {
  drawing = closed_at end (ended l.inner l.drawing);
  inner = after_container k end l.inner around;
}

abbrev pub blank_level : Level → Level
blank_level l = record l { inner = record l.inner { has_line = true; blank = l.inner.has_line } }

module _ (text : List ℕ) (options : Options) (lookup : Lookup) where
  abbrev pub paragraph_level : Row → List Row → Level → Level
  paragraph_level first more l =
      level_drawn (Node (node document.Paragraph (start_of first) (last_line_end first more)) (paragraph_tokens text first more) document.Nil) (paragraph_begun l)

  abbrev pub heading_level : (level : ℕ) → Row → List Row → Row → Level → Level
  heading_level level first more underline l =
      untitled (level_drawn (Node (node (document.Heading level (setext_attributes options.heading_attributes (content_of (first ∷ more)))) (start_of first) underline.line_end) (setext_tokens text options.heading_attributes first more) document.Nil) (paragraph_begun l))

  abbrev pub leaf_drawing : Leaf → Row → List Row → Drawing → Drawing
  leaf_drawing ThematicBreak first more d = drawn (leaf_then text options lookup ThematicBreak first more document.Nil) d
  leaf_drawing (AtxHeading level) first more d = drawn (leaf_then text options lookup (AtxHeading level) first more document.Nil) d
  leaf_drawing IndentedCode first more d = drawn (leaf_then text options lookup IndentedCode first more document.Nil) d
  leaf_drawing (FencedCode fence) first more d = drawn (leaf_then text options lookup (FencedCode fence) first more document.Nil) d
  leaf_drawing (HtmlBlock kind) first more d = drawn (leaf_then text options lookup (HtmlBlock kind) first more document.Nil) d
  leaf_drawing (LinkDefinition definition) first more d = d
  leaf_drawing (MetadataBlock kind) first more d = drawn (leaf_then text options lookup (MetadataBlock kind) first more document.Nil) d
  leaf_drawing (Table alignments) first more d = drawn (leaf_then text options lookup (Table alignments) first more document.Nil) d

  abbrev pub leaf_noted : Leaf → Row → List Row → Noted → Noted
  leaf_noted (LinkDefinition definition) first more n = record n { references = n.references ++ reference_of lookup definition (start_of first) (last_content_end first more) ∷ [] }
  leaf_noted _ first more n = n

  abbrev pub leaf_level : Leaf → Row → List Row → Level → Level
  leaf_level leaf first more l =
      let q = begun l in record q { drawing = leaf_drawing leaf first more q.drawing; noted = leaf_noted leaf first more q.noted }

  -- the level after these blocks
  abbrev pub replay : Blocks → Level → Level
  replay Nil l = l
  replay (BlankLine line after) l = replay after (blank_level l)
  replay (Paragraph first more after) l = replay after (paragraph_level first more l)
  replay (SetextHeading level first more underline after) l = replay after (heading_level level first more underline l)
  replay (LeafBlock leaf first more after) l = replay after (leaf_level leaf first more l)
  replay (ContainerBlock k first more inside after) l =
      replay after (left_by k (standing k first l).inner (last_line_end first more) (replay inside (entered k first l)))

  pub replay-join : (a b : Blocks) (l : Level) → replay (join a b) l ≡ replay b (replay a l)
  replay-join Nil b l = refl
  replay-join (BlankLine line after) b l = replay-join after b (blank_level l)
  replay-join (Paragraph first more after) b l = replay-join after b (paragraph_level first more l)
  replay-join (SetextHeading level first more underline after) b l = replay-join after b (heading_level level first more underline l)
  replay-join (LeafBlock leaf first more after) b l = replay-join after b (leaf_level leaf first more l)
  replay-join (ContainerBlock k first more inside after) b l =
      replay-join after b (left_by k (standing k first l).inner (last_line_end first more) (replay inside (entered k first l)))
