-- The document of blocks before its paragraphs are settled, without definitions: the rest of the list before, and the nodes after that.
use Rattle.std.specs.Prelude.{ℕ, Bool, true, false, ◌==◌, List, ◌∷◌, Option, Some, None, not}
use Rattle.cmark_grammar.specs.Options.{Options}
use Rattle.cmark_grammar.specs.Answers.{Lookup}
use Rattle.cmark_grammar.specs.SetextAttributes.{content_of, setext_attributes, setext_tokens}
use Rattle.cmark_grammar.specs.Rows.{Row, start_of, begin_of, last_line_end}
use Rattle.cmark_grammar.specs.Labels.{normal_form}
use Rattle.cmark_grammar.specs.Containers.{BlockQuote, Item, Footnote, ListDefinition}
use Rattle.cmark_grammar.specs.Openings.{Leaf, ThematicBreak, AtxHeading, IndentedCode, FencedCode, HtmlBlock, LinkDefinition, MetadataBlock, Table}
use Rattle.cmark_grammar.specs.Blocks.{Blocks, Nil as NoBlocks, BlankLine, Paragraph, SetextHeading, LeafBlock, ContainerBlock}
use Rattle.cmark_grammar.specs.Lists.{definition_delimiter, is_title, loose_from, is_tight}
use Rattle.cmark_grammar.specs.Tokens.{paragraph_tokens}
use Rattle.cmark_grammar.specs.Derivation.{leaf_then, list_kind}
use Rattle.cmark_grammar.specs.BlockDocument as document
use Rattle.cmark_grammar.specs.BlockDocument.{BlockKind, BlockDocument, Nil, Node, node, join}
use Rattle.cmark_block_model.proofs.Replay.{marked}

-- the items that continue a list, the end of the last one, and the document after them
pub record Split : Type 0 where
  pub items : BlockDocument
  pub end : Option ℕ
  pub after : BlockDocument

abbrev pub end_or : ℕ → Option ℕ → ℕ
end_or end None = end
end_or end (Some other) = other

abbrev pub is_delimiter_of : Option ℕ → ℕ → Bool
is_delimiter_of None delimiter = false
is_delimiter_of (Some other) delimiter = other == delimiter

abbrev pub lone : BlockDocument → Split
lone d = record { items = Nil; end = None; after = d }

abbrev pub item_split : (joins : Bool) → (list kind : BlockKind) → (start line_end : ℕ) → (inside : BlockDocument) → Split → Split
item_split true list kind start line_end inside s = record { items = Node (node kind start line_end) inside s.items; end = Some (end_or line_end s.end); after = s.after }
item_split false list kind start line_end inside s = lone (Node (node list start (end_or line_end s.end)) (Node (node kind start line_end) inside s.items) s.after)

-- a paragraph, as a title or as itself, before the rest of its list, and before the document without one
abbrev pub title_split : (is_title joins : Bool) → (list : BlockKind) → (start line_end : ℕ) → (inside : BlockDocument) → Split → (after : BlockDocument) → Split
title_split true joins list start line_end inside s after = item_split joins list document.DefinitionListTitle start line_end inside s
title_split false joins list start line_end inside s after = lone (Node (node document.Paragraph start line_end) inside after)

module _ (text : List ℕ) (options : Options) (lookup : Lookup) where
  abbrev pub leaf_raw : Leaf → Row → List Row → BlockDocument → BlockDocument
  leaf_raw ThematicBreak first more after = leaf_then text options lookup ThematicBreak first more after
  leaf_raw (AtxHeading level) first more after = leaf_then text options lookup (AtxHeading level) first more after
  leaf_raw IndentedCode first more after = leaf_then text options lookup IndentedCode first more after
  leaf_raw (FencedCode fence) first more after = leaf_then text options lookup (FencedCode fence) first more after
  leaf_raw (HtmlBlock kind) first more after = leaf_then text options lookup (HtmlBlock kind) first more after
  leaf_raw (LinkDefinition definition) first more after = after
  leaf_raw (MetadataBlock kind) first more after = leaf_then text options lookup (MetadataBlock kind) first more after
  leaf_raw (Table alignments) first more after = leaf_then text options lookup (Table alignments) first more after

  abbrev pub split : Option ℕ → Blocks → Split
  split delimiter NoBlocks = lone Nil
  split delimiter (BlankLine line after) = split delimiter after
  split delimiter (Paragraph first more after) =
      title_split (is_title after) (is_delimiter_of delimiter definition_delimiter) (document.DefinitionList (not (loose_from definition_delimiter false after))) (start_of first) (last_line_end first more) (paragraph_tokens text first more)
      (split (Some definition_delimiter) after) (split None after).after
  split delimiter (SetextHeading level first more underline after) =
      lone (Node (node (document.Heading level (setext_attributes options.heading_attributes (content_of (first ∷ more)))) (start_of first) underline.line_end) (setext_tokens text options.heading_attributes first more) (split None after).after)
  split delimiter (LeafBlock leaf first more after) = lone (leaf_raw leaf first more (split None after).after)
  split delimiter (ContainerBlock (BlockQuote alert) first more inside after) =
      lone (Node (node (document.BlockQuote alert) (start_of first) (last_line_end first more)) (split None inside).after (split None after).after)
  split delimiter (ContainerBlock (Footnote label old size) first more inside after) =
      lone (Node (node (document.FootnoteDefinition (normal_form label)) (start_of first) (last_line_end first more)) (split None inside).after (split None after).after)
  split delimiter (ContainerBlock (Item m number width task) first more inside after) =
      item_split (is_delimiter_of delimiter m) (list_kind m number (is_tight m inside after)) document.ListItem (begin_of first) (last_line_end first more) (join (marked task width first Nil) (split None inside).after) (split (Some m) after)
  split delimiter (ContainerBlock (ListDefinition width) first more inside after) =
      item_split (is_delimiter_of delimiter definition_delimiter) (document.DefinitionList (is_tight definition_delimiter inside after)) document.DefinitionListDefinition (begin_of first) (last_line_end first more) (split None inside).after (split (Some definition_delimiter) after)
