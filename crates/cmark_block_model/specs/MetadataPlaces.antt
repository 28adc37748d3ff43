-- The places of metadata blocks: outside of all containers (this profile's own).
use Rattle.std.specs.Prelude.{◌≡◌, Bool, true, false}
use Rattle.cmark_grammar.specs.Openings.{Leaf, ThematicBreak, AtxHeading, IndentedCode, FencedCode, HtmlBlock, LinkDefinition, MetadataBlock, Table}
use Rattle.cmark_grammar.specs.Blocks.{Blocks, Nil, BlankLine, Paragraph, SetextHeading, LeafBlock, ContainerBlock}

abbrev pub is_metadata : Leaf → Bool
is_metadata ThematicBreak = false
is_metadata (AtxHeading level) = false
is_metadata IndentedCode = false
is_metadata (FencedCode fence) = false
is_metadata (HtmlBlock kind) = false
is_metadata (LinkDefinition definition) = false
is_metadata (MetadataBlock kind) = true
is_metadata (Table alignments) = false

-- there is no metadata block among these blocks or inside them
abbrev pub HasNoMetadata : Blocks → Type 0
HasNoMetadata Nil = Unit {0}
HasNoMetadata (BlankLine line after) = HasNoMetadata after
HasNoMetadata (Paragraph first more after) = HasNoMetadata after
HasNoMetadata (SetextHeading level first more underline after) = HasNoMetadata after
HasNoMetadata (LeafBlock leaf first more after) = (is_metadata leaf ≡ false) × HasNoMetadata after
HasNoMetadata (ContainerBlock k first more inside after) = HasNoMetadata inside × HasNoMetadata after

-- there is no metadata block inside these blocks
abbrev pub HasMetadataOutside : Blocks → Type 0
HasMetadataOutside Nil = Unit {0}
HasMetadataOutside (BlankLine line after) = HasMetadataOutside after
HasMetadataOutside (Paragraph first more after) = HasMetadataOutside after
HasMetadataOutside (SetextHeading level first more underline after) = HasMetadataOutside after
HasMetadataOutside (LeafBlock leaf first more after) = HasMetadataOutside after
HasMetadataOutside (ContainerBlock k first more inside after) = HasNoMetadata inside × HasMetadataOutside after
