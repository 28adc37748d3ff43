-- The reading of one item.
use Rattle.std.specs.Prelude.{Option, Some, None, option_map}
use Rattle.cmark_grammar.specs.Tag.{Tag}
use Rattle.cmark_grammar.specs.TagEnd.{TagEnd, end_of}
use Rattle.cmark_grammar.specs.BlockReading as reads
use Rattle.cmark_grammar.specs.BlockReading.{Reads}

-- the tag of an element
abbrev pub tag_in : Reads → Option Tag
tag_in (reads.Around tag) = Some tag
tag_in reads.Inside = None
tag_in (reads.Alone event) = None
tag_in (reads.First event) = None
tag_in reads.Silent = None

-- the end of an element
abbrev pub end_in : Reads → Option TagEnd
end_in reads = option_map end_of (tag_in reads)
