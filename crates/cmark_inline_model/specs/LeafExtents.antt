-- The number of bytes of the source that the leaves of a document cover.
use Rattle.std.specs.Prelude.{ℕ, ◌+◌, ◌-◌, List, [], ◌∷◌}
use Rattle.cmark_grammar.specs.LeafText.{Leaf, begin_of, end_of}
use Rattle.cmark_grammar.specs.SpanDocuments.{Segment, Given, Content}

-- from the first byte of a leaf up to the end of its last line: its text, and the prefixes between its lines
abbrev pub extent : Leaf → ℕ
extent leaf = end_of leaf.stretches - begin_of leaf.stretches

-- the sum for all leaves
abbrev pub extents : List Segment → ℕ
extents [] = 0
extents (Given r ∷ others) = extents others
extents (Content leaf ∷ others) = extent leaf + extents others
