-- The leaf of the grammar that a leaf's text represents.
use Rattle.std.specs.Prelude.{List, [], ◌∷◌}
use Rattle.cmark_grammar.specs.LeafText as grammar
use Rattle.cmark_grammar.specs.LeafText.{Leaf}
use Rattle.cmark_leaf_text.specs.Reads.{is_cell_of}
use Rattle.cmark_leaf_text.specs.declared.leaf_text.LeafText.{LeafText}
use Rattle.cmark_leaf_text.specs.declared.stretch.Stretch.{Stretch}

-- the same stretch of the source
abbrev pub shown_stretch : Stretch → grammar.Stretch
shown_stretch s = record { start = s.start; end = s.end }

abbrev pub shown_stretches : List Stretch → List grammar.Stretch
shown_stretches [] = []
shown_stretches (s ∷ ss) = shown_stretch s ∷ shown_stretches ss

abbrev pub shown_leaf : LeafText → Leaf
shown_leaf leaf = record { stretches = shown_stretches leaf.stretches.items; is_cell = is_cell_of leaf }
