-- Lines of indented code, drawn in order (CommonMark 4.4).
use Rattle.std.specs.Prelude.{◌≡◌, ℕ, List, [], ◌∷◌, Option}
use Rattle.cmark_grammar.specs.Rows.{Row}
use Rattle.cmark_grammar.specs.Tokens.{Piece}
use Rattle.cmark_block_model.specs.CodeLines.{code_line, texts_of}
use Rattle.cmark_block_model.specs.Drawing.{Drawing, drawn}
use Rattle.cmark_builder.specs.declared.builder.Builder.{Builder}
use Rattle.cmark_builder.specs.Drawn.{Draws}
use Rattle.cmark_leaf_nodes.specs.Stretches.{shown_waits}
use Rattle.cmark_leaf_nodes.specs.declared.stretch.Stretch.{Stretch}

-- the drawing with these lines added, and with the stretch that waited
abbrev pub lines_drawn : (text : List ℕ) → List Row → Option Piece → Drawing → Drawing
lines_drawn text [] waits d = d
lines_drawn text (r ∷ rs) waits d = let run = code_line text 4 r waits in lines_drawn text rs run.waits (drawn (texts_of run.done) d)

-- the stretch that waits after them
abbrev pub waits_after : (text : List ℕ) → List Row → Option Piece → Option Piece
waits_after text [] waits = waits
waits_after text (r ∷ rs) waits = waits_after text rs (code_line text 4 r waits).waits

-- the lines were drawn, and this stretch waits
pub record DrawsLines (text : List ℕ) (old new : Builder) (rs : List Row) (waits left : Option Stretch) : Type 0 where
  pub left_is : shown_waits text left ≡ waits_after text rs (shown_waits text waits)
  pub draws : (d : Drawing) → Draws text old d → Draws text new (lines_drawn text rs (shown_waits text waits) d)
