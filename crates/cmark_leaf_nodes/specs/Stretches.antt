-- Stretches of a text, as pieces of it.
use Rattle.std.specs.Prelude.{◌≡◌, ℕ, false, List, [], Option, option_map}
use Rattle.cmark_grammar.specs.Tokens.{Piece, slice}
use Rattle.cmark_block_model.specs.Drawing.{Drawing, drawn}
use Rattle.cmark_block_model.specs.CodeLines.{Run, add_pieces, texts_of}
use Rattle.cmark_builder.specs.declared.builder.Builder.{Builder}
use Rattle.cmark_builder.specs.Drawn.{Draws}
use Rattle.cmark_leaf_nodes.specs.declared.stretch.Stretch.{Stretch}

abbrev pub shown_stretch : (text : List ℕ) → Stretch → Piece
shown_stretch text s = record { owned = false; bytes = slice text s.start s.end; start = s.start; end = s.end }

-- the stretch that waits, if there is one
abbrev pub shown_waits : (text : List ℕ) → Option Stretch → Option Piece
shown_waits text waits = option_map (shown_stretch text) waits

abbrev pub run_of : (text : List ℕ) → Option Stretch → Run
run_of text waits = record { done = []; waits = shown_waits text waits }

-- these pieces were put after the stretch that waited: the finished pieces were drawn, and the rest waits
pub record Goes (text : List ℕ) (old new : Builder) (waits left : Option Stretch) (ps : List Piece) : Type 0 where
  pub left_is : shown_waits text left ≡ (add_pieces (run_of text waits) ps).waits
  pub draws : (d : Drawing) → Draws text old d → Draws text new (drawn (texts_of (add_pieces (run_of text waits) ps).done) d)
