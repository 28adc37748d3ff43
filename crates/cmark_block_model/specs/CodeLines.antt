-- The lines of code, drawn in order: a stretch of the text waits until the next piece shows whether it touches the stretch.
use Rattle.std.specs.Prelude.{ℕ, Bool, true, false, ◌++◌, List, [], ◌∷◌, Option, Some, None}
use Rattle.cmark_grammar.specs.Rows.{Row}
use Rattle.cmark_grammar.specs.BlockDocument.{BlockDocument, Nil}
use Rattle.cmark_grammar.specs.Tokens.{Piece, touches, texts_then, verbatim_line, code_columns}

-- the finished pieces, and the stretch of the text that waits, if there is one
pub record Run : Type 0 where
  pub done : List Piece
  pub waits : Option Piece

abbrev pub no_run : Run
no_run = record { done = []; waits = None }

abbrev pub longer : Piece → Piece → Piece
longer p q = record { owned = false; bytes = p.bytes ++ q.bytes; start = p.start; end = q.end }

-- another piece: a stretch waits, an owned piece is finished
abbrev pub put_after : (owned : Bool) → List Piece → Piece → Run
put_after true done q = record { done = done ++ q ∷ []; waits = None }
put_after false done q = record { done = done; waits = Some q }

abbrev pub touch : (touching : Bool) → List Piece → Piece → Piece → Run
touch true done p q = record { done = done; waits = Some (longer p q) }
touch false done p q = put_after q.owned (done ++ p ∷ []) q

abbrev pub add_to : List Piece → Option Piece → Piece → Run
add_to done None q = put_after q.owned done q
add_to done (Some p) q = touch (touches p q) done p q

abbrev pub add_piece : Run → Piece → Run
add_piece run q = add_to run.done run.waits q

abbrev pub add_pieces : Run → List Piece → Run
add_pieces run [] = run
add_pieces run (p ∷ ps) = add_pieces (add_piece run p) ps

-- a line of code without at most `most` columns of indent
abbrev pub code_line : List ℕ → (most : ℕ) → Row → Option Piece → Run
code_line text most r waits = add_pieces (record { done = []; waits = waits }) (verbatim_line text (code_columns most r) r)

-- the stretch that waits, after the last piece
abbrev pub rest_of : Option Piece → List Piece
rest_of None = []
rest_of (Some p) = p ∷ []

abbrev pub texts_of : List Piece → BlockDocument
texts_of ps = texts_then ps Nil
