-- The pass over the rest of a text, from an offset on.
use Rattle.std.specs.Prelude.{ℕ, false, List, [], drop, None}
use Rattle.cmark_grammar.specs.Answers.{Lookup}
use Rattle.cmark_grammar.specs.BlockDocument.{BlockDocument, Reference}
use Rattle.cmark_grammar.specs.Blocks.{Blocks, Nil}
use Rattle.cmark_block_model.specs.BlocksByLine.{Between, close_lines, lines_feed_all}
use Rattle.cmark_grammar.specs.Derivation.{document_of}
use Rattle.cmark_grammar.specs.Lines.{lines}
use Rattle.cmark_grammar.specs.Options.{Options}
use Rattle.cmark_grammar.specs.Rows.{Row, rows_from}
use Rattle.cmark_block_model.specs.BlockPass.{all_closed, lines_fed}
use Rattle.cmark_block_model.specs.Drawing.{nothing_drawn}
use Rattle.cmark_block_model.specs.OpenBlocks.{Closed, Pass, no_siblings}

-- the lines of a text from an offset on
abbrev pub rows_after : List ℕ → (from : ℕ) → List Row
rows_after text from = rows_from from (lines (drop from text))

-- the blocks that these lines have, if no block is open before them
abbrev pub blocks_after : Options → List ℕ → (from : ℕ) → Blocks
blocks_after options text from = close_lines (lines_feed_all options (Between Nil) (rows_after text from))

-- their document, as a part of the document of the whole text
abbrev pub document_after : List ℕ → Options → Lookup → (from : ℕ) → BlockDocument
document_after text options lookup from = document_of text options lookup false None (blocks_after options text from)

-- the pass before these lines, after link reference definitions and footnotes of earlier lines
abbrev pub starting_at : (from : ℕ) → List Reference → List (List ℕ) → Pass
starting_at from references footnotes =
    record { drawing = nothing_drawn; inner = no_siblings; outer = []; bare = false; leaf = Closed; line_end = from; references = references; footnotes = footnotes }

-- the pass over these lines
unfoldable pub pass_after : List ℕ → Options → Lookup → (from : ℕ) → List Reference → List (List ℕ) → Pass
pass_after text options lookup from references footnotes = all_closed text options lookup (lines_fed text options lookup (rows_after text from) (starting_at from references footnotes))
