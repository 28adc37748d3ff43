-- A test for cuts that can be computed. It depends on the lines before the cut, on the
-- first line after it, and on the lines ahead of that line.
use Rattle.std.proofs.Common.{◌≡◌, ℕ, true, false, List, ◌∷◌, arith}
use Rattle.cmark_grammar.specs.DefinitionLists.{begins_definition}
use Rattle.cmark_grammar.specs.Openings.{opens_at}
use Rattle.cmark_grammar.specs.Options.{Options}
use Rattle.cmark_grammar.specs.Places.{Apart}
use Rattle.cmark_grammar.specs.Rows.{Row, rows, shown}
use Rattle.cmark_grammar.specs.Blocks.{Nil}
use Rattle.cmark_block_model.specs.BlocksByLine.{Between}
use Rattle.cmark_stream_model.specs.Growth.{is_blank, open_after, Parts, IsCut, are_resolved, AreDecided}
use Rattle.cmark_stream_model.proofs.GrowingTables.{same-apart}
use Rattle.cmark_stream_model.proofs.Walls.{resolved-settled}

pub tested-cut : (options : Options) → (front : List ℕ) (r : Row) (rs : List Row) → begins_definition options r ≡ false → are_resolved (rows front) ≡ true → AreDecided options (r ∷ rs) (Between Nil) (rows front)
    → Parts options (open_after options front) r (shown rs) → is_blank (opens_at options Apart r (shown rs)) ≡ false → IsCut options front r rs
tested-cut options front r rs unmarked resolved decided parts e = grind (arith, resolved-settled, same-apart)
