-- The leaves of the lines after an offset, whatever is before them, have their places, and so have the events of their blocks.
use Rattle.std.proofs.Common.{ℕ, ◌≤◌, List, length, take, drop, arith}
use Rattle.std.specs.Prelude.{IsCharBoundary, IsUtf8}
use Rattle.cmark_grammar.specs.Answers.{Lookup}
use Rattle.cmark_grammar.specs.Lines.{lines}
use Rattle.cmark_grammar.specs.Options.{Options}
use Rattle.cmark_grammar.specs.Readers.{Reader}
use Rattle.cmark_grammar.specs.SpanDocuments.{Segment, segments}
use Rattle.cmark_block_model.specs.Tails.{blocks_after, document_after, rows_after}
use Rattle.cmark_block_model.proofs.TailLaws.{after-body, after-cut, after-edges, after-order, after-size}
use Rattle.cmark_inline_model.specs.CharacterRanges.{HaveRanges}
use Rattle.cmark_inline_model.specs.LeafExtents.{extents}
use Rattle.cmark_inline_model.specs.LeafGaps.{HaveNoPipesBetween}
use Rattle.cmark_inline_model.specs.LeafModel.{HaveLineEnds}
use Rattle.cmark_inline_model.specs.PlacedLeaves.{AreLeavesPlaced}
use Rattle.cmark_inline_model.proofs.BlockRanges.{ranges-of}
use Rattle.cmark_inline_model.proofs.DocumentLeaves.{segments-turn}
use Rattle.cmark_inline_model.proofs.LeafEndings.{all_placed}
use Rattle.cmark_inline_model.proofs.LeafExtents.{rise-extents}
use Rattle.cmark_inline_model.proofs.LeafFronts as fronts
use Rattle.cmark_inline_model.proofs.LeafGaps.{all_between, no_pipes}
use Rattle.cmark_inline_model.proofs.LeafLines as ends
use Rattle.cmark_inline_model.proofs.LeafPrefixes as prefixes
use Rattle.cmark_inline_model.proofs.LeafStretches.{AllLeaves, lines-leaves}
use Rattle.cmark_inline_model.proofs.SegmentLaws.{segments-rise}

module _ (text : List ℕ) (from : ℕ) (within : from ≤ length text) (options : Options) (lookup : Lookup) where
  abbrev left : List Segment
  left = segments (document_after text options lookup from)

  pub after-extents : extents left ≤ length text
  after-extents =
      let a = rise-extents 0 left (length text) (segments-rise 0 (document_after text options lookup from) (length text) (after-order text from within options lookup)) in
      omega (arith, a)

  pub after-ranges : IsUtf8 text → IsCharBoundary text from → HaveRanges text left
  after-ranges utf8 begins =
      ranges-of text 0 (document_after text options lookup from) (length text) (after-order text from within options lookup) (omega arith) (after-edges text from within options lookup utf8 begins)

  after-lines : AllLeaves (HaveLineEnds text) left
  after-lines =
      lines-leaves text options (HaveLineEnds text) (ends.RowsEnd text) (ends.keeps_ends text options) lookup (rows_after text from) (blocks_after options text from) (after-body text options from)
      (ends.rows_of_lines text (take from text) (lines (drop from text)) from (after-cut text from within) (after-size text from within) (ends.lines_are (drop from text)).0)

  after-fronts : AllLeaves (fronts.GoOnWithText text) left
  after-fronts =
      lines-leaves text options (fronts.GoOnWithText text) (fronts.AreRows text) (fronts.keeps_fronts text options) lookup (rows_after text from) (blocks_after options text from) (after-body text options from)
      (fronts.rows_of_lines text (take from text) (lines (drop from text)) from (after-cut text from within) (after-size text from within))

  after-gaps : AllLeaves (prefixes.HaveGaps text) left
  after-gaps =
      lines-leaves text options (prefixes.HaveGaps text) (prefixes.AreRows text) (prefixes.keeps_gaps text options) lookup (rows_after text from) (blocks_after options text from) (after-body text options from)
      (prefixes.rows_of_lines text (take from text) (lines (drop from text)) from (after-cut text from within) (after-size text from within))

module _ (reader : Reader) (from : ℕ) (within : from ≤ length reader.source) (options : Options) (lookup : Lookup) where
  pub after-placed : AreLeavesPlaced reader (segments (document_after reader.source options lookup from))
  after-placed =
      let d = document_after reader.source options lookup from in
      all_placed reader (segments d) (segments-turn (length reader.source) 0 d (length reader.source) (omega arith) (after-order reader.source from within options lookup))
      (ends.of_lines reader.source (segments d) (after-lines reader.source from within options lookup)) (after-fronts reader.source from within options lookup)

  pub after-no-pipes : HaveNoPipesBetween reader (segments (document_after reader.source options lookup from))
  after-no-pipes = grind (arith, no_pipes, all_between, after-placed, after-gaps)
