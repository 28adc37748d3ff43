-- The leaves of a text do not overlap, so together they are at most as long as the text.
use Rattle.std.specs.Prelude.{◌-◌}
use Rattle.std.proofs.Common.{ℕ, ◌+◌, ◌≤◌, List, [], ◌∷◌, length, arith}
use Rattle.cmark_grammar.specs.Answers.{Lookup}
use Rattle.cmark_grammar.specs.BlockDocument.{BlockDocument}
use Rattle.cmark_grammar.specs.Derivation.{Derives}
use Rattle.cmark_grammar.specs.LeafText.{Leaf, Stretch, InTurn, begin_of, end_of, bytes_from}
use Rattle.cmark_grammar.specs.Options.{Options}
use Rattle.cmark_grammar.specs.Readers.{Reader}
use Rattle.cmark_grammar.specs.SpanDocuments.{Segment, Given, Content, segments}
use Rattle.cmark_block_model.proofs.RangeLaws.{derived-order}
use Rattle.cmark_inline_model.specs.LeafExtents.{extent, extents}
use Rattle.cmark_inline_model.specs.TextPlaces.{text_of}
use Rattle.cmark_inline_model.proofs.LeafPlaces.{lower, end-within, fits_from}
use Rattle.cmark_inline_model.proofs.SegmentLaws.{LeavesRise, segments-rise}

turn-extent : (from : ℕ) (stretches : List Stretch) (to : ℕ) → InTurn from stretches to → from + (end_of stretches - begin_of stretches) ≤ to
turn-extent from [] to h = omega arith
turn-extent from (s ∷ more) to h =
    let a = h.0 in
    let b = end-within (s ∷ more) to (lower from 0 (s ∷ more) to (omega arith) h) in
    let c = size-extent s.start (s ∷ more) to (omega arith, h.1, h.2) in
    omega arith
  where
    size-extent : (from : ℕ) (stretches : List Stretch) (to : ℕ) → InTurn from stretches to → from ≤ to
    size-extent from [] to h = h
    size-extent from (s ∷ more) to h = let a = h.0 in let b = h.1 in let c = size-extent s.end more to h.2 in omega arith

pub rise-extents : (from : ℕ) (others : List Segment) (to : ℕ) → LeavesRise from others to → from + extents others ≤ to
rise-extents from [] to h = omega arith
rise-extents from (Given r ∷ others) to h = rise-extents from others to h
rise-extents from (Content leaf ∷ others) to h = grind (arith, turn-extent, rise-extents h.0 others to h.2)

pub derived-extents : (text : List ℕ) (options : Options) (lookup : Lookup) (document : BlockDocument) → Derives text options lookup document → extents (segments document) ≤ length text
derived-extents text options lookup document derives =
    let a = rise-extents 0 (segments document) (length text) (segments-rise 0 document (length text) (derived-order text options lookup document derives)) in
    omega arith

-- a leaf has no more bytes than it takes
pub text-extent : (reader : Reader) (leaf : Leaf) (size : ℕ) → InTurn 0 leaf.stretches size → length (text_of reader leaf) ≤ extent leaf
text-extent reader leaf size turn = go leaf.stretches turn
  where
    go : (stretches : List Stretch) → InTurn 0 stretches size → length (bytes_from reader.source stretches 0) ≤ end_of stretches - begin_of stretches
    go [] t = omega arith
    go (s ∷ more) t = let a = fits_from reader.source 0 s more size 0 t (omega arith) in omega arith
