-- The events of the blocks of a text have ranges that cut no character.
use Rattle.std.specs.Prelude.{IsUtf8, if◌then◌else◌}
use Rattle.std.specs.Str.{IsCharBoundary}
use Rattle.std.proofs.Common.{ℕ, zero, suc, ◌≤◌, Bool, true, false, List, [], ◌∷◌, ◌++◌, length, arith}
use Rattle.cmark_grammar.specs.Answers.{Lookup}
use Rattle.cmark_grammar.specs.BlockDocument.{BlockDocument, BlockNode, Nil, Node}
use Rattle.cmark_grammar.specs.BlockReading.{First, Reads, first_event, is_leaf, over, read_as, starts_before}
use Rattle.cmark_grammar.specs.Derivation.{Derives}
use Rattle.cmark_grammar.specs.Event.{Ranged}
use Rattle.cmark_inline_model.specs.LeafSpans.{IsRange}
use Rattle.cmark_grammar.specs.LeafText.{Leaf}
use Rattle.cmark_grammar.specs.Options.{Options}
use Rattle.cmark_block_model.specs.Ranges.{AllAt, InOrder}
use Rattle.cmark_grammar.specs.SpanDocuments.{Content, Given, Segment, first_of_segments, inside_of, leaf_of, node_segments, segments, with_first_segment}
use Rattle.cmark_block_model.proofs.BoundaryLaws.{derived-boundaries}
use Rattle.cmark_block_model.proofs.RangeLaws.{derived-order}
use Rattle.cmark_inline_model.specs.CharacterRanges.{HaveRanges}
use Rattle.cmark_inline_model.proofs.DocumentLeaves.{order-up}

module _ (text : List ℕ) where
  both : (a b : List Segment) → HaveRanges text a → HaveRanges text b → HaveRanges text (a ++ b)
  both [] b h k = k
  both (Given r ∷ a) b h k = (h.0, both a b h.1 k)
  both (Content leaf ∷ a) b h k = both a b h k

  inside : (z : Bool) (leaf : Leaf) (others : List Segment) → HaveRanges text others → HaveRanges text (if z then Content leaf ∷ [] else others)
  inside true leaf others h = tt
  inside false leaf others h = h

  of-node : (reads : Reads) (node : BlockNode) (own : List Segment) → IsRange text node.start node.end → HaveRanges text own → HaveRanges text (node_segments reads node own)
  of-node reads node own r h = grind (arith, both)

  first : (starts : ℕ) (r : Ranged) (others : List Segment) → IsRange text r.start r.end → HaveRanges text others → HaveRanges text (first_of_segments starts (Given r) others)
  first zero r others x h = (x, h)
  first (suc starts) r [] x h = (x, tt)
  first (suc starts) r (Given e ∷ others) x h = (h.0, first starts r others x h.1)
  first (suc starts) r (Content leaf ∷ others) x h = first starts r others x h

  with-first : (reads : Reads) (starts : ℕ) (node : BlockNode) (others : List Segment) → IsRange text node.start node.end → HaveRanges text others → HaveRanges text (with_first_segment (first_event reads) starts node others)
  with-first (First event) starts node others r h = first starts (over node event) others r h
  with-first _ starts node others r h = h

  pub ranges-of : (from : ℕ) (document : BlockDocument) (to : ℕ) → InOrder from document to → to ≤ length text → AllAt (IsCharBoundary text) document → HaveRanges text (segments document)
  ranges-of from Nil to order within all = tt
  ranges-of from (Node node content after) to order within all =
      let up = order-up node.start content node.end order.1 in
      let following = order-up node.end after to order.2 in
      let end : node.end ≤ length text = omega (arith, following, within) in
      let r : IsRange text node.start node.end = record { ordered = up; within = end; starts = all.0; ends = all.1 } in
      let own = inside_of node.kind content (segments content) in
      with-first (read_as node.kind) (starts_before after) node (node_segments (read_as node.kind) node own ++ segments after) r
      (both (node_segments (read_as node.kind) node own) (segments after)
      (of-node (read_as node.kind) node own r (inside (is_leaf node.kind) (leaf_of node.kind content) (segments content) (ranges-of node.start content node.end order.1 end all.2)))
      (ranges-of node.end after to order.2 within all.3))

pub derived-ranges : (text : List ℕ) (options : Options) (lookup : Lookup) (document : BlockDocument) → IsUtf8 text → Derives text options lookup document → HaveRanges text (segments document)
derived-ranges text options lookup document utf8 derives =
    ranges-of text 0 document (length text) (derived-order text options lookup document derives) (omega arith) (derived-boundaries text options lookup document utf8 derives)
