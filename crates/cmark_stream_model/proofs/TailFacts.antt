-- The rest of a text is a part of its document, so facts about the document hold for the rest.
use Rattle.std.proofs.Common.{◌≡◌, ℕ, ◌≤◌, false, List, [], ◌∷◌, ◌++◌, length, take, drop, refl, ap, ◌∙◌, subst, arith, length-append, None}
use Rattle.std.specs.Prelude.{IsUtf8, IsCharBoundary}
use Rattle.cmark_grammar.specs.Answers.{Lookup}
use Rattle.cmark_grammar.specs.BlockDocument.{BlockDocument, Nil, Node, join}
use Rattle.cmark_block_model.specs.BlocksModel.{blocks}
use Rattle.cmark_block_model.specs.DocumentModel.{document}
use Rattle.cmark_grammar.specs.Event.{Ranged}
use Rattle.cmark_grammar.specs.LeafReading.{Between as BetweenLeaves}
use Rattle.cmark_grammar.specs.Options.{Options}
use Rattle.cmark_grammar.specs.Questions.{IsNext}
use Rattle.cmark_block_model.specs.Ranges.{InOrder, AllAt}
use Rattle.cmark_grammar.specs.References.{references}
use Rattle.cmark_grammar.specs.SpanDocuments.{Profile, Segment, Given, Content, Left, segments, footnote_labels, reader_of, at_start, ReadsAll, IsReading}
use Rattle.cmark_block_model.proofs.BoundaryLaws.{derived-boundaries}
use Rattle.cmark_block_model.proofs.RangeLaws.{derived-order}
use Rattle.cmark_block_model.specs.Tails.{document_after}
use Rattle.cmark_block_model.proofs.Drawings.{derived}
use Rattle.cmark_block_model.proofs.Theorem.{document-whole}
use Rattle.cmark_block_model.proofs.LeafDrawings.{HasWholeLeaves, derived-whole}
use Rattle.cmark_inline_model.specs.LeafExtents.{extents}
use Rattle.cmark_stream_model.specs.Growth.{IsJoined}
use Rattle.cmark_stream_model.specs.Settled.{StaysJoinedAt}
use Rattle.cmark_stream_model.specs.Tails.{IsJoinedAt}
use Rattle.cmark_stream_model.proofs.JoinedReadings.{document-first, segments-join, references-join, footnotes-join, joined}
use Rattle.cmark_stream_model.proofs.SettledReadings.{documents-stay}

-- ## From two parts of a text to an offset in it

pub take-all : (front tail : List ℕ) → take (length front) (front ++ tail) ≡ front
take-all [] tail = refl
take-all (b ∷ front) tail = ap (λ l. b ∷ l) (take-all front tail)

drop-all : (front tail : List ℕ) → drop (length front) (front ++ tail) ≡ tail
drop-all [] tail = refl
drop-all (b ∷ front) tail = drop-all front tail

pub joined-at : (options : Options) (lookup : Lookup) (front tail : List ℕ) → IsJoined options lookup front tail → IsJoinedAt options lookup (front ++ tail) (length front)
joined-at options lookup front tail h = cc (documents-stay options lookup front tail, take-all front tail, drop-all front tail)

-- at the beginning nothing is before the offset
pub joined-at-start : (options : Options) (text : List ℕ) → StaysJoinedAt options text 0
unfolding blocks
joined-at-start options text lookup more = grind (arith, document-whole)

-- ## The second part of a document

order-from : (low : ℕ) (d : BlockDocument) (to : ℕ) → InOrder low d to → InOrder 0 d to
order-from low Nil to h = omega arith
order-from low (Node n inside after) to h = (omega arith, h.1, h.2)

order-second : (low : ℕ) (a b : BlockDocument) (to : ℕ) → InOrder low (join a b) to → InOrder 0 b to
order-second low Nil b to h = order-from low b to h
order-second low (Node n inside after) b to h = order-second n.end after b to h.2

edges-second : (Place : ℕ → Type 0) (a b : BlockDocument) → AllAt Place (join a b) → AllAt Place b
edges-second Place Nil b h = h
edges-second Place (Node n inside after) b h = edges-second Place after b h.3

whole-second : (a b : BlockDocument) → HasWholeLeaves (join a b) → HasWholeLeaves b
whole-second Nil b h = h
whole-second (Node n inside after) b h = whole-second after b h.2

extents-second : (a b : List Segment) → extents b ≤ extents (a ++ b)
extents-second [] b = omega arith
extents-second (Given r ∷ a) b = extents-second a b
extents-second (Content leaf ∷ a) b = let e = extents-second a b in omega (arith, e)

module _ (text : List ℕ) (options : Options) (lookup : Lookup) (from : ℕ) (h : IsJoinedAt options lookup text from) where
  abbrev earlier : BlockDocument
  earlier = document (take from text) options lookup

  abbrev later : BlockDocument
  later = document_after text options lookup from

  abbrev all : BlockDocument
  all = document text options lookup

  pub tail-order : InOrder 0 later (length text)
  tail-order = order-second 0 earlier later (length text) (subst (λ d. InOrder 0 d (length text)) h (derived-order text options lookup all (derived text options lookup)))

  pub tail-edges : IsUtf8 text → AllAt (IsCharBoundary text) later
  tail-edges utf8 = edges-second (IsCharBoundary text) earlier later (subst (AllAt (IsCharBoundary text)) h (derived-boundaries text options lookup all utf8 (derived text options lookup)))

  pub tail-whole : HasWholeLeaves later
  tail-whole = whole-second earlier later (subst HasWholeLeaves h (derived-whole text options lookup all (derived text options lookup)))

  pub tail-segments : segments all ≡ segments earlier ++ segments later
  tail-segments = ap segments h ∙ segments-join earlier later (document-first (take from text) options lookup false None (blocks options (take from text)))

  pub tail-few : length (segments later) ≤ length (segments all)
  tail-few = let e = ap length tail-segments ∙ length-append (segments earlier) (segments later) in omega (arith, e)

  pub tail-extents : extents (segments later) ≤ extents (segments all)
  tail-extents = let e = ap extents tail-segments in let x = extents-second (segments earlier) (segments later) in omega (arith, e, x)

  pub tail-references : references all ≡ references earlier ++ references later
  tail-references = ap references h ∙ references-join earlier later

  pub tail-footnotes : footnote_labels all ≡ footnote_labels earlier ++ footnote_labels later
  tail-footnotes = ap footnote_labels h ∙ footnotes-join earlier later

-- a reading of the first part and then a reading of the rest are a reading of the text
pub readings-continue : (text : List ℕ) (profile : Profile) (from : ℕ) → IsJoinedAt profile.options profile.lookup text from → (first later : List Ranged) (between : BetweenLeaves)
    → ReadsAll (reader_of text profile (document text profile.options profile.lookup)) (IsNext []) (segments (document (take from text) profile.options profile.lookup)) (at_start profile) first between → between.asked ≡ []
    → Left (reader_of text profile (document text profile.options profile.lookup)) (segments (document_after text profile.options profile.lookup from)) between.expansion_left [] later → IsReading text profile [] (first ++ later)
readings-continue text profile from h first later between reads none left = grind (arith, derived, tail-segments, joined)
