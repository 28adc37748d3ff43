-- The document of the lines after an offset, whatever is before them: its ranges are in order, cut no character, and are few.
use Rattle.std.proofs.Common.{◌≡◌, ℕ, ◌+◌, ◌*◌, ◌≤◌, false, List, ◌++◌, length, take, drop, sym, ap, ◌∙◌, subst, arith, None}
use Rattle.std.proofs.lemmas.List.{length-take-le, take-append-drop, length-drop}
use Rattle.std.specs.Prelude.{IsCharBoundary, IsUtf8, ◌-◌}
use Rattle.cmark_grammar.specs.Answers.{Lookup}
use Rattle.cmark_grammar.specs.BlockDocument.{BlockDocument, Nil, Node}
use Rattle.cmark_grammar.specs.Blocks.{Body}
use Rattle.cmark_grammar.specs.Lines.{lines}
use Rattle.cmark_grammar.specs.Options.{Options}
use Rattle.cmark_grammar.specs.Places.{Apart}
use Rattle.cmark_grammar.specs.SpanDocuments.{segments}
use Rattle.cmark_block_model.specs.Ranges.{AllAt, InOrder, count_nodes}
use Rattle.cmark_block_model.specs.Tails.{blocks_after, document_after, rows_after}
use Rattle.cmark_block_model.proofs.BlocksByLine.{lines-same}
use Rattle.cmark_block_model.proofs.BlocksSound.{lines-body, rows_from-whole}
use Rattle.cmark_block_model.proofs.BoundaryLaws.{document-edged, joined, lines-ended, rows-good}
use Rattle.cmark_block_model.proofs.CountLaws.{FedAfter, document-count, document-tables, fed-following, lines-full, rows-fed}
use Rattle.cmark_block_model.proofs.LeafDrawings.{HasWholeLeaves, document-whole, segments-count}
use Rattle.cmark_block_model.proofs.RangeLaws.{document-order}
use Rattle.cmark_block_model.proofs.RowPlaces.{Along, lines-total, rows-Along, total}

order-from : (low : ℕ) (d : BlockDocument) (to : ℕ) → InOrder low d to → InOrder 0 d to
order-from low Nil to h = omega arith
order-from low (Node n inside after) to h = (omega arith, h.1, h.2)

-- the lines after an offset have the blocks of the pass over them
pub after-body : (text : List ℕ) (options : Options) (from : ℕ) → Body options Apart (rows_after text from) (blocks_after options text from)
after-body text options from =
    subst (Body options Apart (rows_after text from)) (sym (lines-same options (rows_after text from))) (lines-body options (rows_after text from) (rows_from-whole options from (lines (drop from text))))

module _ (text : List ℕ) (from : ℕ) (within : from ≤ length text) where
  -- the bytes before the offset, and then the lines after it
  pub after-cut : text ≡ take from text ++ joined (lines (drop from text))
  after-cut = sym (take-append-drop from text) ∙ ap (λ l. take from text ++ l) (sym (lines-ended (drop from text)).1)

  pub after-size : length (take from text) ≡ from
  after-size = length-take-le from text within

  after-along : Along from (rows_after text from) (length text)
  after-along =
      let e : total (lines (drop from text)) ≡ length (drop from text) = lines-total (drop from text) in
      let d : length (drop from text) ≡ length text - from = length-drop from text in
      subst (Along from (rows_after text from)) (let z : from + total (lines (drop from text)) ≡ length text = omega (arith, e, d, within) in z) (rows-Along from (lines (drop from text)))

  after-fed : FedAfter from (rows_after text from) (length text)
  after-fed = fed-following from (rows_after text from) (length text) (rows-fed from (lines (drop from text)) (length text) (lines-full (drop from text)) after-along)

  module _ (options : Options) (lookup : Lookup) where
    pub after-order : InOrder 0 (document_after text options lookup from) (length text)
    after-order =
        order-from from (document_after text options lookup from) (length text)
        (document-order text options lookup false None Apart from (rows_after text from) (blocks_after options text from) (length text) (after-body text options from) after-along)

    pub after-edges : IsUtf8 text → IsCharBoundary text from → AllAt (IsCharBoundary text) (document_after text options lookup from)
    after-edges utf8 begins =
        document-edged (IsCharBoundary text) text options lookup false None Apart (rows_after text from) (blocks_after options text from) (after-body text options from)
        (rows-good text utf8 (take from text) (lines (drop from text)) from after-cut after-size begins (lines-ended (drop from text)).0)

    pub after-whole : HasWholeLeaves (document_after text options lookup from)
    after-whole = document-whole text options lookup false None (blocks_after options text from)

    -- there are at most this many events and leaves for each byte
    pub after-few : length (segments (document_after text options lookup from)) ≤ 786444 * length text
    after-few =
        let d = document_after text options lookup from in
        let s : length (segments d) ≤ 3 * count_nodes d = segments-count d in
        let c = document-count text options lookup false None Apart from (rows_after text from) (blocks_after options text from) (length text) (after-body text options from) after-fed in
        let t = document-tables text options lookup false None Apart from (rows_after text from) (blocks_after options text from) (length text) (after-body text options from) after-fed in
        omega (arith, s, c, t)
