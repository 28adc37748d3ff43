-- A parser of the rest of a text.
use Rattle.std.proofs.Common.{◌≡◌, ◌+◌, ◌*◌, ◌<◌, ◌≤◌, ℕ, false, List, [], ◌∷◌, ◌++◌, length, take, inr, subst, sym, arith}
use Rattle.std.specs.Prelude.{IsUtf8}
use Rattle.cmark_block_model.specs.Tails.{document_after}
use Rattle.cmark_grammar.specs.Answers.{Lookup}
use Rattle.cmark_block_model.specs.DocumentModel.{document}
use Rattle.cmark_grammar.specs.Event.{Ranged}
use Rattle.cmark_grammar.specs.Options.{Options}
use Rattle.cmark_grammar.specs.Questions.{Exchange}
use Rattle.cmark_grammar.specs.Readers.{Reader}
use Rattle.cmark_grammar.specs.SpanDocuments.{Content, Given, Segment, segments}
use Rattle.cmark_grammar.specs.SpanDocuments as documents
use Rattle.cmark_inline_model.specs.LeafExtents.{extents}
use Rattle.cmark_inline_model.proofs.PlannedReadings.{left-planned}
use Rattle.cmark_event_walk.specs.Walking as walking
use Rattle.cmark_event_walk.specs.Walking.{ArePlaced}
use Rattle.cmark_stream_model.specs.Tails.{IsJoinedAt}
use Rattle.cmark_stream_model.proofs.TailFacts.{tail-segments, tail-few, tail-extents}
use Rattle.cmark_parser.specs.declared.parse.Parser.{Parser}
use Rattle.cmark_parser.specs.Parsing.{CanGo, IsCounted, Left, reader_for}
use Rattle.cmark_parser.specs.Tails.{ReadsRest}
use Rattle.cmark_parser.specs.Walking.{reader_by}
use Rattle.cmark_parser.proofs.ParseSteps.{begin-placed, begin-few, begin-extents, placed-turn}

placed-second : (reader : Reader) (a b : List Segment) → ArePlaced reader (a ++ b) → ArePlaced reader b
placed-second reader [] b h = h
placed-second reader (Given r ∷ a) b h = placed-second reader a b h.1
placed-second reader (Content leaf ∷ a) b h = placed-second reader a b h.1

module _ {E F : Type 0} (replacement : E → Lookup) (parser : Parser E F) (text : List ℕ) (options : Options) (lookup : Lookup) (from : ℕ) where
  abbrev pub left : List Segment
  left = segments (document_after text options lookup from)

  abbrev pub reader : Reader
  reader = reader_by text options lookup

  pub rest-placed : IsJoinedAt options lookup text from → IsUtf8 text → ArePlaced reader left
  rest-placed h utf8 = placed-second reader (segments (document (take from text) options lookup)) left (subst (ArePlaced reader) (tail-segments text options lookup from h) (begin-placed replacement parser text options lookup utf8))

  pub rest-few : IsJoinedAt options lookup text from → length left < length text * 786444 + 1
  rest-few h = let a = begin-few text options lookup in let b = tail-few text options lookup from h in omega (arith, a, b)

  pub rest-extents : IsJoinedAt options lookup text from → extents left ≤ length text
  rest-extents h = let a = begin-extents text options lookup in let b = tail-extents text options lookup from h in omega (arith, a, b)

  pub reads-rest : (limit : ℕ) → parser.is_over ≡ false → reader ≡ reader_for replacement parser → walking.expansion_left_of parser.spans ≡ limit → ArePlaced reader left
      → ((exchanges : List Exchange) (events : List Ranged) → documents.Left reader left (walking.expansion_left_of parser.spans) exchanges events → walking.Remains replacement reader parser.spans exchanges events)
      → ((exchanges : List Exchange) (events : List Ranged) → walking.Remains replacement reader parser.spans exchanges events → documents.Left reader left (walking.expansion_left_of parser.spans) exchanges events)
      → ReadsRest replacement limit text from options lookup parser
  reads-rest limit e same limit-is placed begins reads = record {
    some = λ plan.
        let l = left-planned reader left (walking.expansion_left_of parser.spans) plan (placed-turn reader left placed) in
        (l.0, l.1, l.2, subst (λ b. Left replacement b parser l.0 l.1) (sym e) (subst (λ r. walking.Remains replacement r parser.spans l.0 l.1) same (begins l.0 l.1 l.3)));
    reads = λ exchanges events m.
        subst (λ n. documents.Left reader left n exchanges events) limit-is (reads exchanges events (subst (λ r. walking.Remains replacement r parser.spans exchanges events) (sym same) (subst (λ b. Left replacement b parser exchanges events) e m)));
  }

  pub can-begin-rest : (limit : ℕ) → ReadsRest replacement limit text from options lookup parser → IsCounted parser → CanGo replacement parser
  can-begin-rest limit r counted = record { goes = inr r.some; counted = counted }
