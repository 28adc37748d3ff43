-- The HTML that was written of the events of a parser of the lines after an offset.
use Rattle.std.proofs.Common.{◌≡◌, ℕ, List, [], Option, None, Some, ◌∙◌, subst}
use Rattle.std.specs.Prelude.{IfOk, IfSome, Result, Ok, Err, false}
use Rattle.cmark_block_model.specs.Tails.{document_after}
use Rattle.cmark_event_walk.specs.Callback.{AnswersIfAny}
use Rattle.cmark_grammar.specs.Answers.{Lookup}
use Rattle.cmark_grammar.specs.Event.{Event, Ranged}
use Rattle.cmark_grammar.specs.Headline.{profile_within}
use Rattle.cmark_grammar.specs.Options.{Options}
use Rattle.cmark_grammar.specs.Questions.{Exchange}
use Rattle.cmark_grammar.specs.SpanDocuments.{segments}
use Rattle.cmark_inline.specs.Resolved.{Answered}
use Rattle.cmark_inline.specs.declared.callback.BrokenLink.{BrokenLink}
use Rattle.cmark_parser.proofs.ParseSteps.{none-answered}
use Rattle.cmark_parser.specs.declared.parse.Parser.{Parser}
use Rattle.cmark_parser.specs.Parsing.{Asks, Remains, callback_of}
use Rattle.cmark_parser.specs.Rendering.{filtered_of}
use Rattle.cmark_parser.specs.Tails.{ReadsUndefined, undefined_reader}
use Rattle.cmark_stream_model.specs.Undefined.{HasNoDefinitions}
use Rattle.cmark_values.specs.declared.text.CowStr.{CowStr}
use Rattle.cmark_stream.specs.Rests.{AreReadAfter, IsPieceHtml, IsTailHtml, WritesPiece, WritesTail}
use Rattle.cmark_stream.proofs.PartSteps.{left-silent}
use Rattle.cmark_stream.proofs.RestSteps.{html-first}

-- what holds of each value that was found
pub each-found : {T E : Type 0} {P Q : T → Type 0} (r : Result (Option T) E) → ((x : T) → P x → Q x) → IfOk r (λ o. IfSome o P) → IfOk r (λ o. IfSome o Q)
each-found (Ok (Some x)) f h = f x h
each-found (Ok None) f h = tt
each-found (Err e) f h = tt

module _ {E F : Type 0} (Says : F → BrokenLink → Option (CowStr × CowStr) → F → Type 0) (replacement : E → Lookup) (filtered : Event → Event) where
  module _ (limit : ℕ) (text : List ℕ) (from : ℕ) (options : Options) (lookup : Lookup) (parser last : Parser E F) (undefined : HasNoDefinitions (document_after text options lookup from)) (reads : ReadsUndefined replacement limit text from options lookup parser)
      (silent_is : callback_of parser ≡ None) where
    are-read : (exchanges : List Exchange) (events : List Ranged) → Remains replacement parser exchanges events → Asks Says parser exchanges last → AreReadAfter (profile_within limit options lookup false) filtered text from events
    are-read exchanges events left asks =
        let unanswered = none-answered Says exchanges (callback_of last) (subst (λ (o : Option F). Answered (AnswersIfAny Says) exchanges o (callback_of last)) silent_is asks) in
        record {
          undefined = undefined;
          left = left-silent (undefined_reader text options lookup) (segments (document_after text options lookup from)) limit exchanges events unanswered (reads.reads exchanges events left);
        }

    pub tail-read : (tail : List ℕ) → WritesTail Says replacement filtered parser last tail → IsTailHtml (profile_within limit options lookup false) filtered text from tail
    tail-read tail h = record { events = h.events; read = are-read h.exchanges h.events h.left h.asks; tail_is = h.tail_is }

    pub piece-read : (piece : List ℕ) → WritesPiece Says replacement filtered parser last piece → IsPieceHtml (profile_within limit options lookup false) filtered text from piece
    piece-read piece h =
        let w = h.written in
        record {
          events = w.events;
          read = are-read w.exchanges w.events w.left w.asks;
          piece_is = w.tail_is ∙ html-first (filtered_of filtered w.events) [] h.after_is;
          after_is = h.after_is;
        }
