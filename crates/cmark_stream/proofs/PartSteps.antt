-- The HTML of the events that a parser has left.
use Rattle.std.proofs.Common.{◌≡◌, ℕ, List, [], ◌++◌, Option, refl, sym, ap, ◌∙◌}
use Rattle.std.specs.Prelude.{IsTrue, string_bytes}
use Rattle.cmark_grammar.specs.Answers.{Lookup}
use Rattle.cmark_grammar.specs.Event.{Event, Ranged}
use Rattle.cmark_grammar.specs.Html.{Writing, at_line_start, last_piece, moved_all, pieces_from}
use Rattle.cmark_grammar.specs.Questions.{Exchange}
use Rattle.cmark_grammar.specs.Readers.{Reader}
use Rattle.cmark_grammar.specs.SpanDocuments.{Left, Segment}
use Rattle.cmark_inline.specs.declared.callback.BrokenLink.{BrokenLink}
use Rattle.cmark_inline_model.proofs.SilentReadings.{all-silent}
use Rattle.cmark_inline_model.specs.Unanswered.{AreUnanswered, silent}
use Rattle.cmark_parser.specs.declared.parse.Parser.{Parser}
use Rattle.cmark_parser.specs.Rendering.{WritesRest, filtered_of, written}
use Rattle.cmark_values.specs.declared.text.CowStr.{CowStr}
use Rattle.cmark_stream.specs.Rests.{WritesPart}
use Rattle.cmark_stream.specs.declared.part.Part.{Part}

pub left-silent : (reader : Reader) (left : List Segment) (limit : ℕ) (exchanges : List Exchange) (events : List Ranged) → AreUnanswered exchanges → Left reader left limit exchanges events → Left (silent reader) left limit [] events
left-silent reader left limit exchanges events none h = record {
  after = record { expansion_left = h.after.expansion_left; asked = [] };
  reads = all-silent reader exchanges none left (record { expansion_left = limit; asked = [] }) h.after events h.reads;
  asked = refl;
}

module _ {E F : Type 0} (Says : F → BrokenLink → Option (CowStr × CowStr) → F → Type 0) (replacement : E → Lookup) (filtered : Event → Event) where
  -- the HTML that a writer wrote
  pub part-written : (old new : Parser E F) (begun after : Writing) (empty : List ℕ) (part : Part) → begun ≡ at_line_start → empty ≡ [] → WritesRest Says replacement filtered old (written begun empty) new (written after (string_bytes part.html))
      → (IsTrue part.ends_at_beginning → after ≡ at_line_start) → WritesPart Says replacement filtered old new part
  part-written old new begun after empty part begins nothing h again = record {
    written = record {
      exchanges = h.exchanges;
      events = h.events;
      left = h.left;
      asks = h.asks;
      tail_is =
          h.bytes
          ∙ ap (λ l. l ++ (pieces_from begun (filtered_of filtered h.events) ++ last_piece after.image)) nothing
          ∙ ap (λ (w : Writing). pieces_from begun (filtered_of filtered h.events) ++ last_piece w.image) h.writing
          ∙ ap (λ w. pieces_from w (filtered_of filtered h.events) ++ last_piece (moved_all w (filtered_of filtered h.events)).image) begins;
    };
    after_is = λ ends. ap (λ w. moved_all w (filtered_of filtered h.events)) (sym begins) ∙ sym h.writing ∙ again ends;
  }
