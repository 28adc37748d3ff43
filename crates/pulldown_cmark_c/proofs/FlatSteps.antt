-- The flat records of a walk's events.
use Rattle.std.specs.Prelude.{Ok, Some, None}
use Rattle.std.proofs.Common.{◌≡◌, ℕ, true, List, [], ◌∷◌, ◌++◌, Option, sym, ap, ◌∙◌, append-nil, subst}
use Rattle.cmark_flat.specs.Flat.{flat, records}
use Rattle.cmark_flat.specs.Records.{spelled}
use Rattle.cmark_flat.proofs.FlatSteps.{flat_more}
use Rattle.cmark_grammar.specs.Answers.{Lookup}
use Rattle.cmark_grammar.specs.Event.{Ranged}
use Rattle.cmark_grammar.specs.Headline.{profile_within, usual_limit}
use Rattle.cmark_grammar.specs.Options.{Options}
use Rattle.cmark_grammar.specs.Questions.{Exchange}
use Rattle.cmark_inline.specs.Resolved.{Answered}
use Rattle.cmark_inline.specs.declared.callback.BrokenLink.{BrokenLink}
use Rattle.cmark_inline.specs.declared.callback.DefaultBrokenLinkCallback.{DefaultBrokenLinkCallback}
use Rattle.cmark_inline_model.proofs.SilentReadings.{reading-silent}
use Rattle.cmark_parser.specs.declared.parse.OffsetIter.{OffsetIter}
use Rattle.cmark_parser.specs.declared.parse.Parser.{Parser}
use Rattle.cmark_parser.specs.Parsing.{Asks, CanGo, GivesAs, GivesStep, Passes, Reads, Remains, callback_of, walk_of}
use Rattle.cmark_parser.proofs.ParseSteps.{none-answered}
use Rattle.cmark_parser.proofs.RenderSteps.{asks-on, passes-on}
use Rattle.cmark_event_walk.specs.Callback.{AnswersIfAny}
use Rattle.cmark_text.specs.Ranged.{shown_ranged}
use Rattle.cmark_text.specs.declared.ranged.Ranged.{Ranged as Item}
use Rattle.cmark_text.specs.declared.short.Step.TheVariants as next
use Rattle.cmark_text.specs.declared.short.Short.{Short}
use Rattle.cmark_text.specs.Short.{ranged_short}
use Rattle.cmark_values.specs.declared.text.CowStr.{CowStr}
use Rattle.pulldown_cmark_c.specs.Flat.{AreFlatOf, AreFlatOfRest, says-nothing}

-- the records of one event more
one_more : (given : List Ranged) (r : Ranged) (mid new : List ℕ) → mid ≡ flat given → new ≡ mid ++ spelled (records r) → new ≡ flat (given ++ r ∷ [])
one_more given r mid new before more = more ∙ ap (λ l. l ++ spelled (records r)) before ∙ sym (flat_more given r)

module _ {E F : Type 0} (Says : F → BrokenLink → Option (CowStr × CowStr) → F → Type 0) (replacement : E → Lookup) where
  -- some events were given since a walk's start, and the output is their records
  pub record WritesFlat (first parser : Parser E F) (output : List ℕ) : Type 0 where
    pub given : List Ranged
    pub passes : Passes Says replacement given first parser
    pub output_is : output ≡ flat given
    pub can : CanGo replacement parser

  -- an event that owns nothing
  pub short_more : (first parser new : Parser E F) (short : Short) (start end : ℕ) (mid after : List ℕ) → WritesFlat first parser mid → GivesAs Says replacement parser (next.Short short start end) new
      → after ≡ mid ++ spelled (records (ranged_short short start end)) → WritesFlat first new after
  short_more first parser new short start end mid after p h more = record {
    given = p.given ++ h.answers.given ∷ [];
    passes = passes-on Says replacement first parser new p.given (h.answers.given ∷ []) p.passes h.answers.passes;
    output_is = one_more p.given h.answers.given mid after p.output_is (more ∙ ap (λ r. mid ++ spelled (records r)) (sym h.answers.is));
    can = h.can;
  }

  -- an event of another kind was not given yet
  pub long_kept : (first parser new : Parser E F) (mid : List ℕ) → WritesFlat first parser mid → GivesAs Says replacement parser next.Long new → WritesFlat first new mid
  long_kept first parser new mid p h = record {
    given = p.given;
    passes = subst (λ l. Passes Says replacement l first new) (append-nil p.given) (passes-on Says replacement first parser new p.given [] p.passes h.answers.passes);
    output_is = p.output_is;
    can = h.can;
  }

  -- an event of any kind
  pub event_more : (first parser new : Parser E F) (item : Item) (mid after : List ℕ) → WritesFlat first parser mid → GivesStep Says replacement parser (Some (Ok item)) new
      → after ≡ mid ++ spelled (records (shown_ranged item)) → WritesFlat first new after
  event_more first parser new item mid after p gives more =
      let f = gives.next.first in
      record {
        given = p.given ++ f.1.0 ∷ [];
        passes = passes-on Says replacement first parser new p.given (f.1.0 ∷ []) p.passes (record { taken = gives.next.taken; asks = f.0; back = f.1.2 });
        output_is = one_more p.given f.1.0 mid after p.output_is (more ∙ ap (λ r. mid ++ spelled (records r)) f.1.1.is);
        can = record { goes = gives.next.goes_on; counted = gives.counted };
      }

-- after the last event
pub all_given : {E : Type 0} (replacement : E → Lookup) (first iter new : OffsetIter E DefaultBrokenLinkCallback) (taken : List Exchange) (output : List ℕ) → WritesFlat says-nothing replacement first.parser iter.parser output
    → Asks says-nothing iter.parser taken new.parser → Remains replacement iter.parser taken [] → AreFlatOfRest replacement first new output
all_given replacement first iter new taken output p asks none = record {
  exchanges = p.passes.taken ++ taken;
  events = p.given;
  left = subst (Remains replacement first.parser (p.passes.taken ++ taken)) (append-nil p.given) (p.passes.back taken [] none);
  asks = asks-on says-nothing replacement first.parser iter.parser new.parser p.passes.taken taken p.passes.asks asks;
  output_is = p.output_is;
}

-- the records of all events of a walk from its start, without a callback, are those of its text
pub all_written : {E : Type 0} (replacement : E → Lookup) (parser : Parser E DefaultBrokenLinkCallback) (iter last : OffsetIter E DefaultBrokenLinkCallback) (text : List ℕ) (options : Options) (lookup : Lookup) (output : List ℕ)
    → walk_of iter ≡ parser → callback_of parser ≡ None → Reads replacement text options lookup parser → AreFlatOfRest replacement iter last output → AreFlatOf text options lookup output
all_written replacement parser iter last text options lookup output same silent reads all =
    let asks = subst (λ p. Asks says-nothing p all.exchanges last.parser) same all.asks in
    let unanswered = none-answered says-nothing all.exchanges (callback_of last.parser) (subst (λ (o : Option DefaultBrokenLinkCallback). Answered (AnswersIfAny says-nothing) all.exchanges o (callback_of last.parser)) silent asks) in
    record {
      events = all.events;
      reading = reading-silent text (profile_within (usual_limit text) options lookup true) all.exchanges all.events unanswered (reads.reads all.exchanges all.events (subst (λ p. Remains replacement p all.exchanges all.events) same all.left));
      output_is = all.output_is;
    }
