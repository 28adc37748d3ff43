-- The item that a parser returns: the event of its step, or the event that it takes after a step without one.
use Rattle.std.specs.Prelude.{IfOk, Result, Err, Ok, Option, Some, None}
use Rattle.std.specs.declared.alloc.AllocError.{AllocError}
use Rattle.std.proofs.Common.{◌≡◌, ◌<◌, ◌≤◌, ℕ, suc, false, if◌then◌else◌, List, [], ◌∷◌, ◌++◌, append_assoc, inl, refl, sym, ap, ◌∙◌, subst, arith}
use Rattle.cmark_grammar.specs.Answers.{Lookup}
use Rattle.cmark_grammar.specs.Event.{Ranged}
use Rattle.cmark_grammar.specs.Questions.{Exchange}
use Rattle.cmark_inline_model.specs.LeafSpans.{IsRange}
use Rattle.cmark_inline.specs.declared.callback.BrokenLink.{BrokenLink}
use Rattle.cmark_event_walk.specs.Walking as walking
use Rattle.cmark_event_walk.specs.declared.walk_step.WalkStep.{WalkStep}
use Rattle.cmark_event_walk.specs.declared.walk_step.WalkStep.TheVariants as coming
use Rattle.cmark_text.specs.declared.short.Step.TheVariants as next
use Rattle.cmark_text.specs.declared.short.Short.{Short}
use Rattle.cmark_text.specs.declared.ranged.Ranged.{Ranged as Item}
use Rattle.cmark_text.specs.Ranged.{shown_ranged}
use Rattle.cmark_text.specs.Short.{IsShortZeroCopy, ranged_short}
use Rattle.cmark_text.specs.ZeroCopy.{IsZeroCopy}
use Rattle.cmark_values.specs.declared.text.CowStr.{CowStr}
use Rattle.cmark_parser.specs.declared.parse.Parser.{Parser}
use Rattle.cmark_parser.specs.Parsing.{Asks, ComesLong, GivesAs, GivesStep, IsOver, Left, Remains, ShowsStep, events_left, is_last, reader_for, text_of}
use Rattle.cmark_parser.specs.Walking.{GivesFirst}
use Rattle.cmark_parser.proofs.ParseSteps.{left-of}
use Rattle.cmark_parser.proofs.RenderSteps.{asks-on}

-- after the end no event is left
none-left : {E F : Type 0} → (parser : Parser E F) → IsOver parser → events_left parser ≡ 0
none-left parser over = ap (λ b. if b then 0 else suc (walking.events_left parser.spans)) over

module _ {E F : Type 0} (replacement : E → Lookup) (old new : Parser E F) (e : old.is_over ≡ false) where
  -- the parser reports what its walk reports
  pub comes-long : (o : Result WalkStep AllocError) → new.is_over ≡ is_last o → IfOk o (λ coming. walking.IfLong coming (walking.ComesLong replacement old.spans new.spans)) → IfOk o (λ coming. walking.IfLong coming (ComesLong replacement old new))
  comes-long (Ok (coming.Span short start end)) n h = tt
  comes-long (Ok (coming.Block short start end)) n h = tt
  comes-long (Ok (coming.Lines short start end)) n h = tt
  comes-long (Ok coming.Long) n h = record {
    long = record { going = n; long = h.long };
    no_end = λ exchanges events m. h.no_end (reader_for replacement old) exchanges events (subst (λ b. Left replacement b old exchanges events) e m);
  }
  comes-long (Ok coming.Over) n h = tt
  comes-long (Err error) n h = tt

module _ {E F : Type 0} (Says : F → BrokenLink → Option (CowStr × CowStr) → F → Type 0) (replacement : E → Lookup) where
  -- an event that owns nothing
  pub step-short : (old new : Parser E F) (short : Short) (start end : ℕ) (item : Item) → GivesAs Says replacement old (next.Short short start end) new → shown_ranged item ≡ ranged_short short start end
      → ((text : List ℕ) → IsShortZeroCopy text short start end → IsZeroCopy text item.event start end) → GivesStep Says replacement old (Some (Ok item)) new
  step-short old new short start end item h is lent =
      let a = h.answers in
      let text : List ℕ = text_of old in
      let borrowed = lent text (subst (λ (r : Ranged). IsShortZeroCopy text short r.start r.end) a.is a.lent) in
      let fewer = a.fewer in
      record {
        next = record {
          taken = a.passes.taken;
          first = (a.passes.asks, (a.given, record { is = is ∙ sym a.is; range = a.range; lent = subst (λ (r : Ranged). IsZeroCopy text item.event r.start r.end) (sym a.is) borrowed }, a.passes.back));
          goes_on = h.can.goes;
          over = λ over. absurd (let none = none-left old over in omega (arith, none, fewer));
        };
        text = h.text;
        definitions = h.definitions;
        footnotes = h.footnotes;
        counted = h.can.counted;
        fewer = fewer;
      }

  -- no event was left
  pub step-over : (old new : Parser E F) → GivesAs Says replacement old next.Over new → GivesStep Says replacement old None new
  step-over old new h =
      let a = h.answers in
      record {
        next = record { taken = a.taken; first = (a.asks, a.none, a.over); goes_on = inl a.over; over = λ over. (refl, (subst (λ b. Left replacement b old a.taken []) over a.none).0, a.over) };
        text = h.text;
        definitions = h.definitions;
        footnotes = h.footnotes;
        counted = h.can.counted;
        fewer = tt;
      }

  abbrev First : Parser E F → List Exchange → Result Item AllocError → Parser E F → Type 0
  First old taken given new = GivesFirst (Remains replacement) IsOver (Asks Says) (ShowsStep (text_of old)) old taken (Some given) new

  -- an event that is not a short one, or an error
  pub step-long : (old mid new : Parser E F) (given : Result Item AllocError) → GivesAs Says replacement old next.Long mid → ComesLong replacement old mid → GivesStep Says replacement mid (Some given) new → GivesStep Says replacement old (Some given) new
  step-long old mid new given h comes g = record {
    next = record {
      taken = taken;
      first = first given g.next.first;
      goes_on = g.next.goes_on;
      over = λ over. absurd (let none = none-left old over in let some = left-of mid comes.long.going in omega (arith, none, some, most));
    };
    text = g.text ∙ h.text;
    definitions = g.definitions ∙ h.definitions;
    footnotes = λ folded. g.footnotes folded ∙ h.footnotes folded;
    counted = g.counted;
    fewer = omega (arith, most, fewer);
  }
    where
      most : events_left mid ≤ events_left old
      most = h.answers.most

      fewer : events_left new < events_left mid
      fewer = g.fewer

      before : List Exchange
      before = h.answers.passes.taken

      taken : List Exchange
      taken = before ++ g.next.taken

      asks : Asks Says mid g.next.taken new → Asks Says old taken new
      asks a = asks-on Says replacement old mid new before g.next.taken h.answers.passes.asks a

      back : (rest : List Exchange) (events : List Ranged) → Remains replacement mid (g.next.taken ++ rest) events → Remains replacement old (taken ++ rest) events
      back rest events m = subst (λ xs. Remains replacement old xs events) (sym (append_assoc before g.next.taken rest)) (h.answers.passes.back (g.next.taken ++ rest) events m)

      first : (given : Result Item AllocError) → First mid g.next.taken given new → First old taken given new
      first (Ok item) f =
          let shows = f.1.1 in
          let r = f.1.0 in (
            asks f.0,
            (
              r,
              record {
                is = shows.is;
                range = subst (λ text. IsRange text r.start r.end) h.text shows.range;
                lent = subst (λ text. IsZeroCopy text item.event r.start r.end) h.text shows.lent;
              },
              λ rest events m. back rest (r ∷ events) (f.1.2 rest events m),
            ),
          )
      first (Err error) f = (asks f.0, comes.no_end, f.2, λ plan. (let l = f.3 plan in (l.0, l.1, l.2, back l.0 l.1 l.3)))
