-- The events of a walk to its end are the reading of a document.
use Rattle.std.proofs.lemmas.List.{length-append, length-map}
use Rattle.std.proofs.Common.{◌≡◌, ◌+◌, ◌*◌, ◌≤◌, ℕ, length, arith, true, false, List, [], ◌∷◌, ◌++◌, map, Option, None, Some, Result, Ok, Err, inl, inr, append_assoc, refl, sym, ap, ◌∙◌, subst}
use Rattle.std.specs.Prelude.{is_some}
use Rattle.std.specs.Iterator.{Yields, Drains}
use Rattle.std.specs.declared.alloc.AllocError.{AllocError}
use Rattle.std.specs.declared.ops.Range.{Range}
use Rattle.cmark_grammar.specs.Answers.{Lookup}
use Rattle.cmark_grammar.specs.BlockDocument.{BlockDocument}
use Rattle.cmark_grammar.specs.Derivation.{Derives}
use Rattle.cmark_grammar.specs.Event.{Ranged}
use Rattle.cmark_grammar.specs.Headline.{profile_within}
use Rattle.cmark_inline_model.specs.LeafSpans.{IsRange}
use Rattle.cmark_grammar.specs.Options.{Options}
use Rattle.cmark_grammar.specs.Questions.{Exchange, Plan}
use Rattle.cmark_block_model.specs.Ranges.{count_tables}
use Rattle.cmark_grammar.specs.SpanDocuments.{IsReading}
use Rattle.cmark_inline_model.proofs.EventCounts.{reading-few}
use Rattle.cmark_inline.specs.Resolved.{Answered}
use Rattle.cmark_inline.specs.declared.callback.BrokenLink.{BrokenLink}
use Rattle.cmark_inline_model.proofs.SilentReadings.{reading-silent}
use Rattle.cmark_event_walk.specs.Callback.{AnswersIfAny}
use Rattle.cmark_text.specs.declared.event.Event.{Event}
use Rattle.cmark_values.specs.declared.text.CowStr.{CowStr}
use Rattle.cmark_text.specs.Shown.{shown}
use Rattle.cmark_text.specs.ZeroCopy.{IsZeroCopy}
use Rattle.cmark_parser.specs.declared.parse.Parser.{Parser}
use Rattle.cmark_parser.specs.declared.parse.OffsetIter.{OffsetIter}
use Rattle.cmark_parser.specs.Parsing.{Left as LeftOf}
use Rattle.cmark_parser.specs.Parsing.{AreZeroCopy, Asks, AsksRanged, CutNone, Remains, IsOver, Gives, Shows, RemainsRanged, IsRangedOver, GivesRanged, ReadsWithin, ShowsRanged, callback_of, ranged_text, shown_item, text_of, walk_of}
use Rattle.cmark_parser.specs.Walked.{IsBegun, IsBegunRanged, IsCutShort, IsCutShortRanged, IsDrained, IsDrainedRanged}
use Rattle.cmark_parser.specs.Walking.{GivesNext, GoesOn, NoEndIsNext, SomeLeft, SomeLeftFrom}
use Rattle.cmark_parser.proofs.ParseSteps.{none-answered}
use Rattle.cmark_parser.proofs.RenderSteps.{asks-on}

module _ {T : Type 0} (Shows : T → Ranged → Type 0) where
  -- each item shows the event at the same position
  abbrev pub EachShows : List T → List Ranged → Type 0
  EachShows [] [] = Unit {0}
  EachShows [] (r ∷ rs) = ⊥
  EachShows (x ∷ xs) [] = ⊥
  EachShows (x ∷ xs) (r ∷ rs) = Shows x r × EachShows xs rs

-- a walk over a text that stays the same
module _ {S T : Type 0} (Remains : S → List Exchange → List Ranged → Type 0) (IsOver : S → Type 0) (Asks : S → List Exchange → S → Type 0) (Shows : List ℕ → T → Ranged → Type 0) (text_of : S → List ℕ)
    (ask_none : (s : S) → Asks s [] s) (ask_on : (old mid new : S) (xs ys : List Exchange) → Asks old xs mid → Asks mid ys new → Asks old (xs ++ ys) new) where
  -- these items show events that were left, and these questions were asked up to the end
  pub record Left (text : List ℕ) (s : S) (items : List T) (last : S) : Type 0 where
    pub exchanges : List Exchange
    pub events : List Ranged
    pub asks : Asks s exchanges last
    pub remains : Remains s exchanges events
    pub each : EachShows (Shows text) items events

  -- a call of a walk over this text
  abbrev pub GivesOf : List ℕ → S → Option (Result T AllocError) → S → Type 0
  GivesOf text s given t = GivesNext Remains IsOver Asks (Shows text) s given t

  -- if a call returned None, no event was left
  left_none : (text : List ℕ) (s u : S) → GivesOf text s None u → Left text s [] u
  left_none text s u g = record { exchanges = g.taken; events = []; asks = g.first.0; remains = g.first.1; each = tt }

  -- if a call returned an item, the events that were left were its event and those that are left now
  left_some : (text : List ℕ) (s t u : S) (x : T) (xs : List T) → GivesOf text s (Some (Ok x)) t → Left text t xs u → Left text s (x ∷ xs) u
  left_some text s t u x xs g l =
      let f = g.first.1 in
      record { exchanges = g.taken ++ l.exchanges; events = f.0 ∷ l.events; asks = ask_on s t u g.taken l.exchanges g.first.0 l.asks; remains = f.2 l.exchanges l.events l.remains; each = (f.1, l.each) }

  -- these items show events that were returned, up to a state
  pub record Begun (text : List ℕ) (s t : S) (items : List T) : Type 0 where
    pub taken : List Exchange
    pub given : List Ranged
    pub asks : Asks s taken t
    pub back : (rest : List Exchange) (events : List Ranged) → Remains t rest events → Remains s (taken ++ rest) (given ++ events)
    pub each : EachShows (Shows text) items given

  -- these items were returned before memory was refused
  pub record RefusedLeft (text : List ℕ) (s t u : S) (items : List T) : Type 0 where
    pub begun : Begun text s t items
    pub left : (plan : Plan) → SomeLeft Remains plan t
    pub no_end : NoEndIsNext Remains t
    pub asked : List Exchange
    pub asks : Asks t asked u
    pub stops : (plan : Plan) → SomeLeftFrom Remains asked plan t
    pub over : IsOver u

  begun_none : (text : List ℕ) (s : S) → Begun text s s []
  begun_none text s = record { taken = []; given = []; asks = ask_none s; back = λ rest events r. r; each = tt }

  begun_some : (text : List ℕ) (s t u : S) (x : T) (xs : List T) → GivesOf text s (Some (Ok x)) t → Begun text t u xs → Begun text s u (x ∷ xs)
  begun_some text s t u x xs g b =
      let f = g.first.1 in
      record {
        taken = g.taken ++ b.taken;
        given = f.0 ∷ b.given;
        asks = ask_on s t u g.taken b.taken g.first.0 b.asks;
        back = λ rest events r. subst (λ ys. Remains s ys (f.0 ∷ (b.given ++ events))) (sym (append_assoc g.taken b.taken rest)) (f.2 (b.taken ++ rest) (b.given ++ events) (b.back rest events r));
        each = (f.1, b.each);
      }

  -- a relation of calls that implies such steps
  module _ (steps : S → Option (Result T AllocError) → S → Type 0) (step : (s : S) (given : Option (Result T AllocError)) (t : S) → steps s given t → GivesOf (text_of s) s given t)
      (keeps : (s : S) (given : Option (Result T AllocError)) (t : S) → steps s given t → text_of t ≡ text_of s) where
    step_of : (text : List ℕ) (s : S) (given : Option (Result T AllocError)) (t : S) → text_of s ≡ text → steps s given t → GivesOf text s given t
    step_of text s given t is h = subst (λ l. GivesOf l s given t) is (step s given t h)

    left_all : (text : List ℕ) (s t u : S) (items : List T) → text_of s ≡ text → Yields steps s (map Ok items) t → steps t None u → Left text s items u
    left_all text s t u [] is same g = subst (λ v. Left text v [] u) (sym same) (left_none text t u (step_of text t None u (subst (λ v. text_of v ≡ text) same is) g))
    left_all text s t u (x ∷ xs) is run g =
        left_some text s run.0 u x xs (step_of text s (Some (Ok x)) run.0 is run.1) (left_all text run.0 t u xs (keeps s (Some (Ok x)) run.0 run.1 ∙ is) run.2 g)

    -- if some items were returned, the events that were left were their events and those that are left now
    begun_all : (text : List ℕ) (s t : S) (items : List T) → text_of s ≡ text → Yields steps s (map Ok items) t → Begun text s t items
    begun_all text s t [] is same = subst (λ v. Begun text s v []) same (begun_none text s)
    begun_all text s t (x ∷ xs) is run =
        begun_some text s run.0 t x xs (step_of text s (Some (Ok x)) run.0 is run.1) (begun_all text run.0 t xs (keeps s (Some (Ok x)) run.0 run.1 ∙ is) run.2)

    goes_all : (s t : S) (items : List T) → GoesOn Remains IsOver s → Yields steps s (map Ok items) t → GoesOn Remains IsOver t
    goes_all s t [] goes same = subst (GoesOn Remains IsOver) same goes
    goes_all s t (x ∷ xs) goes run = goes_all run.0 t xs (step s (Some (Ok x)) run.0 run.1).goes_on run.2

    -- before the call that ran out of memory, some events were left, whatever the answers are
    pub refused_left : (s t u : S) (items : List T) (e : AllocError) → GoesOn Remains IsOver s → Yields steps s (map Ok items) t → steps t (Some (Err e)) u → RefusedLeft (text_of s) s t u items
    refused_left s t u items e goes run call =
        let g = step t (Some (Err e)) u call in
        record { begun = begun_all (text_of s) s t items refl run; left = some (goes_all s t items goes run) g; no_end = g.first.1; asked = g.taken; asks = g.first.0; stops = g.first.3; over = g.first.2 }
      where
        some : GoesOn Remains IsOver t → GivesOf (text_of t) t (Some (Err e)) u → (plan : Plan) → SomeLeft Remains plan t
        some (inl over) g = absurd (let n = (g.over over).0 in let q : true ≡ false = ap is_some n in cc)
        some (inr left) g = left

    -- after some items some events are left, whatever the answers are; none if the walk is over
    pub begun_left : ((s : S) → IsOver s → Remains s [] []) → (s t : S) (items : List T) → GoesOn Remains IsOver s → Yields steps s (map Ok items) t → Begun (text_of s) s t items × ((plan : Plan) → SomeLeft Remains plan t)
    begun_left none s t items goes run = (begun_all (text_of s) s t items refl run, some (goes_all s t items goes run))
      where
        some : GoesOn Remains IsOver t → (plan : Plan) → SomeLeft Remains plan t
        some (inl over) plan = ([], [], tt, none t over)
        some (inr left) plan = left plan

    -- the items of a walk to its end show the events that were left
    pub drained_left : (s : S) (items : List T) → (d : Drains steps s (map Ok items)) → Left (text_of s) s items d.0
    drained_left s items d = left_all (text_of s) s d.1.0 d.0 items refl d.1.1 d.1.2

shown_each : (text : List ℕ) (events : List Event) (rs : List Ranged) → EachShows (Shows text) events rs → map shown events ≡ map (λ r. r.event) rs
shown_each text [] [] each = refl
shown_each text [] (r ∷ rs) each = absurd each
shown_each text (x ∷ xs) [] each = absurd each
shown_each text (x ∷ xs) (r ∷ rs) each = ap (λ e. e ∷ map shown xs) each.0.is ∙ ap (λ es. r.event ∷ es) (shown_each text xs rs each.1)

shown_ranges : (text : List ℕ) (items : List (Event × Range ℕ)) (rs : List Ranged) → EachShows (ShowsRanged text) items rs → map shown_item items ≡ rs
shown_ranges text [] [] each = refl
shown_ranges text [] (r ∷ rs) each = absurd each
shown_ranges text (x ∷ xs) [] each = absurd each
shown_ranges text (x ∷ xs) (r ∷ rs) each = ap (λ e. e ∷ map shown_item xs) each.0.is ∙ ap (λ es. r ∷ es) (shown_ranges text xs rs each.1)

lent_each : (text : List ℕ) (items : List (Event × Range ℕ)) (rs : List Ranged) → EachShows (ShowsRanged text) items rs → AreZeroCopy text items
lent_each text [] rs each = tt
lent_each text (x ∷ xs) [] each = absurd each
lent_each text (x ∷ xs) (r ∷ rs) each = (subst (λ (q : Ranged). IsZeroCopy text x.0 q.start q.end) (sym each.0.is) each.0.lent, lent_each text xs rs each.1)

cut_each : (text : List ℕ) (items : List (Event × Range ℕ)) (rs : List Ranged) → EachShows (ShowsRanged text) items rs → CutNone text items
cut_each text [] rs each = tt
cut_each text (x ∷ xs) [] each = absurd each
cut_each text (x ∷ xs) (r ∷ rs) each = (subst (λ (q : Ranged). IsRange text q.start q.end) (sym each.0.is) each.0.range, cut_each text xs rs each.1)

module _ {E F : Type 0} (Says : F → BrokenLink → Option (CowStr × CowStr) → F → Type 0) (replacement : E → Lookup) where
  one_call : (old : Parser E F) (given : Option (Result Event AllocError)) (new : Parser E F) → Gives Says replacement old given new → GivesNext (Remains replacement) IsOver (Asks Says) (Shows (text_of old)) old given new
  one_call old given new g = g.next

  call_keeps : (old : Parser E F) (given : Option (Result Event AllocError)) (new : Parser E F) → Gives Says replacement old given new → text_of new ≡ text_of old
  call_keeps old given new g = g.text

  pub drained_reading : (limit : ℕ) (parser : Parser E F) (text : List ℕ) (options : Options) (lookup : Lookup) (events : List Event)
      → ReadsWithin replacement limit text options lookup parser → (d : Drains (Gives Says replacement) parser (map Ok events)) → IsDrained Says limit text options lookup parser d.0 events
  drained_reading limit parser text options lookup events reads drains =
      let l = drained_left (Remains replacement) IsOver (Asks Says) Shows text_of (λ s. refl) (asks-on Says replacement) (Gives Says replacement) one_call call_keeps parser events drains in
      record { exchanges = l.exchanges; given = l.events; asks = l.asks; reading = reads.reads l.exchanges l.events l.remains; are = shown_each (text_of parser) events l.events l.each }

  none_left : (parser : Parser E F) → IsOver parser → Remains replacement parser [] []
  none_left parser over = subst (λ b. LeftOf replacement b parser [] []) (sym over) (refl, refl)

  -- the events that a parser returned since its start are the beginning of a reading
  pub begun_reading : (limit : ℕ) (parser last : Parser E F) (text : List ℕ) (options : Options) (lookup : Lookup) (events : List Event)
      → ReadsWithin replacement limit text options lookup parser → Yields (Gives Says replacement) parser (map Ok events) last → IsBegun Says limit text options lookup parser last events
  begun_reading limit parser last text options lookup events reads run =
      let l = begun_left (Remains replacement) IsOver (Asks Says) Shows text_of (λ s. refl) (asks-on Says replacement) (Gives Says replacement) one_call call_keeps none_left parser last events (inr reads.some) run in
      record {
        taken = l.0.taken;
        given = l.0.given;
        asks = l.0.asks;
        are = shown_each (text_of parser) events l.0.given l.0.each;
        begin = λ plan.
            let some = l.1 plan in
            record { rest = some.0; events = some.1; planned = some.2; reading = reads.reads (l.0.taken ++ some.0) (l.0.given ++ some.1) (l.0.back some.0 some.1 some.3) };
      }

  -- these events are few
  pub begun_few : (limit : ℕ) (parser last : Parser E F) (text : List ℕ) (options : Options) (lookup : Lookup) (document : BlockDocument) (events : List Event)
      → Derives text options lookup document → ReadsWithin replacement limit text options lookup parser → Yields (Gives Says replacement) parser (map Ok events) last → length events ≤ 11 * length text + 524288 * count_tables document
  begun_few limit parser last text options lookup document events derives reads run =
      let b = begun_reading limit parser last text options lookup events reads run in
      let r = b.begin (λ asked question. None) in
      let few = reading-few text (profile_within limit options lookup true) document (b.taken ++ r.rest) (b.given ++ r.events) derives r.reading in
      let front = length-append b.given r.events in
      let same : length events ≡ length b.given = sym (length-map events shown) ∙ ap length b.are ∙ length-map b.given (λ (q : Ranged). q.event) in
      omega (arith, few, front, same)

  -- the events that a parser returned from its start until memory was refused are the beginning of a reading
  pub refused_reading : (limit : ℕ) (parser before last : Parser E F) (text : List ℕ) (options : Options) (lookup : Lookup) (events : List Event) (e : AllocError)
      → ReadsWithin replacement limit text options lookup parser → Yields (Gives Says replacement) parser (map Ok events) before → Gives Says replacement before (Some (Err e)) last → IsCutShort Says limit text options lookup parser last events
  refused_reading limit parser before last text options lookup events e reads run call =
      let l = refused_left (Remains replacement) IsOver (Asks Says) Shows text_of (λ s. refl) (asks-on Says replacement) (Gives Says replacement) one_call call_keeps parser before last events e (inr reads.some) run call in
      record {
        before = before;
        taken = l.begun.taken;
        given = l.begun.given;
        asks = l.begun.asks;
        are = shown_each (text_of parser) events l.begun.given l.begun.each;
        begin = λ plan.
            let some = l.left plan in
            record {
              begin = record { rest = some.0; events = some.1; planned = some.2; reading = reads.reads (l.begun.taken ++ some.0) (l.begun.given ++ some.1) (l.begun.back some.0 some.1 some.3) };
              no_end = l.no_end some.0 some.1 some.3;
            };
        asked = l.asked;
        asks_last = l.asks;
        stops = λ plan.
            let some = l.stops plan in
            let rest = l.asked ++ some.0 in
            record {
              begin = record {
                rest = some.0;
                events = some.1;
                planned = some.2;
                reading = subst (λ xs. IsReading text (profile_within limit options lookup true) xs (l.begun.given ++ some.1)) (sym (append_assoc l.begun.taken l.asked some.0)) (reads.reads (l.begun.taken ++ rest) (l.begun.given ++ some.1) (l.begun.back rest some.1 some.3));
              };
              no_end = l.no_end rest some.1 some.3;
            };
        over = l.over;
      }

  -- if there is no callback, a reading with questions is the reading without a callback
  silent-reading : (limit : ℕ) (text : List ℕ) (options : Options) (lookup : Lookup) (exchanges : List Exchange) (events : List Ranged) (before after : Option F) → before ≡ None → Answered (AnswersIfAny Says) exchanges before after
      → IsReading text (profile_within limit options lookup true) exchanges events → IsReading text (profile_within limit options lookup false) [] events
  silent-reading limit text options lookup exchanges events before after silent asks reading =
      reading-silent text (profile_within limit options lookup true) exchanges events (none-answered Says exchanges after (subst (λ (o : Option F). Answered (AnswersIfAny Says) exchanges o after) silent asks)) reading

  one_item : (old : OffsetIter E F) (given : Option (Result (Event × Range ℕ) AllocError)) (new : OffsetIter E F) → GivesRanged Says replacement old given new
      → GivesNext (RemainsRanged replacement) IsRangedOver (AsksRanged Says) (ShowsRanged (ranged_text old)) old given new
  one_item old given new g = g.next

  item_keeps : (old : OffsetIter E F) (given : Option (Result (Event × Range ℕ) AllocError)) (new : OffsetIter E F) → GivesRanged Says replacement old given new → ranged_text new ≡ ranged_text old
  item_keeps old given new g = g.text

  abbrev RangedLeft : OffsetIter E F → List (Event × Range ℕ) → OffsetIter E F → Type 0
  RangedLeft iter items last = Left (RemainsRanged replacement) IsRangedOver (AsksRanged Says) ShowsRanged ranged_text (λ s. refl) (λ old mid new. asks-on Says replacement old.parser mid.parser new.parser) (ranged_text iter) iter items last

  ranged-left : (iter : OffsetIter E F) (items : List (Event × Range ℕ)) → (d : Drains (GivesRanged Says replacement) iter (map Ok items)) → RangedLeft iter items d.0
  ranged-left iter items d =
      drained_left (RemainsRanged replacement) IsRangedOver (AsksRanged Says) ShowsRanged ranged_text (λ s. refl) (λ old mid new. asks-on Says replacement old.parser mid.parser new.parser) (GivesRanged Says replacement) one_item item_keeps iter items d

  -- the same for an iterator with ranges
  pub drained_ranges : (limit : ℕ) (parser : Parser E F) (iter : OffsetIter E F) (text : List ℕ) (options : Options) (lookup : Lookup) (items : List (Event × Range ℕ))
      → walk_of iter ≡ parser → ReadsWithin replacement limit text options lookup parser → (d : Drains (GivesRanged Says replacement) iter (map Ok items))
      → IsDrainedRanged Says limit text options lookup iter d.0 items
  drained_ranges limit parser iter text options lookup items same reads drains =
      let l = ranged-left iter items drains in
      let begun : ReadsWithin replacement limit text options lookup (walk_of iter) = subst (ReadsWithin replacement limit text options lookup) (sym same) reads in
      record {
        exchanges = l.exchanges;
        asks = l.asks;
        reading = subst (IsReading text (profile_within limit options lookup true) l.exchanges) (sym (shown_ranges (ranged_text iter) items l.events l.each)) (begun.reads l.exchanges l.events l.remains);
      }

  pub begun_ranges : (limit : ℕ) (parser : Parser E F) (iter last : OffsetIter E F) (text : List ℕ) (options : Options) (lookup : Lookup) (items : List (Event × Range ℕ))
      → walk_of iter ≡ parser → ReadsWithin replacement limit text options lookup parser → Yields (GivesRanged Says replacement) iter (map Ok items) last → IsBegunRanged Says limit text options lookup iter last items
  begun_ranges limit parser iter last text options lookup items same reads run =
      let begun : ReadsWithin replacement limit text options lookup (walk_of iter) = subst (ReadsWithin replacement limit text options lookup) (sym same) reads in
      let l =
      begun_left (RemainsRanged replacement) IsRangedOver (AsksRanged Says) ShowsRanged ranged_text (λ s. refl) (λ old mid new. asks-on Says replacement old.parser mid.parser new.parser) (GivesRanged Says replacement) one_item item_keeps
      (λ s. none_left s.parser) iter last items (inr begun.some) run in
      let given = sym (shown_ranges (ranged_text iter) items l.0.given l.0.each) in
      record {
        taken = l.0.taken;
        asks = l.0.asks;
        begin = λ plan.
            let some = l.1 plan in
            record {
              rest = some.0;
              events = some.1;
              planned = some.2;
              reading = subst (λ rs. IsReading text (profile_within limit options lookup true) (l.0.taken ++ some.0) (rs ++ some.1)) given (begun.reads (l.0.taken ++ some.0) (l.0.given ++ some.1) (l.0.back some.0 some.1 some.3));
            };
      }

  pub begun_ranges_few : (limit : ℕ) (parser : Parser E F) (iter last : OffsetIter E F) (text : List ℕ) (options : Options) (lookup : Lookup) (document : BlockDocument) (items : List (Event × Range ℕ))
      → Derives text options lookup document → walk_of iter ≡ parser → ReadsWithin replacement limit text options lookup parser → Yields (GivesRanged Says replacement) iter (map Ok items) last
      → length items ≤ 11 * length text + 524288 * count_tables document
  begun_ranges_few limit parser iter last text options lookup document items derives same reads run =
      let b = begun_ranges limit parser iter last text options lookup items same reads run in
      let r = b.begin (λ asked question. None) in
      let few = reading-few text (profile_within limit options lookup true) document (b.taken ++ r.rest) (map shown_item items ++ r.events) derives r.reading in
      let front = length-append (map shown_item items) r.events in
      let size = length-map items shown_item in
      omega (arith, few, front, size)

  pub refused_ranges : (limit : ℕ) (parser : Parser E F) (iter before last : OffsetIter E F) (text : List ℕ) (options : Options) (lookup : Lookup) (items : List (Event × Range ℕ)) (e : AllocError)
      → walk_of iter ≡ parser → ReadsWithin replacement limit text options lookup parser → Yields (GivesRanged Says replacement) iter (map Ok items) before → GivesRanged Says replacement before (Some (Err e)) last
      → IsCutShortRanged Says limit text options lookup iter last items
  refused_ranges limit parser iter before last text options lookup items e same reads run call =
      let begun : ReadsWithin replacement limit text options lookup (walk_of iter) = subst (ReadsWithin replacement limit text options lookup) (sym same) reads in
      let l =
      refused_left (RemainsRanged replacement) IsRangedOver (AsksRanged Says) ShowsRanged ranged_text (λ s. refl) (λ old mid new. asks-on Says replacement old.parser mid.parser new.parser) (GivesRanged Says replacement) one_item item_keeps iter before last items e
      (inr begun.some) run call in
      let given = sym (shown_ranges (ranged_text iter) items l.begun.given l.begun.each) in
      record {
        before = before;
        taken = l.begun.taken;
        asks = l.begun.asks;
        begin = λ plan.
            let some = l.left plan in
            record {
              begin = record {
                rest = some.0;
                events = some.1;
                planned = some.2;
                reading = subst (λ rs. IsReading text (profile_within limit options lookup true) (l.begun.taken ++ some.0) (rs ++ some.1)) given (begun.reads (l.begun.taken ++ some.0) (l.begun.given ++ some.1) (l.begun.back some.0 some.1 some.3));
              };
              no_end = l.no_end some.0 some.1 some.3;
            };
        asked = l.asked;
        asks_last = l.asks;
        stops = λ plan.
            let some = l.stops plan in
            let rest = l.asked ++ some.0 in
            record {
              begin = record {
                rest = some.0;
                events = some.1;
                planned = some.2;
                reading = subst (λ xs. IsReading text (profile_within limit options lookup true) xs (map shown_item items ++ some.1)) (sym (append_assoc l.begun.taken l.asked some.0))
                    (subst (λ rs. IsReading text (profile_within limit options lookup true) (l.begun.taken ++ rest) (rs ++ some.1)) given (begun.reads (l.begun.taken ++ rest) (l.begun.given ++ some.1) (l.begun.back rest some.1 some.3)));
              };
              no_end = l.no_end rest some.1 some.3;
            };
        over = l.over;
      }

  -- without a callback, the events are the reading without a callback
  pub drained_silent : (limit : ℕ) (parser : Parser E F) (iter : OffsetIter E F) (text : List ℕ) (options : Options) (lookup : Lookup) (items : List (Event × Range ℕ))
      → walk_of iter ≡ parser → callback_of parser ≡ None → ReadsWithin replacement limit text options lookup parser → Drains (GivesRanged Says replacement) iter (map Ok items)
      → IsReading text (profile_within limit options lookup false) [] (map shown_item items)
  drained_silent limit parser iter text options lookup items same silent reads drains =
      let r = drained_ranges limit parser iter text options lookup items same reads drains in
      silent-reading limit text options lookup r.exchanges (map shown_item items) (callback_of (walk_of iter)) (callback_of (walk_of drains.0)) (ap callback_of same ∙ silent) r.asks r.reading

  -- the events keep the zero-copy law, and their ranges cut no character
  pub drained_lent : (iter : OffsetIter E F) (items : List (Event × Range ℕ)) → Drains (GivesRanged Says replacement) iter (map Ok items) → AreZeroCopy (ranged_text iter) items
  drained_lent iter items drains = let l = ranged-left iter items drains in lent_each (ranged_text iter) items l.events l.each

  pub drained_cut : (iter : OffsetIter E F) (items : List (Event × Range ℕ)) → Drains (GivesRanged Says replacement) iter (map Ok items) → CutNone (ranged_text iter) items
  drained_cut iter items drains = let l = ranged-left iter items drains in cut_each (ranged_text iter) items l.events l.each
