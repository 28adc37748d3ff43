-- What a callback that answers from a table was asked, and the records that it kept.
use Rattle.std.proofs.Common.{◌≡◌, ℕ, false, true, List, [], ◌∷◌, ◌++◌, map, Option, Some, None, Result, Ok, Err, refl, sym, ap, subst, ◌∙◌, append_assoc}
use Rattle.std.proofs.lemmas.List.{append-nil}
use Rattle.std.specs.Borrow.{Bor}
use Rattle.std.specs.Option.{IsSome, option_copied}
use Rattle.std.specs.Prelude.{is_some}
use Rattle.std.specs.Iterator.{Yields}
use Rattle.std.specs.List.{AllByRecursion}
use Rattle.std.specs.declared.alloc.AllocError.{AllocError}
use Rattle.std.specs.declared.ops.Range.{Range}
use Rattle.std.proofs.lemmas.Bool.{false≢true}
use Rattle.cmark_flat.specs.Flat.{flat}
use Rattle.cmark_flat.specs.Questions.{Reply, answer_at, decode_replies, question_record}
use Rattle.cmark_flat.specs.Records.{record_bytes}
use Rattle.cmark_flat_links.specs.Answering.{AnswersFrom}
use Rattle.cmark_flat_links.specs.Table.{answer_in}
use Rattle.cmark_flat_links.specs.declared.answering.Answering.{Answering}
use Rattle.cmark_flat_links.specs.declared.table.AnswerTable.{AnswerTable}
use Rattle.cmark_grammar.specs.Answers.{Lookup}
use Rattle.cmark_grammar.specs.Headline.{usual_limit}
use Rattle.cmark_grammar.specs.Options.{Options}
use Rattle.cmark_grammar.specs.Questions.{Exchange, Question}
use Rattle.cmark_inline.specs.Resolved.{Answered}
use Rattle.cmark_inline.specs.declared.callback.BrokenLink.{BrokenLink}
use Rattle.cmark_parser.specs.declared.parse.OffsetIter.{OffsetIter}
use Rattle.cmark_parser.specs.declared.parse.Parser.{Parser}
use Rattle.cmark_parser.specs.Parsing.{GivesRanged, Reads, callback_of, shown_item, walk_of}
use Rattle.cmark_parser.proofs.WalkSteps.{drained_ranges}
use Rattle.cmark_event_walk.specs.Callback.{AnswersIfAny}
use Rattle.cmark_text.specs.declared.event.Event.{Event}
use Rattle.cmark_values.specs.declared.text.CowStr.{CowStr}
use Rattle.pulldown_cmark_c.specs.Links.{AreAnsweredOf, AreAnsweredRest, IsAnsweredBy, questions_of}

-- a callback stays where there is one
pub asks_on : {F : Type 0} (Says : F → BrokenLink → Option (CowStr × CowStr) → F → Type 0) (xs : List Exchange) (before : F) (after : Option F) → Answered (AnswersIfAny Says) xs (Some before) after → is_some after ≡ true
asks_on Says [] before after same = ap is_some same
asks_on Says (x ∷ xs) before after run =
    asks_on Says xs run.1.run.0 after (subst (λ m. Answered (AnswersIfAny Says) xs m after) run.1.run.2 run.2)

pub asks_stay : {F : Type 0} (Says : F → BrokenLink → Option (CowStr × CowStr) → F → Type 0) (xs : List Exchange) (before after : Option F) → Answered (AnswersIfAny Says) xs before after → is_some before ≡ true → is_some after ≡ true
asks_stay Says xs None after run h = absurd (false≢true h)
asks_stay Says xs (Some before) after run h = asks_on Says xs before after run

-- a callback that is lent is there
pub lent_some : {A : Type 0} (lent : Option (Bor A)) (found : Option A) → option_copied lent ≡ found → is_some found ≡ true → IsSome lent
lent_some None found e h = absurd (false≢true (ap is_some e ∙ h))
lent_some (Some a) found e h = refl

-- the answer of the table, for the range of the question
abbrev pub IsFrom : AnswerTable → Exchange → Type 0
IsFrom table x = x.answer ≡ answer_in table x.question.start x.question.end

-- the records of these questions were kept, and their answers are the table's
pub record Kept (xs : List Exchange) (before after : Answering) : Type 0 where
  pub so_far : before.is_refused ≡ false
  pub answers : after.answers ≡ before.answers
  pub asked : after.asked.items ≡ before.asked.items ++ questions_of xs
  pub all : AllByRecursion (IsFrom before.answers) xs

pub kept : (xs : List Exchange) (before after : Answering) (last : Option Answering) → Answered (AnswersIfAny AnswersFrom) xs (Some before) last → last ≡ Some after → after.is_refused ≡ false → Kept xs before after
kept [] before after last same is ok =
    let one : after ≡ before = some-one (sym is ∙ same) in
    subst (λ a. Kept [] before a) (sym one) (record { so_far = subst (λ (a : Answering). a.is_refused ≡ false) one ok; answers = refl; asked = sym (append-nil before.asked.items); all = tt })
  where
    some-one : {A : Type 0} {x y : A} → Some x ≡ Some y → x ≡ y
    some-one e = cc
kept (x ∷ xs) before after last run is ok =
    let this = run.1 in
    let next = this.run.0 in
    let says = this.run.1 in
    let later = kept xs next after last (subst (λ m. Answered (AnswersIfAny AnswersFrom) xs m last) this.run.2 run.2) is ok in
    let keeps = says.keeps later.so_far in
    let told = ap (λ (q : Question). record_bytes (question_record q)) this.question_is in
    record {
      so_far = keeps.so_far;
      answers = later.answers ∙ says.answers;
      asked =
          later.asked
          ∙ ap (λ l. l ++ questions_of xs) (keeps.asked ∙ ap (λ l. before.asked.items ++ l) told)
          ∙ append_assoc before.asked.items (record_bytes (question_record x.question)) (questions_of xs);
      all = (
        sym this.answer_is ∙ says.is ∙ ap (λ (q : Question). answer_in before.answers q.start q.end) this.question_is,
        subst (λ t. AllByRecursion (IsFrom t) xs) says.answers later.all,
      );
    }

-- a table of replies answers as they do
pub by_replies : (table : AnswerTable) (replies : List Reply) → ((start end : ℕ) → answer_in table start end ≡ answer_at start end replies) → (xs : List Exchange) → AllByRecursion (IsFrom table) xs → AllByRecursion (IsAnsweredBy replies) xs
by_replies table replies same [] all = tt
by_replies table replies same (x ∷ xs) all = (all.0 ∙ same x.question.start x.question.end, by_replies table replies same xs all.1)

module _ {E : Type 0} (replacement : E → Lookup) where
  -- a walk from its start, whose callback answers from the table of these replies, gives the records of a reading with these answers
  pub all_answered : (parser : Parser E Answering) (iter last : OffsetIter E Answering) (text : List ℕ) (options : Options) (lookup : Lookup) (answers output : List ℕ) (first : Answering) (replies : List Reply)
      → decode_replies answers ≡ Some replies → walk_of iter ≡ parser → callback_of parser ≡ Some first → first.asked.items ≡ []
      → ((start end : ℕ) → answer_in first.answers start end ≡ answer_at start end replies)
      → Reads replacement text options lookup parser → AreAnsweredRest replacement iter last output → AreAnsweredOf text options lookup answers output
  all_answered parser iter last text options lookup answers output first replies given same is none table reads rest =
      let d = drained_ranges AnswersFrom replacement (usual_limit text) parser iter text options lookup rest.items same reads (last, rest.yields) in
      let asks = subst (λ m. Answered (AnswersIfAny AnswersFrom) d.exchanges m (callback_of (walk_of last))) (ap callback_of same ∙ is) d.asks in
      let k = kept d.exchanges first rest.callback (callback_of (walk_of last)) asks rest.last rest.kept in
      record {
        replies = replies;
        exchanges = d.exchanges;
        events = map shown_item rest.items;
        given = given;
        reading = d.reading;
        answered = by_replies first.answers replies table d.exchanges k.all;
        output_is = rest.output_is ∙ ap (λ l. flat (map shown_item rest.items) ++ l) (k.asked ∙ ap (λ l. l ++ questions_of d.exchanges) none);
      }

  -- a callback stays where there is one
  one_stays : (old : OffsetIter E Answering) (x : Result (Event × Range ℕ) AllocError) (new : OffsetIter E Answering) → GivesRanged AnswersFrom replacement old (Some x) new → is_some (callback_of (walk_of old)) ≡ true → is_some (callback_of (walk_of new)) ≡ true
  one_stays old (Ok item) new g h = asks_stay AnswersFrom g.next.taken (callback_of (walk_of old)) (callback_of (walk_of new)) g.next.first.0 h
  one_stays old (Err e) new g h = asks_stay AnswersFrom g.next.taken (callback_of (walk_of old)) (callback_of (walk_of new)) g.next.first.0 h

  pub callback_stays : (old new : OffsetIter E Answering) (items : List (Result (Event × Range ℕ) AllocError)) → Yields (GivesRanged AnswersFrom replacement) old items new → is_some (callback_of (walk_of old)) ≡ true → is_some (callback_of (walk_of new)) ≡ true
  callback_stays old new [] same h = subst (λ s. is_some (callback_of (walk_of s)) ≡ true) same h
  callback_stays old new (x ∷ items) run h = callback_stays run.0 new items run.2 (one_stays old x run.0 run.1 h)

  pub callback_ends : (old new : OffsetIter E Answering) → GivesRanged AnswersFrom replacement old None new → is_some (callback_of (walk_of old)) ≡ true → is_some (callback_of (walk_of new)) ≡ true
  callback_ends old new g h = asks_stay AnswersFrom g.next.taken (callback_of (walk_of old)) (callback_of (walk_of new)) g.next.first.0 h
