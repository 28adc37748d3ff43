-- The HTML of a parser's events is the HTML of its text.
use Rattle.std.proofs.Common.{◌≡◌, ℕ, List, [], ◌∷◌, ◌++◌, Option, None, Some, Ok, option_map, true, false, true≢false, refl, sym, ap, ◌∙◌, append_assoc, append-nil, subst}
use Rattle.std.proofs.lemmas.List.{map-append}
use Rattle.std.specs.Prelude.{is_some}
use Rattle.cmark_grammar.specs.Answers.{Lookup}
use Rattle.cmark_grammar.specs.Event.{Event, Ranged, Start}
use Rattle.cmark_grammar.specs.Headline.{IsHtmlWithin, profile_within}
use Rattle.cmark_grammar.specs.Html.{Writing, at_line_start, piece, piece_in, piece_outside, pieces_from, moved, moved_all, moved_in, moved_outside, opened_by, opened_image, last_piece}
use Rattle.cmark_grammar.specs.Options.{Options}
use Rattle.cmark_grammar.specs.Questions.{Exchange}
use Rattle.cmark_grammar.specs.Tag as tag
use Rattle.cmark_html.proofs.HtmlSteps.{moved_all-joined, pieces_from-joined}
use Rattle.cmark_html.specs.Writer.{shown_image}
use Rattle.cmark_html.specs.declared.state.OpenImage.{OpenImage}
use Rattle.cmark_inline.specs.Resolved.{Answered}
use Rattle.cmark_inline.specs.declared.callback.BrokenLink.{BrokenLink}
use Rattle.cmark_inline_model.proofs.SilentReadings.{reading-silent}
use Rattle.cmark_event_walk.specs.Callback.{AnswersIfAny}
use Rattle.cmark_event_walk.proofs.Readings.{answered-on}
use Rattle.cmark_text.specs.declared.short.Step.TheVariants as next
use Rattle.cmark_text.specs.declared.short.PlainTag.{PlainTag}
use Rattle.cmark_text.specs.declared.short.PlainTag.TheVariants as plain
use Rattle.cmark_text.specs.declared.short.Short.{Short}
use Rattle.cmark_text.specs.declared.short.Short.TheVariants as short
use Rattle.cmark_values.specs.declared.text.CowStr.{CowStr}
use Rattle.cmark_text.specs.Short.{shown_plain, shown_short}
use Rattle.cmark_text.specs.Shown.{shown}
use Rattle.cmark_text.specs.declared.ranged.Ranged.{Ranged as Item}
use Rattle.cmark_parser.specs.declared.parse.Parser.{Parser}
use Rattle.cmark_parser.specs.Parsing.{Asks, CanGo, GivesAs, GivesStep, Passes, ReadsWithin, Remains, callback_of}
use Rattle.cmark_parser.specs.Rendering.{IsHtmlBy, IsHtmlOfRest, WritesRest, WritesSome, Written, filtered_of, written}
use Rattle.cmark_parser.proofs.ParseSteps.{none-answered}

-- a filter that leaves each event as it is does not change the HTML
pub as_they_are : (limit : ℕ) (text : List ℕ) (options : Options) (lookup : Lookup) (out : List ℕ) → IsHtmlBy limit (λ event. event) text options lookup out → IsHtmlWithin limit text options lookup out
as_they_are limit text options lookup out h = record { events = h.events; reading = h.reading; output_is = h.output_is }

-- no image is open
pub none-shown : (image : Option OpenImage) → is_some image ≡ false → option_map shown_image image ≡ None
none-shown None e = refl
none-shown (Some image) e = absurd (true≢false e)

-- no element without a text of its own is an image
plain-opens-none : (tag : PlainTag) → opened_by (shown_plain tag) ≡ None
plain-opens-none plain.Paragraph = refl
plain-opens-none (plain.Heading level) = refl
plain-opens-none (plain.BlockQuote kind) = refl
plain-opens-none plain.IndentedCode = refl
plain-opens-none plain.HtmlBlock = refl
plain-opens-none (plain.List first) = refl
plain-opens-none plain.Item = refl
plain-opens-none plain.DefinitionList = refl
plain-opens-none plain.DefinitionListTitle = refl
plain-opens-none plain.DefinitionListDefinition = refl
plain-opens-none plain.TableHead = refl
plain-opens-none plain.TableRow = refl
plain-opens-none plain.TableCell = refl
plain-opens-none plain.Emphasis = refl
plain-opens-none plain.Strong = refl
plain-opens-none plain.Strikethrough = refl
plain-opens-none plain.Superscript = refl
plain-opens-none plain.Subscript = refl
plain-opens-none plain.Highlight = refl
plain-opens-none (plain.MetadataBlock kind) = refl

-- no event that owns nothing opens an image
short-opens-none : (short : Short) → opened_image (shown_short short) ≡ None
short-opens-none (short.Start tag) = plain-opens-none tag
short-opens-none _ = refl

-- no image is open after such an event
pub none-open : (w next : Writing) (short : Short) → next ≡ moved_outside w (shown_short short) → next.image ≡ None
none-open w next short is = ap Writing.image is ∙ short-opens-none short

module _ {E F : Type 0} (Says : F → BrokenLink → Option (CowStr × CowStr) → F → Type 0) (replacement : E → Lookup) where
  -- some questions, and then some more
  pub asks-on : (old mid new : Parser E F) (xs ys : List Exchange) → Asks Says old xs mid → Asks Says mid ys new → Asks Says old (xs ++ ys) new
  asks-on old mid new xs ys h k = answered-on (AnswersIfAny Says) xs ys (callback_of old) (callback_of mid) (callback_of new) h k

  pub passes-on : (first parser new : Parser E F) (given more : List Ranged) → Passes Says replacement given first parser → Passes Says replacement more parser new → Passes Says replacement (given ++ more) first new
  passes-on first parser new given more p q = record {
    taken = p.taken ++ q.taken;
    asks = asks-on first parser new p.taken q.taken p.asks q.asks;
    back = λ rest events r.
        subst (λ xs. Remains replacement first xs ((given ++ more) ++ events)) (sym (append_assoc p.taken q.taken rest))
        (subst (Remains replacement first (p.taken ++ (q.taken ++ rest))) (sym (append_assoc given more events)) (p.back (q.taken ++ rest) (more ++ events) (q.back rest events r)));
  }

module _ {E F : Type 0} (Says : F → BrokenLink → Option (CowStr × CowStr) → F → Type 0) (replacement : E → Lookup) (filtered : Event → Event) where
  -- nothing was returned yet
  pub none-written : (parser : Parser E F) (s : Written) → CanGo replacement parser → WritesSome Says replacement filtered parser s parser s
  none-written parser s can = record { given = []; passes = record { taken = []; asks = refl; back = λ rest events r. r }; bytes = sym (append-nil s.bytes); writing = refl; can = can }

  -- some events, and then some more
  pub joined : (first parser new : Parser E F) (a b c : Written) → WritesSome Says replacement filtered first a parser b → WritesSome Says replacement filtered parser b new c → WritesSome Says replacement filtered first a new c
  joined first parser new a b c p q =
      let both : filtered_of filtered (p.given ++ q.given) ≡ filtered_of filtered p.given ++ filtered_of filtered q.given = map-append (λ ranged. filtered (Ranged.event ranged)) p.given q.given in
      record {
        given = p.given ++ q.given;
        passes = passes-on Says replacement first parser new p.given q.given p.passes q.passes;
        bytes =
            q.bytes
            ∙ ap (λ l. l ++ pieces_from b.writing (filtered_of filtered q.given)) p.bytes
            ∙ append_assoc a.bytes (pieces_from a.writing (filtered_of filtered p.given)) (pieces_from b.writing (filtered_of filtered q.given))
            ∙ ap (λ w. a.bytes ++ (pieces_from a.writing (filtered_of filtered p.given) ++ pieces_from w (filtered_of filtered q.given))) p.writing
            ∙ ap (λ l. a.bytes ++ l) (sym (pieces_from-joined a.writing (filtered_of filtered p.given) (filtered_of filtered q.given)))
            ∙ ap (λ es. a.bytes ++ pieces_from a.writing es) (sym both);
        writing =
            q.writing
            ∙ ap (λ w. moved_all w (filtered_of filtered q.given)) p.writing
            ∙ sym (moved_all-joined a.writing (filtered_of filtered p.given) (filtered_of filtered q.given))
            ∙ ap (moved_all a.writing) (sym both);
        can = q.can;
      }

  one-written : (parser new : Parser E F) (r : Ranged) (mid after : Written) → Passes Says replacement (r ∷ []) parser new → CanGo replacement new
      → after.bytes ≡ mid.bytes ++ piece mid.writing (filtered r.event) → after.writing ≡ moved mid.writing (filtered r.event) → WritesSome Says replacement filtered parser mid new after
  one-written parser new r mid after p can bytes writing = record {
    given = r ∷ [];
    passes = p;
    bytes = bytes ∙ ap (λ l. mid.bytes ++ l) (sym (append-nil (piece mid.writing (filtered r.event))));
    writing = writing;
    can = can;
  }

  -- one event
  pub more-written : (parser new : Parser E F) (item : Item) (mid after : Written) → GivesStep Says replacement parser (Some (Ok item)) new
      → after.bytes ≡ mid.bytes ++ piece mid.writing (filtered (shown item.event)) → after.writing ≡ moved mid.writing (filtered (shown item.event)) → WritesSome Says replacement filtered parser mid new after
  more-written parser new item mid after gives bytes writing =
      let f = gives.next.first in
      let same : shown item.event ≡ f.1.0.event = ap Ranged.event f.1.1.is in
      one-written parser new f.1.0 mid after (record { taken = gives.next.taken; asks = f.0; back = f.1.2 }) (record { goes = gives.next.goes_on; counted = gives.counted }) (bytes ∙ ap (λ e. mid.bytes ++ piece mid.writing (filtered e)) same) (writing ∙ ap (λ e. moved mid.writing (filtered e)) same)

  -- an event that owns nothing was replaced by another, and written while no image is open
  pub short-written : (parser new : Parser E F) (short made : Short) (start end : ℕ) (mid after : Written) → GivesAs Says replacement parser (next.Short short start end) new → shown_short made ≡ filtered (shown_short short) → mid.writing.image ≡ None
      → after.bytes ≡ mid.bytes ++ piece_outside mid.writing (shown_short made) → after.writing ≡ moved_outside mid.writing (shown_short made) → WritesSome Says replacement filtered parser mid new after
  short-written parser new short made start end mid after h made_is outside bytes writing =
      let w = mid.writing in
      let same : shown_short made ≡ filtered h.answers.given.event = made_is ∙ ap (λ r. filtered (Ranged.event r)) (sym h.answers.is) in
      one-written parser new h.answers.given mid after h.answers.passes h.can
      (bytes ∙ ap (λ i. mid.bytes ++ piece_in i w (shown_short made)) (sym outside) ∙ ap (λ e. mid.bytes ++ piece w e) same)
      (writing ∙ ap (λ i. moved_in i w (shown_short made)) (sym outside) ∙ ap (moved w) same)

  -- an event of another kind was not returned yet
  pub long-kept : (parser new : Parser E F) (s : Written) → GivesAs Says replacement parser next.Long new → WritesSome Says replacement filtered parser s new s
  long-kept parser new s h = record { given = []; passes = h.answers.passes; bytes = sym (append-nil s.bytes); writing = refl; can = h.can }

  -- after the last event
  pub all-written : (first parser new : Parser E F) (taken : List Exchange) (old : Written) (out : List ℕ) (s : Written) → WritesSome Says replacement filtered first old parser s → Asks Says parser taken new → Remains replacement parser taken []
      → out ≡ s.bytes ++ last_piece s.writing.image → WritesRest Says replacement filtered first old new (written s.writing out)
  all-written first parser new taken old out s some asks none out_is = record {
    exchanges = some.passes.taken ++ taken;
    events = some.given;
    left = subst (Remains replacement first (some.passes.taken ++ taken)) (append-nil some.given) (some.passes.back taken [] none);
    asks = asks-on Says replacement first parser new some.passes.taken taken some.passes.asks asks;
    bytes = out_is ∙ ap (λ l. l ++ last_piece s.writing.image) some.bytes ∙ append_assoc old.bytes (pieces_from old.writing (filtered_of filtered some.given)) (last_piece s.writing.image);
    writing = some.writing;
  }

  -- a writer that has written nothing yet
  pub html-of-rest : (first new : Parser E F) (begun : Writing) (old : List ℕ) (after : Written) → begun ≡ at_line_start → WritesRest Says replacement filtered first (written begun old) new after
      → IsHtmlOfRest Says replacement filtered first new old after.bytes
  html-of-rest first new begun old after begins h = record {
    exchanges = h.exchanges;
    events = h.events;
    left = h.left;
    asks = h.asks;
    bytes =
        h.bytes
        ∙ ap (λ w. old ++ (pieces_from begun (filtered_of filtered h.events) ++ last_piece (Writing.image w))) h.writing
        ∙ ap (λ w. old ++ (pieces_from w (filtered_of filtered h.events) ++ last_piece (Writing.image (moved_all w (filtered_of filtered h.events))))) begins;
  }

  -- the HTML of all events of a parser at its start, alone and without a callback, is the HTML of the parser's text
  pub rendered : (limit : ℕ) (parser last : Parser E F) (text : List ℕ) (options : Options) (lookup : Lookup) (out : List ℕ) → ReadsWithin replacement limit text options lookup parser → callback_of parser ≡ None
      → IsHtmlOfRest Says replacement filtered parser last [] out → IsHtmlBy limit filtered text options lookup out
  rendered limit parser last text options lookup out reads silent all =
      let unanswered = none-answered Says all.exchanges (callback_of last) (subst (λ (o : Option F). Answered (AnswersIfAny Says) all.exchanges o (callback_of last)) silent all.asks) in
      record {
        events = all.events;
        reading = reading-silent text (profile_within limit options lookup true) all.exchanges all.events unanswered (reads.reads all.exchanges all.events all.left);
        output_is = all.bytes;
      }
