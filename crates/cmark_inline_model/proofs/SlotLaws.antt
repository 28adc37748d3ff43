-- The slots that the marks of a list of siblings' spans make, and the events that are read from slots.
use Rattle.std.proofs.Common.{◌≡◌, ℕ, zero, suc, ◌+◌, ◌-◌, List, [], ◌∷◌, ◌++◌, length, set, get_or, refl, sym, ap, ◌∙◌, subst, arith, append_assoc, append-nil, length-append, Option, Some, None}
use Rattle.std.proofs.lemmas.List.{length-set}
use Rattle.cmark_grammar.specs.Emphasis.{Pair, IsEmphasis, places_taken}
use Rattle.cmark_inline_model.specs.EmphasisModel.{spans_of}
use Rattle.cmark_grammar.specs.Event.{Start, End, Ranged}
use Rattle.cmark_grammar.specs.InlineReading.{event_of, over, inline_events}
use Rattle.cmark_grammar.specs.Options.{Options}
use Rattle.cmark_grammar.specs.Quotes.{quote_characters}
use Rattle.cmark_grammar.specs.Siblings.{Inline, Nil, Single, Around, quotes_of, with_quotes}
use Rattle.cmark_inline_model.specs.RunSpans.{runs_from, run_bytes, gaps_of, dressed, dressed_all, IsDressedByRuns}
use Rattle.cmark_grammar.specs.Spans.{SpanKind, Spans, TakePlaces, span_tag, span_width}
use Rattle.cmark_grammar.specs.Tag.{Tag}
use Rattle.cmark_grammar.specs.TagEnd.{end_of}
use Rattle.cmark_inline_model.specs.SlotRows.{Slot, ItemSlot, BeginSlot, EndSlot, NothingSlot, seen, slots_of, LaysOut}
use Rattle.cmark_inline_model.specs.SlotRows.{Mark, Stays, Begins, Ends, Blank, opening, closing, marks_of, marks_by, AreTight, quoted, used_up, spanned, marked, StandAfter, slot_events}
use Rattle.cmark_inline_model.proofs.SpanPlaces.{places}
use Rattle.cmark_inline_model.proofs.EmphasisOne.{one}
use Rattle.cmark_inline_model.proofs.SpanEntries.{pairs-marked}
use Rattle.cmark_inline_model.proofs.SlotCells.{seen-append, seen-both, gap_at, AreCells, cells-of, bytes-taken, runs-stand}
use Rattle.cmark_inline_model.proofs.SlotMarks.{Cell, flatten, places_from, MarksMake}
use Rattle.cmark_inline_model.proofs.SlotQuotes.{quotes-written}
use Rattle.cmark_inline_model.proofs.SlotSpans.{cells_from, all-cells, Dressed, all-dressed}
use Rattle.cmark_inline_model.proofs.TightSpans.{tight}

-- ## As many slots as there were

length-used : (count at : ℕ) (slots : List Slot) → length (used_up at count slots) ≡ length slots
length-used zero at slots = refl
length-used (suc count) at slots = length-used count (suc at) (set slots at NothingSlot) ∙ length-set slots at NothingSlot

length-spanned : (t : Option Tag) (first last : ℕ) (slots : List Slot) → length (spanned t first last slots) ≡ length slots
length-spanned (Some t) first last slots = length-set (set slots last EndSlot) first _ ∙ length-set slots last EndSlot
length-spanned None first last slots = length-set (used_up (suc first) (last - first) slots) first _ ∙ length-used (last - first) (suc first) slots

length-marked : (options : Options) (places : List ℕ) (marks : List Mark) (slots : List Slot) (begun : List ℕ) → length (marked options places marks slots begun) ≡ length slots
length-marked options [] marks slots begun = refl
length-marked options (at ∷ places) [] slots begun = refl
length-marked options (at ∷ places) (Stays ∷ marks) slots begun = length-marked options places marks slots begun
length-marked options (at ∷ places) (Begins kind ∷ marks) slots begun = length-marked options places marks slots (at ∷ begun)
length-marked options (at ∷ places) (Ends kind ∷ marks) slots [] = length-marked options places marks slots []
length-marked options (at ∷ places) (Ends kind ∷ marks) slots (first ∷ begun) =
    length-marked options places marks (spanned (span_tag options kind) first at slots) begun ∙ length-spanned (span_tag options kind) first at slots
length-marked options (at ∷ places) (Blank ∷ marks) slots begun = length-marked options places marks (set slots at NothingSlot) begun ∙ length-set slots at NothingSlot

-- ## The marks make the spans

-- the cells of a list of siblings with the marks of its spans
cells-marked : (options : Options) (siblings : Inline) (before slots : List Slot) (places : List ℕ) → (c : AreCells (length before) (gaps_of siblings) (run_bytes siblings) slots places)
    → Dressed options (gaps_of siblings) (run_bytes siblings) c.cells c.byte_is c.gap_is 0 (spans_of (runs_from siblings 0)) (length c.cells)
    → StandAfter before slots (dressed_all options siblings (spans_of (runs_from siblings 0))) (marked options places (marks_of (spans_of (runs_from siblings 0))) (before ++ slots) [])
cells-marked options siblings before slots places c d = record { own = c.front ++ d.out; cut = cut; as_many = as_many; stand_for = stand_for }
  where
    many : d.count ≡ length c.cells
    many = let p = d.places in omega (arith, p)

    made : MarksMake options (marks_of (spans_of (runs_from siblings 0))) c.cells d.out
    made = grind (arith, all-cells, cells_from, many)

    cut : marked options places (marks_of (spans_of (runs_from siblings 0))) (before ++ slots) [] ≡ before ++ (c.front ++ d.out)
    cut =
        let marks = marks_of (spans_of (runs_from siblings 0)) in
        let a = before ++ c.front in
        let all : before ++ slots ≡ a ++ (flatten c.cells ++ []) =
        ap (λ l. before ++ l) c.cut ∙ sym (append_assoc before c.front (flatten c.cells)) ∙ ap (λ l. (before ++ c.front) ++ l) (sym (append-nil (flatten c.cells))) in
        let here : places ≡ places_from (length a) (c.cells ++ []) =
        c.places_are ∙ ap (λ n. places_from n c.cells) (sym (length-append before c.front)) ∙ ap (places_from (length a)) (sym (append-nil c.cells)) in
        ap (λ l. marked options l marks (before ++ slots) []) here
        ∙ ap (λ l. marked options (places_from (length a) (c.cells ++ [])) l (before ++ slots) []) (sym (append-nil marks))
        ∙ ap (λ l. marked options (places_from (length a) (c.cells ++ [])) (marks ++ []) l []) all
        ∙ made [] [] a [] []
        ∙ ap (λ l. (before ++ c.front) ++ l) (append-nil d.out)
        ∙ append_assoc before c.front d.out

    as_many : length (c.front ++ d.out) ≡ length slots
    as_many =
        let l = length-marked options places (marks_of (spans_of (runs_from siblings 0))) (before ++ slots) [] in
        let m = ap length cut in
        let x = length-append before slots in
        let y = length-append before (c.front ++ d.out) in
        omega (arith, l, m, x, y)

    stand_for : seen (c.front ++ d.out) ≡ slots_of (dressed_all options siblings (spans_of (runs_from siblings 0)))
    stand_for = seen-both (gap_at (gaps_of siblings) 0) (dressed options (gaps_of siblings) (run_bytes siblings) (spans_of (runs_from siblings 0))) c.front d.out c.front_is d.seen_is

spans-make : (options : Options) (siblings : Inline) (before slots : List Slot) (bytes quotes : List ℕ) → LaysOut (length before) siblings slots bytes quotes
    → StandAfter before slots (dressed_all options siblings (spans_of (runs_from siblings 0))) (marked options bytes (marks_of (spans_of (runs_from siblings 0))) (before ++ slots) [])
spans-make options siblings before slots bytes quotes h =
    let c = cells-of siblings (length before) slots bytes quotes h in
    let sp = spans_of (runs_from siblings 0) in
    let take : TakePlaces 0 sp (length c.cells) = subst (TakePlaces 0 sp) (bytes-taken siblings 0 ∙ sym c.as_many) (places (runs_from siblings 0) (runs-stand siblings 0)) in
    cells-marked options siblings before slots bytes c (all-dressed options (gaps_of siblings) (run_bytes siblings) c.cells c.byte_is c.gap_is sp 0 (length c.cells) (tight siblings) take)

-- ## The pairs write the marks

opening-wide : (k : SpanKind) → length (opening k) ≡ span_width k
opening-wide k = grind arith

closing-wide : (k : SpanKind) → length (closing k) ≡ span_width k
closing-wide k = grind arith

length-places : (at : ℕ) (cells : List Cell) → length (places_from at cells) ≡ length cells
length-places at [] = refl
length-places at (c ∷ cells) = ap suc (length-places (at + length (ItemSlot c.byte ∷ c.gap)) cells)

places-taken : (siblings : Inline) (at : ℕ) (slots : List Slot) (bytes quotes : List ℕ) → LaysOut at siblings slots bytes quotes → length bytes ≡ places_taken (runs_from siblings 0)
places-taken siblings at slots bytes quotes h = grind (arith, cells-of, length-places, bytes-taken)

pub pairs-write : (siblings : Inline) (pairs : List Pair) (spans : Spans) → IsEmphasis (runs_from siblings 0) pairs spans
    → (at : ℕ) (slots : List Slot) (bytes quotes : List ℕ) → LaysOut at siblings slots bytes quotes → marks_by (length bytes) pairs ≡ marks_of spans
pairs-write siblings pairs spans e at slots bytes quotes h =
    let o = one (runs_from siblings 0) pairs spans e in
    ap (λ n. marks_by n pairs) (places-taken siblings at slots bytes quotes h)
    ∙ ap (marks_by (places_taken (runs_from siblings 0))) o.0
    ∙ pairs-marked Mark Stays opening closing opening-wide closing-wide (runs_from siblings 0) (runs-stand siblings 0)
    ∙ ap marks_of (sym o.1)

pub marks-make : (options : Options) (siblings : Inline) (pairs : List Pair) (spans : Spans) → IsEmphasis (runs_from siblings 0) pairs spans
    → (before slots : List Slot) (bytes quotes : List ℕ) → LaysOut (length before) siblings slots bytes quotes
    → StandAfter before slots (dressed_all options siblings spans) (marked options bytes (marks_of spans) (before ++ slots) [])
marks-make options siblings pairs spans e before slots bytes quotes h =
    subst (λ sp. StandAfter before slots (dressed_all options siblings sp) (marked options bytes (marks_of sp) (before ++ slots) [])) (sym (one (runs_from siblings 0) pairs spans e).1)
    (spans-make options siblings before slots bytes quotes h)

pub spans-tight : (siblings : Inline) (pairs : List Pair) (spans : Spans) → IsEmphasis (runs_from siblings 0) pairs spans → AreTight (λ i. get_or (gaps_of siblings) i Nil ≡ Nil) spans
spans-tight siblings pairs spans e = subst (AreTight (λ i. get_or (gaps_of siblings) i Nil ≡ Nil)) (sym (one (runs_from siblings 0) pairs spans e).1) (tight siblings)

-- ## Entries of another kind, as code writes them

-- ## The events of slots

module _ (source : List ℕ) where
  seen-events : (slots : List Slot) (opened : List Ranged) → slot_events source slots opened ≡ slot_events source (seen slots) opened
  seen-events [] opened = refl
  seen-events (ItemSlot x ∷ slots) opened = ap (λ l. over source x.start x.end (event_of source x x.kind) ∷ l) (seen-events slots opened)
  seen-events (BeginSlot tag start end ∷ slots) opened =
      ap (λ l. over source start end (Start tag) ∷ l) (seen-events slots (over source start end (End (end_of tag)) ∷ opened))
  seen-events (EndSlot ∷ slots) [] = seen-events slots []
  seen-events (EndSlot ∷ slots) (last ∷ opened) = ap (λ l. last ∷ l) (seen-events slots opened)
  seen-events (NothingSlot ∷ slots) opened = seen-events slots opened

  events-on : (x : Inline) (rest : List Slot) (opened : List Ranged) → slot_events source (slots_of x ++ rest) opened ≡ inline_events source x ++ slot_events source rest opened
  events-on Nil rest opened = refl
  events-on (Single x after) rest opened = ap (λ l. over source x.start x.end (event_of source x x.kind) ∷ l) (events-on after rest opened)
  events-on (Around tag start end inside after) rest opened =
      let first = over source start end (Start tag) in
      let last = over source start end (End (end_of tag)) in
      ap (λ l. first ∷ slot_events source l (last ∷ opened)) (append_assoc (slots_of inside) (EndSlot ∷ slots_of after) rest)
      ∙ ap (λ l. first ∷ l) (events-on inside (EndSlot ∷ (slots_of after ++ rest)) (last ∷ opened))
      ∙ ap (λ l. first ∷ (inline_events source inside ++ (last ∷ l))) (events-on after rest opened)
      ∙ ap (λ l. first ∷ l) (sym (append_assoc (inline_events source inside) (last ∷ inline_events source after) (slot_events source rest opened)))

  -- the slots of spans, before others, give the events of the spans before those of the others
  pub slots-give : (spans : Inline) (slots rest : List Slot) (opened : List Ranged) → seen slots ≡ slots_of spans → slot_events source (slots ++ rest) opened ≡ inline_events source spans ++ slot_events source rest opened
  slots-give spans slots rest opened h = cc (seen-events (slots ++ rest) opened, seen-append slots rest, events-on spans (seen rest) opened, seen-events rest opened)

  pub dressed-events : (options : Options) (siblings result : Inline) (d : IsDressedByRuns options siblings result) (slots : List Slot) (bytes quotes : List ℕ) → LaysOut 0 siblings slots bytes quotes
      → slot_events source (marked options bytes (marks_by (length bytes) d.pairs) (quoted quotes (quote_characters [] (quotes_of siblings)) slots) []) [] ≡ inline_events source result
  dressed-events options siblings result d slots bytes quotes h =
      let q = quotes-written siblings [] slots bytes quotes (quote_characters [] (quotes_of siblings)) h in
      let m = marks-make options (with_quotes siblings) d.pairs d.spans_are d.emphasis [] q.now bytes [] q.laid in
      let is : seen m.own ≡ slots_of result = m.stand_for ∙ ap slots_of (sym d.result_is) in
      ap (λ l. slot_events source (marked options bytes (marks_by (length bytes) d.pairs) l []) []) q.cut
      ∙ ap (λ l. slot_events source (marked options bytes l q.now []) []) (pairs-write (with_quotes siblings) d.pairs d.spans_are d.emphasis 0 q.now bytes [] q.laid)
      ∙ ap (λ l. slot_events source l []) (m.cut ∙ sym (append-nil m.own))
      ∙ slots-give result m.own [] [] is
      ∙ append-nil (inline_events source result)
