-- The pairs of placed runs, and the slots into which their spans are written.
use Rattle.std.proofs.Common.{◌≡◌, inl, inr, ⊎_elim, ℕ, zero, suc, ◌+◌, ◌-◌, ◌<◌, ◌≤◌, List, [], ◌∷◌, ◌++◌, length, drop, get_or, refl, sym, ap, subst, ◌∙◌, append-nil, arith}
use Rattle.std.specs.Prelude.{◌^◌, All, map}
use Rattle.std.proofs.lemmas.List.Elements.{All-cons}
use Rattle.std.proofs.lemmas.Bool.{cases_eq}
use Rattle.std.proofs.lemmas.List.{get_or-drop}
use Rattle.cmark_emphasis.specs.Least.{least_examined}
use Rattle.cmark_emphasis.specs.Shown.{Fits, shown_pair, shown_placed}
use Rattle.cmark_emphasis.specs.declared.run.Pair as code_pair
use Rattle.cmark_emphasis.specs.Stack.{run_pairs}
use Rattle.cmark_emphasis.specs.declared.run.PlacedRun.{PlacedRun}
use Rattle.cmark_emphasis.proofs.Bridge.{run_pairs-are}
use Rattle.cmark_emphasis.proofs.FewRuns.{one_run}
use Rattle.cmark_emphasis.proofs.LeastSteps.{one-least}
use Rattle.cmark_emphasis.proofs.Moved as runs
use Rattle.cmark_emphasis.proofs.Moved.{AreMoved, AreMovedPairs}
use Rattle.cmark_emphasis.proofs.MovedLeast.{AreLikeRuns, least-like}
use Rattle.cmark_grammar.specs.Emphasis.{Pair, Run, Sibling, Delimiter, IsEmphasis, runs_of}
use Rattle.cmark_grammar.specs.Options.{Options}
use Rattle.cmark_grammar.specs.Spans.{Span, Spans, TakePlaces, span_width}
use Rattle.cmark_inline_model.proofs.EmphasisOne.{one}
use Rattle.cmark_inline_model.proofs.EmphasisSound.{sound as emphasis}
use Rattle.cmark_inline_model.proofs.SpanPlaces.{places as taken}
use Rattle.cmark_inline_model.specs.EmphasisModel.{pairs_of, spans_of}
use Rattle.cmark_inline_model.specs.SlotRows as row
use Rattle.cmark_inline_model.specs.SlotRows.{marked, marks_by, marks_of, run_places}
use Rattle.cmark_leaf_text.specs.declared.leaf_text.LeafText.{LeafText}
use Rattle.cmark_references.specs.declared.link.Link.{Link}
use Rattle.cmark_values.specs.declared.text.CowStr.{CowStr}
use Rattle.cmark_slots.specs.MarkedSlots.{AreAhead, AreWhole, HaveBytes, SameBefore, places_of, siblings_from}
use Rattle.cmark_slots.specs.PairSlots.{AreApartFrom, AreInTurn, AreOpen, AreResolved, BeginFrom, CanWrite, HasTexts, HaveTextsOf, IsApart, KeepsSlots, spans_of_pair, spans_of_pairs, write_spans}
use Rattle.cmark_slots.specs.SlotViews.{shown_slots}
use Rattle.cmark_slots.specs.declared.slot.Slot.{Slot}
use Rattle.cmark_slots.specs.declared.slot.SlotKind.TheVariants as kind
use Rattle.cmark_slots.proofs.PairSpans.{AreTightAll, IsTight, moved_span, pairs-moved, pairs-open, spans-are, spans_in, wide-enough}
use Rattle.cmark_slots.proofs.RunPlaces.{all-ahead, length-places, marks-are, stand-so}
use Rattle.cmark_slots.proofs.Placing.{bytes-in}
use Rattle.cmark_slots.proofs.SpanSlots.{keeps-same}
use Rattle.cmark_slots.proofs.SpanMarks.{Ascends, Within, in-turn, in-within, marks-say}

-- ## Runs in their slots

run-at : (size s j : ℕ) (following : List ℕ) → j < size → get_or (run_places s size following) j 0 ≡ s + j
run-at zero s j following lt = absurd (omega (arith, lt))
run-at (suc size) s zero following lt = let q : s ≡ s + 0 = omega arith in q
run-at (suc size) s (suc j) following lt = run-at size (suc s) j following (omega (arith, lt)) ∙ (let q : suc s + j ≡ s + suc j = omega arith in q)

run-over : (size s : ℕ) (following : List ℕ) → drop size (run_places s size following) ≡ following
run-over zero s following = refl
run-over (suc size) s following = run-over size (suc s) following

drop-more : (a b : ℕ) (xs : List ℕ) → drop (a + b) xs ≡ drop b (drop a xs)
drop-more zero b xs = ap (λ n. drop n xs) (let q : 0 + b ≡ b = omega arith in q)
drop-more (suc a) b [] = none (suc a + b) ∙ sym (none b)
  where
    none : (n : ℕ) → ◌≡◌ {A = List ℕ} (drop n []) []
    none zero = refl
    none (suc n) = refl
drop-more (suc a) b (x ∷ xs) = ap (λ n. drop n (x ∷ xs)) (let q : suc a + b ≡ suc (a + b) = omega arith in q) ∙ drop-more a b xs

-- the runs at their slots are the runs that are counted from 0, moved
runs-moved : (all : List ℕ) (at : ℕ) (placed : List PlacedRun) → drop at all ≡ places_of placed → AreMoved (λ k. get_or all k 0) (runs_of (siblings_from at placed)) (map shown_placed placed)
runs-moved all at [] e = tt
runs-moved all at (p ∷ placed) e = (
  (p.slot, refl, λ j lt. sym (get_or-drop at all j 0) ∙ ap (λ l. get_or l j 0) e ∙ run-at p.run_length p.slot j (places_of placed) lt),
  runs-moved all (at + p.run_length) placed (drop-more at p.run_length all ∙ ap (drop p.run_length) e ∙ run-over p.run_length p.slot (places_of placed)),
)

runs-like : (at : ℕ) (placed : List PlacedRun) → AreLikeRuns (runs_of (siblings_from at placed)) (map shown_placed placed)
runs-like at [] = tt
runs-like at (p ∷ placed) = ((p.slot, refl), runs-like (at + p.run_length) placed)

-- a search examines as many runs as if they were counted from 0
pub least-same : (placed : List PlacedRun) → least_examined (map shown_placed placed) ≡ least_examined (runs_of (siblings_from 0 placed))
least-same placed = least-like (runs_of (siblings_from 0 placed)) (map shown_placed placed) (runs-like 0 placed)

-- runs as siblings
abbrev pub delimiters : List Run → List Sibling
delimiters [] = []
delimiters (r ∷ rs) = Delimiter r ∷ delimiters rs

pub delimiters-are : (rs : List Run) → runs_of (delimiters rs) ≡ rs
delimiters-are [] = refl
delimiters-are (r ∷ rs) = ap (λ l. r ∷ l) (delimiters-are rs)

-- ## The slots of their bytes

text-at : (slots : List Slot) (from end : ℕ) (all : List ℕ) → AreAhead slots from end all → (i : ℕ) → i < length all
    → (from ≤ get_or all i 0) × (get_or all i 0 < length slots) × ((d : Slot) → (get_or slots (get_or all i 0) d).kind ≡ kind.Text) × ((d : Slot) → end ≤ (get_or slots (get_or all i 0) d).end)
text-at slots from end [] h i lt = absurd (omega (arith, lt))
text-at slots from end (at ∷ all) h zero lt = let ends = h.4 in let le = h.5 in (h.1, h.2, h.3, λ d. let e = ends d in let q : end ≤ (get_or slots at d).end = omega (arith, e, le) in q)
text-at slots from end (at ∷ all) h (suc i) lt =
    let t = text-at slots (suc at) h.0 all h.6 i (omega (arith, lt)) in
    let f = h.1 in
    let l = t.0 in
    let le = h.5 in
    let ends = t.3 in
    ((let q : from ≤ get_or all i 0 = omega (arith, f, l) in q), t.1, t.2, λ d. let e = ends d in let q : end ≤ (get_or slots (get_or all i 0) d).end = omega (arith, e, le) in q)

in-order : (slots : List Slot) (from end : ℕ) (all : List ℕ) → AreAhead slots from end all → (i j : ℕ) → i < j → j < length all
    → (get_or all i 0 < get_or all j 0) × ((d : Slot) → (get_or slots (get_or all i 0) d).end ≤ (get_or slots (get_or all j 0) d).end)
in-order slots from end [] h i j lt within = absurd (omega (arith, within))
in-order slots from end (at ∷ all) h i zero lt within = absurd (omega (arith, lt))
in-order slots from end (at ∷ all) h zero (suc j) lt within =
    let t = text-at slots (suc at) h.0 all h.6 j (omega (arith, within)) in
    let l = t.0 in
    let mine = h.4 in
    let ends = t.3 in
    ((let q : at < get_or all j 0 = omega (arith, l) in q), λ d. let a = mine d in let b = ends d in let q : (get_or slots at d).end ≤ (get_or slots (get_or all j 0) d).end = omega (arith, a, b) in q)
in-order slots from end (at ∷ all) h (suc i) (suc j) lt within = in-order slots (suc at) h.0 all h.6 i j (omega (arith, lt)) (omega (arith, within))

-- ## Spans in these slots

module _ (slots : List Slot) (from end : ℕ) (all : List ℕ) (h : AreAhead slots from end all) where
  abbrev at : ℕ → ℕ
  at k = get_or all k 0

  abbrev moved : Span → Span
  moved span = moved_span (λ k. get_or all k 0) span

  up : Ascends all
  up i j lt within = (in-order slots from end all h i j lt within).0

  text : (i : ℕ) → i < length all → (d : Slot) → (get_or slots (at i) d).kind ≡ kind.Text
  text i lt = (text-at slots from end all h i lt).2

  wide-moved : (s : Span) → s.start + (span_width s.kind + span_width s.kind) ≤ s.end → s.end ≤ length all → IsTight (λ k. get_or all k 0) s → at s.start + (span_width s.kind + span_width s.kind) ≤ at (s.end - 1) + 1
  wide-moved s wide le tight =
      let w = wide-enough s.kind in
      let least = w.0 in
      let most = w.1 in
      ⊎_elim
      (λ (two : span_width s.kind ≡ 2).
      let t = tight two in
      let t0 = t.0 in
      let t1 = t.1 in
      let less = up (suc s.start) (s.end - 2) (omega (arith, wide, two)) (omega (arith, wide, two, le)) in
      omega (arith, t0, t1, less, two))
      (λ (other : span_width s.kind ≡ 2 → ⊥).
      let less = up s.start (s.end - 1) (omega (arith, wide, least)) (omega (arith, wide, least, le)) in
      omega (arith, less, least, most, other))
      (cases_eq (span_width s.kind) 2)

  texts-moved : (s : Span) → s.start + (span_width s.kind + span_width s.kind) ≤ s.end → s.end ≤ length all → IsTight (λ k. get_or all k 0) s → HasTexts slots (moved s)
  texts-moved s wide le tight =
      let w = wide-enough s.kind in
      let least = w.0 in
      let most = w.1 in
      let last = text-at slots from end all h (s.end - 1) (omega (arith, wide, le, least)) in
      let there = last.1 in
      record {
        wide = wide-moved s wide le tight;
        within = (let q : at (s.end - 1) + 1 ≤ length slots = omega (arith, there) in q);
        opening = opens;
        closing = closes;
        order = λ d.
            let ends = (in-order slots from end all h s.start (s.end - 1) (omega (arith, wide, least)) (omega (arith, wide, le, least))).1 in
            subst (λ k. (get_or slots (at s.start) d).end ≤ (get_or slots k d).end) (let q : at (s.end - 1) ≡ at (s.end - 1) + 1 - 1 = omega arith in q) (ends d);
      }
    where
      opens : (j : ℕ) (d : Slot) → j < span_width s.kind → (get_or slots (at s.start + j) d).kind ≡ kind.Text
      opens zero d lt =
          ap (λ k. (get_or slots k d).kind) (let q : at s.start + 0 ≡ at s.start = omega arith in q) ∙ text s.start (omega (arith, wide, le, lt)) d
      opens (suc zero) d lt =
          let most = (wide-enough s.kind).1 in
          let t = (tight (omega (arith, lt, most))).0 in
          ap (λ k. (get_or slots k d).kind) (let q : at s.start + 1 ≡ at (suc s.start) = omega (arith, t) in q) ∙ text (suc s.start) (omega (arith, wide, le, lt)) d
      opens (suc (suc j)) d lt = let most = (wide-enough s.kind).1 in absurd (omega (arith, lt, most))

      closes : (j : ℕ) (d : Slot) → j < span_width s.kind → (get_or slots (at (s.end - 1) + 1 - suc j) d).kind ≡ kind.Text
      closes zero d lt =
          ap (λ k. (get_or slots k d).kind) (let q : at (s.end - 1) + 1 - 1 ≡ at (s.end - 1) = omega arith in q) ∙ text (s.end - 1) (omega (arith, wide, le, lt)) d
      closes (suc zero) d lt =
          let most = (wide-enough s.kind).1 in
          let t = (tight (omega (arith, lt, most))).1 in
          ap (λ k. (get_or slots k d).kind) (let q : at (s.end - 1) + 1 - 2 ≡ at (s.end - 2) = omega (arith, t) in q) ∙ text (s.end - 2) (omega (arith, wide, le, lt)) d
      closes (suc (suc j)) d lt = let most = (wide-enough s.kind).1 in absurd (omega (arith, lt, most))

  apart-moved : (s o : Span) → s.start + (span_width s.kind + span_width s.kind) ≤ s.end → s.end ≤ length all → o.start + (span_width o.kind + span_width o.kind) ≤ o.end → o.end ≤ length all → IsTight (λ k. get_or all k 0) o → IsApart s o → IsApart (moved s) (moved o)
  apart-moved s o ws ls wo lo tight (inr following) =
      let least = (wide-enough s.kind).0 in
      let least1 = (wide-enough o.kind).0 in
      let less = up (s.end - 1) o.start (omega (arith, following, ws, least)) (omega (arith, wo, lo, least1)) in
      inr (let q : at (s.end - 1) + 1 ≤ at o.start = omega (arith, less) in q)
  apart-moved s o ws ls wo lo tight (inl (before, following)) =
      let least = (wide-enough s.kind).0 in
      let w = wide-enough o.kind in
      let least1 = w.0 in
      let most1 = w.1 in
      ⊎_elim
      (λ (two : span_width o.kind ≡ 2).
      let t = tight two in
      let t0 = t.0 in
      let t1 = t.1 in
      let one = up (suc o.start) s.start (omega (arith, before, two)) (omega (arith, ws, ls, least)) in
      let other = up (s.end - 1) (o.end - 2) (omega (arith, following, ws, least, two)) (omega (arith, wo, lo, two)) in
      inl ((let q : at o.start + span_width o.kind ≤ at s.start = omega (arith, t0, one, two) in q), (let q : at (s.end - 1) + 1 + span_width o.kind ≤ at (o.end - 1) + 1 = omega (arith, t1, other, two) in q)))
      (λ (not_two : span_width o.kind ≡ 2 → ⊥).
      let one = up o.start s.start (omega (arith, before, least1)) (omega (arith, ws, ls, least)) in
      let other = up (s.end - 1) (o.end - 1) (omega (arith, following, ws, least, least1)) (omega (arith, wo, lo, least1)) in
      inl ((let q : at o.start + span_width o.kind ≤ at s.start = omega (arith, one, least1, most1, not_two) in q), (let q : at (s.end - 1) + 1 + span_width o.kind ≤ at (o.end - 1) + 1 = omega (arith, other, least1, most1, not_two) in q)))
      (cases_eq (span_width o.kind) 2)

  abbrev Tight : List Span → Type 0
  Tight spans = AreTightAll (λ k. get_or all k 0) spans

  have-moved : (spans : List Span) → Within 0 (length all) spans → Tight spans → HaveTextsOf slots (map (moved_span (λ k. get_or all k 0)) spans)
  have-moved [] w t = tt
  have-moved (s ∷ spans) w t = (texts-moved s w.1 w.2 t.0, have-moved spans w.3 t.1)

  from-moved : (s : Span) (spans : List Span) → s.start + (span_width s.kind + span_width s.kind) ≤ s.end → s.end ≤ length all → Within 0 (length all) spans → Tight spans → AreApartFrom s spans → AreApartFrom (moved s) (map (moved_span (λ k. get_or all k 0)) spans)
  from-moved s [] ws ls w t a = tt
  from-moved s (o ∷ spans) ws ls w t a = (apart-moved s o ws ls w.1 w.2 t.0 a.0, from-moved s spans ws ls w.3 t.1 a.1)

  turn-moved : (spans : List Span) → Within 0 (length all) spans → Tight spans → AreInTurn spans → AreInTurn (map (moved_span (λ k. get_or all k 0)) spans)
  turn-moved [] w t a = tt
  turn-moved (s ∷ spans) w t a = (from-moved s spans w.1 w.2 w.3 t.1 a.0, turn-moved spans w.3 t.1 a.1)

  begin-moved : (spans : List Span) → Within 0 (length all) spans → BeginFrom from (map (moved_span (λ k. get_or all k 0)) spans)
  begin-moved [] w = tt
  begin-moved (s ∷ spans) w =
      let least = (wide-enough s.kind).0 in
      let wide = w.1 in
      let le = w.2 in
      ((text-at slots from end all h s.start (omega (arith, wide, le, least))).0, begin-moved spans w.3)

-- ## The pairs of placed runs

-- spans can be written, and give what the marks give
pub record IsWritten (slots : List Slot) (placed : List PlacedRun) (pairs : List Pair) : Type 0 where
  pub opens : AreOpen pairs
  pub can : CanWrite slots (spans_of_pairs pairs)
  pub begins : (from place : ℕ) → HaveBytes slots from place placed → BeginFrom from (spans_of_pairs pairs)
  pub gives : (options : Options) (others : List Pair) (spans : Spans) (rows : List row.Slot) → IsEmphasis (siblings_from 0 placed) others spans
      → write_spans options (spans_of_pairs pairs) rows ≡ marked options (places_of placed) (marks_by (length (places_of placed)) others) rows []

module _ (placed : List PlacedRun) where
  abbrev sib : List Sibling
  sib = siblings_from 0 placed

  abbrev all : List ℕ
  all = places_of placed

  abbrev found : List Pair
  found = run_pairs (map shown_placed placed)

  moved-pairs : AreMovedPairs (λ k. get_or all k 0) (pairs_of sib) found
  moved-pairs = subst (λ ps. AreMovedPairs (λ k. get_or all k 0) ps found) (run_pairs-are sib) (runs.pairs-moved (λ k. get_or all k 0) (runs_of sib) (map shown_placed placed) (runs-moved all 0 placed refl))

  same-spans : spans_of_pairs (pairs_of sib) ≡ spans_in (spans_of sib)
  same-spans = spans-are sib (pairs_of sib) (spans_of sib) (emphasis sib)

  spans-here : spans_of_pairs found ≡ map (moved_span (λ k. get_or all k 0)) (spans_in (spans_of sib))
  spans-here = (pairs-moved (λ k. get_or all k 0) (pairs_of sib) found moved-pairs).0 ∙ ap (map (moved_span (λ k. get_or all k 0))) same-spans

  tight : AreTightAll (λ k. get_or all k 0) (spans_in (spans_of sib))
  tight = subst (AreTightAll (λ k. get_or all k 0)) same-spans (pairs-moved (λ k. get_or all k 0) (pairs_of sib) found moved-pairs).1

  takes : TakePlaces 0 (spans_of sib) (length all)
  takes = subst (TakePlaces 0 (spans_of sib)) (sym (length-places 0 placed)) (taken sib (stand-so 0 placed))

  pub found-written : (slots : List Slot) → HaveBytes slots 0 0 placed → AreWhole slots → IsWritten slots placed found
  found-written slots have whole =
      let ahead = all-ahead slots 0 0 placed have in
      let within = in-within (spans_of sib) 0 (length all) takes in
      record {
        opens = pairs-open (λ k. get_or all k 0) (pairs_of sib) found moved-pairs;
        can = subst (CanWrite slots) (sym spans-here) (record {
          whole = whole;
          texts = have-moved slots 0 0 all ahead (spans_in (spans_of sib)) within tight;
          turn = turn-moved slots 0 0 all ahead (spans_in (spans_of sib)) within tight (in-turn (spans_of sib) 0 (length all) takes);
        });
        begins = λ from place h. subst (BeginFrom from) (sym spans-here) (begin-moved slots from place all (all-ahead slots from place placed h) (spans_in (spans_of sib)) within);
        gives = λ options others spans rows e.
            let is = (one sib others spans e).1 in
            ap (λ l. write_spans options l rows) spans-here
            ∙ sym (marks-say options all (λ i j lt le. (in-order slots 0 0 all ahead i j lt le).0) (spans_of sib) 0 (length all) takes (omega arith) tight [] rows [] ∙ over options (length all) (write_spans options (map (moved_span (λ k. get_or all k 0)) (spans_in (spans_of sib))) rows))
            ∙ ap (λ ms. marked options all ms rows []) (append-nil (marks_of (spans_of sib)) ∙ ap marks_of (sym is) ∙ sym (marks-are placed others spans e));
      }
    where
      over : (options : Options) (n : ℕ) (rows : List row.Slot) → marked options (drop n all) [] rows [] ≡ rows
      over options n rows = go (drop n all)
        where
          go : (places : List ℕ) → marked options places [] rows [] ≡ rows
          go [] = refl
          go (x ∷ places) = refl

-- pairs that a call found
pub written-as : (slots : List Slot) (placed : List PlacedRun) (pairs : List Pair) → HaveBytes slots 0 0 placed → AreWhole slots → pairs ≡ run_pairs (map shown_placed placed) → IsWritten slots placed pairs
written-as slots placed pairs h whole e = subst (IsWritten slots placed) (sym e) (found-written placed slots h whole)

pub pairs-are : (placed : List PlacedRun) → pairs_of (delimiters (map shown_placed placed)) ≡ run_pairs (map shown_placed placed)
pairs-are placed = sym (run_pairs-are (delimiters (map shown_placed placed))) ∙ ap run_pairs (delimiters-are (map shown_placed placed))

-- ## Runs that are resolved

pub resolved-by : (options : Options) (placed : List PlacedRun) (pairs : List Pair) (old new : List Slot) → IsWritten old placed pairs → KeepsSlots old new → AreWhole new → ((low : ℕ) → BeginFrom low (spans_of_pairs pairs) → SameBefore low old new)
    → ((leaf : LeafText) (texts : List CowStr) (links : List Link) → shown_slots leaf texts links new ≡ write_spans options (spans_of_pairs pairs) (shown_slots leaf texts links old)) → AreResolved options placed old new
resolved-by options placed pairs old new w keeps whole before views = record {
  keeps = keeps;
  whole = whole;
  before = λ from place h. before from (w.begins from place h);
  marks = λ leaf texts links others spans e. views leaf texts links ∙ w.gives options others spans (shown_slots leaf texts links old) e;
}

-- no pair is found
pub none-resolved : (options : Options) (placed : List PlacedRun) (slots : List Slot) → HaveBytes slots 0 0 placed → AreWhole slots → [] ≡ run_pairs (map shown_placed placed) → AreResolved options placed slots slots
none-resolved options placed slots h whole none =
    resolved-by options placed [] slots slots (written-as slots placed [] h whole none) (keeps-same slots) whole (λ low b. λ k d lt. refl) (λ leaf texts links. refl)

-- one run, or none, makes no pair
no-pairs : (placed : List PlacedRun) → length placed ≤ 1 → [] ≡ run_pairs (map shown_placed placed)
no-pairs [] le = refl
no-pairs (p ∷ []) le = sym (one_run (shown_placed p))
no-pairs (p ∷ q ∷ placed) le = absurd (omega (arith, le))

pub few-resolved : (options : Options) (placed : List PlacedRun) (slots : List Slot) → length placed ≤ 1 → HaveBytes slots 0 0 placed → AreWhole slots → AreResolved options placed slots slots
few-resolved options placed slots le h whole = none-resolved options placed slots h whole (no-pairs placed le)

pub few-least : (placed : List PlacedRun) → length placed ≤ 1 → least_examined (runs_of (siblings_from 0 placed)) ≡ 0
few-least [] le = refl
few-least (p ∷ []) le = one-least (record { delimiter = p.delimiter; run_length = p.run_length; at = 0; left = p.run_length; opens = p.opens; closes = p.closes })
few-least (p ∷ q ∷ placed) le = absurd (omega (arith, le))

-- one pair is written
pub one-resolved : (options : Options) (placed : List PlacedRun) (pair : Pair) (old new : List Slot) → IsWritten old placed (pair ∷ []) → KeepsSlots old new → AreWhole new → ((low : ℕ) → BeginFrom low (spans_of_pair pair) → SameBefore low old new)
    → ((leaf : LeafText) (texts : List CowStr) (links : List Link) → shown_slots leaf texts links new ≡ write_spans options (spans_of_pair pair) (shown_slots leaf texts links old)) → AreResolved options placed old new
one-resolved options placed pair old new w keeps whole before views =
    resolved-by options placed (pair ∷ []) old new w keeps whole (λ low b. before low (subst (BeginFrom low) (append-nil (spans_of_pair pair)) b))
    (λ leaf texts links. views leaf texts links ∙ ap (λ l. write_spans options l (shown_slots leaf texts links old)) (sym (append-nil (spans_of_pair pair))))

pub one-can : (slots : List Slot) (placed : List PlacedRun) (pair : Pair) → IsWritten slots placed (pair ∷ []) → CanWrite slots (spans_of_pair pair)
one-can slots placed pair w = subst (CanWrite slots) (append-nil (spans_of_pair pair)) w.can

-- the slots of the runs have indices that fit
pub all-fit : (slots : List Slot) (from place : ℕ) (placed : List PlacedRun) → length slots < 2 ^ 64 → HaveBytes slots from place placed → All Fits placed
all-fit slots from place [] small h = λ k d lt. absurd (omega (arith, lt))
all-fit slots from place (p ∷ placed) small h =
    All-cons Fits p placed (λ some. let q = bytes-in p.run_length p.slot h.0 some slots h.3 in omega (arith, q, small)) (all-fit slots (p.slot + p.run_length) (h.0 + p.run_length) placed small h.4)

-- the runs of a list with exactly two
pub two-are : (runs : List PlacedRun) (d : PlacedRun) → 2 ≤ length runs → length runs < 3 → runs ≡ get_or runs 0 d ∷ (get_or runs 1 d ∷ [])
two-are [] d low high = absurd (omega (arith, low))
two-are (p ∷ []) d low high = absurd (omega (arith, low))
two-are (p ∷ q ∷ []) d low high = refl
two-are (p ∷ q ∷ r ∷ runs) d low high = absurd (omega (arith, high))

-- the pairs that were found, after those before were dropped
pub all-found : (runs mine : List PlacedRun) (old new slice : List code_pair.Pair) → runs ≡ mine → old ≡ [] → slice ≡ new
    → ((siblings : List Sibling) → runs_of siblings ≡ map shown_placed runs → map shown_pair new ≡ map shown_pair old ++ pairs_of siblings) → map shown_pair slice ≡ run_pairs (map shown_placed mine)
all-found runs mine old new slice same none is found =
    ap (map shown_pair) is
    ∙ found (delimiters (map shown_placed runs)) (delimiters-are (map shown_placed runs))
    ∙ ap (λ l. map shown_pair l ++ pairs_of (delimiters (map shown_placed runs))) none
    ∙ pairs-are runs
    ∙ ap (λ l. run_pairs (map shown_placed l)) same
