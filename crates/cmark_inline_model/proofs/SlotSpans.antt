-- The marks of spans, written into the slots of the bytes of runs, make the slots of the siblings with these spans around them.
use Rattle.std.proofs.Common.{◌≡◌, ℕ, zero, suc, ◌+◌, ◌-◌, List, [], ◌∷◌, ◌++◌, length, refl, sym, ap, ◌∙◌, subst, arith, append_assoc, append-nil, Option, rules}
use Rattle.cmark_grammar.specs.Items.{Item}
use Rattle.cmark_grammar.specs.Options.{Options}
use Rattle.cmark_grammar.specs.Siblings.{Inline, Nil, append, element}
use Rattle.cmark_inline_model.specs.RunSpans.{dressed}
use Rattle.cmark_grammar.specs.Spans as spans
use Rattle.cmark_grammar.specs.Spans.{SpanKind, Span, Spans, span_tag, span_width, TakePlaces}
use Rattle.cmark_grammar.specs.Tag.{Tag}
use Rattle.cmark_inline_model.specs.SlotRows.{Slot, ItemSlot, NothingSlot, seen, slots_of, Mark, Begins, Ends, Blank, opening, closing, marks_of, AreTight}
use Rattle.cmark_inline_model.proofs.SlotMarks.{Cell, closed_by, nothings, MarksMake, nil_marks, single_marks, around_marks, wide_marks}
use Rattle.cmark_inline_model.proofs.SlotCells.{seen-append, seen-both, cell_at, byte_at, gap_at}

-- ## How slots of spans are seen

seen-nothings : (n : ℕ) (r : List Slot) → seen (nothings n ++ r) ≡ seen r
seen-nothings zero r = refl
seen-nothings (suc n) r = seen-nothings n r

seen-closed : (t : Option Tag) (s e : ℕ) (m r : List Slot) (d1 d2 : Inline) → seen m ≡ slots_of d1 → seen r ≡ slots_of d2 → seen (closed_by t s e m r) ≡ slots_of (element t s e d1 d2)
seen-closed t s e m r d1 d2 h k = grind (arith, seen-append, seen-nothings)

-- inside the bytes of a span of width 2: there is nothing beside the blanks on their outer side
seen-between : (s0 s1 s2 s3 : List Slot) (g d : Inline) → seen s0 ≡ [] → seen s1 ≡ slots_of g → seen s2 ≡ slots_of d → seen s3 ≡ []
    → seen (s0 ++ ((NothingSlot ∷ s1) ++ (s2 ++ (NothingSlot ∷ s3)))) ≡ slots_of (append g d)
seen-between s0 s1 s2 s3 g d h0 h1 h2 h3 = grind (arith, seen-append, seen-both, append-nil)

-- ## The marks of a span

thin-marks : (k : SpanKind) (mi ma : List Mark) → opening k ≡ Begins k ∷ [] → closing k ≡ Ends k ∷ [] → (opening k ++ (mi ++ closing k)) ++ ma ≡ Begins k ∷ (mi ++ (Ends k ∷ ma))
thin-marks k mi ma o c =
    ap (λ l. (l ++ (mi ++ closing k)) ++ ma) o ∙ ap (λ l. Begins k ∷ ((mi ++ l) ++ ma)) c ∙ ap (λ l. Begins k ∷ l) (append_assoc mi (Ends k ∷ []) ma)

wide-ringed : (k : SpanKind) (mi ma : List Mark) → opening k ≡ Begins k ∷ (Blank ∷ []) → closing k ≡ Blank ∷ (Ends k ∷ [])
    → (opening k ++ (mi ++ closing k)) ++ ma ≡ Begins k ∷ (((Blank ∷ []) ++ (mi ++ (Blank ∷ []))) ++ (Ends k ∷ ma))
wide-ringed k mi ma o c = cc (append_assoc mi (Blank ∷ (Ends k ∷ [])) ma, append_assoc mi (Blank ∷ []) (Ends k ∷ ma))

-- ## Cells that are adjacent

module _ (cells : List Cell) where
  abbrev pub cells_from : (count n : ℕ) → List Cell
  cells_from zero n = []
  cells_from (suc count) n = cell_at cells n ∷ cells_from count (suc n)

  cells-split : (j k n : ℕ) → cells_from (j + k) n ≡ cells_from j n ++ cells_from k (n + j)
  cells-split zero k n = ap (λ i. cells_from i n) (let e : 0 + k ≡ k = omega arith in e) ∙ ap (cells_from k) (let e : n ≡ n + 0 = omega arith in e)
  cells-split (suc j) k n =
      ap (λ i. cells_from i n) (let e : suc j + k ≡ suc (j + k) = omega arith in e)
      ∙ ap (λ l. cell_at cells n ∷ l) (cells-split j k (suc n) ∙ ap (λ i. cells_from j (suc n) ++ cells_from k i) (let e : suc n + j ≡ n + suc j = omega arith in e))

cells-shift : (c : Cell) (cs : List Cell) (count n : ℕ) → cells_from (c ∷ cs) count (suc n) ≡ cells_from cs count n
cells-shift c cs zero n = refl
cells-shift c cs (suc count) n = ap (λ l. cell_at cs n ∷ l) (cells-shift c cs count (suc n))

pub all-cells : (cs : List Cell) → cells_from cs (length cs) 0 ≡ cs
all-cells [] = refl
all-cells (c ∷ cs) = ap (λ l. c ∷ l) (cells-shift c cs (length cs) 0 ∙ all-cells cs)

-- ## Spans around the bytes

-- the cells have these bytes, and these gaps after them
abbrev SameBytes : List Item → List Cell → Type 0
SameBytes bytes cells = (i : ℕ) → (cell_at cells i).byte ≡ byte_at bytes i

abbrev SameGaps : List Inline → List Cell → Type 0
SameGaps gaps cells = (i : ℕ) → seen (cell_at cells i).gap ≡ slots_of (gap_at gaps (suc i))

module _ (options : Options) (gaps : List Inline) (bytes : List Item) (cells : List Cell) (same_byte : SameBytes bytes cells) (same_gap : SameGaps gaps cells) where
  -- spans over n bytes: their marks make slots that show them
  pub record Dressed (n : ℕ) (sp : Spans) (m : ℕ) : Type 0 where
    pub count : ℕ
    pub places : n + count ≡ m
    pub out : List Slot
    pub marks : MarksMake options (marks_of sp) (cells_from cells count n) out
    pub seen_is : seen out ≡ slots_of (dressed options gaps bytes sp)

  abbrev at_cell : ℕ → Cell
  at_cell i = cell_at cells i

  abbrev from : (count n : ℕ) → List Cell
  from count n = cells_from cells count n

  abbrev gap : ℕ → Inline
  gap i = gap_at gaps i

  abbrev inner : Spans → Inline
  inner sp = dressed options gaps bytes sp

  -- a span, with the indices of its first and its last byte
  abbrev ringed : (kind : SpanKind) (first last i j : ℕ) (inside after : Spans) → List Slot
  ringed kind first last i j inside after =
      slots_of (element (span_tag options kind) (at_cell first).byte.start (at_cell last).byte.end (append (gap i) (inner inside)) (append (gap j) (inner after)))

  placed-is : (span : Span) (inside after : Spans) (first last i j : ℕ) → span.start ≡ first → span.end - 1 ≡ last → span.start + span_width span.kind ≡ i → span.end ≡ j
      → ringed span.kind first last i j inside after ≡ slots_of (inner (spans.Around span inside after))
  placed-is span inside after first last i j a b c d = grind (arith, byte_at)

  thin-dressed : (span : Span) (inside after : Spans) (n m mid : ℕ) → span_width span.kind ≡ 1 → opening span.kind ≡ Begins span.kind ∷ [] → closing span.kind ≡ Ends span.kind ∷ []
      → span.start ≡ n → span.end ≡ mid + span_width span.kind → Dressed (n + span_width span.kind) inside mid → Dressed span.end after m → Dressed n (spans.Around span inside after) m
  thin-dressed span inside after n m mid w op cl st en k l =
      let p = k.places in
      let q = l.places in
      let one : n + span_width span.kind ≡ suc n = omega (arith, w) in
      let last : span.end - 1 ≡ suc n + k.count = omega (arith, w, p, en) in
      let next : span.end ≡ suc (suc n + k.count) = omega (arith, w, p, en) in
      let first : span.start + span_width span.kind ≡ suc n = omega (arith, st, w) in
      let c = suc n + k.count in
      let mi = marks_of inside in
      let ma = marks_of after in
      let between = (at_cell n).gap ++ k.out in
      let following = (at_cell c).gap ++ l.out in
      let out : List Slot = closed_by (span_tag options span.kind) (at_cell n).byte.start (at_cell c).byte.end between following in
      let made : MarksMake options (Begins span.kind ∷ (mi ++ (Ends span.kind ∷ ma))) (at_cell n ∷ (from k.count (suc n) ++ (at_cell c ∷ from l.count (suc c)))) out =
      around_marks options span.kind mi ma (at_cell n) (from k.count (suc n)) (at_cell c) (from l.count (suc c)) k.out l.out (subst (λ i. MarksMake options mi (from k.count i) k.out) one k.marks)
      (subst (λ i. MarksMake options ma (from l.count i) l.out) next l.marks) in
      record {
        count = suc (k.count + suc l.count);
        places = (let x : n + suc (k.count + suc l.count) ≡ m = omega (arith, w, p, q, en) in x);
        out = out;
        marks = subst (λ x. MarksMake options x (from (suc (k.count + suc l.count)) n) out) (sym (thin-marks span.kind mi ma op cl))
            (subst (λ x. MarksMake options (Begins span.kind ∷ (mi ++ (Ends span.kind ∷ ma))) (at_cell n ∷ x) out) (sym (cells-split cells k.count (suc l.count) (suc n))) made);
        seen_is =
            seen-closed (span_tag options span.kind) (at_cell n).byte.start (at_cell c).byte.end between following (append (gap (suc n)) (inner inside)) (append (gap (suc c)) (inner after))
            (seen-both (gap (suc n)) (inner inside) (at_cell n).gap k.out (same_gap n) k.seen_is) (seen-both (gap (suc c)) (inner after) (at_cell c).gap l.out (same_gap c) l.seen_is)
            ∙ placed-is span inside after n c (suc n) (suc c) st last first next;
      }

  wide-dressed : (span : Span) (inside after : Spans) (n m mid : ℕ) → span_width span.kind ≡ 2 → opening span.kind ≡ Begins span.kind ∷ (Blank ∷ []) → closing span.kind ≡ Blank ∷ (Ends span.kind ∷ [])
      → (gap (suc span.start) ≡ Nil) × (gap (span.end - 1) ≡ Nil) → span.start ≡ n → span.end ≡ mid + span_width span.kind → Dressed (n + span_width span.kind) inside mid → Dressed span.end after m
      → Dressed n (spans.Around span inside after) m
  wide-dressed span inside after n m mid w op cl tight st en k l =
      let p = k.places in
      let q = l.places in
      let two : n + span_width span.kind ≡ suc (suc n) = omega (arith, w) in
      let c = suc (suc n) + k.count in
      let last : span.end - 1 ≡ suc c = omega (arith, w, p, en) in
      let next : span.end ≡ suc (suc c) = omega (arith, w, p, en) in
      let first : span.start + span_width span.kind ≡ suc (suc n) = omega (arith, st, w) in
      let mi = marks_of inside in
      let ma = marks_of after in
      let middle = from k.count (suc (suc n)) in
      let others = from l.count (suc (suc c)) in
      let between = (at_cell n).gap ++ ((NothingSlot ∷ (at_cell (suc n)).gap) ++ (k.out ++ (NothingSlot ∷ (at_cell c).gap))) in
      let following = (at_cell (suc c)).gap ++ l.out in
      let out : List Slot = closed_by (span_tag options span.kind) (at_cell n).byte.start (at_cell (suc c)).byte.end between following in
      let marks = Begins span.kind ∷ (((Blank ∷ []) ++ (mi ++ (Blank ∷ []))) ++ (Ends span.kind ∷ ma)) in
      let made : MarksMake options marks (at_cell n ∷ (((at_cell (suc n) ∷ []) ++ (middle ++ (at_cell c ∷ []))) ++ (at_cell (suc c) ∷ others))) out =
      wide_marks options span.kind mi ma (at_cell n) (at_cell (suc n)) middle (at_cell c) (at_cell (suc c)) others k.out l.out (subst (λ i. MarksMake options mi (from k.count i) k.out) two k.marks)
      (subst (λ i. MarksMake options ma (from l.count i) l.out) next l.marks) in
      let g1 : gap (suc n) ≡ Nil = ap (λ i. gap (suc i)) (sym st) ∙ tight.0 in
      let g2 : gap (suc c) ≡ Nil = ap gap (sym last) ∙ tight.1 in
      record {
        count = suc (suc (k.count + suc (suc l.count)));
        places = (let x : n + suc (suc (k.count + suc (suc l.count))) ≡ m = omega (arith, w, p, q, en) in x);
        out = out;
        marks = subst (λ x. MarksMake options x (from (suc (suc (k.count + suc (suc l.count)))) n) out) (sym (wide-ringed span.kind mi ma op cl))
            (subst (λ x. MarksMake options marks (at_cell n ∷ (at_cell (suc n) ∷ x)) out) (append_assoc middle (at_cell c ∷ []) (at_cell (suc c) ∷ others) ∙ sym (cells-split cells k.count (suc (suc l.count)) (suc (suc n)))) made);
        seen_is =
            seen-closed (span_tag options span.kind) (at_cell n).byte.start (at_cell (suc c)).byte.end between following (append (gap (suc (suc n))) (inner inside)) (append (gap (suc (suc c))) (inner after))
            (seen-between (at_cell n).gap (at_cell (suc n)).gap k.out (at_cell c).gap (gap (suc (suc n))) (inner inside) (same_gap n ∙ ap slots_of g1) (same_gap (suc n)) k.seen_is (same_gap c ∙ ap slots_of g2))
            (seen-both (gap (suc (suc c))) (inner after) (at_cell (suc c)).gap l.out (same_gap (suc c)) l.seen_is)
            ∙ placed-is span inside after n (suc c) (suc (suc n)) (suc (suc c)) st last first next;
      }

  abbrev IsEmpty : ℕ → Type 0
  IsEmpty i = gap i ≡ Nil

  around-dressed : (kind : SpanKind) (start end : ℕ) (inside after : Spans) (n m mid : ℕ) → (span_width kind ≡ 2 → IsEmpty (suc start) × IsEmpty (end - 1)) → start ≡ n → end ≡ mid + span_width kind
      → Dressed (n + span_width kind) inside mid → Dressed end after m → Dressed n (spans.Around (record { kind = kind; start = start; end = end }) inside after) m
  around-dressed kind start end inside after n m mid tight st en k l = search (rules, thin-dressed, wide-dressed)

  pub all-dressed : (sp : Spans) (n m : ℕ) → AreTight IsEmpty sp → TakePlaces n sp m → Dressed n sp m
  all-dressed spans.Nil n m tight h = record { count = 0; places = (let e : n + 0 ≡ m = omega (arith, h) in e); out = []; marks = nil_marks options; seen_is = refl }
  all-dressed (spans.Single at after) n m tight h =
      let k = all-dressed after (suc n) m tight h.1 in
      let p = k.places in
      record {
        count = suc k.count;
        places = (let e : n + suc k.count ≡ m = omega (arith, p) in e);
        out = ItemSlot (at_cell n).byte ∷ ((at_cell n).gap ++ k.out);
        marks = single_marks options (marks_of after) (at_cell n) (from k.count (suc n)) k.out k.marks;
        seen_is =
            ap (λ x. ItemSlot x ∷ seen ((at_cell n).gap ++ k.out)) (same_byte n)
            ∙ ap (λ l. ItemSlot (byte_at bytes n) ∷ l) (seen-both (gap (suc n)) (inner after) (at_cell n).gap k.out (same_gap n) k.seen_is)
            ∙ ap (λ i. slots_of (inner (spans.Single i after))) (sym h.0);
      }
  all-dressed (spans.Around span inside after) n m tight h =
      around-dressed span.kind span.start span.end inside after n m h.mid tight.0 h.start h.end (all-dressed inside (n + span_width span.kind) h.mid tight.1 h.inside) (all-dressed after span.end m tight.2 h.after)
