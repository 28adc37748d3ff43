-- Marks written into slots: their effect on the slots of their own bytes does not depend on the other slots.
use Rattle.std.proofs.Common.{◌≡◌, ℕ, zero, suc, ◌+◌, ◌-◌, List, [], ◌∷◌, ◌++◌, length, set, get_or, refl, sym, ap, ◌∙◌, arith, append_assoc, append-nil, length-append, Option, Some, None, rules}
use Rattle.cmark_grammar.specs.Items.{Own, Item}
use Rattle.cmark_grammar.specs.Options.{Options}
use Rattle.cmark_grammar.specs.Siblings.{item}
use Rattle.cmark_inline_model.specs.RunSpans.{no_item}
use Rattle.cmark_grammar.specs.Spans.{SpanKind, span_tag}
use Rattle.cmark_grammar.specs.Tag.{Tag}
use Rattle.cmark_inline_model.specs.SlotRows.{Slot, ItemSlot, BeginSlot, EndSlot, NothingSlot, Mark, Stays, Begins, Ends, Blank, start_in, end_in, used_up, spanned, marked}

-- a byte of a run, and the slots after it up to the next byte
pub record Cell : Type 0 where
  pub byte : Item
  pub gap : List Slot

abbrev pub no_cell : Cell
no_cell = record { byte = no_item; gap = [] }

abbrev pub own : Cell → List Slot
own c = ItemSlot c.byte ∷ c.gap

abbrev pub flatten : List Cell → List Slot
flatten [] = []
flatten (c ∷ cs) = ItemSlot c.byte ∷ (c.gap ++ flatten cs)

-- the places of their bytes among the slots, from this one on
abbrev pub places_from : ℕ → List Cell → List ℕ
places_from p [] = []
places_from p (c ∷ cs) = p ∷ places_from (p + length (ItemSlot c.byte ∷ c.gap)) cs

abbrev pub nothings : ℕ → List Slot
nothings zero = []
nothings (suc n) = NothingSlot ∷ nothings n

-- an element around the first slots, or one text over them, before the others
abbrev pub closed_by : Option Tag → (start end : ℕ) → (between after : List Slot) → List Slot
closed_by (Some tag) start end between after = BeginSlot tag start end ∷ (between ++ (EndSlot ∷ after))
closed_by None start end between after = ItemSlot (item Own start end) ∷ (nothings (suc (length between)) ++ after)

pub set_here : (a : List Slot) (n : ℕ) (x v : Slot) (r : List Slot) → n ≡ length a → set (a ++ (x ∷ r)) n v ≡ a ++ (v ∷ r)
set_here [] zero x v r e = refl
set_here [] (suc n) x v r e = absurd (omega arith)
set_here (y ∷ a) zero x v r e = absurd (omega arith)
set_here (y ∷ a) (suc n) x v r e = ap (λ l. y ∷ l) (set_here a n x v r (omega arith))

pub get_here : (a : List Slot) (n : ℕ) (x d : Slot) (r : List Slot) → n ≡ length a → get_or (a ++ (x ∷ r)) n d ≡ x
get_here [] zero x d r e = refl
get_here [] (suc n) x d r e = absurd (omega arith)
get_here (y ∷ a) zero x d r e = absurd (omega arith)
get_here (y ∷ a) (suc n) x d r e = get_here a n x d r (omega arith)

pub flatten-append : (a b : List Cell) → flatten (a ++ b) ≡ flatten a ++ flatten b
flatten-append [] b = refl
flatten-append (c ∷ a) b =
    ap (λ l. ItemSlot c.byte ∷ (c.gap ++ l)) (flatten-append a b) ∙ ap (λ l. ItemSlot c.byte ∷ l) (sym (append_assoc c.gap (flatten a) (flatten b)))

length-nothings : (n : ℕ) → length (nothings n) ≡ n
length-nothings zero = refl
length-nothings (suc n) = ap suc (length-nothings n)

closed-append : (t : Option Tag) (s e : ℕ) (m r z : List Slot) → closed_by t s e m (r ++ z) ≡ closed_by t s e m r ++ z
closed-append (Some t) s e m r z = ap (λ l. BeginSlot t s e ∷ l) (sym (append_assoc m (EndSlot ∷ r) z))
closed-append None s e m r z = ap (λ l. ItemSlot (item Own s e) ∷ l) (sym (append_assoc (nothings (suc (length m))) r z))

length-closed : (t : Option Tag) (s e : ℕ) (m r : List Slot) → length (closed_by t s e m r) ≡ suc (length m + suc (length r))
length-closed t s e m r = grind (arith, length-append, length-nothings)

-- the same lists, grouped in another way
group_single : (a g x b : List Slot) (i : Slot) → (a ++ (i ∷ g)) ++ (x ++ b) ≡ a ++ ((i ∷ (g ++ x)) ++ b)
group_single a g x b i = append_assoc a (i ∷ g) (x ++ b) ∙ ap (λ l. a ++ (i ∷ l)) (sym (append_assoc g x b))

used-up-here : (m a r : List Slot) (n : ℕ) → n ≡ length a → used_up n (length m) (a ++ (m ++ r)) ≡ a ++ (nothings (length m) ++ r)
used-up-here [] a r n e = refl
used-up-here (v ∷ m) a r n e =
    ap (used_up (suc n) (length m)) (set_here a n v NothingSlot (m ++ r) e ∙ sym (append_assoc a (NothingSlot ∷ []) (m ++ r)))
    ∙ used-up-here m (a ++ NothingSlot ∷ []) r (suc n) (let l = length-append a (NothingSlot ∷ []) in omega (arith, e, l))
    ∙ append_assoc a (NothingSlot ∷ []) (nothings (length m) ++ r)

-- the slots of two bytes become the span from one to the other
spanned-here : (t : Option Tag) (a m r : List Slot) (x y : Item) (s : List Slot) (p q : ℕ) → s ≡ a ++ (ItemSlot x ∷ (m ++ (ItemSlot y ∷ r))) → p ≡ length a → q ≡ length (a ++ (ItemSlot x ∷ m))
    → spanned t p q s ≡ a ++ closed_by t x.start y.end m r
spanned-here t a m r x y s p q e f h = go t
  where
    cut : s ≡ (a ++ (ItemSlot x ∷ m)) ++ (ItemSlot y ∷ r)
    cut = e ∙ sym (append_assoc a (ItemSlot x ∷ m) (ItemSlot y ∷ r))

    first : start_in (get_or s p NothingSlot) ≡ x.start
    first = ap (λ l. start_in (get_or l p NothingSlot)) e ∙ ap start_in (get_here a p (ItemSlot x) NothingSlot (m ++ (ItemSlot y ∷ r)) f)

    last : end_in (get_or s q NothingSlot) ≡ y.end
    last = ap (λ l. end_in (get_or l q NothingSlot)) cut ∙ ap end_in (get_here (a ++ (ItemSlot x ∷ m)) q (ItemSlot y) NothingSlot r h)

    blanks : used_up (suc p) (q - p) s ≡ a ++ (ItemSlot x ∷ (nothings (suc (length m)) ++ r))
    blanks =
        let l1 = length-append a (ItemSlot x ∷ m) in
        let l2 = length-append m (ItemSlot y ∷ []) in
        let l3 = length-append a (ItemSlot x ∷ []) in
        let many : q - p ≡ length (m ++ (ItemSlot y ∷ [])) = omega (arith, l1, l2, f, h) in
        let size : length (m ++ (ItemSlot y ∷ [])) ≡ suc (length m) = omega (arith, l2) in
        let at : suc p ≡ length (a ++ (ItemSlot x ∷ [])) = omega (arith, l3, f) in
        let parts : s ≡ (a ++ (ItemSlot x ∷ [])) ++ ((m ++ (ItemSlot y ∷ [])) ++ r) =
        e ∙ sym (append_assoc a (ItemSlot x ∷ []) ((m ++ (ItemSlot y ∷ [])) ++ r) ∙ ap (λ l. a ++ (ItemSlot x ∷ l)) (append_assoc m (ItemSlot y ∷ []) r)) in
        ap (λ n. used_up (suc p) n s) many
        ∙ ap (used_up (suc p) (length (m ++ (ItemSlot y ∷ [])))) parts
        ∙ used-up-here (m ++ (ItemSlot y ∷ [])) (a ++ (ItemSlot x ∷ [])) r (suc p) at
        ∙ ap (λ n. (a ++ (ItemSlot x ∷ [])) ++ (nothings n ++ r)) size
        ∙ append_assoc a (ItemSlot x ∷ []) (nothings (suc (length m)) ++ r)

    go : (t : Option Tag) → spanned t p q s ≡ a ++ closed_by t x.start y.end m r
    go t = grind (arith, first, last, cut, set_here, append_assoc, blanks)

module _ (options : Options) where
  -- these marks turn these cells into these slots, whatever the other slots are
  abbrev pub MarksMake : List Mark → List Cell → List Slot → Type 0
  MarksMake marks cells out = (ds : List Cell) (ms : List Mark) (a b : List Slot) (begun : List ℕ)
      → marked options (places_from (length a) (cells ++ ds)) (marks ++ ms) (a ++ (flatten cells ++ b)) begun ≡ marked options (places_from (length (a ++ out)) ds) ms (a ++ (out ++ b)) begun

  pub nil_marks : MarksMake [] [] []
  nil_marks ds ms a b begun = ap (λ l. marked options (places_from (length l) ds) ms (a ++ b) begun) (sym (append-nil a))

  pub single_marks : (after : List Mark) (c : Cell) (others : List Cell) (rest : List Slot) → MarksMake after others rest → MarksMake (Stays ∷ after) (c ∷ others) (ItemSlot c.byte ∷ (c.gap ++ rest))
  single_marks after c others rest ih ds ms a b begun =
      let front = a ++ own c in
      ap (λ n. marked options (places_from n (others ++ ds)) (after ++ ms) (a ++ (flatten (c ∷ others) ++ b)) begun) (sym (length-append a (own c)))
      ∙ ap (λ l. marked options (places_from (length front) (others ++ ds)) (after ++ ms) l begun) (sym (group_single a c.gap (flatten others) b (ItemSlot c.byte)))
      ∙ ih ds ms front b begun
      ∙ ap (λ l. marked options (places_from (length l) ds) ms (front ++ (rest ++ b)) begun) (append_assoc a (own c) rest)
      ∙ ap (λ l. marked options (places_from (length (a ++ (ItemSlot c.byte ∷ (c.gap ++ rest)))) ds) ms l begun) (group_single a c.gap rest b (ItemSlot c.byte))

  -- a span begins at a byte and ends at another
  pub around_marks : (k : SpanKind) (inside after : List Mark) (o : Cell) (inner : List Cell) (c : Cell) (others : List Cell) (w rest : List Slot) → MarksMake inside inner w → MarksMake after others rest
      → MarksMake (Begins k ∷ (inside ++ (Ends k ∷ after))) (o ∷ (inner ++ (c ∷ others))) (closed_by (span_tag options k) o.byte.start c.byte.end (o.gap ++ w) (c.gap ++ rest))
  around_marks k inside after o inner c others w rest ih jh ds ms a b begun =
      let t : Option Tag = span_tag options k in
      let a1 = a ++ own o in
      let m = o.gap ++ w in
      let cells = o ∷ (inner ++ (c ∷ others)) in
      let ms1 = Ends k ∷ (after ++ ms) in
      let ds1 = c ∷ (others ++ ds) in
      let r = (c.gap ++ flatten others) ++ b in
      let s1 = a1 ++ (w ++ (ItemSlot c.byte ∷ r)) in
      let q = length (a1 ++ w) in
      let part : List Slot = closed_by t o.byte.start c.byte.end m c.gap in
      let out : List Slot = closed_by t o.byte.start c.byte.end m (c.gap ++ rest) in
      let a2 = a ++ part in
      let grouped : a1 ++ w ≡ a ++ (ItemSlot o.byte ∷ m) = append_assoc a (own o) w in
      let s1_is : s1 ≡ a ++ (ItemSlot o.byte ∷ (m ++ (ItemSlot c.byte ∷ r))) =
      append_assoc a (own o) (w ++ (ItemSlot c.byte ∷ r)) ∙ ap (λ l. a ++ (ItemSlot o.byte ∷ l)) (sym (append_assoc o.gap w (ItemSlot c.byte ∷ r))) in
      let spanned_is : spanned t (length a) q s1 ≡ a2 ++ (flatten others ++ b) =
      spanned-here t a m r o.byte c.byte s1 (length a) q s1_is refl (ap length grouped)
      ∙ ap (λ l. a ++ closed_by t o.byte.start c.byte.end m l) (append_assoc c.gap (flatten others) b)
      ∙ ap (λ l. a ++ l) (closed-append t o.byte.start c.byte.end m c.gap (flatten others ++ b))
      ∙ sym (append_assoc a part (flatten others ++ b)) in
      let place : q + length (own c) ≡ length a2 =
      (let x = ap length grouped in let y = length-append a (ItemSlot o.byte ∷ m) in let z = length-append a part in let v = length-closed t o.byte.start c.byte.end m c.gap in omega (arith, x, y, z, v)) in
      let whole : a2 ++ rest ≡ a ++ out = append_assoc a part rest ∙ ap (λ l. a ++ l) (sym (closed-append t o.byte.start c.byte.end m c.gap rest)) in
      ap (λ n. marked options (places_from n ((inner ++ (c ∷ others)) ++ ds)) ((inside ++ (Ends k ∷ after)) ++ ms) (a ++ (flatten cells ++ b)) (length a ∷ begun)) (sym (length-append a (own o)))
      ∙ ap (λ l. marked options (places_from (length a1) l) ((inside ++ (Ends k ∷ after)) ++ ms) (a ++ (flatten cells ++ b)) (length a ∷ begun)) (append_assoc inner (c ∷ others) ds)
      ∙ ap (λ l. marked options (places_from (length a1) (inner ++ ds1)) l (a ++ (flatten cells ++ b)) (length a ∷ begun)) (append_assoc inside (Ends k ∷ after) ms)
      ∙ ap (λ l. marked options (places_from (length a1) (inner ++ ds1)) (inside ++ ms1) l (length a ∷ begun))
      (ap (λ l. a ++ ((ItemSlot o.byte ∷ (o.gap ++ l)) ++ b)) (flatten-append inner (c ∷ others))
      ∙ sym (group_single a o.gap (flatten inner ++ flatten (c ∷ others)) b (ItemSlot o.byte))
      ∙ ap (λ l. a1 ++ l) (append_assoc (flatten inner) (flatten (c ∷ others)) b))
      ∙ ih ds1 ms1 a1 (flatten (c ∷ others) ++ b) (length a ∷ begun)
      ∙ ap (λ l. marked options (places_from (q + length (own c)) (others ++ ds)) (after ++ ms) l begun) spanned_is
      ∙ ap (λ n. marked options (places_from n (others ++ ds)) (after ++ ms) (a2 ++ (flatten others ++ b)) begun) place
      ∙ jh ds ms a2 b begun
      ∙ ap (λ l. marked options (places_from (length l) ds) ms (a2 ++ (rest ++ b)) begun) whole
      ∙ ap (λ l. marked options (places_from (length (a ++ out)) ds) ms l begun) (sym (append_assoc a2 rest b) ∙ ap (λ l. l ++ b) whole ∙ append_assoc a out b)

  -- a byte beside one that begins or ends a span becomes Nothing
  blank_marks : (c : Cell) → MarksMake (Blank ∷ []) (c ∷ []) (NothingSlot ∷ c.gap)
  blank_marks c ds ms a b begun = cc (length-append a (NothingSlot ∷ c.gap), set_here a (length a) (ItemSlot c.byte) NothingSlot ((c.gap ++ []) ++ b) refl, append-nil c.gap)

  -- marks one after the other
  marks_append : (m n : List Mark) (c d : List Cell) (v w : List Slot) → MarksMake m c v → MarksMake n d w → MarksMake (m ++ n) (c ++ d) (v ++ w)
  marks_append m n c d v w h k ds ms a b begun = grind (arith, append_assoc, flatten-append)

  -- a span of width 2: a blank after its start, and one before its end
  pub wide_marks : (k : SpanKind) (inside after : List Mark) (o p : Cell) (inner : List Cell) (c d : Cell) (others : List Cell) (w rest : List Slot) → MarksMake inside inner w → MarksMake after others rest
      → MarksMake (Begins k ∷ (((Blank ∷ []) ++ (inside ++ (Blank ∷ []))) ++ (Ends k ∷ after))) (o ∷ (((p ∷ []) ++ (inner ++ (c ∷ []))) ++ (d ∷ others)))
      (closed_by (span_tag options k) o.byte.start d.byte.end (o.gap ++ ((NothingSlot ∷ p.gap) ++ (w ++ (NothingSlot ∷ c.gap)))) (d.gap ++ rest))
  wide_marks k inside after o p inner c d others w rest h j = search (rules, around_marks, marks_append, blank_marks)
