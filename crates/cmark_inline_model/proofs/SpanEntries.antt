-- The pairs of siblings, written into the entries of a row, make the entries of the spans.
use Rattle.std.proofs.Common.{◌≡◌, ℕ, zero, suc, ◌+◌, ◌-◌, nat_lt, List, [], ◌∷◌, ◌++◌, length, set, refl, sym, ap, ◌∙◌, subst, arith, append_assoc, length-append, map, rules}
use Rattle.std.proofs.lemmas.List.{append-nil}
use Rattle.std.proofs.lemmas.Bool.{ltb-false}
use Rattle.cmark_grammar.specs.Spans.{SpanKind, span_width, Spans, Nil, Single, Around, join, singles}
use Rattle.cmark_grammar.specs.Emphasis.{Run, Pair, Sibling, Plain, Delimiter, Piece, Whole, Standing, StandFrom, places_taken}
use Rattle.cmark_grammar.specs.Emphasis.{paired_count, pair_of, rest_of_opener, rest_of_closer, kinds_of, nest, wrapped, before, row, keep, deactivated, left_open, stand, Closes}
use Rattle.cmark_inline_model.specs.EmphasisModel.{closed, resolve, pairs_of, spans_of}
use Rattle.cmark_inline_model.specs.SpanEntries as entries
use Rattle.cmark_inline_model.specs.SpanEntries.{write, IsWithin, AllWithin}
use Rattle.cmark_inline_model.proofs.EmphasisSound.{closed-closes}
use Rattle.cmark_inline_model.proofs.SpanPlaces.{widths, widths-kinds, count-opener, count-closer}

set_here : {Entry : Type 0} (a : List Entry) (n : ℕ) (x v : Entry) (r : List Entry) → n ≡ length a → set (a ++ (x ∷ r)) n v ≡ a ++ (v ∷ r)
set_here [] zero x v r e = refl
set_here [] (suc n) x v r e = absurd (omega arith)
set_here (y ∷ a) zero x v r e = absurd (omega arith)
set_here (y ∷ a) (suc n) x v r e = ap (λ l. y ∷ l) (set_here a n x v r (omega arith))

-- entries in place of the same number of others
write_here : {Entry : Type 0} (xs ys a r : List Entry) (n : ℕ) → length xs ≡ length ys → n ≡ length a → write n xs (a ++ (ys ++ r)) ≡ a ++ (xs ++ r)
write_here [] [] a r n e f = refl
write_here [] (y ∷ ys) a r n e f = absurd (omega arith)
write_here (x ∷ xs) [] a r n e f = absurd (omega arith)
write_here (x ∷ xs) (y ∷ ys) a r n e f = search (rules, set_here, append_assoc, length-append, write_here xs ys (a ++ x ∷ []) r (suc n) (omega arith) (omega (arith, length-append a (x ∷ []))))

-- the number of entries is the number of the span's bytes on each side
abbrev pub IsWide : {Entry : Type 0} → (SpanKind → List Entry) → Type 0
IsWide side = (k : SpanKind) → length (side k) ≡ span_width k

module _ (Entry : Type 0) (single : Entry) (opening closing : SpanKind → List Entry) (opening_width : IsWide opening) (closing_width : IsWide closing) where
  abbrev stays : ℕ → List Entry
  stays n = entries.stays Entry single opening closing n

  abbrev entries_of : Spans → List Entry
  entries_of sp = entries.entries_of Entry single opening closing sp

  abbrev mark_spans : List SpanKind → (from to : ℕ) → List Entry → List Entry
  mark_spans kinds from to s = entries.mark_spans Entry single opening closing kinds from to s

  abbrev mark_pair : Pair → List Entry → List Entry
  mark_pair pair s = entries.mark_pair Entry single opening closing pair s

  abbrev mark_pairs : List Pair → List Entry → List Entry
  mark_pairs pairs s = entries.mark_pairs Entry single opening closing pairs s

  pub length-stays : (n : ℕ) → length (stays n) ≡ n
  length-stays zero = refl
  length-stays (suc n) = ap suc (length-stays n)

  pub stays-add : (m n : ℕ) → stays (m + n) ≡ stays m ++ stays n
  stays-add zero n = let e : 0 + n ≡ n = omega arith in ap stays e
  stays-add (suc m) n = let e : suc m + n ≡ suc (m + n) = omega arith in ap stays e ∙ ap (λ l. single ∷ l) (stays-add m n)

  -- entries with those of spans around them
  abbrev rings : List SpanKind → List Entry → List Entry
  rings [] all = all
  rings (kind ∷ kinds) all = rings kinds (opening kind ++ (all ++ closing kind))

  length-ringed : (m : List Entry) (k : SpanKind) → length (opening k ++ (m ++ closing k)) ≡ (span_width k + length m) + span_width k
  length-ringed m k = grind (arith, length-append)

  length-rings : (ks : List SpanKind) (m : List Entry) → length (rings ks m) ≡ (widths ks + length m) + widths ks
  length-rings [] m = omega arith
  length-rings (k ∷ ks) m = let i = length-rings ks (opening k ++ (m ++ closing k)) in omega (arith, i, length-ringed m k)

  -- one span
  mark_one : (k : SpanKind) (a m b : List Entry) (from to : ℕ) → from ≡ length a + span_width k → to ≡ from + length m
      → write to (closing k) (write (from - span_width k) (opening k) (a ++ (stays (span_width k) ++ (m ++ (stays (span_width k) ++ b))))) ≡ a ++ ((opening k ++ (m ++ closing k)) ++ b)
  mark_one k a m b from to f t = grind (arith, write_here, length-stays, cut, place, together)
    where
      place : to ≡ length (a ++ (opening k ++ m))
      place = omega (arith, length-append a (opening k ++ m), length-append (opening k) m, opening_width k)

      cut : (a ++ (opening k ++ m)) ++ (stays (span_width k) ++ b) ≡ a ++ (opening k ++ (m ++ (stays (span_width k) ++ b)))
      cut = append_assoc a (opening k ++ m) (stays (span_width k) ++ b) ∙ ap (λ l. a ++ l) (append_assoc (opening k) m (stays (span_width k) ++ b))

      together : (a ++ (opening k ++ m)) ++ (closing k ++ b) ≡ a ++ ((opening k ++ (m ++ closing k)) ++ b)
      together = cc (append_assoc a (opening k ++ m) (closing k ++ b), append_assoc (opening k ++ m) (closing k) b, append_assoc (opening k) m (closing k))

  -- all spans of a pair
  mark-rings : (ks : List SpanKind) (a m b : List Entry) (from to : ℕ) → from ≡ length a + widths ks → to ≡ from + length m → mark_spans ks from to (a ++ (stays (widths ks) ++ (m ++ (stays (widths ks) ++ b)))) ≡ a ++ (rings ks m ++ b)
  mark-rings [] a m b from to f t = refl
  mark-rings (k ∷ ks) a m b from to f t =
      ap (λ l. mark_spans ks (from - span_width k) (to + span_width k) (write to (closing k) (write (from - span_width k) (opening k) l))) split
      ∙ ap (mark_spans ks (from - span_width k) (to + span_width k)) (mark_one k (a ++ stays (widths ks)) m (stays (widths ks) ++ b) from to place t)
      ∙ ap (mark_spans ks (from - span_width k) (to + span_width k)) (append_assoc a (stays (widths ks)) ((opening k ++ (m ++ closing k)) ++ (stays (widths ks) ++ b)))
      ∙ mark-rings ks a (opening k ++ (m ++ closing k)) b (from - span_width k) (to + span_width k) (omega arith) (omega (arith, length-ringed m k))
    where
      place : from ≡ length (a ++ stays (widths ks)) + span_width k
      place = omega (arith, length-append a (stays (widths ks)), length-stays (widths ks))

      following : stays (widths ks + span_width k) ++ b ≡ stays (span_width k) ++ (stays (widths ks) ++ b)
      following =
          let e : widths ks + span_width k ≡ span_width k + widths ks = omega arith in
          ap (λ n. stays n ++ b) e ∙ ap (λ l. l ++ b) (stays-add (span_width k) (widths ks)) ∙ append_assoc (stays (span_width k)) (stays (widths ks)) b

      split : a ++ (stays (widths ks + span_width k) ++ (m ++ (stays (widths ks + span_width k) ++ b))) ≡ (a ++ stays (widths ks)) ++ (stays (span_width k) ++ (m ++ (stays (span_width k) ++ (stays (widths ks) ++ b))))
      split = grind (arith, widths, following, stays-add, append_assoc)

  -- the entries of nested spans
  entries-nest : (ks : List SpanKind) (from to : ℕ) (f : Spans) → entries_of (nest ks from to f) ≡ rings ks (entries_of f)
  entries-nest [] from to f = refl
  entries-nest (k ∷ ks) from to f =
      entries-nest ks (from - span_width k) (to + span_width k) (Around (record { kind = k; start = from - span_width k; end = to + span_width k }) f Nil)
      ∙ ap (rings ks) (append-nil (opening k ++ (entries_of f ++ closing k)))

  entries-singles : (n at : ℕ) → entries_of (singles at n Nil) ≡ stays n
  entries-singles zero at = refl
  entries-singles (suc n) at = ap (λ l. single ∷ l) (entries-singles n (suc at))

  record Part (Front : List Entry → Type 0) (Own : List Entry → List Entry → Type 0) (all : List Entry) : Type 0 where
    front : List Entry
    own : List Entry
    cut : all ≡ front ++ own
    here : Own front own
    before : Front front

  -- the entries are those of these pieces, the nearest last
  abbrev Covers : List Entry → List Piece → Type 0
  Covers all [] = all ≡ []
  Covers all (Whole spans ∷ pieces) = Part (λ a. Covers a pieces) (λ a b. b ≡ entries_of spans) all
  Covers all (Standing run ∷ pieces) = Part (λ a. Covers a pieces) (λ a b. (length a ≡ run.at) × (b ≡ stays run.left)) all

  entries-join : (f g : Spans) → entries_of (join f g) ≡ entries_of f ++ entries_of g
  entries-join Nil g = refl
  entries-join (Single at after) g = ap (λ l. single ∷ l) (entries-join after g)
  entries-join (Around s inside after) g = cc (entries-join after g, append_assoc (opening s.kind ++ (entries_of inside ++ closing s.kind)) (entries_of after) (entries_of g))

  singles-join : (n at : ℕ) (g : Spans) → singles at n g ≡ join (singles at n Nil) g
  singles-join zero at g = refl
  singles-join (suc n) at g = ap (λ l. Single at l) (singles-join n (suc at) g)

  abbrev piece : Piece → Spans
  piece (Whole f) = f
  piece (Standing r) = singles r.at r.left Nil

  before-join : (p : Piece) (g : Spans) → before p g ≡ join (piece p) g
  before-join (Whole f) g = refl
  before-join (Standing r) g = singles-join r.left r.at g

  entries-before : (p : Piece) → entries_of (before p Nil) ≡ entries_of (piece p)
  entries-before p = ap entries_of (before-join p Nil) ∙ entries-join (piece p) Nil ∙ append-nil (entries_of (piece p))

  entries-row : (ps : List Piece) (g : Spans) → entries_of (row ps g) ≡ entries_of (row ps Nil) ++ entries_of g
  entries-row [] g = refl
  entries-row (p ∷ ps) g = search (rules, before-join, entries-join, append_assoc, entries-before, entries-row ps (before p g), entries-row ps (before p Nil))

  row_more : (p : Piece) (b : List Piece) (own more : List Entry) → own ≡ entries_of (row b Nil) → more ≡ entries_of (piece p) → own ++ more ≡ entries_of (row b (before p Nil))
  row_more p b own more h k =
      ap (λ l. l ++ more) h ∙ ap (λ l. entries_of (row b Nil) ++ l) (k ∙ sym (entries-before p)) ∙ sym (entries-row b (before p Nil))

  -- the entries, divided at the end of some pieces
  record Cut (s : List Entry) (b rest : List Piece) : Type 0 where
    front : List Entry
    own : List Entry
    cut : s ≡ front ++ own
    holds : own ≡ entries_of (row b Nil)
    before : Covers front rest

  covers-cut : (b rest : List Piece) (s : List Entry) → Covers s (b ++ rest) → Cut s b rest
  covers-cut [] rest s h = record { front = s; own = []; cut = sym (append-nil s); holds = refl; before = h }
  covers-cut (Whole f ∷ b) rest s h =
      let i = covers-cut b rest h.front h.before in
      record { front = i.front; own = i.own ++ h.own; cut = h.cut ∙ ap (λ l. l ++ h.own) i.cut ∙ append_assoc i.front i.own h.own; holds = row_more (Whole f) b i.own h.own i.holds h.here; before = i.before }
  covers-cut (Standing r ∷ b) rest s h =
      let i = covers-cut b rest h.front h.before in
      record {
        front = i.front;
        own = i.own ++ h.own;
        cut = h.cut ∙ ap (λ l. l ++ h.own) i.cut ∙ append_assoc i.front i.own h.own;
        holds = row_more (Standing r) b i.own h.own i.holds (h.here.1 ∙ sym (entries-singles r.left r.at));
        before = i.before;
      }

  -- at the end the entries are those of the spans
  covers-end : (s : List Entry) (ps : List Piece) → Covers s ps → s ≡ entries_of (row ps Nil)
  covers-end s ps h =
      let i = covers-cut ps [] s (subst (Covers s) (sym (append-nil ps)) h) in
      i.cut ∙ ap (λ l. l ++ i.own) i.before ∙ i.holds

  covers-keep : (r : Run) (front : List Piece) (a : List Entry) → length a ≡ r.at → Covers a front → Covers (a ++ stays r.left) (keep r front)
  covers-keep r front a place h = grind (arith, nat_lt, ltb-false, append-nil)

  covers-stand : (r : Run) (front : List Piece) (a : List Entry) → length a ≡ r.at → Covers a front → Covers (a ++ stays r.left) (stand r front)
  covers-stand r front a place h = grind (arith, covers-keep, entries-singles)

  covers-deactivated : (ps : List Piece) (s : List Entry) → Covers s ps → Covers s (map deactivated ps)
  covers-deactivated [] s h = h
  covers-deactivated (Whole f ∷ ps) s h = record { front = h.front; own = h.own; cut = h.cut; here = h.here; before = covers-deactivated ps h.front h.before }
  covers-deactivated (Standing r ∷ ps) s h = grind (arith, entries-singles, covers-deactivated ps h.front h.before)

  covers-left : (c : Run) (ps : List Piece) (s : List Entry) → Covers s ps → Covers s (left_open c ps)
  covers-left c ps s h = grind (arith, covers-deactivated)

  -- the entries after a pair
  record Paired (s following : List Entry) (b : List Piece) (o c : Run) (front : List Piece) : Type 0 where
    now : List Entry
    marked : mark_pair (pair_of o c) (s ++ (stays c.left ++ following)) ≡ now ++ (stays (rest_of_closer o c).left ++ following)
    covers : Covers now (Whole (wrapped (pair_of o c) (row b Nil)) ∷ keep (rest_of_opener o c) front)
    place : length now ≡ (rest_of_closer o c).at
    within : IsWithin (length (s ++ (stays c.left ++ following))) (pair_of o c)

  covers-pair : (s following : List Entry) (b : List Piece) (o c : Run) (front : List Piece) → Covers s (b ++ (Standing o ∷ front)) → length s ≡ c.at → Paired s following b o c front
  unfolding rest_of_opener rest_of_closer pair_of
  covers-pair s following b o c front h place =
      let i = covers-cut b (Standing o ∷ front) s h in
      let n = paired_count o c in
      let first = i.before.front in
      let inner = i.own in
      let ks = kinds_of c.delimiter n in
      let w : widths ks ≡ n = widths-kinds c.delimiter n in
      let le = count-opener o c in
      let le' = count-closer o c in
      let at : length first ≡ o.at = i.before.here.0 in
      let whole : s ≡ first ++ (stays o.left ++ inner) = i.cut ∙ ap (λ l. l ++ inner) (i.before.cut ∙ ap (λ l. first ++ l) i.before.here.1) ∙ append_assoc first (stays o.left) inner in
      let size : length s ≡ (length first + o.left) + length inner = ap length whole ∙ length-append first (stays o.left ++ inner) ∙ (let x = length-append (stays o.left) inner in let y = length-stays o.left in omega (arith, x, y)) in
      let left : stays o.left ≡ stays (o.left - n) ++ stays (widths ks) = (let e : o.left ≡ (o.left - n) + widths ks = omega (arith, w, le) in ap stays e ∙ stays-add (o.left - n) (widths ks)) in
      let right : stays c.left ≡ stays (widths ks) ++ stays (c.left - n) = (let e : c.left ≡ widths ks + (c.left - n) = omega (arith, w, le') in ap stays e ∙ stays-add (widths ks) (c.left - n)) in
      let rest = stays (c.left - n) ++ following in
      let split : s ++ (stays c.left ++ following) ≡ (first ++ stays (o.left - n)) ++ (stays (widths ks) ++ (inner ++ (stays (widths ks) ++ rest))) = cc (regroup first (stays (o.left - n)) (stays (widths ks)) inner (stays (widths ks)) (stays (c.left - n)) following) in
      let front_size : length (first ++ stays (o.left - n)) ≡ length first + (o.left - n) = length-append first (stays (o.left - n)) ∙ ap (λ k. length first + k) (length-stays (o.left - n)) in
      record {
        now = (first ++ stays (o.left - n)) ++ rings ks inner;
        marked =
            ap (mark_spans ks (o.at + o.left) c.at) split
            ∙ mark-rings ks (first ++ stays (o.left - n)) inner rest (o.at + o.left) c.at (omega (arith, w, le, at, front_size)) (omega (arith, at, size, place))
            ∙ sym (append_assoc (first ++ stays (o.left - n)) (rings ks inner) rest);
        covers = record {
          front = first ++ stays (o.left - n);
          own = rings ks inner;
          cut = refl;
          here = ap (rings ks) i.holds ∙ sym (entries-nest ks (o.at + o.left) c.at (row b Nil));
          before = covers-keep (rest_of_opener o c) front first at i.before.before;
        };
        place = length-append (first ++ stays (o.left - n)) (rings ks inner) ∙ (let x = length-rings ks inner in omega (arith, x, w, le, at, size, place, front_size));
        within = record {
          opens = omega (arith, le);
          ordered = omega (arith, at, size, place);
          closes = (let x = length-append s (stays c.left ++ following) in let y = length-append (stays c.left) following in let z = length-stays c.left in omega (arith, x, y, z, place, le'));
        };
      }
    where
      regroup : (f x y m z v b : List Entry) → (f ++ ((x ++ y) ++ m)) ++ ((z ++ v) ++ b) ≡ (f ++ x) ++ (y ++ (m ++ (z ++ (v ++ b))))
      regroup f x y m z v b = simp append_assoc

  rest_sum : (o c : Run) → (rest_of_closer o c).at + (rest_of_closer o c).left ≡ c.at + c.left
  unfolding rest_of_closer
  rest_sum o c = let le = count-closer o c in omega (arith, le)

  whole_length : (s b : List Entry) (c : Run) → length s ≡ c.at → length (s ++ (stays c.left ++ b)) ≡ (c.at + c.left) + length b
  whole_length s b c e = grind (arith, length-append, length-stays)

  -- the entries after the pairs of a run
  record Went (s following : List Entry) (pairs : List Pair) (c d : Run) (pieces : List Piece) : Type 0 where
    now : List Entry
    marked : mark_pairs pairs (s ++ (stays c.left ++ following)) ≡ now ++ (stays d.left ++ following)
    covers : Covers now pieces
    place : length now ≡ d.at
    sum : d.at + d.left ≡ c.at + c.left
    within : AllWithin ((c.at + c.left) + length following) pairs

  goes : (pairs : List Pair) (c d : Run) (ps qs : List Piece) (s following : List Entry) → Closes c ps pairs d qs → Covers s ps → length s ≡ c.at → Went s following pairs c d qs
  goes [] c d ps qs s following h cov place = grind (arith, covers-left)
  goes (p ∷ more) c d ps qs s following h cov place =
      let pr = covers-pair s following h.between h.opener c h.front (subst (Covers s) h.cut cov) place in
      let i =
      goes more (rest_of_closer h.opener c) d (Whole (wrapped p (row h.between Nil)) ∷ keep (rest_of_opener h.opener c) h.front) qs pr.now following h.so
      (subst (λ q. Covers pr.now (Whole (wrapped q (row h.between Nil)) ∷ keep (rest_of_opener h.opener c) h.front)) (sym h.is) pr.covers) pr.place in
      record {
        now = i.now;
        marked = ap (λ q. mark_pairs more (mark_pair q (s ++ (stays c.left ++ following)))) h.is ∙ ap (mark_pairs more) pr.marked ∙ i.marked;
        covers = i.covers;
        place = i.place;
        sum = i.sum ∙ rest_sum h.opener c;
        within = (
          subst (λ q. IsWithin ((c.at + c.left) + length following) q) (sym h.is) (subst (λ l. IsWithin l (pair_of h.opener c)) (whole_length s following c place) pr.within),
          subst (λ l. AllWithin (l + length following) more) (rest_sum h.opener c) i.within,
        );
      }

  mark-append : (a b : List Pair) (s : List Entry) → mark_pairs (a ++ b) s ≡ mark_pairs b (mark_pairs a s)
  mark-append [] b s = refl
  mark-append (p ∷ a) b s = mark-append a b (mark_pair p s)

  within-append : (n : ℕ) (a b : List Pair) → AllWithin n a → AllWithin n b → AllWithin n (a ++ b)
  within-append n [] b h k = k
  within-append n (p ∷ a) b h k = (h.0, within-append n a b h.1 k)

  marks : (ts : List Sibling) (ps : List Piece) (s : List Entry) (n : ℕ) → Covers s ps → length s ≡ n → StandFrom n ts
      → (mark_pairs (resolve ts ps).pairs (s ++ stays (places_taken ts)) ≡ entries_of (row (resolve ts ps).pieces Nil)) × AllWithin (n + places_taken ts) (resolve ts ps).pairs
  marks [] ps s n cov place st = (append-nil s ∙ covers-end s ps cov, tt)
  marks (Plain at ∷ ts) ps s n cov place st =
      let i = marks ts (Whole (Single at Nil) ∷ ps) (s ++ single ∷ []) (suc n) (record { front = s; own = single ∷ []; cut = refl; here = refl; before = cov }) (let x = length-append s (single ∷ []) in omega (arith, x, place)) st.1 in
      let e : n + suc (places_taken ts) ≡ suc n + places_taken ts = omega arith in (
        ap (mark_pairs (resolve ts (Whole (Single at Nil) ∷ ps)).pairs) (sym (append_assoc s (single ∷ []) (stays (places_taken ts)))) ∙ i.0,
        subst (λ l. AllWithin l (resolve ts (Whole (Single at Nil) ∷ ps)).pairs) (sym e) i.1,
      )
  marks (Delimiter c ∷ ts) ps s n cov place st =
      let d = closed c ps in
      let w = goes d.pairs c d.rest ps d.pieces s (stays (places_taken ts)) (closed-closes c ps) cov (place ∙ sym st.0) in
      let size : length (w.now ++ stays d.rest.left) ≡ n + c.run_length = (let x = length-append w.now (stays d.rest.left) in let y = length-stays d.rest.left in omega (arith, x, y, w.place, w.sum, st.0, st.1)) in
      let i = marks ts (stand d.rest d.pieces) (w.now ++ stays d.rest.left) (n + c.run_length) (covers-stand d.rest d.pieces w.now w.place w.covers) size st.2 in
      let e : (c.at + c.left) + length (stays (places_taken ts)) ≡ n + (c.left + places_taken ts) = (let y = length-stays (places_taken ts) in omega (arith, y, st.0)) in
      let f : (n + c.run_length) + places_taken ts ≡ n + (c.left + places_taken ts) = omega (arith, st.1) in (
        mark-append d.pairs (resolve ts (stand d.rest d.pieces)).pairs (s ++ stays (c.left + places_taken ts))
            ∙ ap (λ l. mark_pairs (resolve ts (stand d.rest d.pieces)).pairs (mark_pairs d.pairs (s ++ l))) (stays-add c.left (places_taken ts))
            ∙ ap (mark_pairs (resolve ts (stand d.rest d.pieces)).pairs) (w.marked ∙ sym (append_assoc w.now (stays d.rest.left) (stays (places_taken ts))))
            ∙ i.0,
        within-append (n + (c.left + places_taken ts)) d.pairs (resolve ts (stand d.rest d.pieces)).pairs
            (subst (λ l. AllWithin l d.pairs) e w.within)
            (subst (λ l. AllWithin l (resolve ts (stand d.rest d.pieces)).pairs) f i.1),
      )

  pub pairs-marked : (ts : List Sibling) → StandFrom 0 ts → mark_pairs (pairs_of ts) (stays (places_taken ts)) ≡ entries_of (spans_of ts)
  pairs-marked ts st = (marks ts [] [] 0 refl refl st).0
