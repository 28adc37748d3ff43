-- What the spans of all siblings contain is what the spans of the delimiter runs alone contain, with the other siblings between the bytes
-- of the runs. So both readings of a list of siblings give the same.
use Rattle.std.proofs.Common.{◌≡◌, ◌⊎◌, inl, inr, ℕ, zero, suc, ◌+◌, ◌-◌, ◌<◌, ◌≤◌, Bool, true, false, nat_lt, List, [], ◌∷◌, length, get_or, drop, map, refl, sym, ap, ◌∙◌, subst, arith, rules}
use Rattle.std.proofs.lemmas.Bool.{ltb-true, ltb-false}
use Rattle.std.proofs.lemmas.List.{drop_all}
use Rattle.cmark_grammar.specs.Emphasis.{Sibling, Plain, Delimiter, StandFrom, places_taken}
use Rattle.cmark_grammar.specs.Items.{ItemKind, Own, Delimiters, Item}
use Rattle.cmark_grammar.specs.Options.{Options}
use Rattle.cmark_grammar.specs.Siblings.{Inline, Nil, Single, Around, append, item, element, start_of, end_of, siblings_from, sibling_then, byte_by_byte, item_by_item, one_by_one, with_spans, with_quotes, IsDressed}
use Rattle.cmark_grammar.specs.Spans as spans
use Rattle.cmark_grammar.specs.Spans.{SpanKind, span_tag, span_width, Spans, TakePlaces}
use Rattle.cmark_grammar.specs.Tag.{Tag}
use Rattle.cmark_inline_model.specs.EmphasisModel.{pairs_of, spans_of}
use Rattle.cmark_inline_model.specs.RunSpans.{run_then, runs_from, bytes_then, run_bytes_then, run_bytes, put_gap, no_gaps, gap_then, gaps_of, no_item, dressed, dressed_all, IsDressedByRuns}
use Rattle.cmark_inline_model.proofs.EmphasisOne.{one}
use Rattle.cmark_inline_model.proofs.EmphasisSound.{sound}
use Rattle.cmark_inline_model.proofs.RunsAlone.{AreBytes, rank-bytes, down, down-plain, down-byte, Fits, AreRanked, runs_alone, spans-ranked, spans-fit}
use Rattle.cmark_inline_model.proofs.SpanPlaces.{places}
use Rattle.cmark_inline_model.proofs.TightSpans.{put-rest}

-- ## Cells: what is at each place

data Cell : Type 0 where
  Other : (one : Inline) → Cell
  Byte : (x : Item) → Cell

abbrev one_of : Cell → Inline
one_of (Other one) = one
one_of (Byte x) = Single x Nil

abbrev byte_cells : (start count : ℕ) → List Cell → List Cell
byte_cells start zero after = after
byte_cells start (suc count) after = Byte (item Own start (suc start)) ∷ byte_cells (suc start) count after

abbrev cells_then : ItemKind → Item → List Cell → List Cell
cells_then (Delimiters run) x after = byte_cells x.start run.run_length after
cells_then _ x after = Other (Single x Nil) ∷ after

abbrev cells_of : Inline → List Cell
cells_of Nil = []
cells_of (Single x after) = cells_then x.kind x (cells_of after)
cells_of (Around tag start end inside after) = Other (Around tag start end inside Nil) ∷ cells_of after

abbrev bytes_in : List Cell → List Item
bytes_in [] = []
bytes_in (Other one ∷ cells) = bytes_in cells
bytes_in (Byte x ∷ cells) = x ∷ bytes_in cells

abbrev gaps_in : List Cell → List Inline
gaps_in [] = Nil ∷ []
gaps_in (Other one ∷ cells) = put_gap (append one) (gaps_in cells)
gaps_in (Byte x ∷ cells) = Nil ∷ gaps_in cells

-- the siblings before the next byte
abbrev lead : List Cell → Inline
lead [] = Nil
lead (Other one ∷ cells) = append one (lead cells)
lead (Byte x ∷ cells) = Nil

-- the number of bytes before a place
abbrev rank_in : List Cell → ℕ → ℕ
rank_in cells zero = 0
rank_in [] (suc n) = 0
rank_in (Other one ∷ cells) (suc n) = rank_in cells n
rank_in (Byte x ∷ cells) (suc n) = suc (rank_in cells n)

-- ## What is at a place

record IsByte (cells : List Cell) (n : ℕ) : Type 0 where
  x : Item
  here : get_or (map one_of cells) n Nil ≡ Single x Nil
  byte : get_or (bytes_in cells) (rank_in cells n) no_item ≡ x
  next : rank_in cells (suc n) ≡ suc (rank_in cells n)
  gap : get_or (gaps_in cells) (rank_in cells (suc n)) Nil ≡ lead (drop (suc n) cells)
  none : lead (drop n cells) ≡ Nil

record IsOther (cells : List Cell) (n : ℕ) : Type 0 where
  one : Inline
  here : get_or (map one_of cells) n Nil ≡ one
  same : rank_in cells (suc n) ≡ rank_in cells n
  first : lead (drop n cells) ≡ append one (lead (drop (suc n) cells))

put-first : (put : Inline → Inline) (gaps : List Inline) → get_or (put_gap put gaps) 0 Nil ≡ put (get_or gaps 0 Nil)
put-first put [] = refl
put-first put (g ∷ gaps) = refl

first-gap : (cells : List Cell) → get_or (gaps_in cells) 0 Nil ≡ lead cells
first-gap [] = refl
first-gap (Other one ∷ cells) = put-first (append one) (gaps_in cells) ∙ ap (append one) (first-gap cells)
first-gap (Byte x ∷ cells) = refl

at-place : (cells : List Cell) (n : ℕ) → n < length cells → IsByte cells n ⊎ IsOther cells n
at-place [] n h = absurd (let d : ⊥ = omega (arith, h) in d)
at-place (Other one ∷ cells) zero h = inr (record { one = one; here = refl; same = refl; first = refl })
at-place (Byte x ∷ cells) zero h = inl (record { x = x; here = refl; byte = refl; next = refl; gap = first-gap cells; none = refl })
at-place (Other one ∷ cells) (suc n) h = search (rules, put-rest, at-place cells n (omega (arith, h)))
at-place (Byte x ∷ cells) (suc n) h = search (rules, one, at-place cells n (omega (arith, h)))

-- ## Spans around cells

append_more : (a b c : Inline) → append (append a b) c ≡ append a (append b c)
append_more Nil b c = refl
append_more (Single x after) b c = ap (Single x) (append_more after b c)
append_more (Around tag start end inside after) b c = ap (Around tag start end inside) (append_more after b c)

takes-up : (f : Spans) (n m : ℕ) → TakePlaces n f m → n ≤ m
takes-up spans.Nil n m h = omega (arith, h)
takes-up (spans.Single at after) n m h = let i = takes-up after (suc n) m h.1 in omega (arith, i)
takes-up (spans.Around span inside after) n m h = search (rules, takes-up inside (n + span_width span.kind) h.mid h.inside, takes-up after span.end m h.after)

wide : (kind : SpanKind) → 0 < span_width kind
wide kind = grind arith

module _ (options : Options) (cells : List Cell) where
  abbrev rank : ℕ → ℕ
  rank = rank_in cells

  abbrev placed : Spans → Inline
  placed f = with_spans options (map one_of cells) f

  abbrev between : Spans → Inline
  between f = dressed options (gaps_in cells) (bytes_in cells) (down rank f)

  byte-at : (n : ℕ) → n < length cells → rank (suc n) ≡ suc (rank n) → IsByte cells n
  byte-at n h e = go (at-place cells n h)
    where
      go : IsByte cells n ⊎ IsOther cells n → IsByte cells n
      go (inl b) = b
      go (inr o) = absurd (let s = o.same in let d : ⊥ = omega (arith, e, s) in d)

  abbrev Says : Spans → ℕ → Type 0
  Says f n = placed f ≡ append (lead (drop n cells)) (between f)

  single-says : (n : ℕ) (after : Spans) → n < length cells → Says after (suc n) → Says (spans.Single n after) n
  single-says n after h i = go (at-place cells n h)
    where
      go : IsByte cells n ⊎ IsOther cells n → Says (spans.Single n after) n
      go h = grind (arith, down-byte, append_more, down-plain)

  around-says : (kind : SpanKind) (n mid : ℕ) (inside after : Spans) → AreBytes rank n (n + span_width kind) → AreBytes rank mid (mid + span_width kind) → n + span_width kind ≤ mid → mid + span_width kind ≤ length cells
      → Says inside (n + span_width kind) → Says after (mid + span_width kind)
      → Says (spans.Around (record { kind = kind; start = n; end = mid + span_width kind }) inside after) n
  around-says kind n mid inside after left right le up i j =
      let w = span_width kind in
      let wide_so = wide kind in
      let end = mid + w in
      let first = byte-at n (omega (arith, le, up, wide_so)) (left n (omega arith) (omega (arith, wide_so))) in
      let inner = byte-at (n + w - 1) (omega (arith, le, up, wide_so)) (left (n + w - 1) (omega (arith, wide_so)) (omega (arith, wide_so))) in
      let last = byte-at (end - 1) (omega (arith, up, wide_so)) (right (end - 1) (omega (arith, wide_so)) (omega (arith, wide_so))) in
      let inner_is : suc (n + w - 1) ≡ n + w = omega (arith, wide_so) in
      let last_is : suc (end - 1) ≡ end = omega (arith, wide_so) in
      let tag = span_tag options kind in
      let gaps = gaps_in cells in
      let bytes = bytes_in cells in
      let start_is : start_of (get_or (map one_of cells) n Nil) ≡ (get_or bytes (rank n) no_item).start = ap start_of first.here ∙ ap (λ (y : Item). y.start) (sym first.byte) in
      let rank_end : rank end - 1 ≡ rank (end - 1) = (let e = last.next in let f = ap rank last_is in omega (arith, e, f)) in
      let end_is : end_of (get_or (map one_of cells) (end - 1) Nil) ≡ (get_or bytes (rank end - 1) no_item).end =
      ap end_of last.here ∙ ap (λ (y : Item). y.end) (sym last.byte ∙ ap (λ k. get_or bytes k no_item) (sym rank_end)) in
      let inside_is : placed inside ≡ append (get_or gaps (rank n + w) Nil) (between inside) =
      i ∙ ap (λ l. append l (between inside)) (ap (λ k. lead (drop k cells)) (sym inner_is) ∙ sym inner.gap ∙ ap (λ k. get_or gaps k Nil) (ap rank inner_is ∙ rank-bytes rank n w left)) in
      let after_is : placed after ≡ append (get_or gaps (rank end) Nil) (between after) =
      j ∙ ap (λ l. append l (between after)) (ap (λ k. lead (drop k cells)) (sym last_is) ∙ sym last.gap ∙ ap (λ k. get_or gaps (rank k) Nil) last_is) in
      ap (λ x. element tag x (end_of (get_or (map one_of cells) (end - 1) Nil)) (placed inside) (placed after)) start_is
      ∙ ap (λ x. element tag (get_or bytes (rank n) no_item).start x (placed inside) (placed after)) end_is
      ∙ ap (λ x. element tag (get_or bytes (rank n) no_item).start (get_or bytes (rank end - 1) no_item).end x (placed after)) inside_is
      ∙ ap (element tag (get_or bytes (rank n) no_item).start (get_or bytes (rank end - 1) no_item).end (append (get_or gaps (rank n + w) Nil) (between inside))) after_is
      ∙ ap (λ l. append l (between (spans.Around (record { kind = kind; start = n; end = end }) inside after))) (sym first.none)

  spans-say : (f : Spans) (n m : ℕ) → TakePlaces n f m → Fits rank f → m ≤ length cells → lead (drop m cells) ≡ Nil → Says f n
  spans-say spans.Nil n m h fit le none = ap (λ l. append l Nil) (sym (ap (λ k. lead (drop k cells)) h ∙ none))
  spans-say (spans.Single at after) n m h fit le none = search (rules, takes-up, single-says, spans-say after (suc n) m h.1 fit le none)
  spans-say (spans.Around span inside after) n m h fit le none =
      let w = span_width span.kind in
      let wide_so = wide span.kind in
      let in_up = takes-up inside (n + w) h.mid h.inside in
      let up = takes-up after span.end m h.after in
      let st = h.start in
      let en = h.end in
      let left : AreBytes rank n (n + w) = subst (λ k. AreBytes rank k (k + w)) st fit.0 in
      let right : AreBytes rank h.mid (h.mid + w) = λ k x y. fit.1 k (omega (arith, en, x)) (omega (arith, en, y)) in
      let mid_byte = byte-at h.mid (omega (arith, en, up, le, wide_so)) (right h.mid (omega arith) (omega (arith, wide_so))) in
      let i = spans-say inside (n + w) h.mid h.inside fit.2 (omega (arith, en, up, le)) mid_byte.none in
      let j = spans-say after span.end m h.after fit.3 le none in
      let all = around-says span.kind n h.mid inside after left right in_up (omega (arith, en, up, le)) i (subst (Says after) en j) in
      subst (λ k. Says (spans.Around (record { kind = span.kind; start = k; end = span.end }) inside after) n) (sym st)
      (subst (λ k. Says (spans.Around (record { kind = span.kind; start = n; end = k }) inside after) n) (sym en) all)

-- ## The cells of siblings

ones-bytes : (start count : ℕ) (cells : List Cell) (after : List Inline) → after ≡ map one_of cells → byte_by_byte start count after ≡ map one_of (byte_cells start count cells)
ones-bytes start zero cells after e = e
ones-bytes start (suc count) cells after e = ap (λ l. Single (item Own start (suc start)) Nil ∷ l) (ones-bytes (suc start) count cells after e)

bytes-bytes : (start count : ℕ) (cells : List Cell) (after : List Item) → after ≡ bytes_in cells → bytes_then start count after ≡ bytes_in (byte_cells start count cells)
bytes-bytes start zero cells after e = e
bytes-bytes start (suc count) cells after e = ap (λ l. item Own start (suc start) ∷ l) (bytes-bytes (suc start) count cells after e)

gaps-bytes : (start count : ℕ) (cells : List Cell) (after : List Inline) → after ≡ gaps_in cells → no_gaps count after ≡ gaps_in (byte_cells start count cells)
gaps-bytes start zero cells after e = e
gaps-bytes start (suc count) cells after e = ap (λ l. Nil ∷ l) (gaps-bytes (suc start) count cells after e)

put-single : (x : Item) (gaps : List Inline) → put_gap (Single x) gaps ≡ put_gap (append (Single x Nil)) gaps
put-single x [] = refl
put-single x (g ∷ gaps) = refl

put-around : (tag : Tag) (start end : ℕ) (inside : Inline) (gaps : List Inline) → put_gap (Around tag start end inside) gaps ≡ put_gap (append (Around tag start end inside Nil)) gaps
put-around tag start end inside [] = refl
put-around tag start end inside (g ∷ gaps) = refl

-- what the cells of siblings are
record Cells (ones : List Inline) (bytes : List Item) (gaps : List Inline) (cells : List Cell) : Type 0 where
  ones_are : ones ≡ map one_of cells
  bytes_are : bytes ≡ bytes_in cells
  gaps_are : gaps ≡ gaps_in cells

item-cells : (kind : ItemKind) (x : Item) (ones : List Inline) (bytes : List Item) (gaps : List Inline) (cells : List Cell) → Cells ones bytes gaps cells
    → Cells (item_by_item kind x ones) (run_bytes_then kind x.start bytes) (gap_then kind x gaps) (cells_then kind x cells)
item-cells kind x ones bytes gaps cells h = grind (arith, ones-bytes, bytes-bytes, gaps-bytes, put-single)

cells-are : (s : Inline) → Cells (one_by_one s) (run_bytes s) (gaps_of s) (cells_of s)
cells-are Nil = record { ones_are = refl; bytes_are = refl; gaps_are = refl }
cells-are (Single x after) = item-cells x.kind x (one_by_one after) (run_bytes after) (gaps_of after) (cells_of after) (cells-are after)
cells-are (Around tag start end inside after) = grind (arith, put-around, cells-are after)

-- ## The places of siblings among all cells

following : (cells : List Cell) (n : ℕ) (c : Cell) (rest : List Cell) → drop n cells ≡ c ∷ rest → drop (suc n) cells ≡ rest
following [] zero c rest e = absurd (let d : ⊥ = cc in d)
following [] (suc n) c rest e = absurd (let d : ⊥ = cc in d)
following (x ∷ cells) zero c rest e = cc
following (x ∷ cells) (suc n) c rest e = following cells n c rest e

rank-byte : (cells : List Cell) (n : ℕ) (x : Item) (rest : List Cell) → drop n cells ≡ Byte x ∷ rest → rank_in cells (suc n) ≡ suc (rank_in cells n)
rank-byte [] zero x rest e = absurd (let d : ⊥ = cc in d)
rank-byte [] (suc n) x rest e = absurd (let d : ⊥ = cc in d)
rank-byte (Other one ∷ cells) zero x rest e = absurd (let d : ⊥ = cc in d)
rank-byte (Byte y ∷ cells) zero x rest e = refl
rank-byte (Other one ∷ cells) (suc n) x rest e = rank-byte cells n x rest e
rank-byte (Byte y ∷ cells) (suc n) x rest e = ap suc (rank-byte cells n x rest e)

rank-other : (cells : List Cell) (n : ℕ) (one : Inline) (rest : List Cell) → drop n cells ≡ Other one ∷ rest → rank_in cells (suc n) ≡ rank_in cells n
rank-other [] zero one rest e = absurd (let d : ⊥ = cc in d)
rank-other [] (suc n) one rest e = absurd (let d : ⊥ = cc in d)
rank-other (Other o ∷ cells) zero one rest e = refl
rank-other (Byte y ∷ cells) zero one rest e = absurd (let d : ⊥ = cc in d)
rank-other (Other o ∷ cells) (suc n) one rest e = rank-other cells n one rest e
rank-other (Byte y ∷ cells) (suc n) one rest e = ap suc (rank-other cells n one rest e)

record RunCells (cells : List Cell) (n count : ℕ) (rest : List Cell) : Type 0 where
  bytes : AreBytes (rank_in cells) n (n + count)
  others : drop (n + count) cells ≡ rest

run-cells : (cells : List Cell) (n start count : ℕ) (rest : List Cell) → drop n cells ≡ byte_cells start count rest → RunCells cells n count rest
run-cells cells n start zero rest e = grind arith
run-cells cells n start (suc count) rest e =
    let x = item Own start (suc start) in
    let more = run-cells cells (suc n) (suc start) count rest (following cells n (Byte x) (byte_cells (suc start) count rest) e) in
    let z : n + suc count ≡ suc n + count = omega arith in
    record { bytes = λ i a b. go i a b more.bytes (nat_lt n i) refl; others = ap (λ k. drop k cells) z ∙ more.others }
  where
    first : rank_in cells (suc n) ≡ suc (rank_in cells n)
    first = rank-byte cells n (item Own start (suc start)) (byte_cells (suc start) count rest) e

    go : (i : ℕ) → n ≤ i → i < n + suc count → AreBytes (rank_in cells) (suc n) (suc n + count) → (b : Bool) → nat_lt n i ≡ b → rank_in cells (suc i) ≡ suc (rank_in cells i)
    go i a b more true z = let up = ltb-true n i z in more i (omega (arith, up)) (omega (arith, b))
    go i a b more false z = let up = ltb-false n i z in let same : n ≡ i = omega (arith, a, up) in subst (λ k. rank_in cells (suc k) ≡ suc (rank_in cells k)) same first

record Placed (cells : List Cell) (n : ℕ) (siblings runs : List Sibling) : Type 0 where
  ranked : AreRanked (rank_in cells) siblings
  runs_are : runs_alone (rank_in cells) siblings ≡ runs
  stand : StandFrom n siblings

other-placed : (cells : List Cell) (n : ℕ) (one : Inline) (rest : List Cell) (siblings : List Sibling) (runs : ℕ → List Sibling) → drop n cells ≡ Other one ∷ rest
    → Placed cells (suc n) siblings (runs (rank_in cells (suc n))) → Placed cells n (Plain n ∷ siblings) (runs (rank_in cells n))
other-placed cells n one rest siblings runs e h = grind (arith, rank-other)

item-placed : (kind : ItemKind) (x : Item) (cells rest : List Cell) (n : ℕ) (siblings runs : ℕ → List Sibling) → drop n cells ≡ cells_then kind x rest
    → ((m : ℕ) → drop m cells ≡ rest → Placed cells m (siblings m) (runs (rank_in cells m)))
    → Placed cells n (sibling_then n kind siblings) (run_then (rank_in cells n) kind runs)
item-placed (Delimiters run) x cells rest n siblings runs e h =
    let r = run-cells cells n x.start run.run_length rest e in
    let o = h (n + run.run_length) r.others in
    let f = rank-bytes (rank_in cells) n run.run_length r.bytes in
    record {
      ranked = (r.bytes, o.ranked);
      runs_are = ap (λ l. Delimiter (record { delimiter = run.delimiter; run_length = run.run_length; at = rank_in cells n; left = run.run_length; opens = run.opens; closes = run.closes }) ∷ l) (o.runs_are ∙ ap runs f);
      stand = (refl, refl, o.stand);
    }
item-placed kind x cells rest n siblings runs e h =
    other-placed cells n (Single x Nil) rest (siblings (suc n)) runs e (h (suc n) (following cells n (Other (Single x Nil)) rest e))

siblings-placed : (s : Inline) (cells : List Cell) (n : ℕ) → drop n cells ≡ cells_of s → Placed cells n (siblings_from s n) (runs_from s (rank_in cells n))
siblings-placed Nil cells n e = record { ranked = tt; runs_are = refl; stand = tt }
siblings-placed (Single x after) cells n e = item-placed x.kind x cells (cells_of after) n (siblings_from after) (runs_from after) e (siblings-placed after cells)
siblings-placed (Around tag start end inside after) cells n e =
    let one = Around tag start end inside Nil in
    other-placed cells n one (cells_of after) (siblings_from after (suc n)) (runs_from after) e
    (siblings-placed after cells (suc n) (following cells n (Other one) (cells_of after) e))

byte_count : (start count : ℕ) (rest : List Cell) → length (byte_cells start count rest) ≡ count + length rest
byte_count start zero rest = omega arith
byte_count start (suc count) rest = let i = byte_count (suc start) count rest in omega (arith, i)

item-count : (kind : ItemKind) (x : Item) (rest : List Cell) (n : ℕ) (siblings : ℕ → List Sibling) → ((m : ℕ) → places_taken (siblings m) ≡ length rest)
    → places_taken (sibling_then n kind siblings) ≡ length (cells_then kind x rest)
item-count (Delimiters run) x rest n siblings h = let i = h (n + run.run_length) in let j = byte_count x.start run.run_length rest in omega (arith, i, j)
item-count kind x rest n siblings h = ap suc (h (suc n))

count : (s : Inline) (n : ℕ) → places_taken (siblings_from s n) ≡ length (cells_of s)
count Nil n = refl
count (Single x after) n = item-count x.kind x (cells_of after) n (siblings_from after) (count after)
count (Around tag start end inside after) n = ap suc (count after (suc n))

-- both readings give the same
pub spans-placed : (options : Options) (s : Inline) → with_spans options (one_by_one s) (spans_of (siblings_from s 0)) ≡ dressed_all options s (spans_of (runs_from s 0))
spans-placed options s =
    let cells = cells_of s in
    let rank = rank_in cells in
    let c = cells-are s in
    let p = siblings-placed s cells 0 refl in
    let all = siblings_from s 0 in
    let taken = places_taken all in
    let f = spans_of all in
    let size = count s 0 in
    let none : lead (drop taken cells) ≡ Nil = ap lead (drop_all taken cells (omega (arith, size))) in
    let say = spans-say options cells f 0 taken (places all p.stand) (spans-fit rank all p.ranked) (omega (arith, size)) none in
    let alone : down rank f ≡ spans_of (runs_from s 0) = spans-ranked rank all p.ranked ∙ ap spans_of p.runs_are in
    ap (λ l. with_spans options l f) c.ones_are
    ∙ say
    ∙ ap (λ g. append (lead cells) (dressed options (gaps_in cells) (bytes_in cells) g)) alone
    ∙ ap (λ g. append g (dressed options (gaps_in cells) (bytes_in cells) (spans_of (runs_from s 0)))) (sym (first-gap cells))
    ∙ ap (λ l. append (get_or l 0 Nil) (dressed options l (bytes_in cells) (spans_of (runs_from s 0)))) (sym c.gaps_are)
    ∙ ap (λ l. append (get_or (gaps_of s) 0 Nil) (dressed options (gaps_of s) l (spans_of (runs_from s 0)))) (sym c.bytes_are)

-- the spans of the runs alone are those of all siblings
pub by-places : (options : Options) (siblings result : Inline) → IsDressedByRuns options siblings result → IsDressed options siblings result
by-places options siblings result h =
    let quoted = with_quotes siblings in
    record {
      pairs = pairs_of (siblings_from quoted 0);
      spans_are = spans_of (siblings_from quoted 0);
      emphasis = sound (siblings_from quoted 0);
      result_is = h.result_is ∙ ap (dressed_all options quoted) (one (runs_from quoted 0) h.pairs h.spans_are h.emphasis).1 ∙ sym (spans-placed options quoted);
    }

-- and the other way round
pub by-runs : (options : Options) (siblings result : Inline) → IsDressed options siblings result → IsDressedByRuns options siblings result
by-runs options siblings result h =
    let quoted = with_quotes siblings in
    record {
      pairs = pairs_of (runs_from quoted 0);
      spans_are = spans_of (runs_from quoted 0);
      emphasis = sound (runs_from quoted 0);
      result_is = h.result_is ∙ ap (with_spans options (one_by_one quoted)) (one (siblings_from quoted 0) h.pairs h.spans_are h.emphasis).1 ∙ spans-placed options quoted;
    }
