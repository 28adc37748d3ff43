-- The spans of the pairs of siblings are the spans of the siblings, in the order in which they end.
use Rattle.std.proofs.Common.{◌≡◌, ℕ, zero, suc, ◌+◌, ◌-◌, ◌≤◌, Bool, true, false, nat_lt, if◌then◌else◌, List, [], ◌∷◌, ◌++◌, refl, sym, ap, ◌∙◌, append_assoc, append-nil, arith}
use Rattle.std.specs.Prelude.{map}
use Rattle.std.proofs.lemmas.List.{map-append}
use Rattle.cmark_grammar.specs.Spans.{Span, SpanKind, Emphasis, Strong, SingleTilde, DoubleTilde, Caret, DoubleEquals, span_width, Spans, Nil, Single, Around, join, singles}
use Rattle.cmark_grammar.specs.Emphasis.{Run, Pair, Sibling, Plain, Delimiter, Piece, Whole, Standing, IsEmphasis, Pairs, Closes, before, row, keep, deactivates, deactivated, is_tilde_or_caret, kinds_of, left_open, nest, rest_of_closer, rest_of_opener, stand, wrapped}
use Rattle.cmark_emphasis.proofs.Moved.{AreMovedPairs, IsMovedPair}
use Rattle.cmark_inline_model.proofs.SpanPlaces.{widths, widths-kinds}
use Rattle.cmark_slots.specs.PairSlots.{AreOpen, spans_around, spans_of_pair, spans_of_pairs}

-- the spans, each after those inside it
abbrev pub spans_in : Spans → List Span
spans_in Nil = []
spans_in (Single at after) = spans_in after
spans_in (Around span inside after) = spans_in inside ++ (span ∷ spans_in after)

in-join : (a b : Spans) → spans_in (join a b) ≡ spans_in a ++ spans_in b
in-join Nil b = refl
in-join (Single at after) b = in-join after b
in-join (Around span inside after) b = ap (λ l. spans_in inside ++ (span ∷ l)) (in-join after b) ∙ sym (append_assoc (spans_in inside) (span ∷ spans_in after) (spans_in b))

in-singles : (at n : ℕ) (after : Spans) → spans_in (singles at n after) ≡ spans_in after
in-singles at zero after = refl
in-singles at (suc n) after = in-singles (suc at) n after

in-nest : (kinds : List SpanKind) (from to : ℕ) (inside : Spans) → spans_in (nest kinds from to inside) ≡ spans_in inside ++ spans_around kinds from to
in-nest [] from to inside = sym (append-nil (spans_in inside))
in-nest (k ∷ kinds) from to inside =
    let span : Span = record { kind = k; start = from - span_width k; end = to + span_width k } in
    in-nest kinds (from - span_width k) (to + span_width k) (Around span inside Nil) ∙ append_assoc (spans_in inside) (span ∷ []) (spans_around kinds (from - span_width k) (to + span_width k))

abbrev piece_in : Piece → List Span
piece_in (Whole spans) = spans_in spans
piece_in (Standing run) = []

abbrev pieces_in : List Piece → List Span
pieces_in [] = []
pieces_in (piece ∷ pieces) = pieces_in pieces ++ piece_in piece

in-before : (piece : Piece) (after : Spans) → spans_in (before piece after) ≡ piece_in piece ++ spans_in after
in-before (Whole spans) after = in-join spans after
in-before (Standing run) after = in-singles run.at run.left after

in-row : (pieces : List Piece) (after : Spans) → spans_in (row pieces after) ≡ pieces_in pieces ++ spans_in after
in-row [] after = refl
in-row (piece ∷ pieces) after =
    in-row pieces (before piece after) ∙ ap (λ l. pieces_in pieces ++ l) (in-before piece after) ∙ sym (append_assoc (pieces_in pieces) (piece_in piece) (spans_in after))

in-append : (xs ys : List Piece) → pieces_in (xs ++ ys) ≡ pieces_in ys ++ pieces_in xs
in-append [] ys = sym (append-nil (pieces_in ys))
in-append (x ∷ xs) ys = ap (λ l. l ++ piece_in x) (in-append xs ys) ∙ append_assoc (pieces_in ys) (pieces_in xs) (piece_in x)

in-keep : (run : Run) (pieces : List Piece) → pieces_in (keep run pieces) ≡ pieces_in pieces
in-keep run pieces = go (nat_lt 0 run.left)
  where
    go : (b : Bool) → pieces_in (if b then Standing run ∷ pieces else pieces) ≡ pieces_in pieces
    go true = append-nil (pieces_in pieces)
    go false = refl

in-shut : (piece : Piece) → piece_in (deactivated piece) ≡ piece_in piece
in-shut (Whole spans) = refl
in-shut (Standing run) = go (is_tilde_or_caret run.delimiter)
  where
    go : (b : Bool) → piece_in (if b then Whole (singles run.at run.left Nil) else Standing run) ≡ []
    go true = in-singles run.at run.left Nil
    go false = refl

in-deactivated : (pieces : List Piece) → pieces_in (map deactivated pieces) ≡ pieces_in pieces
in-deactivated [] = refl
in-deactivated (piece ∷ pieces) = ap (λ l. l ++ piece_in (deactivated piece)) (in-deactivated pieces) ∙ ap (λ l. pieces_in pieces ++ l) (in-shut piece)

in-left : (closer : Run) (pieces : List Piece) → pieces_in (left_open closer pieces) ≡ pieces_in pieces
in-left closer pieces = go (deactivates closer)
  where
    go : (b : Bool) → pieces_in (if b then map deactivated pieces else pieces) ≡ pieces_in pieces
    go true = in-deactivated pieces
    go false = refl

in-stand : (run : Run) (pieces : List Piece) → pieces_in (stand run pieces) ≡ pieces_in pieces
in-stand run pieces = go run.opens
  where
    go : (b : Bool) → pieces_in (if b then keep run pieces else Whole (singles run.at run.left Nil) ∷ pieces) ≡ pieces_in pieces
    go true = in-keep run pieces
    go false = ap (λ l. pieces_in pieces ++ l) (in-singles run.at run.left Nil) ∙ append-nil (pieces_in pieces)

of-append : (a b : List Pair) → spans_of_pairs (a ++ b) ≡ spans_of_pairs a ++ spans_of_pairs b
of-append [] b = refl
of-append (p ∷ a) b = ap (λ l. spans_of_pair p ++ l) (of-append a b) ∙ sym (append_assoc (spans_of_pair p) (spans_of_pairs a) (spans_of_pairs b))

-- a pair is written around what stands between its runs
in-wrapped : (pair : Pair) (pieces between front keeps : List Piece) (opener : Run) → pieces ≡ between ++ (Standing opener ∷ front) → pieces_in keeps ≡ pieces_in front
    → pieces_in keeps ++ spans_in (wrapped pair (row between Nil)) ≡ pieces_in pieces ++ spans_of_pair pair
in-wrapped pair pieces between front keeps opener cut kept =
    ap (λ l. l ++ spans_in (wrapped pair (row between Nil))) kept
    ∙ ap (λ l. pieces_in front ++ l) (in-nest (kinds_of pair.delimiter pair.count) pair.from pair.to (row between Nil) ∙ ap (λ l. l ++ spans_of_pair pair) (in-row between Nil ∙ append-nil (pieces_in between)))
    ∙ sym (append_assoc (pieces_in front) (pieces_in between) (spans_of_pair pair))
    ∙ ap (λ l. l ++ spans_of_pair pair) (sym (ap pieces_in cut ∙ in-append between (Standing opener ∷ front) ∙ ap (λ l. l ++ pieces_in between) (append-nil (pieces_in front))))

in-closes : (closer : Run) (pieces : List Piece) (pairs : List Pair) (rest : Run) (now : List Piece) → Closes closer pieces pairs rest now → pieces_in now ≡ pieces_in pieces ++ spans_of_pairs pairs
in-closes closer pieces [] rest now h = ap pieces_in h.2 ∙ in-left closer pieces ∙ sym (append-nil (pieces_in pieces))
in-closes closer pieces (pair ∷ more) rest now h =
    in-closes (rest_of_closer h.opener closer) (Whole (wrapped pair (row h.between Nil)) ∷ keep (rest_of_opener h.opener closer) h.front) more rest now h.so
    ∙ ap (λ l. l ++ spans_of_pairs more) (in-wrapped pair pieces h.between h.front (keep (rest_of_opener h.opener closer) h.front) h.opener h.cut (in-keep (rest_of_opener h.opener closer) h.front))
    ∙ append_assoc (pieces_in pieces) (spans_of_pair pair) (spans_of_pairs more)

in-pairs : (siblings : List Sibling) (pieces : List Piece) (pairs : List Pair) (last : List Piece) → Pairs siblings pieces pairs last → pieces_in last ≡ pieces_in pieces ++ spans_of_pairs pairs
in-pairs [] pieces pairs last h = ap pieces_in h.1 ∙ sym (append-nil (pieces_in pieces)) ∙ ap (λ ps. pieces_in pieces ++ spans_of_pairs ps) (sym h.0)
in-pairs (Plain at ∷ siblings) pieces pairs last h =
    in-pairs siblings (Whole (Single at Nil) ∷ pieces) pairs last h ∙ ap (λ l. l ++ spans_of_pairs pairs) (append-nil (pieces_in pieces))
in-pairs (Delimiter run ∷ siblings) pieces pairs last h =
    in-pairs siblings (stand h.rest h.now) h.others last h.so
    ∙ ap (λ l. l ++ spans_of_pairs h.others) (in-stand h.rest h.now ∙ in-closes run pieces h.own h.rest h.now h.closes)
    ∙ append_assoc (pieces_in pieces) (spans_of_pairs h.own) (spans_of_pairs h.others)
    ∙ ap (λ l. pieces_in pieces ++ l) (sym (of-append h.own h.others) ∙ ap spans_of_pairs (sym h.cut))

pub spans-are : (siblings : List Sibling) (pairs : List Pair) (spans : Spans) → IsEmphasis siblings pairs spans → spans_of_pairs pairs ≡ spans_in spans
spans-are siblings pairs spans e = sym (ap spans_in e.become ∙ in-row e.last Nil ∙ append-nil (pieces_in e.last) ∙ in-pairs siblings [] pairs e.last e.are)

-- ## Spans at other places

pub wide-enough : (k : SpanKind) → (1 ≤ span_width k) × (span_width k ≤ 2)
wide-enough Emphasis = (omega arith, omega arith)
wide-enough Strong = (omega arith, omega arith)
wide-enough SingleTilde = (omega arith, omega arith)
wide-enough DoubleTilde = (omega arith, omega arith)
wide-enough Caret = (omega arith, omega arith)
wide-enough DoubleEquals = (omega arith, omega arith)

module _ (place : ℕ → ℕ) where
  -- each end is the place after the last byte
  abbrev pub moved_span : Span → Span
  moved_span span = record { kind = span.kind; start = place span.start; end = place (span.end - 1) + 1 }

  -- the two bytes that open a span of width 2 have places next to each other, and so have those that close it
  abbrev pub IsTight : Span → Type 0
  IsTight span = span_width span.kind ≡ 2 → (place (suc span.start) ≡ suc (place span.start)) × (suc (place (span.end - 2)) ≡ place (span.end - 1))

  abbrev pub AreTightAll : List Span → Type 0
  AreTightAll [] = Unit {0}
  AreTightAll (span ∷ spans) = IsTight span × AreTightAll spans

  pub tight-append : (a b : List Span) → AreTightAll a → AreTightAll b → AreTightAll (a ++ b)
  tight-append [] b h k = k
  tight-append (x ∷ a) b h k = (h.0, tight-append a b h.1 k)

  abbrev AreMovedSpans : (spans moved : List Span) → Type 0
  AreMovedSpans spans moved = (moved ≡ map moved_span spans) × AreTightAll spans

  around-moved : (pair moved : Pair) (h : IsMovedPair place pair moved) (kinds : List SpanKind) (used from to from1 to1 : ℕ) → used + widths kinds ≤ pair.count
      → from ≡ pair.from - used → to ≡ pair.to + used → from1 ≡ moved.from - used → to1 ≡ moved.to + used → AreMovedSpans (spans_around kinds from to) (spans_around kinds from1 to1)
  around-moved pair moved h [] used from to from1 to1 le f t f1 t1 = (refl, tt)
  around-moved pair moved h (k ∷ kinds) used from to from1 to1 le f t f1 t1 =
      let others = around-moved pair moved h kinds (used + w) (from - w) (to + w) (from1 - w) (to1 + w) (omega (arith, le)) (omega (arith, f)) (omega (arith, t)) (omega (arith, f1)) (omega (arith, t1)) in
      (ap (λ (s : Span). s ∷ spans_around kinds (from1 - w) (to1 + w)) first ∙ ap (λ l. moved_span span ∷ l) others.0, (tight, others.1))
    where
      w : ℕ
      w = span_width k

      span : Span
      span = record { kind = k; start = from - w; end = to + w }

      some : (1 ≤ span_width k) × (span_width k ≤ 2)
      some = wide-enough k

      start : place (from - w) ≡ from1 - w
      start =
          let one = some.0 in
          ap place (let q : from - w ≡ pair.from - suc (used + w - 1) = omega (arith, f, one) in q) ∙ h.opening (used + w - 1) (omega (arith, le, one)) ∙ (let q : moved.from - suc (used + w - 1) ≡ from1 - w = omega (arith, f1, one) in q)

      end : place (to + w - 1) + 1 ≡ to1 + w
      end =
          let one = some.0 in
          let there = ap place (let q : to + w - 1 ≡ pair.to + (used + w - 1) = omega (arith, t, one) in q) ∙ h.closing (used + w - 1) (omega (arith, le, one)) in
          omega (arith, there, t1, one)

      first : record { kind = k; start = from1 - w; end = to1 + w } ≡ moved_span span
      first = ap (λ n. record { kind = k; start = n; end = to1 + w }) (sym start) ∙ ap (λ n. record { kind = k; start = place (from - w); end = n }) (sym end)

      tight : IsTight span
      tight two =
          let opens = h.opens in
          let moved_opens = h.moved_opens in
          let second = ap place (let q : suc (from - w) ≡ pair.from - suc used = omega (arith, f, two, le, opens) in q) ∙ h.opening used (omega (arith, le, two)) in
          let before_last = ap place (let q : to + w - 2 ≡ pair.to + used = omega (arith, t, two) in q) ∙ h.closing used (omega (arith, le, two)) in
          let a = start in
          let b = end in (
            (let q : place (suc (from - w)) ≡ suc (place (from - w)) = omega (arith, second, a, f1, two, le, moved_opens) in q),
            (let q : suc (place (to + w - 2)) ≡ place (to + w - 1) = omega (arith, before_last, b, t1, two) in q),
          )

  pair-moved : (pair moved : Pair) → IsMovedPair place pair moved → AreMovedSpans (spans_of_pair pair) (spans_of_pair moved)
  pair-moved pair moved h =
      let kinds = kinds_of pair.delimiter pair.count in
      let same : kinds_of moved.delimiter moved.count ≡ kinds = ap (λ d. kinds_of d moved.count) h.delimiter ∙ ap (kinds_of pair.delimiter) h.count in
      let all = widths-kinds pair.delimiter pair.count in
      let made = around-moved pair moved h kinds 0 pair.from pair.to moved.from moved.to (omega (arith, all)) (omega arith) (omega arith) (omega arith) (omega arith) in
      (ap (λ ks. spans_around ks moved.from moved.to) same ∙ made.0, made.1)

  pub pairs-moved : (pairs moved : List Pair) → AreMovedPairs place pairs moved → AreMovedSpans (spans_of_pairs pairs) (spans_of_pairs moved)
  pairs-moved [] [] h = (refl, tt)
  pairs-moved [] (m ∷ moved) h = absurd h
  pairs-moved (p ∷ pairs) [] h = absurd h
  pairs-moved (p ∷ pairs) (m ∷ moved) h =
      let one = pair-moved p m h.0 in
      let others = pairs-moved pairs moved h.1 in (
        ap (λ l. l ++ spans_of_pairs moved) one.0 ∙ ap (λ l. map moved_span (spans_of_pair p) ++ l) others.0 ∙ sym (map-append moved_span (spans_of_pair p) (spans_of_pairs pairs)),
        tight-append (spans_of_pair p) (spans_of_pairs pairs) one.1 others.1,
      )

  pub pairs-open : (pairs moved : List Pair) → AreMovedPairs place pairs moved → AreOpen moved
  pairs-open [] [] h = tt
  pairs-open [] (m ∷ moved) h = absurd h
  pairs-open (p ∷ pairs) [] h = absurd h
  pairs-open (p ∷ pairs) (m ∷ moved) h =
      let n = h.0.count in
      let o = h.0.moved_opens in
      ((let q : m.count ≤ m.from = omega (arith, n, o) in q), pairs-open pairs moved h.1)
