-- The kinds of spans that the delimiter runs of siblings form: those of the runs' delimiters.
use Rattle.std.specs.Prelude.{map}
use Rattle.std.proofs.Common.{◌≡◌, ℕ, zero, suc, ◌+◌, ◌-◌, nat_lt, List, [], ◌∷◌, ◌++◌, refl, sym, subst, arith}
use Rattle.cmark_grammar.specs.Emphasis.{Run, Pair, Sibling, Plain, Delimiter, Piece, Whole, Standing, pair_of, rest_of_opener, rest_of_closer, kinds_of, nest, wrapped, row, keep, deactivated, left_open, stand, Closes}
use Rattle.cmark_inline_model.specs.EmphasisModel.{closed, resolve, spans_of}
use Rattle.cmark_grammar.specs.Spans.{SpanKind, span_width, Spans, Nil, Single, Around, join, singles}
use Rattle.cmark_inline_model.proofs.EmphasisSound.{closed-closes}

mark_of_pair : (o c : Run) → (pair_of o c).delimiter ≡ c.delimiter
unfolding pair_of
mark_of_pair o c = refl

mark_of_rest : (o c : Run) → (rest_of_closer o c).delimiter ≡ c.delimiter
unfolding rest_of_closer
mark_of_rest o c = refl

module _ (Holds : SpanKind → Type 0) where
  abbrev pub AllKinds : List SpanKind → Type 0
  AllKinds [] = Unit {0}
  AllKinds (kind ∷ kinds) = Holds kind × AllKinds kinds

  abbrev pub AllSpans : Spans → Type 0
  AllSpans Nil = Unit {0}
  AllSpans (Single at after) = AllSpans after
  AllSpans (Around span inside after) = Holds span.kind × AllSpans inside × AllSpans after

  -- it holds of all spans that a pair of this delimiter becomes
  abbrev pub OfDelimiter : ℕ → Type 0
  OfDelimiter delimiter = (count : ℕ) → AllKinds (kinds_of delimiter count)

  abbrev pub OfRuns : List Sibling → Type 0
  OfRuns [] = Unit {0}
  OfRuns (Plain at ∷ siblings) = OfRuns siblings
  OfRuns (Delimiter run ∷ siblings) = OfDelimiter run.delimiter × OfRuns siblings

  abbrev OfPieces : List Piece → Type 0
  OfPieces [] = Unit {0}
  OfPieces (Whole f ∷ pieces) = AllSpans f × OfPieces pieces
  OfPieces (Standing run ∷ pieces) = OfPieces pieces

  join_holds : (f g : Spans) → AllSpans f → AllSpans g → AllSpans (join f g)
  join_holds Nil g h k = k
  join_holds (Single at after) g h k = join_holds after g h k
  join_holds (Around span inside after) g h k = (h.0, h.1, join_holds after g h.2 k)

  singles_hold : (at count : ℕ) (after : Spans) → AllSpans after → AllSpans (singles at count after)
  singles_hold at zero after h = h
  singles_hold at (suc count) after h = singles_hold (suc at) count after h

  nest_holds : (kinds : List SpanKind) (from to : ℕ) (f : Spans) → AllKinds kinds → AllSpans f → AllSpans (nest kinds from to f)
  nest_holds [] from to f h k = k
  nest_holds (kind ∷ kinds) from to f h k =
      nest_holds kinds (from - span_width kind) (to + span_width kind)
      (Around (record { kind = kind; start = from - span_width kind; end = to + span_width kind }) f Nil) h.1 (h.0, k, tt)

  row_holds : (pieces : List Piece) (after : Spans) → OfPieces pieces → AllSpans after → AllSpans (row pieces after)
  row_holds [] after h k = k
  row_holds (Whole f ∷ pieces) after h k = row_holds pieces (join f after) h.1 (join_holds f after h.0 k)
  row_holds (Standing run ∷ pieces) after h k = row_holds pieces (singles run.at run.left after) h (singles_hold run.at run.left after k)

  first_hold : (first others : List Piece) → OfPieces (first ++ others) → OfPieces first
  first_hold [] others h = tt
  first_hold (Whole f ∷ first) others h = (h.0, first_hold first others h.1)
  first_hold (Standing run ∷ first) others h = first_hold first others h

  others_hold : (first others : List Piece) → OfPieces (first ++ others) → OfPieces others
  others_hold [] others h = h
  others_hold (Whole f ∷ first) others h = others_hold first others h.1
  others_hold (Standing run ∷ first) others h = others_hold first others h

  keep_holds : (run : Run) (pieces : List Piece) → OfPieces pieces → OfPieces (keep run pieces)
  keep_holds run pieces h = grind (arith, nat_lt)

  stand_holds : (run : Run) (pieces : List Piece) → OfPieces pieces → OfPieces (stand run pieces)
  stand_holds run pieces h = grind (arith, keep_holds, singles_hold)

  deactivated_hold : (pieces : List Piece) → OfPieces pieces → OfPieces (map deactivated pieces)
  deactivated_hold [] h = tt
  deactivated_hold (Whole f ∷ pieces) h = (h.0, deactivated_hold pieces h.1)
  deactivated_hold (Standing run ∷ pieces) h = grind (arith, singles_hold, deactivated_hold pieces h)

  left_holds : (closer : Run) (pieces : List Piece) → OfPieces pieces → OfPieces (left_open closer pieces)
  left_holds closer pieces h = grind (arith, deactivated_hold)

  wrapped_holds : (o c : Run) (inside : Spans) → OfDelimiter c.delimiter → AllSpans inside → AllSpans (wrapped (pair_of o c) inside)
  wrapped_holds o c inside delimiter h = grind (arith, nest_holds, mark_of_pair)

  closes_hold : (pairs : List Pair) (c d : Run) (pieces now : List Piece) → Closes c pieces pairs d now → OfDelimiter c.delimiter → OfPieces pieces → OfPieces now
  closes_hold [] c d pieces now h delimiter k = subst OfPieces (sym h.2) (left_holds c pieces k)
  closes_hold (pair ∷ more) c d pieces now h delimiter k =
      let cut : OfPieces (h.between ++ (Standing h.opener ∷ h.front)) = subst OfPieces h.cut k in
      let inner = row_holds h.between Nil (first_hold h.between (Standing h.opener ∷ h.front) cut) tt in
      let own : AllSpans (wrapped pair (row h.between Nil)) =
      subst (λ p. AllSpans (wrapped p (row h.between Nil))) (sym h.is) (wrapped_holds h.opener c (row h.between Nil) delimiter inner) in
      closes_hold more (rest_of_closer h.opener c) d (Whole (wrapped pair (row h.between Nil)) ∷ keep (rest_of_opener h.opener c) h.front) now h.so
      (subst OfDelimiter (sym (mark_of_rest h.opener c)) delimiter)
      (own, keep_holds (rest_of_opener h.opener c) h.front (others_hold h.between (Standing h.opener ∷ h.front) cut))

  resolve_holds : (siblings : List Sibling) (pieces : List Piece) → OfRuns siblings → OfPieces pieces → OfPieces (resolve siblings pieces).pieces
  resolve_holds [] pieces h k = k
  resolve_holds (Plain at ∷ siblings) pieces h k = resolve_holds siblings (Whole (Single at Nil) ∷ pieces) h (tt, k)
  resolve_holds (Delimiter run ∷ siblings) pieces h k =
      let d = closed run pieces in
      resolve_holds siblings (stand d.rest d.pieces) h.1
      (stand_holds d.rest d.pieces (closes_hold d.pairs run d.rest pieces d.pieces (closed-closes run pieces) h.0 k))

  pub spans-hold : (siblings : List Sibling) → OfRuns siblings → AllSpans (spans_of siblings)
  spans-hold siblings h = row_holds (resolve siblings []).pieces Nil (resolve_holds siblings [] h tt) tt
