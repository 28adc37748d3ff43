-- The bytes that open a span are in one run, and so are those that close it: there is nothing between them.
use Rattle.std.proofs.Common.{◌≡◌, ℕ, zero, suc, ◌+◌, ◌-◌, ◌<◌, ◌≤◌, nat_lt, List, [], ◌∷◌, ◌++◌, get_or, refl, sym, ap, ◌∙◌, subst, arith, map}
use Rattle.cmark_grammar.specs.Emphasis.{Run, Pair, Sibling, Plain, Delimiter, Piece, Whole, Standing}
use Rattle.cmark_grammar.specs.Emphasis.{paired_count, pair_of, rest_of_opener, rest_of_closer, kinds_of, nest, wrapped, row, keep, deactivated, left_open, stand, Closes}
use Rattle.cmark_inline_model.specs.EmphasisModel.{closed, resolve, spans_of}
use Rattle.cmark_grammar.specs.Items.{ItemKind, Delimiters, Item}
use Rattle.cmark_grammar.specs.Siblings.{Inline, Nil as NoSiblings, Single as SingleItem, Around as Element}
use Rattle.cmark_inline_model.specs.RunSpans.{run_then, runs_from, put_gap, no_gaps, gap_then, gaps_of}
use Rattle.cmark_grammar.specs.Spans.{SpanKind, span_width, Spans, Nil, Single, Around, join, singles}
use Rattle.cmark_inline_model.specs.SlotRows.{AreTight}
use Rattle.cmark_inline_model.proofs.EmphasisSound.{closed-closes}
use Rattle.cmark_inline_model.proofs.SpanPlaces.{widths, widths-kinds, count-opener, count-closer}

module _ (E : ℕ → Type 0) where
  abbrev pub TightRun : Run → Type 0
  TightRun run = (i : ℕ) → run.at < i → i < run.at + run.left → E i

  abbrev pub TightPieces : List Piece → Type 0
  TightPieces [] = Unit {0}
  TightPieces (Whole f ∷ ps) = AreTight E f × TightPieces ps
  TightPieces (Standing r ∷ ps) = TightRun r × TightPieces ps

  abbrev pub TightSiblings : List Sibling → Type 0
  TightSiblings [] = Unit {0}
  TightSiblings (Plain at ∷ ts) = TightSiblings ts
  TightSiblings (Delimiter run ∷ ts) = TightRun run × TightSiblings ts

  tight-join : (f g : Spans) → AreTight E f → AreTight E g → AreTight E (join f g)
  tight-join Nil g h k = k
  tight-join (Single at after) g h k = tight-join after g h k
  tight-join (Around s inside after) g h k = (h.0, h.1, tight-join after g h.2 k)

  tight-singles : (c at : ℕ) (g : Spans) → AreTight E g → AreTight E (singles at c g)
  tight-singles zero at g h = h
  tight-singles (suc c) at g h = tight-singles c (suc at) g h

  tight-row : (ps : List Piece) (g : Spans) → TightPieces ps → AreTight E g → AreTight E (row ps g)
  tight-row [] g h k = k
  tight-row (Whole f ∷ ps) g h k = tight-row ps (join f g) h.1 (tight-join f g h.0 k)
  tight-row (Standing r ∷ ps) g h k = tight-row ps (singles r.at r.left g) h.1 (tight-singles r.left r.at g k)

  tight-nest : (ks : List SpanKind) (from to : ℕ) (f : Spans) → widths ks ≤ from → ((i : ℕ) → from - widths ks < i → i < from → E i) → ((i : ℕ) → to < i → i < to + widths ks → E i) → AreTight E f
      → AreTight E (nest ks from to f)
  tight-nest [] from to f le h k t = t
  tight-nest (kind ∷ ks) from to f le h k t =
      let w = span_width kind in
      tight-nest ks (from - w) (to + w) (Around (record { kind = kind; start = from - w; end = to + w }) f Nil) (omega (arith, le)) (λ i a b. h i (omega (arith, le, a, b)) (omega (arith, a, b)))
      (λ i a b. k i (omega (arith, a)) (omega (arith, b))) (own, t, tt)
    where
      own : span_width kind ≡ 2 → E (suc (from - span_width kind)) × E ((to + span_width kind) - 1)
      own two = (h (suc (from - span_width kind)) (omega (arith, le, two)) (omega (arith, le, two)), k ((to + span_width kind) - 1) (omega (arith, two)) (omega (arith, two)))

  tight-cut : (b rest : List Piece) → TightPieces (b ++ rest) → TightPieces b × TightPieces rest
  tight-cut [] rest h = (tt, h)
  tight-cut (Whole f ∷ b) rest h = let i = tight-cut b rest h.1 in ((h.0, i.0), i.1)
  tight-cut (Standing r ∷ b) rest h = let i = tight-cut b rest h.1 in ((h.0, i.0), i.1)

  tight-keep : (r : Run) (ps : List Piece) → TightRun r → TightPieces ps → TightPieces (keep r ps)
  tight-keep r ps h k = grind (arith, nat_lt)

  tight-stand : (r : Run) (ps : List Piece) → TightRun r → TightPieces ps → TightPieces (stand r ps)
  tight-stand r ps h k = grind (arith, tight-keep, tight-singles)

  tight-deactivated : (ps : List Piece) → TightPieces ps → TightPieces (map deactivated ps)
  tight-deactivated [] h = tt
  tight-deactivated (Whole f ∷ ps) h = (h.0, tight-deactivated ps h.1)
  tight-deactivated (Standing r ∷ ps) h = grind (arith, tight-singles, tight-deactivated ps h.1)

  tight-left : (c : Run) (ps : List Piece) → TightPieces ps → TightPieces (left_open c ps)
  tight-left c ps h = grind (arith, tight-deactivated)

  tight-pair : (b : List Piece) (o c : Run) (front : List Piece) → TightPieces (b ++ (Standing o ∷ front)) → TightRun c
      → TightPieces (Whole (wrapped (pair_of o c) (row b Nil)) ∷ keep (rest_of_opener o c) front) × TightRun (rest_of_closer o c)
  unfolding rest_of_opener rest_of_closer pair_of
  tight-pair b o c front h k =
      let n = paired_count o c in
      let ks = kinds_of c.delimiter n in
      let w : widths ks ≡ n = widths-kinds c.delimiter n in
      let le = count-opener o c in
      let le' = count-closer o c in
      let i = tight-cut b (Standing o ∷ front) h in
      let opener : TightRun o = i.1.0 in
      let inside : AreTight E (row b Nil) = tight-row b Nil i.0 tt in
      let nested = tight-nest ks (o.at + o.left) c.at (row b Nil) (omega (arith, w, le)) (λ j x y. opener j (omega (arith, w, le, x)) y) (λ j x y. k j x (omega (arith, w, le', y))) inside in
      ((nested, tight-keep (rest_of_opener o c) front (λ j x y. opener j x (omega (arith, le, y))) i.1.1), λ j x y. k j (omega (arith, x)) (omega (arith, le', x, y)))

  pub record Went (d : Run) (qs : List Piece) : Type 0 where
    pub pieces : TightPieces qs
    pub rest : TightRun d

  goes : (pairs : List Pair) (c d : Run) (ps qs : List Piece) → Closes c ps pairs d qs → TightPieces ps → TightRun c → Went d qs
  goes [] c d ps qs h r k = subst (λ x. Went x qs) (sym h.1) (subst (λ l. Went c l) (sym h.2) (record { pieces = tight-left c ps r; rest = k }))
  goes (p ∷ more) c d ps qs h r k =
      let i = tight-pair h.between h.opener c h.front (subst TightPieces h.cut r) k in
      goes more (rest_of_closer h.opener c) d (Whole (wrapped p (row h.between Nil)) ∷ keep (rest_of_opener h.opener c) h.front) qs h.so
      (subst (λ q. TightPieces (Whole (wrapped q (row h.between Nil)) ∷ keep (rest_of_opener h.opener c) h.front)) (sym h.is) i.0) i.1

  resolved-tight : (ts : List Sibling) (ps : List Piece) → TightPieces ps → TightSiblings ts → TightPieces (resolve ts ps).pieces
  resolved-tight [] ps h k = h
  resolved-tight (Plain at ∷ ts) ps h k = resolved-tight ts (Whole (Single at Nil) ∷ ps) (tt, h) k
  resolved-tight (Delimiter c ∷ ts) ps h k =
      let d = closed c ps in
      let w = goes d.pairs c d.rest ps d.pieces (closed-closes c ps) h k.0 in
      resolved-tight ts (stand d.rest d.pieces) (tight-stand d.rest d.pieces w.rest w.pieces) k.1

  pub spans-tight : (ts : List Sibling) → TightSiblings ts → AreTight E (spans_of ts)
  spans-tight ts h = tight-row (resolve ts []).pieces Nil (resolved-tight ts [] tt h) tt

-- siblings before a list of gaps do not change the gaps after the first
pub put-rest : (put : Inline → Inline) (gaps : List Inline) (i : ℕ) → get_or (put_gap put gaps) (suc i) NoSiblings ≡ get_or gaps (suc i) NoSiblings
put-rest put [] i = refl
put-rest put (g ∷ gaps) i = refl

no-gaps-here : (n i : ℕ) (gaps : List Inline) → i < n → get_or (no_gaps n gaps) i NoSiblings ≡ NoSiblings
no-gaps-here zero i gaps h = absurd (omega (arith, h))
no-gaps-here (suc n) zero gaps h = refl
no-gaps-here (suc n) (suc i) gaps h = no-gaps-here n i gaps (omega (arith, h))

no-gaps-following : (n i : ℕ) (gaps : List Inline) → get_or (no_gaps n gaps) (n + i) NoSiblings ≡ get_or gaps i NoSiblings
no-gaps-following zero i gaps = let e : 0 + i ≡ i = omega arith in ap (λ j. get_or gaps j NoSiblings) e
no-gaps-following (suc n) i gaps = grind (arith, no-gaps-following n i gaps)

-- the gaps after the first byte that are empty are so from this index on
abbrev Empties : (E : ℕ → Type 0) → ℕ → List Inline → Type 0
Empties E n gaps = (j : ℕ) → 0 < j → get_or gaps j NoSiblings ≡ NoSiblings → E (n + j)

empties-put : (E : ℕ → Type 0) (n : ℕ) (put : Inline → Inline) (gaps : List Inline) → Empties E n (put_gap put gaps) → Empties E n gaps
empties-put E n put gaps h zero k e = absurd (omega (arith, k))
empties-put E n put gaps h (suc j) k e = h (suc j) k (put-rest put gaps j ∙ e)

item-tight : (E : ℕ → Type 0) (kind : ItemKind) (x : Item) (after : Inline) (n : ℕ) → ((m : ℕ) → Empties E m (gaps_of after) → TightSiblings E (runs_from after m))
    → Empties E n (gap_then kind x (gaps_of after)) → TightSiblings E (run_then n kind (runs_from after))
item-tight E (Delimiters run) x after n ih h =
    let own : TightRun E (record { delimiter = run.delimiter; run_length = run.run_length; at = n; left = run.run_length; opens = run.opens; closes = run.closes }) =
    λ i a b. let e : n + (i - n) ≡ i = omega (arith, a) in subst E e (h (i - n) (omega (arith, a)) (no-gaps-here run.run_length (i - n) (gaps_of after) (omega (arith, a, b)))) in
    (own, ih (n + run.run_length) (λ j k e. let s : n + (run.run_length + j) ≡ (n + run.run_length) + j = omega arith in subst E s (h (run.run_length + j) (omega (arith, k)) (no-gaps-following run.run_length j (gaps_of after) ∙ e))))
item-tight E kind x after n ih h = ih n (empties-put E n (SingleItem x) (gaps_of after) h)

runs-tight : (E : ℕ → Type 0) (siblings : Inline) (n : ℕ) → Empties E n (gaps_of siblings) → TightSiblings E (runs_from siblings n)
runs-tight E NoSiblings n h = tt
runs-tight E (SingleItem x after) n h = item-tight E x.kind x after n (runs-tight E after) h
runs-tight E (Element tag start end inside after) n h = runs-tight E after n (empties-put E n (Element tag start end inside) (gaps_of after) h)

pub tight : (siblings : Inline) → AreTight (λ i. get_or (gaps_of siblings) i NoSiblings ≡ NoSiblings) (spans_of (runs_from siblings 0))
tight siblings =
    spans-tight (λ i. get_or (gaps_of siblings) i NoSiblings ≡ NoSiblings) (runs_from siblings 0)
    (runs-tight (λ i. get_or (gaps_of siblings) i NoSiblings ≡ NoSiblings) siblings 0
    (λ j k e. let s : j ≡ 0 + j = omega arith in subst (λ i. get_or (gaps_of siblings) i NoSiblings ≡ NoSiblings) s e))
