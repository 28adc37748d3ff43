-- The spans of siblings take the places of the siblings.
use Rattle.std.proofs.Common.{◌≡◌, ℕ, zero, suc, ◌+◌, ◌-◌, ◌≤◌, ◌==◌, Bool, nat_lt, if◌then◌else◌, List, [], ◌∷◌, ◌++◌, refl, sym, ◌∙◌, subst, arith, rules}
use Rattle.std.specs.Prelude.{map}
use Rattle.std.proofs.lemmas.Bool.{ltb-true, ltb-false}
use Rattle.cmark_grammar.specs.Spans.{SpanKind, span_width, Spans, Nil, Single, Around, join, singles, TakePlaces}
use Rattle.cmark_grammar.specs.Emphasis.{Run, Pair, Sibling, Plain, Delimiter, Piece, Whole, Standing, StandFrom, places_taken}
use Rattle.cmark_grammar.specs.Emphasis.{paired_count, pair_of, rest_of_opener, rest_of_closer, emphasis_kinds, tilde_kinds, caret_kinds, equals_kinds, kinds_of, nest, wrapped, row, keep, deactivated, left_open, stand, Closes}
use Rattle.cmark_inline_model.specs.EmphasisModel.{closed, resolve, spans_of}
use Rattle.cmark_inline_model.proofs.EmphasisSound.{closed-closes}

-- how many bytes open spans of these kinds
abbrev pub widths : List SpanKind → ℕ
widths [] = 0
widths (kind ∷ kinds) = widths kinds + span_width kind

widths-emphasis : (n : ℕ) → widths (emphasis_kinds n) ≡ n
widths-emphasis (suc (suc n)) = let i = widths-emphasis n in omega (arith, i)
widths-emphasis _ = refl

widths-tilde : (n : ℕ) → widths (tilde_kinds n) ≡ n
widths-tilde (suc (suc n)) = let i = widths-tilde n in omega (arith, i)
widths-tilde _ = refl

widths-caret : (n : ℕ) → widths (caret_kinds n) ≡ n
widths-caret zero = refl
widths-caret (suc n) = let i = widths-caret n in omega (arith, i)

widths-equals : (n : ℕ) → widths (equals_kinds n) ≡ n
widths-equals (suc (suc n)) = let i = widths-equals n in omega (arith, i)
widths-equals _ = refl

pub widths-kinds : (delimiter n : ℕ) → widths (kinds_of delimiter n) ≡ n
unfolding kinds_of
widths-kinds delimiter n = go (delimiter == 126) (delimiter == 94) (delimiter == 61)
  where
    go : (a b c : Bool) → widths (if a then tilde_kinds n else if b then caret_kinds n else if c then equals_kinds n else emphasis_kinds n) ≡ n
    go a b c = grind (arith, widths-tilde, widths-caret, widths-equals, widths-emphasis)

pub count-opener : (o c : Run) → paired_count o c ≤ o.left
count-opener o c = grind (arith, nat_lt, ltb-false)

pub count-closer : (o c : Run) → paired_count o c ≤ c.left
count-closer o c = grind (arith, nat_lt, ltb-true)

takes-join : (f g : Spans) (n k m : ℕ) → TakePlaces n f k → TakePlaces k g m → TakePlaces n (join f g) m
takes-join Nil g n k m h i = subst (λ j. TakePlaces j g m) (sym h) i
takes-join (Single at after) g n k m h i = (h.0, takes-join after g (suc n) k m h.1 i)
takes-join (Around s inside after) g n k m h i = record { mid = h.mid; start = h.start; inside = h.inside; end = h.end; after = takes-join after g s.end k m h.after i }

takes-singles : (c n m : ℕ) (g : Spans) → TakePlaces (n + c) g m → TakePlaces n (singles n c g) m
takes-singles zero n m g h = let e : n + 0 ≡ n = omega arith in subst (λ k. TakePlaces k g m) e h
takes-singles (suc c) n m g h = let e : n + suc c ≡ suc n + c = omega arith in (refl, takes-singles c (suc n) m g (subst (λ k. TakePlaces k g m) e h))

takes-nest : (ks : List SpanKind) (from to : ℕ) (f : Spans) → widths ks ≤ from → TakePlaces from f to → TakePlaces (from - widths ks) (nest ks from to f) (to + widths ks)
takes-nest [] from to f le h = grind arith
takes-nest (k ∷ ks) from to f le h =
    let w = span_width k in
    let a : from ≡ (from - w) + w = omega (arith, le) in
    let inner = takes-nest ks (from - w) (to + w) (Around (record { kind = k; start = from - w; end = to + w }) f Nil) (omega (arith, le))
    (record { mid = to; start = refl; inside = subst (λ j. TakePlaces j f to) a h; end = refl; after = refl }) in
    let b : (from - w) - widths ks ≡ from - (widths ks + w) = omega arith in
    let c : (to + w) + widths ks ≡ to + (widths ks + w) = omega arith in
    subst (λ j. TakePlaces j (nest ks (from - w) (to + w) (Around (record { kind = k; start = from - w; end = to + w }) f Nil)) (to + (widths ks + w))) b
    (subst (λ j. TakePlaces ((from - w) - widths ks) (nest ks (from - w) (to + w) (Around (record { kind = k; start = from - w; end = to + w }) f Nil)) j) c inner)

pub record Ending (Front : ℕ → Type 0) (f : Spans) (m : ℕ) : Type 0 where
  pub at : ℕ
  pub here : TakePlaces at f m
  pub front : Front at

-- the pieces, the nearest first, take the places up to m
abbrev pub ReachTo : List Piece → ℕ → Type 0
ReachTo [] m = 0 ≡ m
ReachTo (Whole f ∷ ps) m = Ending (λ k. ReachTo ps k) f m
ReachTo (Standing r ∷ ps) m = (r.at + r.left ≡ m) × ReachTo ps r.at

record Parted (following front : List Piece) (g : Spans) (m : ℕ) : Type 0 where
  pub at : ℕ
  pub own : TakePlaces at (row following g) m
  pub rest : ReachTo front at

reach-cut : (b rest : List Piece) (g : Spans) (m e : ℕ) → ReachTo (b ++ rest) m → TakePlaces m g e → Parted b rest g e
reach-cut [] rest g m e h i = record { at = m; own = i; rest = h }
reach-cut (Whole f ∷ b) rest g m e h i = search (rules, takes-join, reach-cut b rest (join f g) h.at e h.front (takes-join f g h.at m e h.here i))
reach-cut (Standing r ∷ b) rest g m e h i =
    let c = reach-cut b rest (singles r.at r.left g) r.at e h.1 (takes-singles r.left r.at e g (subst (λ k. TakePlaces k g e) (sym h.0) i)) in
    record { at = c.at; own = c.own; rest = c.rest }

reach-row : (ps : List Piece) (g : Spans) (m e : ℕ) → ReachTo ps m → TakePlaces m g e → TakePlaces 0 (row ps g) e
reach-row [] g m e h i = subst (λ k. TakePlaces k g e) (sym h) i
reach-row (Whole f ∷ ps) g m e h i = reach-row ps (join f g) h.at e h.front (takes-join f g h.at m e h.here i)
reach-row (Standing r ∷ ps) g m e h i = reach-row ps (singles r.at r.left g) r.at e h.1 (takes-singles r.left r.at e g (subst (λ k. TakePlaces k g e) (sym h.0) i))

reach-text : (r : Run) (ps : List Piece) → ReachTo ps r.at → ReachTo (Whole (singles r.at r.left Nil) ∷ ps) (r.at + r.left)
reach-text r ps h = record { at = r.at; here = takes-singles r.left r.at (r.at + r.left) Nil refl; front = h }

reach-keep : (r : Run) (ps : List Piece) → ReachTo ps r.at → ReachTo (keep r ps) (r.at + r.left)
reach-keep r ps h = grind (arith, nat_lt, ltb-false)

reach-stand : (r : Run) (ps : List Piece) → ReachTo ps r.at → ReachTo (stand r ps) (r.at + r.left)
reach-stand r ps h = grind (arith, reach-keep, reach-text)

reach-deactivated : (ps : List Piece) (m : ℕ) → ReachTo ps m → ReachTo (map deactivated ps) m
reach-deactivated [] m h = h
reach-deactivated (Whole f ∷ ps) m h = record { at = h.at; here = h.here; front = reach-deactivated ps h.at h.front }
reach-deactivated (Standing r ∷ ps) m h = grind (arith, reach-text, reach-deactivated ps r.at h.1)

reach-left : (c : Run) (ps : List Piece) (m : ℕ) → ReachTo ps m → ReachTo (left_open c ps) m
reach-left c ps m h = grind (arith, reach-deactivated)

reach-pair : (b : List Piece) (o c : Run) (front : List Piece) → ReachTo (b ++ (Standing o ∷ front)) c.at → ReachTo (Whole (wrapped (pair_of o c) (row b Nil)) ∷ keep (rest_of_opener o c) front) (rest_of_closer o c).at
unfolding rest_of_opener rest_of_closer pair_of
reach-pair b o c front h =
    let n = paired_count o c in
    let ks = kinds_of c.delimiter n in
    let w : widths ks ≡ n = widths-kinds c.delimiter n in
    let i = reach-cut b (Standing o ∷ front) Nil c.at c.at h refl in
    let inner : TakePlaces (o.at + o.left) (row b Nil) c.at = subst (λ k. TakePlaces k (row b Nil) c.at) (sym i.rest.0) i.own in
    let le = count-opener o c in
    let nested = takes-nest ks (o.at + o.left) c.at (row b Nil) (omega (arith, w, le)) inner in
    let s : (o.at + o.left) - widths ks ≡ o.at + (o.left - n) = omega (arith, w, le) in
    record {
      at = o.at + (o.left - n);
      here =
          subst (λ k. TakePlaces k (nest ks (o.at + o.left) c.at (row b Nil)) (c.at + n)) s
          (subst (λ k. TakePlaces ((o.at + o.left) - widths ks) (nest ks (o.at + o.left) c.at (row b Nil)) (c.at + k)) w nested);
      front = reach-keep (rest_of_opener o c) front i.rest.1;
    }

rest_sum : (o c : Run) → (rest_of_closer o c).at + (rest_of_closer o c).left ≡ c.at + c.left
unfolding rest_of_closer
rest_sum o c = let le = count-closer o c in omega (arith, le)

record Went (c d : Run) (qs : List Piece) : Type 0 where
  pub reach : ReachTo qs d.at
  pub sum : d.at + d.left ≡ c.at + c.left

goes : (pairs : List Pair) (c d : Run) (ps qs : List Piece) → Closes c ps pairs d qs → ReachTo ps c.at → Went c d qs
goes [] c d ps qs h r =
    subst (λ x. Went c x qs) (sym h.1) (subst (λ l. Went c c l) (sym h.2) (record { reach = reach-left c ps c.at r; sum = refl }))
goes (p ∷ more) c d ps qs h r =
    let i =
    goes more (rest_of_closer h.opener c) d (Whole (wrapped p (row h.between Nil)) ∷ keep (rest_of_opener h.opener c) h.front) qs h.so
    (subst (λ q. ReachTo (Whole (wrapped q (row h.between Nil)) ∷ keep (rest_of_opener h.opener c) h.front) (rest_of_closer h.opener c).at) (sym h.is)
    (reach-pair h.between h.opener c h.front (subst (λ l. ReachTo l c.at) h.cut r))) in
    record { reach = i.reach; sum = i.sum ∙ rest_sum h.opener c }

reaches : (ts : List Sibling) (ps : List Piece) (n : ℕ) → ReachTo ps n → StandFrom n ts → ReachTo (resolve ts ps).pieces (n + places_taken ts)
reaches [] ps n h st = let e : n ≡ n + 0 = omega arith in subst (ReachTo ps) e h
reaches (Plain at ∷ ts) ps n h st = search (rules, reaches ts (Whole (Single at Nil) ∷ ps) (suc n) (record { at = n; here = (st.0, refl); front = h }) st.1)
reaches (Delimiter c ∷ ts) ps n h st =
    let d = closed c ps in
    let w = goes d.pairs c d.rest ps d.pieces (closed-closes c ps) (subst (ReachTo ps) (sym st.0) h) in
    let e : d.rest.at + d.rest.left ≡ n + c.run_length = omega (arith, w.sum, st.0, st.1) in
    let f : (n + c.run_length) + places_taken ts ≡ n + (c.left + places_taken ts) = omega (arith, st.1) in
    subst (ReachTo (resolve ts (stand d.rest d.pieces)).pieces) f
    (reaches ts (stand d.rest d.pieces) (n + c.run_length) (subst (ReachTo (stand d.rest d.pieces)) e (reach-stand d.rest d.pieces w.reach)) st.2)

pub places : (ts : List Sibling) → StandFrom 0 ts → TakePlaces 0 (spans_of ts) (places_taken ts)
places ts st =
    let e : 0 + places_taken ts ≡ places_taken ts = omega arith in
    reach-row (resolve ts []).pieces Nil (places_taken ts) (places_taken ts) (subst (ReachTo (resolve ts []).pieces) e (reaches ts [] 0 refl st)) refl
