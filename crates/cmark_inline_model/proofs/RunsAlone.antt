-- Siblings that are no delimiter runs do not change which runs pair: without them, and with the places counted anew, the spans of the
-- siblings are the spans of the runs alone.
use Rattle.std.proofs.Common.{◌≡◌, ◌⊎◌, inl, inr, ℕ, zero, suc, ◌+◌, ◌-◌, ◌<◌, ◌≤◌, Bool, nat_lt, if◌then◌else◌, List, [], ◌∷◌, Option, Some, None, refl, sym, ap, ◌∙◌, subst, arith, map, rules}
use Rattle.std.proofs.lemmas.Bool.{lt-ltb, le-ltb}
use Rattle.cmark_grammar.specs.Emphasis.{Run, Pair, Sibling, Plain, Delimiter, Piece, Whole, Standing}
use Rattle.cmark_grammar.specs.Emphasis.{agrees, pair_of, rest_of_opener, rest_of_closer, nest, wrapped, row, keep, deactivates, deactivated, left_open, stand}
use Rattle.cmark_grammar.specs.Spans.{SpanKind, span_width, Spans, Nil, Single, Around, join, singles}
use Rattle.cmark_inline_model.specs.EmphasisModel.{Closed, paired, chosen, close, or_none, closed, resolve, spans_of}
use Rattle.cmark_inline_model.proofs.SpanPlaces.{widths, widths-kinds, count-opener, count-closer}

-- the rank of a place is the number of bytes of runs before it
module _ (rank : ℕ → ℕ) where
  abbrev pub AreBytes : (from to : ℕ) → Type 0
  AreBytes from to = (i : ℕ) → from ≤ i → i < to → rank (suc i) ≡ suc (rank i)

  pub rank-bytes : (at n : ℕ) → AreBytes at (at + n) → rank (at + n) ≡ rank at + n
  rank-bytes at zero h = let e : at + 0 ≡ at = omega arith in let f : rank at ≡ rank at + 0 = omega arith in ap rank e ∙ f
  rank-bytes at (suc n) h =
      let e : at + suc n ≡ suc (at + n) = omega arith in
      let i = rank-bytes at n (λ j a b. h j a (omega (arith, b))) in
      let f : suc (rank at + n) ≡ rank at + suc n = omega arith in
      ap rank e ∙ h (at + n) (omega arith) (omega arith) ∙ ap suc i ∙ f

  abbrev pub ranked : Run → Run
  ranked r = record r { at = rank r.at }

  abbrev pub IsSolid : Run → Type 0
  IsSolid r = AreBytes r.at (r.at + r.left)

  -- ## Spans

  -- a sibling that is no byte of a run does not change the rank
  abbrev pub down : Spans → Spans
  down Nil = Nil
  down (Single at after) = if nat_lt (rank at) (rank (suc at)) then Single (rank at) (down after) else down after
  down (Around span inside after) = Around (record { kind = span.kind; start = rank span.start; end = rank span.end }) (down inside) (down after)

  pub down-plain : (at : ℕ) (after : Spans) → rank (suc at) ≡ rank at → down (Single at after) ≡ down after
  down-plain at after e = rw (le-ltb (rank at) (rank (suc at)) (omega (arith, e))) refl

  pub down-byte : (at : ℕ) (after : Spans) → rank (suc at) ≡ suc (rank at) → down (Single at after) ≡ Single (rank at) (down after)
  down-byte at after e = rw (lt-ltb (rank at) (rank (suc at)) (omega (arith, e))) refl

  -- the bytes that open and close each span are bytes of runs
  abbrev pub Fits : Spans → Type 0
  Fits Nil = Unit {0}
  Fits (Single at after) = Fits after
  Fits (Around span inside after) = AreBytes span.start (span.start + span_width span.kind) × AreBytes (span.end - span_width span.kind) span.end × Fits inside × Fits after

  down-join : (f g : Spans) → down (join f g) ≡ join (down f) (down g)
  down-join Nil g = refl
  down-join (Single at after) g = grind (arith, nat_lt, down-join after g)
  down-join (Around span inside after) g = ap (Around (record { kind = span.kind; start = rank span.start; end = rank span.end }) (down inside)) (down-join after g)

  fits-join : (f g : Spans) → Fits f → Fits g → Fits (join f g)
  fits-join Nil g h k = k
  fits-join (Single at after) g h k = fits-join after g h k
  fits-join (Around s inside after) g h k = (h.0, h.1, h.2, fits-join after g h.3 k)

  down-singles : (at c : ℕ) (g : Spans) → AreBytes at (at + c) → down (singles at c g) ≡ singles (rank at) c (down g)
  down-singles at zero g h = refl
  down-singles at (suc c) g h =
      let e = h at (omega arith) (omega arith) in
      let i = down-singles (suc at) c g (λ j a b. h j (omega (arith, a)) (omega (arith, b))) in
      down-byte at (singles (suc at) c g) e ∙ ap (Single (rank at)) (i ∙ ap (λ k. singles k c (down g)) e)

  fits-singles : (at c : ℕ) (g : Spans) → Fits g → Fits (singles at c g)
  fits-singles at zero g h = h
  fits-singles at (suc c) g h = fits-singles (suc at) c g h

  rank-front : (from w : ℕ) → w ≤ from → AreBytes (from - w) from → rank (from - w) ≡ rank from - w
  rank-front from w le h = grind (arith, rank-bytes)

  down-nest : (ks : List SpanKind) (from to : ℕ) (f : Spans) → widths ks ≤ from → AreBytes (from - widths ks) from → AreBytes to (to + widths ks)
      → down (nest ks from to f) ≡ nest ks (rank from) (rank to) (down f)
  down-nest [] from to f le h k = refl
  down-nest (kind ∷ ks) from to f le h k =
      let w = span_width kind in
      let a = rank-front from w (omega (arith, le)) (λ j x y. h j (omega (arith, x)) y) in
      let b = rank-bytes to w (λ j x y. k j x (omega (arith, y))) in
      down-nest ks (from - w) (to + w) (Around (record { kind = kind; start = from - w; end = to + w }) f Nil) (omega (arith, le)) (λ j x y. h j (omega (arith, le, x)) (omega (arith, y))) (λ j x y. k j (omega (arith, x)) (omega (arith, y)))
      ∙ ap (λ x. nest ks x (rank (to + w)) (Around (record { kind = kind; start = x; end = rank (to + w) }) (down f) Nil)) a
      ∙ ap (λ x. nest ks (rank from - w) x (Around (record { kind = kind; start = rank from - w; end = x }) (down f) Nil)) b

  fits-nest : (ks : List SpanKind) (from to : ℕ) (f : Spans) → widths ks ≤ from → AreBytes (from - widths ks) from → AreBytes to (to + widths ks) → Fits f → Fits (nest ks from to f)
  fits-nest [] from to f le h k t = t
  fits-nest (kind ∷ ks) from to f le h k t =
      let w = span_width kind in
      fits-nest ks (from - w) (to + w) (Around (record { kind = kind; start = from - w; end = to + w }) f Nil) (omega (arith, le)) (λ j x y. h j (omega (arith, le, x)) (omega (arith, y)))
      (λ j x y. k j (omega (arith, x)) (omega (arith, y)))
      (λ j x y. h j (omega (arith, x)) (omega (arith, le, y)), λ j x y. k j (omega (arith, x)) (omega (arith, y)), t, tt)

  -- ## A pair

  agrees-ranked : (o c : Run) → agrees (ranked o) (ranked c) ≡ agrees o c
  unfolding agrees
  agrees-ranked o c = refl

  opener-ranked : (o c : Run) → rest_of_opener (ranked o) (ranked c) ≡ ranked (rest_of_opener o c)
  unfolding rest_of_opener
  opener-ranked o c = refl

  closer-ranked : (o c : Run) → IsSolid c → rest_of_closer (ranked o) (ranked c) ≡ ranked (rest_of_closer o c)
  unfolding rest_of_closer
  closer-ranked o c h = grind (arith, count-closer, rank-bytes)

  opener-solid : (o c : Run) → IsSolid o → IsSolid (rest_of_opener o c)
  unfolding rest_of_opener
  opener-solid o c h = let le = count-opener o c in λ j x y. h j x (omega (arith, le, y))

  closer-solid : (o c : Run) → IsSolid c → IsSolid (rest_of_closer o c)
  unfolding rest_of_closer
  closer-solid o c h = let le = count-closer o c in λ j x y. h j (omega (arith, x)) (omega (arith, le, y))

  wrapped-ranked : (o c : Run) (f : Spans) → IsSolid o → IsSolid c → wrapped (pair_of (ranked o) (ranked c)) (down f) ≡ down (wrapped (pair_of o c) f)
  unfolding pair_of
  wrapped-ranked o c f h k = grind (arith, widths, widths-kinds, count-opener, count-closer, rank-bytes, down-nest)

  wrapped-fits : (o c : Run) (f : Spans) → IsSolid o → IsSolid c → Fits f → Fits (wrapped (pair_of o c) f)
  unfolding pair_of
  wrapped-fits o c f h k t = grind (arith, widths, widths-kinds, count-opener, count-closer, fits-nest)

  -- ## Pieces

  record Kept (P : List Piece → Type 0) (piece : Piece) (qs : List Piece) : Type 0 where
    pub rest : List Piece
    pub cut : qs ≡ piece ∷ rest
    pub others : P rest

  -- the pieces of the runs alone: those of all siblings, without some of the pieces in which no byte of a run is
  abbrev Like : List Piece → List Piece → Type 0
  Like [] qs = qs ≡ []
  Like (Whole f ∷ ps) qs = Fits f × (((down f ≡ Nil) × Like ps qs) ⊎ Kept (λ rest. Like ps rest) (Whole (down f)) qs)
  Like (Standing r ∷ ps) qs = IsSolid r × Kept (λ rest. Like ps rest) (Standing (ranked r)) qs

  like-whole : (f g : Spans) (ps qs : List Piece) → Fits f → g ≡ down f → Like ps qs → Like (Whole f ∷ ps) (Whole g ∷ qs)
  like-whole f g ps qs h e k = (h, inr (record { rest = qs; cut = ap (λ x. Whole x ∷ qs) e; others = k }))

  like-text : (r : Run) (ps qs : List Piece) → IsSolid r → Like ps qs → Like (Whole (singles r.at r.left Nil) ∷ ps) (Whole (singles (rank r.at) r.left Nil) ∷ qs)
  like-text r ps qs h k = like-whole (singles r.at r.left Nil) (singles (rank r.at) r.left Nil) ps qs (fits-singles r.at r.left Nil tt) (sym (down-singles r.at r.left Nil h)) k

  like-keep : (r : Run) (ps qs : List Piece) → IsSolid r → Like ps qs → Like (keep r ps) (keep (ranked r) qs)
  like-keep r ps qs h k = grind (arith, nat_lt)

  like-stand : (r : Run) (ps qs : List Piece) → IsSolid r → Like ps qs → Like (stand r ps) (stand (ranked r) qs)
  like-stand r ps qs h k = grind (arith, like-keep, like-text)

  like-deactivated : (ps qs : List Piece) → Like ps qs → Like (map deactivated ps) (map deactivated qs)
  like-deactivated [] qs h = ap (map deactivated) h
  like-deactivated (Whole f ∷ ps) qs h = grind (arith, like-deactivated ps)
  like-deactivated (Standing r ∷ ps) qs h = grind (arith, like-text, like-deactivated ps h.1.rest h.1.others)

  like-left : (c : Run) (ps qs : List Piece) → Like ps qs → Like (left_open c ps) (left_open (ranked c) qs)
  unfolding deactivates
  like-left c ps qs h = grind (arith, like-deactivated)

  record Ranks (f g : Spans) : Type 0 where
    pub same : down f ≡ g
    pub fits : Fits f

  like-row : (ps qs : List Piece) (f : Spans) → Like ps qs → Fits f → Ranks (row ps f) (row qs (down f))
  like-row [] qs f h k = subst (λ l. Ranks f (row l (down f))) (sym h) (record { same = refl; fits = k })
  like-row (Whole g ∷ ps) qs f h k = go h.1 (λ l m. like-row ps l (join g f) m (fits-join g f h.0 k))
    where
      go : ((down g ≡ Nil) × Like ps qs) ⊎ Kept (λ rest. Like ps rest) (Whole (down g)) qs → ((l : List Piece) → Like ps l → Ranks (row ps (join g f)) (row l (down (join g f)))) → Ranks (row ps (join g f)) (row qs (down f))
      go h more = grind (arith, down-join)
  like-row (Standing r ∷ ps) qs f h k = search (rules, down-singles, fits-singles, like-row ps h.1.rest (singles r.at r.left f) h.1.others (fits-singles r.at r.left f k))

  -- ## A run closes

  record BothClosed (x y : Closed) : Type 0 where
    pub rest : y.rest ≡ ranked x.rest
    pub solid : IsSolid x.rest
    pub pieces : Like x.pieces y.pieces

  abbrev Both : Option Closed → Option Closed → Type 0
  Both None None = Unit {0}
  Both None (Some y) = ⊥
  Both (Some x) None = ⊥
  Both (Some x) (Some y) = BothClosed x y

  both-chosen : (b : Bool) (p q : Pair) (x y : Closed) (more most others rest : Option Closed) → BothClosed x y → Both more most → Both others rest
      → Both (chosen b (paired p x more) others) (chosen b (paired q y most) rest)
  both-chosen b p q x y more most others rest h k l = grind arith

  both-stop : (o c : Run) (w : Spans) (ps qs : List Piece) (m n : List Pair) → IsSolid o → IsSolid c → Fits w → Like ps qs
      → BothClosed (record { rest = rest_of_closer o c; pieces = left_open (rest_of_closer o c) (Whole w ∷ keep (rest_of_opener o c) ps); pairs = m })
      (record { rest = ranked (rest_of_closer o c); pieces = left_open (ranked (rest_of_closer o c)) (Whole (down w) ∷ keep (ranked (rest_of_opener o c)) qs); pairs = n })
  both-stop o c w ps qs m n h k t l = search (rules, closer-solid, like-left, like-whole, like-keep, opener-solid)

  -- the result of a run's course over the pieces from an open run on, by its parts
  abbrev over_run : (agree : Bool) (rest opener : Run) (whole : Spans) (pair : Pair) (others : Option Closed) → List Piece → Option Closed
  over_run agree rest opener whole pair others pieces =
      chosen agree
      (paired pair (record { rest = rest; pieces = left_open rest (Whole whole ∷ keep opener pieces); pairs = pair ∷ [] }) (close rest pieces (join whole Nil)))
      others

  close-like : (c : Run) (ps qs : List Piece) (f : Spans) → Like ps qs → IsSolid c → Fits f → Both (close c ps f) (close (ranked c) qs (down f))
  close-like c [] qs f h s t = subst (λ l. Both None (close (ranked c) l (down f))) (sym h) tt
  close-like c (Whole g ∷ ps) qs f h s t = go h.1 (λ l m. close-like c ps l (join g f) m s (fits-join g f h.0 t))
    where
      go : ((down g ≡ Nil) × Like ps qs) ⊎ Kept (λ rest. Like ps rest) (Whole (down g)) qs
          → ((l : List Piece) → Like ps l → Both (close c ps (join g f)) (close (ranked c) l (down (join g f)))) → Both (close c ps (join g f)) (close (ranked c) qs (down f))
      go h more = grind (arith, down-join)
  close-like c (Standing o ∷ ps) qs f h s t =
      let rest = h.1.rest in
      let w = wrapped (pair_of o c) f in
      let fits = wrapped-fits o c f h.0 s t in
      let here = close (ranked c) rest (singles (rank o.at) o.left (down f)) in
      let others = subst (λ y. Both (close c ps (singles o.at o.left f)) (close (ranked c) rest y)) (down-singles o.at o.left f h.0) (close-like c ps rest (singles o.at o.left f) h.1.others s (fits-singles o.at o.left f t)) in
      let more = subst (λ y. Both (close (rest_of_closer o c) ps (join w Nil)) (close (ranked (rest_of_closer o c)) rest y)) (down-join w Nil) (close-like (rest_of_closer o c) ps rest (join w Nil) h.1.others (closer-solid o c s) (fits-join w Nil fits tt)) in
      let q = pair_of (ranked o) (ranked c) in
      let all =
      both-chosen (agrees o c) (pair_of o c) q
      (record { rest = rest_of_closer o c; pieces = left_open (rest_of_closer o c) (Whole w ∷ keep (rest_of_opener o c) ps); pairs = pair_of o c ∷ [] })
      (record { rest = ranked (rest_of_closer o c); pieces = left_open (ranked (rest_of_closer o c)) (Whole (down w) ∷ keep (ranked (rest_of_opener o c)) rest); pairs = q ∷ [] })
      (close (rest_of_closer o c) ps (join w Nil)) (close (ranked (rest_of_closer o c)) rest (join (down w) Nil))
      (close c ps (singles o.at o.left f)) here
      (both-stop o c w ps rest (pair_of o c ∷ []) (q ∷ []) h.0 s fits h.1.others) more others in
      let B : Option Closed → Type 0 = Both (close c (Standing o ∷ ps) f) in
      let first : B (over_run (agrees (ranked o) (ranked c)) (ranked (rest_of_closer o c)) (ranked (rest_of_opener o c)) (down w) q here rest) =
      subst (λ b. B (over_run b (ranked (rest_of_closer o c)) (ranked (rest_of_opener o c)) (down w) q here rest)) (sym (agrees-ranked o c)) all in
      let second : B (over_run (agrees (ranked o) (ranked c)) (rest_of_closer (ranked o) (ranked c)) (ranked (rest_of_opener o c)) (down w) q here rest) =
      subst (λ r. B (over_run (agrees (ranked o) (ranked c)) r (ranked (rest_of_opener o c)) (down w) q here rest)) (sym (closer-ranked o c s)) first in
      let third : B (over_run (agrees (ranked o) (ranked c)) (rest_of_closer (ranked o) (ranked c)) (rest_of_opener (ranked o) (ranked c)) (down w) q here rest) =
      subst (λ r. B (over_run (agrees (ranked o) (ranked c)) (rest_of_closer (ranked o) (ranked c)) r (down w) q here rest)) (sym (opener-ranked o c)) second in
      let fourth : B (over_run (agrees (ranked o) (ranked c)) (rest_of_closer (ranked o) (ranked c)) (rest_of_opener (ranked o) (ranked c)) (wrapped q (down f)) q here rest) =
      subst (λ x. B (over_run (agrees (ranked o) (ranked c)) (rest_of_closer (ranked o) (ranked c)) (rest_of_opener (ranked o) (ranked c)) x q here rest)) (sym (wrapped-ranked o c f h.0 s)) third in
      subst (λ l. B (close (ranked c) l (down f))) (sym h.1.cut) fourth

  closed-like : (c : Run) (ps qs : List Piece) → Like ps qs → IsSolid c → BothClosed (closed c ps) (closed (ranked c) qs)
  unfolding closed
  closed-like c ps qs h s = go (close c ps Nil) (close (ranked c) qs Nil) (close-like c ps qs Nil h s tt)
    where
      go : (x y : Option Closed) → Both x y → BothClosed (or_none c ps x) (or_none (ranked c) qs y)
      go x y k = grind (arith, like-left)

  -- ## All siblings

  abbrev pub runs_alone : List Sibling → List Sibling
  runs_alone [] = []
  runs_alone (Plain at ∷ ts) = runs_alone ts
  runs_alone (Delimiter r ∷ ts) = Delimiter (ranked r) ∷ runs_alone ts

  abbrev pub AreRanked : List Sibling → Type 0
  AreRanked [] = Unit {0}
  AreRanked (Plain at ∷ ts) = (rank (suc at) ≡ rank at) × AreRanked ts
  AreRanked (Delimiter r ∷ ts) = IsSolid r × AreRanked ts

  resolve-like : (ts : List Sibling) (ps qs : List Piece) → AreRanked ts → Like ps qs → Like (resolve ts ps).pieces (resolve (runs_alone ts) qs).pieces
  resolve-like [] ps qs h k = k
  resolve-like (Plain at ∷ ts) ps qs h k = resolve-like ts (Whole (Single at Nil) ∷ ps) qs h.1 (tt, inl (down-plain at Nil h.0, k))
  resolve-like (Delimiter r ∷ ts) ps qs h k =
      let c = closed-like r ps qs k h.0 in
      let x = closed r ps in
      let y = closed (ranked r) qs in
      resolve-like ts (stand x.rest x.pieces) (stand y.rest y.pieces) h.1
      (subst (λ z. Like (stand x.rest x.pieces) (stand z y.pieces)) (sym c.rest) (like-stand x.rest x.pieces y.pieces c.solid c.pieces))

  pub spans-ranked : (ts : List Sibling) → AreRanked ts → down (spans_of ts) ≡ spans_of (runs_alone ts)
  spans-ranked ts h = (like-row (resolve ts []).pieces (resolve (runs_alone ts) []).pieces Nil (resolve-like ts [] [] h refl) tt).same

  pub spans-fit : (ts : List Sibling) → AreRanked ts → Fits (spans_of ts)
  spans-fit ts h = (like-row (resolve ts []).pieces (resolve (runs_alone ts) []).pieces Nil (resolve-like ts [] [] h refl) tt).fits
