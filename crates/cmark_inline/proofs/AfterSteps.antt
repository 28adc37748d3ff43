-- The opening brackets after a closing one, on the stacks and in the grammar.
use Rattle.std.specs.Prelude.{if◌then◌else◌, nat_lt, not, ◌&&◌, ◌||◌, min, drop, map, slice_get, Option, Some, None}
use Rattle.std.proofs.Common.{◌≡◌, ℕ, zero, suc, ◌+◌, ◌-◌, ◌<◌, ◌≤◌, Bool, true, false, true≢false, List, [], ◌∷◌, ◌++◌, length, take, refl, sym, ap, subst, ◌∙◌, arith, length-append}
use Rattle.std.proofs.lemmas.Bool.{ltb-true, ltb-false, lt-ltb}
use Rattle.std.proofs.Math.Seq.{take-append_seam}
use Rattle.cmark_grammar.specs.BracketStates.{Opener}
use Rattle.cmark_grammar.specs.Items as items
use Rattle.cmark_grammar.specs.OpenBrackets.{Taken, nearest, doubled, doubled_after, touches, undoubled, tried, used_up, inactive, dropped}
use Rattle.cmark_slots.specs.declared.bracket.Bracket.{Bracket}
use Rattle.cmark_slots.specs.declared.bracket.Brackets.{Brackets}
use Rattle.cmark_inline.specs.Closers.{UsesUp, Drops, Deactivates, IsNone, NoneStand}
use Rattle.cmark_inline.specs.BracketViews.{ArePlaced, IsPlaced, with_last, standing_of, pairs_following, pairs_of, AreInactive, PairsInactive, AreDoubledInactive, Holds, StandFor, TakenAs}
use Rattle.cmark_slots.specs.Doubled.{DropsAfter, nearest_of}
use Rattle.cmark_slots.specs.Doubled as views
use Rattle.cmark_inline.proofs.BracketSteps.{opening-up, Takes, takes, Tries, tries, tried-placed, tried-standing, inactive-tried, drops-split, standing-split, pairs-split, placed-cut, placed-lower, inactive-fewer, used-placed, inactive-used, used-pairs, doubled-used}

-- ## Changes of each bracket

grown : (b : Bracket) (l : List Bracket) → length (l ++ (b ∷ [])) ≡ suc (length l)
grown b l = length-append l (b ∷ []) ∙ (let q : length l + 1 ≡ suc (length l) = omega arith in q)

placed-inactive : (place : ℕ → ℕ) (at : ℕ) (os : List Opener) (bs : List Bracket) → ArePlaced place at os bs → ArePlaced place at (map inactive os) bs
placed-inactive place at [] [] h = h
placed-inactive place at [] (b ∷ bs) h = h
placed-inactive place at (o ∷ os) [] h = absurd h
placed-inactive place at (o ∷ os) (b ∷ bs) h = (record { bracket = h.0.bracket; in_text = h.0.in_text; in_source = h.0.in_source }, h.1, placed-inactive place b.start os bs h.2)

placed-dropped : (place : ℕ → ℕ) (at : ℕ) (os : List Opener) (bs : List Bracket) → ArePlaced place at os bs → ArePlaced place at (map dropped os) bs
placed-dropped place at [] [] h = h
placed-dropped place at [] (b ∷ bs) h = h
placed-dropped place at (o ∷ os) [] h = absurd h
placed-dropped place at (o ∷ os) (b ∷ bs) h = (record { bracket = h.0.bracket; in_text = h.0.in_text; in_source = h.0.in_source }, h.1, placed-dropped place b.start os bs h.2)

placed-undoubled : (place : ℕ → ℕ) (at : ℕ) (os : List Opener) (bs : List Bracket) → ArePlaced place at os bs → ArePlaced place at (map undoubled os) bs
placed-undoubled place at [] [] h = h
placed-undoubled place at [] (b ∷ bs) h = h
placed-undoubled place at (o ∷ os) [] h = absurd h
placed-undoubled place at (o ∷ os) (b ∷ bs) h = (record { bracket = h.0.bracket; in_text = h.0.in_text; in_source = h.0.in_source }, h.1, placed-undoubled place b.start os bs h.2)

standing-inactive : (os : List Opener) (bs : List Bracket) → standing_of (map inactive os) bs ≡ standing_of os bs
standing-inactive [] bs = refl
standing-inactive (o ∷ os) [] = refl
standing-inactive (o ∷ os) (b ∷ bs) = ap (with_last o.stands b) (standing-inactive os bs)

standing-undoubled : (os : List Opener) (bs : List Bracket) → standing_of (map undoubled os) bs ≡ standing_of os bs
standing-undoubled [] bs = refl
standing-undoubled (o ∷ os) [] = refl
standing-undoubled (o ∷ os) (b ∷ bs) = ap (with_last o.stands b) (standing-undoubled os bs)

standing-dropped : (os : List Opener) (bs : List Bracket) → standing_of (map dropped os) bs ≡ []
standing-dropped [] bs = refl
standing-dropped (o ∷ os) [] = refl
standing-dropped (o ∷ os) (b ∷ bs) = standing-dropped os bs

following-inactive : (second : Opener) (inside : ℕ) (os : List Opener) (bs : List Bracket) → pairs_following (inactive second) inside (map inactive os) bs ≡ pairs_following second inside os bs
following-inactive second inside [] bs = refl
following-inactive second inside (o ∷ os) [] = refl
following-inactive second inside (o ∷ os) (b ∷ bs) = ap (with_last (o.doubles && touches second o) (record b { inside = inside })) (following-inactive o b.inside os bs)

pairs-inactive : (os : List Opener) (bs : List Bracket) → pairs_of (map inactive os) bs ≡ pairs_of os bs
pairs-inactive [] bs = refl
pairs-inactive (o ∷ os) [] = refl
pairs-inactive (o ∷ os) (b ∷ bs) = following-inactive o b.inside os bs

following-dropped : (second : Opener) (inside : ℕ) (os : List Opener) (bs : List Bracket) → pairs_following (dropped second) inside (map dropped os) bs ≡ pairs_following second inside os bs
following-dropped second inside [] bs = refl
following-dropped second inside (o ∷ os) [] = refl
following-dropped second inside (o ∷ os) (b ∷ bs) = ap (with_last (o.doubles && touches second o) (record b { inside = inside })) (following-dropped o b.inside os bs)

pairs-dropped : (os : List Opener) (bs : List Bracket) → pairs_of (map dropped os) bs ≡ pairs_of os bs
pairs-dropped [] bs = refl
pairs-dropped (o ∷ os) [] = refl
pairs-dropped (o ∷ os) (b ∷ bs) = following-dropped o b.inside os bs

following-undoubled : (second : Opener) (inside : ℕ) (os : List Opener) (bs : List Bracket) → pairs_following second inside (map undoubled os) bs ≡ []
following-undoubled second inside [] bs = refl
following-undoubled second inside (o ∷ os) [] = refl
following-undoubled second inside (o ∷ os) (b ∷ bs) = following-undoubled (undoubled o) b.inside os bs

pairs-undoubled : (os : List Opener) (bs : List Bracket) → pairs_of (map undoubled os) bs ≡ []
pairs-undoubled [] bs = refl
pairs-undoubled (o ∷ os) [] = refl
pairs-undoubled (o ∷ os) (b ∷ bs) = following-undoubled (undoubled o) b.inside os bs

-- ## Inactive brackets

-- a bracket that was inactive opens no image
made_inactive : (was image under now : Bool) → was ≡ (not image && under) → now ≡ true → (was || not image) ≡ (not image && now)
made_inactive was true under now e f = ap (λ z. z || false) e
made_inactive was false under now e f = either was ∙ sym f
  where
    either : (z : Bool) → (z || true) ≡ true
    either true = refl
    either false = refl

shorter : (z : Bool) (b : Bracket) (l : List Bracket) (m : ℕ) → length (with_last z b l) ≤ m → (length l ≤ m) × (z ≡ true → length l < m)
shorter true b l m le = let g = grown b l in ((let q : length l ≤ m = omega (arith, g, le) in q), (λ e. let q : length l < m = omega (arith, g, le) in q))
shorter false b l m le = (le, (λ e. absurd (true≢false (sym e))))

image_of : (place : ℕ → ℕ) (o : Opener) (b : Bracket) → IsPlaced place o b → o.bracket.is_image ≡ b.is_image
image_of place o b h = ap (λ (c : items.Bracket). c.is_image) h.bracket

all-inactive : (place : ℕ → ℕ) (at : ℕ) (os : List Opener) (bs : List Bracket) (inactive_below m : ℕ) → length (standing_of os bs) ≤ m → ArePlaced place at os bs → AreInactive inactive_below os bs → AreInactive m (map inactive os) bs
all-inactive place at [] bs inactive_below m le p h = tt
all-inactive place at (o ∷ os) [] inactive_below m le p h = tt
all-inactive place at (o ∷ os) (b ∷ bs) inactive_below m le p h =
    let s = shorter o.stands b (standing_of os bs) m le in (
      (λ e. ap (λ z. o.is_inactive || not z) (image_of place o b p.0)
          ∙ made_inactive o.is_inactive b.is_image (nat_lt (length (standing_of os bs)) inactive_below) (nat_lt (length (standing_of (map inactive os) bs)) m) (h.0 e)
          (ap (λ l. nat_lt (length l) m) (standing-inactive os bs) ∙ lt-ltb (length (standing_of os bs)) m (s.1 e))),
      all-inactive place b.start os bs inactive_below m s.0 p.2 h.1,
    )

after_all_inactive : (place : ℕ → ℕ) (at : ℕ) (second : Opener) (inside : ℕ) (os : List Opener) (bs : List Bracket) (inactive_below m : ℕ) → length (pairs_following second inside os bs) ≤ m → ArePlaced place at os bs → PairsInactive inactive_below second inside os bs
    → PairsInactive m (inactive second) inside (map inactive os) bs
after_all_inactive place at second inside [] bs inactive_below m le p h = tt
after_all_inactive place at second inside (o ∷ os) [] inactive_below m le p h = tt
after_all_inactive place at second inside (o ∷ os) (b ∷ bs) inactive_below m le p h =
    let s = shorter (o.doubles && touches second o) (record b { inside = inside }) (pairs_following o b.inside os bs) m le in (
      (λ e. ap (λ z. o.is_inactive || not z) (image_of place o b p.0)
          ∙ made_inactive o.is_inactive b.is_image (nat_lt (length (pairs_following o b.inside os bs)) inactive_below) (nat_lt (length (pairs_following (inactive o) b.inside (map inactive os) bs)) m) (h.0 e)
          (ap (λ l. nat_lt (length l) m) (following-inactive o b.inside os bs) ∙ lt-ltb (length (pairs_following o b.inside os bs)) m (s.1 e))),
      after_all_inactive place b.start o b.inside os bs inactive_below m s.0 p.2 h.1,
    )

all-doubled-inactive : (place : ℕ → ℕ) (at : ℕ) (os : List Opener) (bs : List Bracket) (inactive_below m : ℕ) → length (pairs_of os bs) ≤ m → ArePlaced place at os bs → AreDoubledInactive inactive_below os bs → AreDoubledInactive m (map inactive os) bs
all-doubled-inactive place at [] bs inactive_below m le p h = tt
all-doubled-inactive place at (o ∷ os) [] inactive_below m le p h = tt
all-doubled-inactive place at (o ∷ os) (b ∷ bs) inactive_below m le p h = after_all_inactive place b.start o b.inside os bs inactive_below m le p.2 h

-- the inactive ones of fewer doubled brackets
fewer : (x : Bool) (n inactive_below m : ℕ) → n < m → (x && nat_lt n inactive_below) ≡ (x && nat_lt n (min inactive_below m))
fewer false n inactive_below m lt = refl
fewer true n inactive_below m lt = go (nat_lt n inactive_below) refl (nat_lt n (min inactive_below m)) refl
  where
    go : (y : Bool) → nat_lt n inactive_below ≡ y → (z : Bool) → nat_lt n (min inactive_below m) ≡ z → y ≡ z
    go true d true e = refl
    go false d false e = refl
    go true d false e = absurd (let a = ltb-true n inactive_below d in let b = ltb-false n (min inactive_below m) e in omega (arith, a, b, lt))
    go false d true e = absurd (let a = ltb-false n inactive_below d in let b = ltb-true n (min inactive_below m) e in omega (arith, a, b))

after_fewer : (second : Opener) (inside : ℕ) (os : List Opener) (bs : List Bracket) (inactive_below m : ℕ) → length (pairs_following second inside os bs) ≤ m → PairsInactive inactive_below second inside os bs → PairsInactive (min inactive_below m) second inside os bs
after_fewer second inside [] bs inactive_below m le h = tt
after_fewer second inside (o ∷ os) [] inactive_below m le h = tt
after_fewer second inside (o ∷ os) (b ∷ bs) inactive_below m le h =
    let s = shorter (o.doubles && touches second o) (record b { inside = inside }) (pairs_following o b.inside os bs) m le in
    ((λ e. h.0 e ∙ fewer (not b.is_image) (length (pairs_following o b.inside os bs)) inactive_below m (s.1 e)), after_fewer o b.inside os bs inactive_below m s.0 h.1)

pub doubled-fewer : (os : List Opener) (bs : List Bracket) (inactive_below m : ℕ) → length (pairs_of os bs) ≤ m → AreDoubledInactive inactive_below os bs → AreDoubledInactive (min inactive_below m) os bs
doubled-fewer [] bs inactive_below m le h = tt
doubled-fewer (o ∷ os) [] inactive_below m le h = tt
doubled-fewer (o ∷ os) (b ∷ bs) inactive_below m le h = after_fewer o b.inside os bs inactive_below m le h

after_inactive_dropped : (inactive_below : ℕ) (second : Opener) (inside : ℕ) (os : List Opener) (bs : List Bracket) → PairsInactive inactive_below second inside os bs → PairsInactive inactive_below (dropped second) inside (map dropped os) bs
after_inactive_dropped inactive_below second inside [] bs h = tt
after_inactive_dropped inactive_below second inside (o ∷ os) [] h = tt
after_inactive_dropped inactive_below second inside (o ∷ os) (b ∷ bs) h =
    ((λ e. h.0 e ∙ ap (λ l. not b.is_image && nat_lt (length l) inactive_below) (sym (following-dropped o b.inside os bs))), after_inactive_dropped inactive_below o b.inside os bs h.1)

doubled-inactive-dropped : (inactive_below : ℕ) (os : List Opener) (bs : List Bracket) → AreDoubledInactive inactive_below os bs → AreDoubledInactive inactive_below (map dropped os) bs
doubled-inactive-dropped inactive_below [] bs h = tt
doubled-inactive-dropped inactive_below (o ∷ os) [] h = tt
doubled-inactive-dropped inactive_below (o ∷ os) (b ∷ bs) h = after_inactive_dropped inactive_below o b.inside os bs h

inactive_dropped : (inactive_below : ℕ) (os : List Opener) (bs : List Bracket) → AreInactive inactive_below (map dropped os) bs
inactive_dropped inactive_below [] bs = tt
inactive_dropped inactive_below (o ∷ os) [] = tt
inactive_dropped inactive_below (o ∷ os) (b ∷ bs) = ((λ e. absurd (true≢false (sym e))), inactive_dropped inactive_below os bs)

inactive_undoubled : (inactive_below : ℕ) (os : List Opener) (bs : List Bracket) → AreInactive inactive_below os bs → AreInactive inactive_below (map undoubled os) bs
inactive_undoubled inactive_below [] bs h = tt
inactive_undoubled inactive_below (o ∷ os) [] h = tt
inactive_undoubled inactive_below (o ∷ os) (b ∷ bs) h = ((λ e. h.0 e ∙ ap (λ l. not b.is_image && nat_lt (length l) inactive_below) (sym (standing-undoubled os bs))), inactive_undoubled inactive_below os bs h.1)

after_none_inactive : (inactive_below : ℕ) (second : Opener) (inside : ℕ) (os : List Opener) (bs : List Bracket) → PairsInactive inactive_below second inside (map undoubled os) bs
after_none_inactive inactive_below second inside [] bs = tt
after_none_inactive inactive_below second inside (o ∷ os) [] = tt
after_none_inactive inactive_below second inside (o ∷ os) (b ∷ bs) = ((λ e. absurd (true≢false (sym e))), after_none_inactive inactive_below (undoubled o) b.inside os bs)

doubled_none_inactive : (inactive_below : ℕ) (os : List Opener) (bs : List Bracket) → AreDoubledInactive inactive_below (map undoubled os) bs
doubled_none_inactive inactive_below [] bs = tt
doubled_none_inactive inactive_below (o ∷ os) [] = tt
doubled_none_inactive inactive_below (o ∷ os) (b ∷ bs) = after_none_inactive inactive_below (undoubled o) b.inside os bs

-- ## The brackets without the nearest `n`

inactive-drop : (n inactive_below : ℕ) (os : List Opener) (bs : List Bracket) → AreInactive inactive_below os bs → AreInactive inactive_below (drop n os) (drop n bs)
inactive-drop zero inactive_below os bs h = h
inactive-drop (suc n) inactive_below [] bs h = tt
inactive-drop (suc n) inactive_below (o ∷ os) [] h = none (drop n os)
  where
    none : (l : List Opener) → AreInactive inactive_below l []
    none [] = tt
    none (x ∷ l) = tt
inactive-drop (suc n) inactive_below (o ∷ os) (b ∷ bs) h = inactive-drop n inactive_below os bs h.1

doubled-drop : (n inactive_below : ℕ) (os : List Opener) (bs : List Bracket) → AreDoubledInactive inactive_below os bs → AreDoubledInactive inactive_below (drop n os) (drop n bs)
doubled-drop zero inactive_below os bs h = h
doubled-drop (suc n) inactive_below [] bs h = tt
doubled-drop (suc n) inactive_below (o ∷ os) [] h = none (drop n os)
  where
    none : (l : List Opener) → AreDoubledInactive inactive_below l []
    none [] = tt
    none (x ∷ l) = tt
doubled-drop (suc n) inactive_below (o ∷ os) (b ∷ bs) h = doubled-drop n inactive_below os bs (rest os bs h)
  where
    rest : (ps : List Opener) (cs : List Bracket) → PairsInactive inactive_below o b.inside ps cs → AreDoubledInactive inactive_below ps cs
    rest [] cs i = tt
    rest (p ∷ ps) [] i = tt
    rest (p ∷ ps) (c ∷ cs) i = i.1

-- ## A bracket is taken

take_last : (l : List Bracket) (b : Bracket) → take (length (l ++ (b ∷ [])) - 1) (l ++ (b ∷ [])) ≡ l
take_last l b = ap (λ n. take n (l ++ (b ∷ []))) (let g = grown b l in let q : length (l ++ (b ∷ [])) - 1 ≡ length l = omega (arith, g) in q) ∙ take-append_seam l (b ∷ [])

pub get-last : (l : List Bracket) (b : Bracket) → slice_get (l ++ (b ∷ [])) (length (l ++ (b ∷ [])) - 1) ≡ Some b
get-last l b = ap (slice_get (l ++ (b ∷ []))) (let g = grown b l in let q : length (l ++ (b ∷ [])) - 1 ≡ length l = omega (arith, g) in q) ∙ at_end l
  where
    at_end : (m : List Bracket) → slice_get (m ++ (b ∷ [])) (length m) ≡ Some b
    at_end [] = refl
    at_end (x ∷ m) = at_end m

active : (image : Bool) (inactive_below n m : ℕ) → m ≡ suc n → (if image then true else nat_lt inactive_below m) ≡ not (not image && nat_lt n inactive_below)
active true inactive_below n m e = refl
active false inactive_below n m e = go (nat_lt inactive_below m) refl (nat_lt n inactive_below) refl
  where
    go : (y : Bool) → nat_lt inactive_below m ≡ y → (z : Bool) → nat_lt n inactive_below ≡ z → y ≡ not z
    go true d true f = absurd (let a = ltb-true inactive_below m d in let b = ltb-true n inactive_below f in omega (arith, a, b, e))
    go true d false f = refl
    go false d true f = refl
    go false d false f = absurd (let a = ltb-false inactive_below m d in let b = ltb-false n inactive_below f in omega (arith, a, b, e))

-- the brackets that stay on the stack, and the one that is taken off
pub last-taken : (st new : Brackets) (kept : List Bracket) (b : Bracket) → st.standing.items ≡ kept ++ (b ∷ []) → st.inactive_below ≤ length st.standing.items → UsesUp st new
    → (Holds new kept) × (new.inactive_below ≡ min st.inactive_below (length kept)) × (views.nearest st ≡ Some (b, not (not b.is_image && nat_lt (length kept) st.inactive_below)))
last-taken st new kept b e few u =
    let are : new.standing.items ≡ kept = u.others ∙ ap (λ l. take (length l - 1) l) e ∙ take_last kept b in
    let inactive_below : new.inactive_below ≡ min st.inactive_below (length kept) = u.inactive_below few ∙ ap (λ l. min st.inactive_below (length l)) are in (
      record { are = are; few = (let q : new.inactive_below ≤ length kept = omega (arith, inactive_below) in q) },
      inactive_below,
      ap (λ l. nearest_of (slice_get l (length l - 1)) (nat_lt st.inactive_below (length l))) e
          ∙ ap (λ o. nearest_of o (nat_lt st.inactive_below (length (kept ++ (b ∷ []))))) (get-last kept b)
          ∙ ap (λ z. Some (b, z)) (active b.is_image st.inactive_below (length kept) (length (kept ++ (b ∷ []))) (grown b kept)),
    )

pub none-taken : (st new : Brackets) → st.standing.items ≡ [] → st.inactive_below ≤ length st.standing.items → UsesUp st new → (Holds new []) × (views.nearest st ≡ None)
none-taken st new e few u =
    let are : new.standing.items ≡ [] = u.others ∙ ap (λ l. take (length l - 1) l) e in
    let inactive_below : new.inactive_below ≡ min st.inactive_below (length new.standing.items) = u.inactive_below few in
    let n : length new.standing.items ≡ 0 = ap length are in (
      record { are = are; few = (let q : new.inactive_below ≤ 0 = omega (arith, inactive_below, n) in q) },
      ap (λ l. nearest_of (slice_get l (length l - 1)) (nat_lt st.inactive_below (length l))) e,
    )

abbrev pub taken_if : Option (Bracket × Bool) → Option Bracket
taken_if None = None
taken_if (Some t) = if t.1 then Some t.0 else None

pub took : (wikilinks : Bool) (place : ℕ → ℕ) (at : ℕ) (os : List Opener) (bs : List Bracket) (st new db : Brackets) → StandFor wikilinks place at os bs st db → UsesUp st new
    → StandFor wikilinks place at (used_up os) bs new db × TakenAs place bs (nearest os) (taken_if (views.nearest st))
took wikilinks place at os bs st new db h u = go (nearest os) (takes place at os bs st.inactive_below h.placed h.inactive)
  where
    view : Holds new (standing_of (used_up os) bs) → new.inactive_below ≡ min st.inactive_below (length (standing_of (used_up os) bs)) → StandFor wikilinks place at (used_up os) bs new db
    view holds inactive_below = record {
      placed = used-placed place at os bs h.placed;
      standing_are = holds;
      inactive = subst (λ n. AreInactive n (used_up os) bs) (sym inactive_below)
          (inactive-fewer (used_up os) bs st.inactive_below (length (standing_of (used_up os) bs)) (let q : length (standing_of (used_up os) bs) ≤ length (standing_of (used_up os) bs) = omega arith in q) (inactive-used os bs st.inactive_below h.inactive));
      doubled_are = λ e. subst (Holds db) (sym (used-pairs os bs)) (h.doubled_are e);
      doubled_inactive = λ e. doubled-used db.inactive_below os bs (h.doubled_inactive e);
    }

    few : st.inactive_below ≤ length st.standing.items
    few = subst (λ l. st.inactive_below ≤ length l) (sym h.standing_are.are) h.standing_are.few

    either : (z : Bool) (b : Bracket) → taken_if (Some (b, not z)) ≡ (if z then None else Some b)
    either true b = refl
    either false b = refl

    go : (t : Option Taken) → Takes place os bs st.inactive_below t → StandFor wikilinks place at (used_up os) bs new db × TakenAs place bs t (taken_if (views.nearest st))
    go None i =
        let e : st.standing.items ≡ [] = h.standing_are.are ∙ i.0 in
        let r = none-taken st new e few u in
        let n : length (standing_of (used_up os) bs) ≡ 0 = ap length i.1 in
        let z = r.0.few in
        (view (subst (Holds new) (sym i.1) r.0) (let q : new.inactive_below ≡ min st.inactive_below (length (standing_of (used_up os) bs)) = omega (arith, z, n) in q), ap taken_if r.1)
    go (Some t) i =
        let r = last-taken st new (standing_of (used_up os) bs) i.bracket (h.standing_are.are ∙ i.standing) few u in (
          view r.0 r.1,
          record { bracket = i.bracket; there = i.there; placed = i.placed; is = ap taken_if (r.2 ∙ ap (λ z. Some (i.bracket, not z)) (sym i.inactive)) ∙ either t.opener.is_inactive i.bracket },
        )

-- ## A doubled bracket is tried

-- the first bracket of the doubled one that is tried, in the code and in the grammar
pub record IsTried (place : ℕ → ℕ) (at : ℕ) (bs : List Bracket) (t : Taken) (nearest : Option (Bracket × Bool)) : Type 0 where
  pub bracket : Bracket
  pub inner : ℕ
  pub there : drop t.nearer bs ≡ bracket ∷ drop (suc t.nearer) bs
  pub placed : IsPlaced place t.opener bracket
  pub before : inner + 1 ≤ at
  pub meets : place inner ≡ t.opener.bracket.end
  pub next : place (inner + 1) ≡ suc (place inner)
  pub is : nearest ≡ Some (record bracket { inside = inner + 1 }, not t.opener.is_inactive)

abbrev pub TriedAs : (place : ℕ → ℕ) → (at : ℕ) → List Bracket → Option Taken → Option (Bracket × Bool) → Type 0
TriedAs place at bs None nearest = nearest ≡ None
TriedAs place at bs (Some t) nearest = IsTried place at bs t nearest

abbrev pub tried_by : Option Taken → List Opener → List Opener
tried_by None os = os
tried_by (Some t) os = tried t.nearer os

pub tried-one : (place : ℕ → ℕ) (at : ℕ) (os : List Opener) (bs : List Bracket) (st db new : Brackets) → StandFor true place at os bs st db → UsesUp db new
    → StandFor true place at (tried_by (doubled os) os) bs st new × TriedAs place at bs (doubled os) (views.nearest db)
tried-one place at [] [] st db new h u =
    let d = h.doubled_are refl in
    let r = none-taken db new d.are (subst (λ l. db.inactive_below ≤ length l) (sym d.are) d.few) u in
    (record { placed = h.placed; standing_are = h.standing_are; inactive = h.inactive; doubled_are = λ e. r.0; doubled_inactive = λ e. tt }, r.1)
tried-one place at [] (b ∷ bs) st db new h u = absurd h.placed
tried-one place at (o ∷ os) [] st db new h u = absurd h.placed
tried-one place at (o ∷ os) (b ∷ bs) st db new h u = go (doubled_after o os) (tries place b.start at o b os bs db.inactive_below h.placed.0 h.placed.2 (h.doubled_inactive refl) h.placed.1 begun)
  where
    begun : b.start ≤ at
    begun =
        let w = h.placed.1 in
        let up : b.start < b.inside = subst (λ m. b.start < m) (sym h.placed.0.in_text) (opening-up b.is_image b.start) in
        omega (arith, w, up)

    d : Holds db (pairs_following o b.inside os bs)
    d = h.doubled_are refl

    few : db.inactive_below ≤ length db.standing.items
    few = subst (λ l. db.inactive_below ≤ length l) (sym d.are) d.few

    go : (t : Option Taken) → Tries place at o b.inside os bs db.inactive_below t → StandFor true place at (tried_by t (o ∷ os)) (b ∷ bs) st new × TriedAs place at (b ∷ bs) t (views.nearest db)
    go None i =
        let r = none-taken db new (d.are ∙ i) few u in
        let n : length (pairs_following o b.inside os bs) ≡ 0 = ap length i in
        (record { placed = h.placed; standing_are = h.standing_are; inactive = h.inactive; doubled_are = λ e. subst (Holds new) (sym i) r.0; doubled_inactive = λ e. none_inactive o b.inside os bs i }, r.1)
      where
        none_inactive : (second : Opener) (inside : ℕ) (ps : List Opener) (cs : List Bracket) → pairs_following second inside ps cs ≡ [] → PairsInactive new.inactive_below second inside ps cs
        none_inactive second inside [] cs e = tt
        none_inactive second inside (p ∷ ps) [] e = tt
        none_inactive second inside (p ∷ ps) (c ∷ cs) e = split (p.doubles && touches second p) refl (λ f. none_inactive p c.inside ps cs f)
          where
            split : (z : Bool) → (p.doubles && touches second p) ≡ z → (pairs_following p c.inside ps cs ≡ [] → PairsInactive new.inactive_below p c.inside ps cs)
                → ((p.doubles && touches second p) ≡ true → p.is_inactive ≡ (not c.is_image && nat_lt (length (pairs_following p c.inside ps cs)) new.inactive_below)) × PairsInactive new.inactive_below p c.inside ps cs
            split true f rest = absurd (let g = grown (record c { inside = inside }) (pairs_following p c.inside ps cs) in let l = ap length (ap (λ z. with_last z (record c { inside = inside }) (pairs_following p c.inside ps cs)) (sym f) ∙ e) in omega (arith, g, l))
            split false f rest = ((λ g. absurd (true≢false (sym g ∙ f))), rest (ap (λ z. with_last z (record c { inside = inside }) (pairs_following p c.inside ps cs)) (sym f) ∙ e))
    go (Some t) i =
        let kept : List Bracket = pairs_following o b.inside (tried i.more os) bs in
        let entry : Bracket = record i.bracket { inside = i.inner + 1 } in
        let r = last-taken db new kept entry (d.are ∙ i.pairs) few u in
        let list : tried t.nearer (o ∷ os) ≡ o ∷ tried i.more os = ap (λ n. tried n (o ∷ os)) i.nearer_is in (
          subst (λ (l : List Opener). StandFor true place at l (b ∷ bs) st new) (sym list) (record {
            placed = (h.placed.0, h.placed.1, tried-placed place b.start i.more os bs h.placed.2);
            standing_are = subst (Holds st) (ap (with_last o.stands b) (sym (tried-standing i.more os bs))) h.standing_are;
            inactive = ((λ e. h.inactive.0 e ∙ ap (λ l. not b.is_image && nat_lt (length l) st.inactive_below) (sym (tried-standing i.more os bs))), inactive-tried i.more os bs st.inactive_below h.inactive.1);
            doubled_are = λ e. r.0;
            doubled_inactive = λ e. subst (λ n. PairsInactive n o b.inside (tried i.more os) bs) (sym r.1)
                (after_fewer o b.inside (tried i.more os) bs db.inactive_below (length kept) (let q : length kept ≤ length kept = omega arith in q) i.left);
          }),
          record {
            bracket = i.bracket;
            inner = i.inner;
            there = ap (λ n. drop n (b ∷ bs)) i.nearer_is ∙ i.there ∙ ap (λ n. i.bracket ∷ drop n bs) (sym i.nearer_is);
            placed = i.placed;
            before = i.before;
            meets = i.meets;
            next = i.next;
            is = r.2 ∙ ap (λ z. Some (entry, not z)) (sym i.inactive);
          },
        )

-- the doubled bracket that is tried, whether it is active or not
pub tried-as : (place : ℕ → ℕ) (at : ℕ) (os : List Opener) (bs : List Bracket) (st db : Brackets) → StandFor true place at os bs st db → TriedAs place at bs (doubled os) (views.nearest db)
tried-as place at [] [] st db h = ap (λ l. nearest_of (slice_get l (length l - 1)) (nat_lt db.inactive_below (length l))) (h.doubled_are refl).are
tried-as place at [] (b ∷ bs) st db h = absurd h.placed
tried-as place at (o ∷ os) [] st db h = absurd h.placed
tried-as place at (o ∷ os) (b ∷ bs) st db h = go (doubled_after o os) (tries place b.start at o b os bs db.inactive_below h.placed.0 h.placed.2 (h.doubled_inactive refl) h.placed.1 begun)
  where
    begun : b.start ≤ at
    begun =
        let w = h.placed.1 in
        let up : b.start < b.inside = subst (λ m. b.start < m) (sym h.placed.0.in_text) (opening-up b.is_image b.start) in
        omega (arith, w, up)

    d : Holds db (pairs_following o b.inside os bs)
    d = h.doubled_are refl

    go : (t : Option Taken) → Tries place at o b.inside os bs db.inactive_below t → TriedAs place at (b ∷ bs) t (views.nearest db)
    go None i = ap (λ l. nearest_of (slice_get l (length l - 1)) (nat_lt db.inactive_below (length l))) (d.are ∙ i)
    go (Some t) i =
        let kept : List Bracket = pairs_following o b.inside (tried i.more os) bs in
        let entry : Bracket = record i.bracket { inside = i.inner + 1 } in
        let e = d.are ∙ i.pairs in
        record {
          bracket = i.bracket;
          inner = i.inner;
          there = ap (λ n. drop n (b ∷ bs)) i.nearer_is ∙ i.there ∙ ap (λ n. i.bracket ∷ drop n bs) (sym i.nearer_is);
          placed = i.placed;
          before = i.before;
          meets = i.meets;
          next = i.next;
          is = ap (λ l. nearest_of (slice_get l (length l - 1)) (nat_lt db.inactive_below (length l))) e
              ∙ ap (λ o. nearest_of o (nat_lt db.inactive_below (length (kept ++ (entry ∷ []))))) (get-last kept entry)
              ∙ ap (λ z. Some (entry, z)) (active entry.is_image db.inactive_below (length kept) (length (kept ++ (entry ∷ []))) (grown entry kept))
              ∙ ap (λ z. Some (entry, not z)) (sym i.inactive);
        }

-- ## Something is formed

-- the doubled brackets that end by the offset `b.start` are those of the brackets before `b`
pairs_left : (wikilinks : Bool) (place : ℕ → ℕ) (at n : ℕ) (os : List Opener) (bs : List Bracket) (b : Bracket) (rest : List Bracket) (st db new : Brackets) → StandFor wikilinks place at os bs st db → drop n bs ≡ b ∷ rest → rest ≡ drop (suc n) bs → Drops b.start db new
    → wikilinks ≡ true → (Holds new (pairs_of (drop (suc n) os) (drop (suc n) bs))) × AreDoubledInactive new.inactive_below (drop (suc n) os) (drop (suc n) bs)
pairs_left wikilinks place at n os bs b rest st db new h there more drops e =
    let cut = placed-cut place at n os bs b rest h.placed there in
    let d = h.doubled_are e in
    let split = pairs-split place b.start (suc n) os bs cut.ends (subst (ArePlaced place b.start (drop (suc n) os)) more cut.following) in
    let kept : List Bracket = pairs_of (drop (suc n) os) (drop (suc n) bs) in
    let are : new.standing.items ≡ kept = drops-split b.start (pairs_of os bs) kept new.standing.items split (subst (λ (l : List Bracket). DropsAfter b.start l new.standing.items) d.are drops.drops) in
    let inactive_below : new.inactive_below ≡ min db.inactive_below (length kept) = drops.inactive_below ∙ ap (λ l. min db.inactive_below (length l)) are in (
      record { are = are; few = (let q : new.inactive_below ≤ length kept = omega (arith, inactive_below) in q) },
      subst (λ m. AreDoubledInactive m (drop (suc n) os) (drop (suc n) bs)) (sym inactive_below)
          (doubled-fewer (drop (suc n) os) (drop (suc n) bs) db.inactive_below (length kept) (let q : length kept ≤ length kept = omega arith in q) (doubled-drop (suc n) db.inactive_below os bs (h.doubled_inactive e))),
    )

holds_inactive : (old new : Brackets) (bs : List Bracket) → old.standing.items ≡ bs → Deactivates old new → Holds new bs
holds_inactive old new bs e s =
    let n : new.inactive_below ≡ length bs = s.inactive_below ∙ ap length e in
    record { are = ap (λ v. v.items) s.standing ∙ e; few = (let q : new.inactive_below ≤ length bs = omega (arith, n) in q) }

module _ (wikilinks : Bool) (place : ℕ → ℕ) (at resume n : ℕ) (os : List Opener) (bs : List Bracket) (b : Bracket) (st db : Brackets) (h : StandFor wikilinks place at os bs st db) (up : at ≤ resume) (there : drop n bs ≡ b ∷ drop (suc n) bs) where
  abbrev os-left : List Opener
  os-left = drop (suc n) os

  abbrev bs-left : List Bracket
  bs-left = drop (suc n) bs

  placed-left : ArePlaced place resume os-left bs-left
  placed-left =
      let cut = placed-cut place at n os bs b bs-left h.placed there in
      let x = cut.before in let y = cut.further in
      placed-lower place b.start resume os-left bs-left (let q : b.start ≤ resume = omega (arith, x, y, up) in q) cut.following

  pub image-formed : (new : Brackets) → NoneStand (suc n) os bs → Drops b.start db new → StandFor wikilinks place resume os-left bs-left st new
  image-formed new none drops = record {
    placed = placed-left;
    standing_are = subst (Holds st) (sym none) h.standing_are;
    inactive = inactive-drop (suc n) st.inactive_below os bs h.inactive;
    doubled_are = λ e. (pairs_left wikilinks place at n os bs b bs-left st db new h there refl drops e).0;
    doubled_inactive = λ e. (pairs_left wikilinks place at n os bs b bs-left st db new h there refl drops e).1;
  }

  pub link-formed : (st2 mid new : Brackets) → NoneStand (suc n) os bs → Deactivates st st2 → Drops b.start db mid → Deactivates mid new → StandFor wikilinks place resume (map inactive os-left) bs-left st2 new
  link-formed st2 mid new none deactivates drops deactivates2 =
      let left : List Bracket = standing_of os-left bs-left in
      let are : st.standing.items ≡ left = h.standing_are.are ∙ sym none in
      let n1 : st2.inactive_below ≡ length left = deactivates.inactive_below ∙ ap length are in
      record {
        placed = placed-inactive place resume os-left bs-left placed-left;
        standing_are = subst (Holds st2) (sym (standing-inactive os-left bs-left)) (holds_inactive st st2 left are deactivates);
        inactive = subst (λ m. AreInactive m (map inactive os-left) bs-left) (sym n1)
            (all-inactive place resume os-left bs-left st.inactive_below (length left) (let q : length left ≤ length left = omega arith in q) placed-left (inactive-drop (suc n) st.inactive_below os bs h.inactive));
        doubled_are = λ e. (let p = pairs_left wikilinks place at n os bs b bs-left st db mid h there refl drops e in subst (Holds new) (sym (pairs-inactive os-left bs-left)) (holds_inactive mid new (pairs_of os-left bs-left) p.0.are deactivates2));
        doubled_inactive = λ e. (let p = pairs_left wikilinks place at n os bs b bs-left st db mid h there refl drops e in
            let n2 : new.inactive_below ≡ length (pairs_of os-left bs-left) = deactivates2.inactive_below ∙ ap length p.0.are in
            subst (λ m. AreDoubledInactive m (map inactive os-left) bs-left) (sym n2)
            (all-doubled-inactive place resume os-left bs-left mid.inactive_below (length (pairs_of os-left bs-left)) (let q : length (pairs_of os-left bs-left) ≤ length (pairs_of os-left bs-left) = omega arith in q) placed-left p.1));
      }

  pub footnote-formed : (st2 new : Brackets) → IsNone st2 → Drops b.start db new → StandFor wikilinks place resume (map dropped os-left) bs-left st2 new
  footnote-formed st2 new none drops =
      let z = none.inactive_below in
      record {
        placed = placed-dropped place resume os-left bs-left placed-left;
        standing_are = subst (Holds st2) (sym (standing-dropped os-left bs-left)) (record { are = none.standing; few = (let q : st2.inactive_below ≤ 0 = omega (arith, z) in q) });
        inactive = inactive_dropped st2.inactive_below os-left bs-left;
        doubled_are = λ e. subst (Holds new) (sym (pairs-dropped os-left bs-left)) (pairs_left wikilinks place at n os bs b bs-left st db new h there refl drops e).0;
        doubled_inactive = λ e. doubled-inactive-dropped new.inactive_below os-left bs-left (pairs_left wikilinks place at n os bs b bs-left st db new h there refl drops e).1;
      }

  pub wikilink-formed : (mid st2 new : Brackets) → Drops b.start st mid → Deactivates mid st2 → IsNone new → StandFor wikilinks place resume (map undoubled (map inactive os-left)) bs-left st2 new
  wikilink-formed mid st2 new drops deactivates none =
      let cut = placed-cut place at n os bs b bs-left h.placed there in
      let split = standing-split place b.start (suc n) os bs cut.ends cut.following in
      let left : List Bracket = standing_of os-left bs-left in
      let are : mid.standing.items ≡ left = drops-split b.start (standing_of os bs) left mid.standing.items split (subst (λ (l : List Bracket). DropsAfter b.start l mid.standing.items) h.standing_are.are drops.drops) in
      let n1 : st2.inactive_below ≡ length left = deactivates.inactive_below ∙ ap length are in
      let z = none.inactive_below in
      record {
        placed = placed-undoubled place resume (map inactive os-left) bs-left (placed-inactive place resume os-left bs-left placed-left);
        standing_are = subst (Holds st2) (sym (standing-undoubled (map inactive os-left) bs-left ∙ standing-inactive os-left bs-left)) (holds_inactive mid st2 left are deactivates);
        inactive = subst (λ m. AreInactive m (map undoubled (map inactive os-left)) bs-left) (sym n1)
            (inactive_undoubled (length left) (map inactive os-left) bs-left (all-inactive place resume os-left bs-left st.inactive_below (length left) (let q : length left ≤ length left = omega arith in q) placed-left (inactive-drop (suc n) st.inactive_below os bs h.inactive)));
        doubled_are = λ e. subst (Holds new) (sym (pairs-undoubled (map inactive os-left) bs-left)) (record { are = none.standing; few = (let q : new.inactive_below ≤ 0 = omega (arith, z) in q) });
        doubled_inactive = λ e. doubled_none_inactive new.inactive_below (map inactive os-left) bs-left;
      }
