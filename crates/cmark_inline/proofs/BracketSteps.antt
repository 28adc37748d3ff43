-- Opening brackets that a closing one takes or tries, on the stacks and in the grammar.
use Rattle.std.specs.Prelude.{if◌then◌else◌, nat_lt, not, ◌&&◌, min, drop, Option, Some, None}
use Rattle.std.proofs.Common.{◌≡◌, ℕ, zero, suc, ◌+◌, ◌-◌, ◌<◌, ◌≤◌, ◌==◌, Bool, true, false, true≢false, List, [], ◌∷◌, ◌++◌, length, take, get_or, refl, sym, ap, subst, ◌∙◌, arith, append_assoc, length-append, eqb-true}
use Rattle.std.proofs.lemmas.Bool.{ltb-true, ltb-false}
use Rattle.std.proofs.Math.Seq.{take-append_seam}
use Rattle.std.proofs.lemmas.List.{append-nil, get_or_append_left, get_or-append_right}
use Rattle.cmark_grammar.specs.BracketStates.{Opener}
use Rattle.cmark_grammar.specs.Items as items
use Rattle.cmark_grammar.specs.OpenBrackets.{Taken, one_nearer, nearest, used_up, touches, doubled_after, undoubled, tried}
use Rattle.cmark_slots.specs.declared.bracket.Bracket.{Bracket}
use Rattle.cmark_inline.specs.BracketViews.{IsFresh, ArePlaced, IsPlaced, after_opening, with_last, standing_of, pairs_following, pairs_of, AreInactive, PairsInactive, AreDoubledInactive}
use Rattle.cmark_slots.specs.Doubled.{DropsAfter}

-- ## The nearest bracket that stands

-- a closing bracket uses up this one, the last one on the stack
pub record TakesOne (place : ℕ → ℕ) (os : List Opener) (bs : List Bracket) (inactive_below : ℕ) (t : Taken) : Type 0 where
  pub bracket : Bracket
  pub there : drop t.nearer bs ≡ bracket ∷ drop (suc t.nearer) bs
  pub placed : IsPlaced place t.opener bracket
  pub standing : standing_of os bs ≡ standing_of (used_up os) bs ++ (bracket ∷ [])
  pub inactive : t.opener.is_inactive ≡ (not bracket.is_image && nat_lt (length (standing_of (used_up os) bs)) inactive_below)
  pub following : drop (suc t.nearer) (used_up os) ≡ drop (suc t.nearer) os
  pub rest : standing_of (drop (suc t.nearer) os) (drop (suc t.nearer) bs) ≡ standing_of (used_up os) bs

abbrev pub Takes : (place : ℕ → ℕ) → (os : List Opener) → (bs : List Bracket) → (inactive_below : ℕ) → Option Taken → Type 0
Takes place os bs inactive_below None = (standing_of os bs ≡ []) × (standing_of (used_up os) bs ≡ [])
Takes place os bs inactive_below (Some t) = TakesOne place os bs inactive_below t

pub takes : (place : ℕ → ℕ) (at : ℕ) (os : List Opener) (bs : List Bracket) (inactive_below : ℕ) → ArePlaced place at os bs → AreInactive inactive_below os bs → Takes place os bs inactive_below (nearest os)
takes place at [] [] inactive_below h k = (refl, refl)
takes place at [] (b ∷ bs) inactive_below h k = absurd h
takes place at (o ∷ os) [] inactive_below h k = absurd h
takes place at (o ∷ os) (b ∷ bs) inactive_below h k = go o.stands refl (takes place b.start os bs inactive_below h.2 k.1)
  where
    Goal : Bool → Type 0
    Goal z = Takes place (o ∷ os) (b ∷ bs) inactive_below (if z then Some (record { nearer = 0; opener = o }) else one_nearer (nearest os))

    later : o.stands ≡ false → (t : Option Taken) → Takes place os bs inactive_below t → Takes place (o ∷ os) (b ∷ bs) inactive_below (one_nearer t)
    later e None i = (ap (λ z. with_last z b (standing_of os bs)) e ∙ i.0, ap (λ z. standing_of (if z then record o { stands = false } ∷ os else o ∷ used_up os) (b ∷ bs)) e ∙ ap (λ z. with_last z b (standing_of (used_up os) bs)) e ∙ i.1)
    later e (Some t) i =
        let same : standing_of (used_up (o ∷ os)) (b ∷ bs) ≡ standing_of (used_up os) bs = ap (λ z. standing_of (if z then record o { stands = false } ∷ os else o ∷ used_up os) (b ∷ bs)) e ∙ ap (λ z. with_last z b (standing_of (used_up os) bs)) e in
        record {
          bracket = i.bracket;
          there = i.there;
          placed = i.placed;
          standing = ap (λ z. with_last z b (standing_of os bs)) e ∙ i.standing ∙ ap (λ l. l ++ (i.bracket ∷ [])) (sym same);
          inactive = i.inactive ∙ ap (λ l. not i.bracket.is_image && nat_lt (length l) inactive_below) (sym same);
          following = ap (λ z. drop (suc (suc t.nearer)) (if z then record o { stands = false } ∷ os else o ∷ used_up os)) e ∙ i.following;
          rest = i.rest ∙ sym same;
        }

    go : (z : Bool) → o.stands ≡ z → Takes place os bs inactive_below (nearest os) → Goal z
    go true e i =
        let same : standing_of (used_up (o ∷ os)) (b ∷ bs) ≡ standing_of os bs = ap (λ z. standing_of (if z then record o { stands = false } ∷ os else o ∷ used_up os) (b ∷ bs)) e in
        record {
          bracket = b;
          there = refl;
          placed = h.0;
          standing = ap (λ z. with_last z b (standing_of os bs)) e ∙ ap (λ l. l ++ (b ∷ [])) (sym same);
          inactive = k.0 e ∙ ap (λ l. not b.is_image && nat_lt (length l) inactive_below) (sym same);
          following = ap (λ z. drop 1 (if z then record o { stands = false } ∷ os else o ∷ used_up os)) e;
          rest = sym same;
        }
    go false e i = later e (nearest os) i

-- the other brackets are unchanged
pub used-placed : (place : ℕ → ℕ) (at : ℕ) (os : List Opener) (bs : List Bracket) → ArePlaced place at os bs → ArePlaced place at (used_up os) bs
used-placed place at [] [] h = h
used-placed place at [] (b ∷ bs) h = h
used-placed place at (o ∷ os) [] h = absurd h
used-placed place at (o ∷ os) (b ∷ bs) h = go o.stands (used-placed place b.start os bs h.2)
  where
    go : (z : Bool) → ArePlaced place b.start (used_up os) bs → ArePlaced place at (if z then record o { stands = false } ∷ os else o ∷ used_up os) (b ∷ bs)
    go true i = (record { bracket = h.0.bracket; in_text = h.0.in_text; in_source = h.0.in_source }, h.1, h.2)
    go false i = (h.0, h.1, i)

-- the inactive ones of fewer brackets on the stack
fewer : (x : Bool) (n inactive_below m : ℕ) → n < m → (x && nat_lt n inactive_below) ≡ (x && nat_lt n (min inactive_below m))
fewer false n inactive_below m lt = refl
fewer true n inactive_below m lt = go (nat_lt n inactive_below) refl (nat_lt n (min inactive_below m)) refl
  where
    go : (y : Bool) → nat_lt n inactive_below ≡ y → (z : Bool) → nat_lt n (min inactive_below m) ≡ z → y ≡ z
    go true d true e = refl
    go false d false e = refl
    go true d false e = absurd (let a = ltb-true n inactive_below d in let b = ltb-false n (min inactive_below m) e in omega (arith, a, b, lt))
    go false d true e = absurd (let a = ltb-false n inactive_below d in let b = ltb-true n (min inactive_below m) e in omega (arith, a, b))

pub inactive-fewer : (os : List Opener) (bs : List Bracket) (inactive_below m : ℕ) → length (standing_of os bs) ≤ m → AreInactive inactive_below os bs → AreInactive (min inactive_below m) os bs
inactive-fewer [] bs inactive_below m le h = tt
inactive-fewer (o ∷ os) [] inactive_below m le h = tt
inactive-fewer (o ∷ os) (b ∷ bs) inactive_below m le h = (λ e. h.0 e ∙ fewer (not b.is_image) (length (standing_of os bs)) inactive_below m (one e), inactive-fewer os bs inactive_below m (less o.stands le) h.1)
  where
    grown : length (standing_of os bs ++ (b ∷ [])) ≡ suc (length (standing_of os bs))
    grown = length-append (standing_of os bs) (b ∷ []) ∙ (let q : length (standing_of os bs) + 1 ≡ suc (length (standing_of os bs)) = omega arith in q)

    one : o.stands ≡ true → length (standing_of os bs) < m
    one e = let l : length (with_last true b (standing_of os bs)) ≤ m = subst (λ z. length (with_last z b (standing_of os bs)) ≤ m) e le in let g = grown in omega (arith, l, g)

    less : (z : Bool) → length (with_last z b (standing_of os bs)) ≤ m → length (standing_of os bs) ≤ m
    less true l = let g = grown in omega (arith, l, g)
    less false l = l

-- the bracket that is used up does not stand any more
pub inactive-used : (os : List Opener) (bs : List Bracket) (inactive_below : ℕ) → AreInactive inactive_below os bs → AreInactive inactive_below (used_up os) bs
inactive-used [] bs inactive_below h = tt
inactive-used (o ∷ os) [] inactive_below h = go o.stands
  where
    go : (z : Bool) → AreInactive inactive_below (if z then record o { stands = false } ∷ os else o ∷ used_up os) []
    go true = tt
    go false = tt
inactive-used (o ∷ os) (b ∷ bs) inactive_below h = go o.stands refl (inactive-used os bs inactive_below h.1)
  where
    go : (z : Bool) → o.stands ≡ z → AreInactive inactive_below (used_up os) bs → AreInactive inactive_below (if z then record o { stands = false } ∷ os else o ∷ used_up os) (b ∷ bs)
    go true e i = ((λ f. absurd (true≢false (sym f))), h.1)
    go false e i = ((λ f. absurd (true≢false (sym f ∙ e))), i)

pub opening-up : (z : Bool) (start : ℕ) → start < after_opening z start
opening-up true start = omega arith
opening-up false start = omega arith

-- ## Doubled brackets

-- whether brackets touch depends only on where they begin and end
pub pairs-same : (second other : Opener) (inside : ℕ) (os : List Opener) (bs : List Bracket) → other.bracket ≡ second.bracket → pairs_following other inside os bs ≡ pairs_following second inside os bs
pairs-same second other inside [] bs same = refl
pairs-same second other inside (o ∷ os) [] same = refl
pairs-same second other inside (o ∷ os) (b ∷ bs) same =
    ap (λ (t : items.Bracket). with_last (o.doubles && (not t.is_image && (t.start == o.bracket.end))) (record b { inside = inside }) (pairs_following o b.inside os bs)) same

used_after : (second : Opener) (inside : ℕ) (os : List Opener) (bs : List Bracket) → pairs_following second inside (used_up os) bs ≡ pairs_following second inside os bs
used_after second inside [] bs = refl
used_after second inside (o ∷ os) [] = go o.stands
  where
    go : (z : Bool) → pairs_following second inside (if z then record o { stands = false } ∷ os else o ∷ used_up os) [] ≡ []
    go true = refl
    go false = refl
used_after second inside (o ∷ os) (b ∷ bs) = go o.stands (used_after o b.inside os bs)
  where
    go : (z : Bool) → pairs_following o b.inside (used_up os) bs ≡ pairs_following o b.inside os bs → pairs_following second inside (if z then record o { stands = false } ∷ os else o ∷ used_up os) (b ∷ bs) ≡ pairs_following second inside (o ∷ os) (b ∷ bs)
    go true i = ap (with_last (o.doubles && touches second o) (record b { inside = inside })) (pairs-same o (record o { stands = false }) b.inside os bs refl)
    go false i = ap (with_last (o.doubles && touches second o) (record b { inside = inside })) i

-- a bracket that is used up still doubles
pub used-pairs : (os : List Opener) (bs : List Bracket) → pairs_of (used_up os) bs ≡ pairs_of os bs
used-pairs [] bs = refl
used-pairs (o ∷ os) [] = go o.stands
  where
    go : (z : Bool) → pairs_of (if z then record o { stands = false } ∷ os else o ∷ used_up os) [] ≡ []
    go true = refl
    go false = refl
used-pairs (o ∷ os) (b ∷ bs) = go o.stands
  where
    go : (z : Bool) → pairs_of (if z then record o { stands = false } ∷ os else o ∷ used_up os) (b ∷ bs) ≡ pairs_of (o ∷ os) (b ∷ bs)
    go true = pairs-same o (record o { stands = false }) b.inside os bs refl
    go false = used_after o b.inside os bs

pairs_inactive_same : (inactive_below : ℕ) (second other : Opener) (inside : ℕ) (os : List Opener) (bs : List Bracket) → other.bracket ≡ second.bracket → PairsInactive inactive_below second inside os bs → PairsInactive inactive_below other inside os bs
pairs_inactive_same inactive_below second other inside [] bs same h = tt
pairs_inactive_same inactive_below second other inside (o ∷ os) [] same h = tt
pairs_inactive_same inactive_below second other inside (o ∷ os) (b ∷ bs) same h = ((λ e. h.0 (ap (λ (t : items.Bracket). o.doubles && (not t.is_image && (t.start == o.bracket.end))) (sym same) ∙ e)), h.1)

inactive_used_after : (inactive_below : ℕ) (second : Opener) (inside : ℕ) (os : List Opener) (bs : List Bracket) → PairsInactive inactive_below second inside os bs → PairsInactive inactive_below second inside (used_up os) bs
inactive_used_after inactive_below second inside [] bs h = tt
inactive_used_after inactive_below second inside (o ∷ os) [] h = go o.stands
  where
    go : (z : Bool) → PairsInactive inactive_below second inside (if z then record o { stands = false } ∷ os else o ∷ used_up os) []
    go true = tt
    go false = tt
inactive_used_after inactive_below second inside (o ∷ os) (b ∷ bs) h = go o.stands (inactive_used_after inactive_below o b.inside os bs h.1)
  where
    go : (z : Bool) → PairsInactive inactive_below o b.inside (used_up os) bs → PairsInactive inactive_below second inside (if z then record o { stands = false } ∷ os else o ∷ used_up os) (b ∷ bs)
    go true i = ((λ e. h.0 e ∙ ap (λ l. not b.is_image && nat_lt (length l) inactive_below) (sym (pairs-same o (record o { stands = false }) b.inside os bs refl))), pairs_inactive_same inactive_below o (record o { stands = false }) b.inside os bs refl h.1)
    go false i = ((λ e. h.0 e ∙ ap (λ l. not b.is_image && nat_lt (length l) inactive_below) (sym (used_after o b.inside os bs))), i)

pub doubled-used : (inactive_below : ℕ) (os : List Opener) (bs : List Bracket) → AreDoubledInactive inactive_below os bs → AreDoubledInactive inactive_below (used_up os) bs
doubled-used inactive_below [] bs h = tt
doubled-used inactive_below (o ∷ os) [] h = go o.stands
  where
    go : (z : Bool) → AreDoubledInactive inactive_below (if z then record o { stands = false } ∷ os else o ∷ used_up os) []
    go true = tt
    go false = tt
doubled-used inactive_below (o ∷ os) (b ∷ bs) h = go o.stands
  where
    go : (z : Bool) → AreDoubledInactive inactive_below (if z then record o { stands = false } ∷ os else o ∷ used_up os) (b ∷ bs)
    go true = pairs_inactive_same inactive_below o (record o { stands = false }) b.inside os bs refl h
    go false = inactive_used_after inactive_below o b.inside os bs h

-- the doubled bracket that is tried: its first bracket, and another one directly after it
pub record TriesOne (place : ℕ → ℕ) (most : ℕ) (second : Opener) (inside : ℕ) (os : List Opener) (bs : List Bracket) (inactive_below : ℕ) (t : Taken) : Type 0 where
  pub more : ℕ
  pub nearer_is : t.nearer ≡ suc more
  pub bracket : Bracket
  pub inner : ℕ
  pub there : drop more bs ≡ bracket ∷ drop (suc more) bs
  pub placed : IsPlaced place t.opener bracket
  pub before : inner + 1 ≤ most
  pub meets : place inner ≡ t.opener.bracket.end
  pub next : place (inner + 1) ≡ suc (place inner)
  pub pairs : pairs_following second inside os bs ≡ pairs_following second inside (tried more os) bs ++ (record bracket { inside = inner + 1 } ∷ [])
  pub inactive : t.opener.is_inactive ≡ (not bracket.is_image && nat_lt (length (pairs_following second inside (tried more os) bs)) inactive_below)
  pub left : PairsInactive inactive_below second inside (tried more os) bs

abbrev pub Tries : (place : ℕ → ℕ) → (most : ℕ) → (second : Opener) → (inside : ℕ) → (os : List Opener) → (bs : List Bracket) → (inactive_below : ℕ) → Option Taken → Type 0
Tries place most second inside os bs inactive_below None = pairs_following second inside os bs ≡ []
Tries place most second inside os bs inactive_below (Some t) = TriesOne place most second inside os bs inactive_below t

and-left : (a b : Bool) → (a && b) ≡ true → a ≡ true
and-left true b e = refl
and-left false b e = e

pub and-right : (a b : Bool) → (a && b) ≡ true → b ≡ true
and-right true b e = e
and-right false b e = absurd (true≢false (sym e))

not-true : (a : Bool) → not a ≡ true → a ≡ false
not-true true e = absurd (true≢false (sym e))
not-true false e = refl

pub tries : (place : ℕ → ℕ) (at most : ℕ) (second : Opener) (inner : Bracket) (os : List Opener) (bs : List Bracket) (inactive_below : ℕ) → IsPlaced place second inner → ArePlaced place at os bs → PairsInactive inactive_below second inner.inside os bs → inner.inside ≤ most → at ≤ most
    → Tries place most second inner.inside os bs inactive_below (doubled_after second os)
tries place at most second inner [] [] inactive_below p h k low up = refl
tries place at most second inner [] (b ∷ bs) inactive_below p h k low up = refl
tries place at most second inner (o ∷ os) [] inactive_below p h k low up = absurd h
tries place at most second inner (o ∷ os) (b ∷ bs) inactive_below p h k low up =
    let w = h.1 in
    let further : b.start < b.inside = subst (λ m. b.start < m) (sym h.0.in_text) (opening-up b.is_image b.start) in
    go (o.doubles && touches second o) refl (tries place b.start most o b os bs inactive_below h.0 h.2 k.1 (let q : b.inside ≤ most = omega (arith, w, up) in q) (let q : b.start ≤ most = omega (arith, w, up, further) in q))
  where
    entry : Bracket
    entry = record b { inside = inner.inside }

    front : List Bracket → Bool → List Bracket
    front l z = with_last z entry l

    later : (o.doubles && touches second o) ≡ false → (t : Option Taken) → Tries place most o b.inside os bs inactive_below t → Tries place most second inner.inside (o ∷ os) (b ∷ bs) inactive_below (one_nearer t)
    later e None i = ap (front (pairs_following o b.inside os bs)) e ∙ i
    later e (Some t) i =
        let same : pairs_following second inner.inside (tried (suc i.more) (o ∷ os)) (b ∷ bs) ≡ pairs_following o b.inside (tried i.more os) bs = ap (front (pairs_following o b.inside (tried i.more os) bs)) e in
        record {
          more = suc i.more;
          nearer_is = ap suc i.nearer_is;
          bracket = i.bracket;
          inner = i.inner;
          there = i.there;
          placed = i.placed;
          before = i.before;
          meets = i.meets;
          next = i.next;
          pairs = ap (front (pairs_following o b.inside os bs)) e ∙ i.pairs ∙ ap (λ l. l ++ (record i.bracket { inside = i.inner + 1 } ∷ [])) (sym same);
          inactive = i.inactive ∙ ap (λ l. not i.bracket.is_image && nat_lt (length l) inactive_below) (sym same);
          left = ((λ f. absurd (true≢false (sym f ∙ e))), i.left);
        }

    go : (z : Bool) → (o.doubles && touches second o) ≡ z → Tries place most o b.inside os bs inactive_below (doubled_after o os)
        → Tries place most second inner.inside (o ∷ os) (b ∷ bs) inactive_below (if z then Some (record { nearer = 1; opener = o }) else one_nearer (doubled_after o os))
    go true e i =
        let t = and-right o.doubles (touches second o) e in
        let plain : second.bracket.is_image ≡ false = not-true second.bracket.is_image (and-left (not second.bracket.is_image) (second.bracket.start == o.bracket.end) t) in
        let image : inner.is_image ≡ false = sym (ap (λ (c : items.Bracket). c.is_image) p.bracket) ∙ plain in
        let meets : place inner.start ≡ o.bracket.end = sym (ap (λ (c : items.Bracket). c.start) p.bracket) ∙ eqb-true second.bracket.start o.bracket.end (and-right (not second.bracket.is_image) (second.bracket.start == o.bracket.end) t) in
        let last : inner.inside ≡ inner.start + 1 = p.in_text ∙ ap (λ z. after_opening z inner.start) image in
        let same : pairs_following second inner.inside (undoubled o ∷ os) (b ∷ bs) ≡ pairs_following o b.inside os bs = pairs-same o (undoubled o) b.inside os bs refl in
        record {
          more = 0;
          nearer_is = refl;
          bracket = b;
          inner = inner.start;
          there = refl;
          placed = h.0;
          before = subst (λ m. m ≤ most) last low;
          meets = meets;
          next = ap place (sym last) ∙ p.in_source ∙ ap (λ z. after_opening z (place inner.start)) image ∙ (let q : place inner.start + 1 ≡ suc (place inner.start) = omega arith in q);
          pairs = ap (front (pairs_following o b.inside os bs)) e ∙ ap (λ l. l ++ (entry ∷ [])) (sym same) ∙ ap (λ n. pairs_following second inner.inside (undoubled o ∷ os) (b ∷ bs) ++ (record b { inside = n } ∷ [])) last;
          inactive = k.0 e ∙ ap (λ l. not b.is_image && nat_lt (length l) inactive_below) (sym same);
          left = ((λ f. absurd (true≢false (sym f))), pairs_inactive_same inactive_below o (undoubled o) b.inside os bs refl k.1);
        }
    go false e i = later e (doubled_after o os) i

-- the brackets are unchanged
pub tried-placed : (place : ℕ → ℕ) (at n : ℕ) (os : List Opener) (bs : List Bracket) → ArePlaced place at os bs → ArePlaced place at (tried n os) bs
tried-placed place at n [] [] h = h
tried-placed place at n [] (b ∷ bs) h = h
tried-placed place at n (o ∷ os) [] h = absurd h
tried-placed place at zero (o ∷ os) (b ∷ bs) h = (record { bracket = h.0.bracket; in_text = h.0.in_text; in_source = h.0.in_source }, h.1, h.2)
tried-placed place at (suc n) (o ∷ os) (b ∷ bs) h = (h.0, h.1, tried-placed place b.start n os bs h.2)

pub tried-standing : (n : ℕ) (os : List Opener) (bs : List Bracket) → standing_of (tried n os) bs ≡ standing_of os bs
tried-standing n [] bs = refl
tried-standing zero (o ∷ os) [] = refl
tried-standing (suc n) (o ∷ os) [] = refl
tried-standing zero (o ∷ os) (b ∷ bs) = refl
tried-standing (suc n) (o ∷ os) (b ∷ bs) = ap (with_last o.stands b) (tried-standing n os bs)

pub tried-rest : (k n : ℕ) (os : List Opener) (bs : List Bracket) → standing_of (drop k (tried n os)) bs ≡ standing_of (drop k os) bs
tried-rest zero n os bs = tried-standing n os bs
tried-rest (suc k) n [] bs = refl
tried-rest (suc k) zero (o ∷ os) bs = refl
tried-rest (suc k) (suc n) (o ∷ os) bs = tried-rest k n os bs

pub inactive-tried : (n : ℕ) (os : List Opener) (bs : List Bracket) (inactive_below : ℕ) → AreInactive inactive_below os bs → AreInactive inactive_below (tried n os) bs
inactive-tried n [] bs inactive_below h = tt
inactive-tried zero (o ∷ os) [] inactive_below h = tt
inactive-tried (suc n) (o ∷ os) [] inactive_below h = tt
inactive-tried zero (o ∷ os) (b ∷ bs) inactive_below h = h
inactive-tried (suc n) (o ∷ os) (b ∷ bs) inactive_below h = ((λ e. h.0 e ∙ ap (λ l. not b.is_image && nat_lt (length l) inactive_below) (sym (tried-standing n os bs))), inactive-tried n os bs inactive_below h.1)

-- ## The brackets around the one that is taken

-- the nearest `n` brackets end after the offset `place`
abbrev pub EndAfter : (place n : ℕ) → List Bracket → Type 0
EndAfter place zero bs = Unit {0}
EndAfter place (suc n) [] = Unit {0}
EndAfter place (suc n) (b ∷ bs) = (place < b.inside) × EndAfter place n bs

pub record IsCut (place : ℕ → ℕ) (at : ℕ) (os : List Opener) (bs : List Bracket) (n : ℕ) (b : Bracket) (rest : List Bracket) : Type 0 where
  pub before : b.inside ≤ at
  pub further : b.start < b.inside
  pub ends : EndAfter b.start (suc n) bs
  pub following : ArePlaced place b.start (drop (suc n) os) rest

pub placed-cut : (place : ℕ → ℕ) (at n : ℕ) (os : List Opener) (bs : List Bracket) (b : Bracket) (rest : List Bracket) → ArePlaced place at os bs → drop n bs ≡ b ∷ rest → IsCut place at os bs n b rest
placed-cut place at n os [] b rest h e = absurd (none n e)
  where
    none : (k : ℕ) → drop k [] ≡ b ∷ rest → ⊥
    none zero q = let z : ⊥ = cc in z
    none (suc k) q = let z : ⊥ = cc in z
placed-cut place at n [] (c ∷ bs) b rest h e = absurd h
placed-cut place at zero (o ∷ os) (c ∷ bs) b rest h e =
    let same : c ≡ b = head e in
    let more : bs ≡ rest = tail e in
    let q : c.start < c.inside = subst (λ m. c.start < m) (sym h.0.in_text) (opening-up c.is_image c.start) in
    let i : IsCut place at (o ∷ os) (c ∷ bs) 0 c bs = record { before = h.1; further = q; ends = (q, tt); following = h.2 } in
    subst (λ (l : List Bracket). IsCut place at (o ∷ os) (c ∷ bs) 0 b l) more (subst (λ (x : Bracket). IsCut place at (o ∷ os) (c ∷ bs) 0 x bs) same i)
  where
    head : (c ∷ bs) ≡ (b ∷ rest) → c ≡ b
    head q = let z : c ≡ b = cc in z

    tail : (c ∷ bs) ≡ (b ∷ rest) → bs ≡ rest
    tail q = let z : bs ≡ rest = cc in z
placed-cut place at (suc n) (o ∷ os) (c ∷ bs) b rest h e =
    let i = placed-cut place c.start n os bs b rest h.2 e in
    let up : c.start < c.inside = subst (λ m. c.start < m) (sym h.0.in_text) (opening-up c.is_image c.start) in
    let x = i.before in let y = i.further in let w = h.1 in
    record {
      before = (let q : b.inside ≤ at = omega (arith, x, up, w) in q);
      further = y;
      ends = ((let q : b.start < c.inside = omega (arith, x, y, up) in q), i.ends);
      following = i.following;
    }

pub placed-lower : (place : ℕ → ℕ) (at more : ℕ) (os : List Opener) (bs : List Bracket) → at ≤ more → ArePlaced place at os bs → ArePlaced place more os bs
placed-lower place at more [] [] le h = tt
placed-lower place at more [] (b ∷ bs) le h = absurd h
placed-lower place at more (o ∷ os) [] le h = absurd h
placed-lower place at more (o ∷ os) (b ∷ bs) le h = (h.0, (let x = h.1 in let q : b.inside ≤ more = omega (arith, x, le) in q), h.2)

pub fresh-past : (place : ℕ → ℕ) (at more inactive_below : ℕ) (os : List Opener) (bs : List Bracket) → at < more → ArePlaced place at os bs → IsFresh more inactive_below os bs
fresh-past place at more inactive_below [] bs lt h = tt
fresh-past place at more inactive_below (o ∷ os) [] lt h = tt
fresh-past place at more inactive_below (o ∷ os) (b ∷ bs) lt h = λ e. absurd (let x = h.1 in omega (arith, x, lt, e))

-- brackets that all end by an offset, and brackets that all end after it
abbrev pub AllUpTo : ℕ → List Bracket → Type 0
AllUpTo place bs = (k : ℕ) (d : Bracket) → k < length bs → (get_or bs k d).inside ≤ place

abbrev pub AllAfter : ℕ → List Bracket → Type 0
AllAfter place bs = (k : ℕ) (d : Bracket) → k < length bs → place < (get_or bs k d).inside

up_to_last : (place : ℕ) (z : Bool) (b : Bracket) (bs : List Bracket) → b.inside ≤ place → AllUpTo place bs → AllUpTo place (with_last z b bs)
up_to_last place false b bs le h = h
up_to_last place true b bs le h = λ k d lt. go k d (nat_lt k (length bs)) refl lt
  where
    go : (k : ℕ) (d : Bracket) (z : Bool) → nat_lt k (length bs) ≡ z → k < length (bs ++ (b ∷ [])) → (get_or (bs ++ (b ∷ [])) k d).inside ≤ place
    go k d true e lt = let l = ltb-true k (length bs) e in subst (λ (x : Bracket). x.inside ≤ place) (sym (get_or_append_left bs (b ∷ []) d k l)) (h k d l)
    go k d false e lt =
        let g = ltb-false k (length bs) e in
        let n = length-append bs (b ∷ []) in
        let same : k - length bs ≡ 0 = omega (arith, g, n, lt) in
        subst (λ (x : Bracket). x.inside ≤ place) (sym (get_or-append_right bs (b ∷ []) (length bs) k d refl g ∙ ap (λ j. get_or (b ∷ []) j d) same)) le

after_last : (place : ℕ) (z : Bool) (b : Bracket) (bs : List Bracket) → place < b.inside → AllAfter place bs → AllAfter place (with_last z b bs)
after_last place false b bs le h = h
after_last place true b bs le h = λ k d lt. go k d (nat_lt k (length bs)) refl lt
  where
    go : (k : ℕ) (d : Bracket) (z : Bool) → nat_lt k (length bs) ≡ z → k < length (bs ++ (b ∷ [])) → place < (get_or (bs ++ (b ∷ [])) k d).inside
    go k d true e lt = let l = ltb-true k (length bs) e in subst (λ (x : Bracket). place < x.inside) (sym (get_or_append_left bs (b ∷ []) d k l)) (h k d l)
    go k d false e lt =
        let g = ltb-false k (length bs) e in
        let n = length-append bs (b ∷ []) in
        let same : k - length bs ≡ 0 = omega (arith, g, n, lt) in
        subst (λ (x : Bracket). place < x.inside) (sym (get_or-append_right bs (b ∷ []) (length bs) k d refl g ∙ ap (λ j. get_or (b ∷ []) j d) same)) le

-- a list of brackets: the first ones end by an offset, and all others after it
pub record IsSplit (place : ℕ) (all kept : List Bracket) : Type 0 where
  pub gone : List Bracket
  pub is : all ≡ kept ++ gone
  pub up_to : AllUpTo place kept
  pub following : AllAfter place gone

split_none : (place : ℕ) (kept : List Bracket) → AllUpTo place kept → IsSplit place kept kept
split_none place kept h = record { gone = []; is = sym (append-nil kept); up_to = h; following = λ k d lt. absurd (omega (arith, lt)) }

split_last : (place : ℕ) (z : Bool) (b : Bracket) (all kept : List Bracket) → place < b.inside → IsSplit place all kept → IsSplit place (with_last z b all) kept
split_last place false b all kept lt h = h
split_last place true b all kept lt h = record {
  gone = h.gone ++ (b ∷ []);
  is = ap (λ l. l ++ (b ∷ [])) h.is ∙ append_assoc kept h.gone (b ∷ []);
  up_to = h.up_to;
  following = after_last place true b h.gone lt h.following;
}

pub standing-up-to : (place : ℕ → ℕ) (at : ℕ) (os : List Opener) (bs : List Bracket) → ArePlaced place at os bs → AllUpTo at (standing_of os bs)
standing-up-to place at [] bs h = λ k d lt. absurd (omega (arith, lt))
standing-up-to place at (o ∷ os) [] h = λ k d lt. absurd (omega (arith, lt))
standing-up-to place at (o ∷ os) (b ∷ bs) h =
    let i = standing-up-to place b.start os bs h.2 in
    let up : b.start < b.inside = subst (λ m. b.start < m) (sym h.0.in_text) (opening-up b.is_image b.start) in
    let w = h.1 in
    up_to_last at o.stands b (standing_of os bs) h.1 (λ k d lt. (let x = i k d lt in let q : (get_or (standing_of os bs) k d).inside ≤ at = omega (arith, x, up, w) in q))

pairs_up_to : (place : ℕ → ℕ) (at : ℕ) (second : Opener) (inside : ℕ) (os : List Opener) (bs : List Bracket) → inside ≤ at → ArePlaced place at os bs → AllUpTo at (pairs_following second inside os bs)
pairs_up_to place at second inside [] bs le h = λ k d lt. absurd (omega (arith, lt))
pairs_up_to place at second inside (o ∷ os) [] le h = λ k d lt. absurd (omega (arith, lt))
pairs_up_to place at second inside (o ∷ os) (b ∷ bs) le h =
    let up : b.start < b.inside = subst (λ m. b.start < m) (sym h.0.in_text) (opening-up b.is_image b.start) in
    let w = h.1 in
    up_to_last at (o.doubles && touches second o) (record b { inside = inside }) (pairs_following o b.inside os bs) le
    (pairs_up_to place at o b.inside os bs h.1 (placed-lower place b.start at os bs (let q : b.start ≤ at = omega (arith, up, w) in q) h.2))

pub standing-split : (place : ℕ → ℕ) (at n : ℕ) (os : List Opener) (bs : List Bracket) → EndAfter at n bs → ArePlaced place at (drop n os) (drop n bs) → IsSplit at (standing_of os bs) (standing_of (drop n os) (drop n bs))
standing-split place at zero os bs e h = split_none at (standing_of os bs) (standing-up-to place at os bs h)
standing-split place at (suc n) [] bs e h = split_none at [] (λ k d lt. absurd (omega (arith, lt)))
standing-split place at (suc n) (o ∷ os) [] e h =
    subst (IsSplit at []) (sym (none (drop n os))) (split_none at [] (λ k d lt. absurd (omega (arith, lt))))
  where
    none : (l : List Opener) → standing_of l [] ≡ []
    none [] = refl
    none (x ∷ l) = refl
standing-split place at (suc n) (o ∷ os) (b ∷ bs) e h = split_last at o.stands b (standing_of os bs) (standing_of (drop n os) (drop n bs)) e.0 (standing-split place at n os bs e.1 h)

pub pairs-split : (place : ℕ → ℕ) (at n : ℕ) (os : List Opener) (bs : List Bracket) → EndAfter at n bs → ArePlaced place at (drop n os) (drop n bs) → IsSplit at (pairs_of os bs) (pairs_of (drop n os) (drop n bs))
pairs-split place at zero [] bs e h = split_none at [] (λ k d lt. absurd (omega (arith, lt)))
pairs-split place at zero (o ∷ os) [] e h = split_none at [] (λ k d lt. absurd (omega (arith, lt)))
pairs-split place at zero (o ∷ os) (b ∷ bs) e h =
    let up : b.start < b.inside = subst (λ m. b.start < m) (sym h.0.in_text) (opening-up b.is_image b.start) in
    let w = h.1 in
    split_none at (pairs_following o b.inside os bs) (pairs_up_to place at o b.inside os bs h.1 (placed-lower place b.start at os bs (let q : b.start ≤ at = omega (arith, up, w) in q) h.2))
pairs-split place at (suc n) [] bs e h = split_none at [] (λ k d lt. absurd (omega (arith, lt)))
pairs-split place at (suc n) (o ∷ os) [] e h =
    subst (IsSplit at []) (sym (none (drop n os))) (split_none at [] (λ k d lt. absurd (omega (arith, lt))))
  where
    none : (l : List Opener) → pairs_of l [] ≡ []
    none [] = refl
    none (x ∷ l) = refl
pairs-split place at (suc n) (o ∷ os) (b ∷ bs) e h = front os bs (pairs-split place at n os bs e.1 h)
  where
    nothing : (l : List Opener) (k : ℕ) → pairs_of (drop k l) [] ≡ []
    nothing [] zero = refl
    nothing [] (suc k) = refl
    nothing (x ∷ l) zero = refl
    nothing (x ∷ l) (suc k) = nothing l k

    front : (ps : List Opener) (cs : List Bracket) → IsSplit at (pairs_of ps cs) (pairs_of (drop n ps) (drop n cs)) → IsSplit at (pairs_following o b.inside ps cs) (pairs_of (drop n ps) (drop n cs))
    front [] cs i = i
    front (p ∷ ps) [] i = i
    front (p ∷ ps) (c ∷ cs) i = split_last at (p.doubles && touches o p) (record c { inside = b.inside }) (pairs_following p c.inside ps cs) (pairs_of (drop n (p ∷ ps)) (drop n (c ∷ cs))) e.0 i

-- the brackets at the end of the list that end after the offset are removed
pub drops-split : (place : ℕ) (old kept new : List Bracket) → IsSplit place old kept → DropsAfter place old new → new ≡ kept
drops-split place old kept new s d = go (nat_lt d.count (length kept)) refl (nat_lt (length kept) d.count) refl
  where
    n : length old ≡ length kept + length s.gone
    n = ap length s.is ∙ length-append kept s.gone

    none : Bracket
    none = record { slot = 0; runs = 0; quotes = 0; start = 0; inside = 0; is_image = false }

    go : (y : Bool) → nat_lt d.count (length kept) ≡ y → (z : Bool) → nat_lt (length kept) d.count ≡ z → new ≡ kept
    go true e z f =
        let lt = ltb-true d.count (length kept) e in
        let m = n in
        let a = d.following d.count none (let q : d.count ≤ d.count = omega arith in q) (let q : d.count < length old = omega (arith, lt, m) in q) in
        let b = s.up_to d.count none lt in
        let same = ap (λ l. get_or l d.count none) s.is ∙ get_or_append_left kept s.gone none d.count lt in
        let c = subst (λ (x : Bracket). place < x.inside) same a in
        absurd (omega (arith, b, c))
    go false e true f =
        let lt = ltb-true (length kept) d.count f in
        let m = n in
        let w = d.within in
        let j : ℕ = d.count - 1 in
        let a = d.before none (let q : 0 < d.count = omega (arith, lt) in q) in
        let low : length kept ≤ j = omega (arith, lt) in
        let b = s.following (j - length kept) none (let q : j - length kept < length s.gone = omega (arith, lt, m, w) in q) in
        let same = ap (λ l. get_or l j none) s.is ∙ get_or-append_right kept s.gone (length kept) j none refl low in
        let c = subst (λ (x : Bracket). x.inside ≤ place) same a in
        absurd (omega (arith, b, c))
    go false e false f =
        let g = ltb-false d.count (length kept) e in
        let h = ltb-false (length kept) d.count f in
        let is : d.count ≡ length kept = omega (arith, g, h) in
        d.is ∙ ap (λ c. take c old) is ∙ ap (take (length kept)) s.is ∙ take-append_seam kept s.gone
