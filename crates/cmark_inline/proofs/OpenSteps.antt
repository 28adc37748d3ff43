-- An opening bracket that is pushed on the stacks.
use Rattle.std.specs.Prelude.{if◌then◌else◌, nat_lt, not, ◌&&◌, ◌-◌, slice_get, Some, None}
use Rattle.std.proofs.Common.{◌≡◌, ◌⊎◌, inl, inr, ℕ, ◌<◌, ◌≤◌, ◌==◌, Bool, true, false, List, [], ◌∷◌, ◌++◌, length, get_or, refl, sym, ap, subst, ◌∙◌, arith, length-append, eqb-true}
use Rattle.std.proofs.lemmas.Option.{slice_get_cases}
use Rattle.std.proofs.lemmas.Bool.{ltb-true, ltb-false, lt-ltb, eq-eqb, ne_eqb, eqb-false}
use Rattle.cmark_grammar.specs.BracketStates.{Opener, new_opener}
use Rattle.cmark_grammar.specs.Items as items
use Rattle.cmark_grammar.specs.OpenBrackets.{touches}
use Rattle.cmark_slots.specs.declared.bracket.Bracket.{Bracket}
use Rattle.cmark_slots.specs.declared.bracket.Brackets.{Brackets}
use Rattle.cmark_inline.specs.BracketViews.{IsFresh, ArePlaced, IsPlaced, with_last, standing_of, pairs_following, pairs_of, AreInactive, PairsInactive, AreDoubledInactive, Holds, StandFor}
use Rattle.cmark_slots.specs.Doubled.{touching, with_double, if_ends}
use Rattle.cmark_inline.proofs.BracketSteps.{standing-up-to, AllUpTo, and-right}
use Rattle.cmark_inline.proofs.AfterSteps.{get-last}

-- no bracket that ends before an offset touches a bracket that begins there
none_ends : (at most : ℕ) (l : List Bracket) → AllUpTo most l → most < at → if_ends at (slice_get l (length l - 1)) ≡ None
none_ends at most l up lt = go (slice_get_cases l (length l - 1)).1
  where
    apart : (c : Bracket) → c.inside ≤ most → if_ends at (Some c) ≡ None
    apart c le = ap (λ z. if z then Some c else None) (ne_eqb c.inside at (λ e. absurd (omega (arith, le, lt, e))))

    go : ((c : Bracket) × (length l - 1 < length l) × (slice_get l (length l - 1) ≡ Some c) × (get_or l (length l - 1) c ≡ c)) ⊎ ((length l ≤ length l - 1) × (slice_get l (length l - 1) ≡ None)) → if_ends at (slice_get l (length l - 1)) ≡ None
    go (inl h) = ap (if_ends at) h.2 ∙ apart h.0 (subst (λ (x : Bracket). x.inside ≤ most) h.3 (up (length l - 1) h.0 h.1))
    go (inr h) = ap (if_ends at) h.1

by_stack : (at : ℕ) (st : Brackets) (l : List Bracket) → st.standing.items ≡ l → touching at st ≡ (if nat_lt st.inactive_below (length l) then if_ends at (slice_get l (length l - 1)) else None)
by_stack at st l e = ap (λ l. if nat_lt st.inactive_below (length l) then if_ends at (slice_get l (length l - 1)) else None) e

-- if the nearest bracket ends where the new one begins, it is the one that touches it
touch : (place : ℕ → ℕ) (at : ℕ) (os : List Opener) (bs : List Bracket) (st : Brackets) → ArePlaced place at os bs → IsFresh at st.inactive_below os bs → Holds st (standing_of os bs)
    → (second : Opener) (inside : ℕ) → second.bracket.is_image ≡ false → second.bracket.start ≡ place at → ((a : ℕ) → a < at → place a < place at)
    → with_double (touching at st) inside (pairs_of os bs) ≡ pairs_following second inside os bs
touch place at [] bs st p f h second inside plain start order =
    ap (λ t. with_double t inside []) (by_stack at st [] h.are ∙ go (nat_lt st.inactive_below 0))
  where
    go : (z : Bool) → (if z then if_ends at None else None) ≡ None
    go true = refl
    go false = refl
touch place at (o ∷ os) [] st p f h second inside plain start order = absurd p
touch place at (o ∷ os) (b ∷ bs) st p f h second inside plain start order = go (b.inside == at) refl
  where
    doubled : List Bracket
    doubled = pairs_following o b.inside os bs

    entry : Bracket
    entry = record b { inside = inside }

    ends : o.bracket.end ≡ place b.inside
    ends = ap (λ (c : items.Bracket). c.end) p.0.bracket

    meets : b.inside ≡ at → touches second o ≡ true
    meets e = ap (λ z. not z && (second.bracket.start == o.bracket.end)) plain ∙ eq-eqb second.bracket.start o.bracket.end (start ∙ ap place (sym e) ∙ sym ends)

    apart : b.inside < at → touches second o ≡ false
    apart lt = ap (λ z. not z && (second.bracket.start == o.bracket.end)) plain ∙ ne_eqb second.bracket.start o.bracket.end (λ e.
        (let l = order b.inside lt in
        let same : place at ≡ place b.inside = sym start ∙ e ∙ ends in
        absurd (omega (arith, l, same))))

    none : (x : Bool) → (x && false) ≡ false
    none true = refl
    none false = refl

    go : (z : Bool) → (b.inside == at) ≡ z → with_double (touching at st) inside doubled ≡ with_last (o.doubles && touches second o) entry doubled
    go true e =
        let same = eqb-true b.inside at e in
        let is = f same in
        let list : st.standing.items ≡ standing_of os bs ++ (b ∷ []) = h.are ∙ ap (λ z. with_last z b (standing_of os bs)) is.0 in
        let low = is.2 in
        let n = length-append (standing_of os bs) (b ∷ []) in
        let few : nat_lt st.inactive_below (length (standing_of os bs ++ (b ∷ []))) ≡ true = lt-ltb st.inactive_below (length (standing_of os bs ++ (b ∷ []))) (let q : st.inactive_below < length (standing_of os bs ++ (b ∷ [])) = omega (arith, low, n) in q) in
        let found : touching at st ≡ Some b = by_stack at st (standing_of os bs ++ (b ∷ [])) list
        ∙ ap (λ z. if z then if_ends at (slice_get (standing_of os bs ++ (b ∷ [])) (length (standing_of os bs ++ (b ∷ [])) - 1)) else None) few
        ∙ ap (if_ends at) (get-last (standing_of os bs) b)
        ∙ ap (λ z. if z then Some b else None) e in
        ap (λ t. with_double t inside doubled) found ∙ sym (ap (λ z. with_last (z && touches second o) entry doubled) is.1 ∙ ap (λ z. with_last z entry doubled) (meets same))
    go false e =
        let n = eqb-false b.inside at e in
        let le = p.1 in
        let lt : b.inside < at = differs b.inside at le n in
        let up = standing-up-to place b.inside (o ∷ os) (b ∷ bs) (p.0, (let q : b.inside ≤ b.inside = omega arith in q), p.2) in
        let found : touching at st ≡ None = by_stack at st (standing_of (o ∷ os) (b ∷ bs)) h.are ∙ either (nat_lt st.inactive_below (length (standing_of (o ∷ os) (b ∷ bs)))) (none_ends at b.inside (standing_of (o ∷ os) (b ∷ bs)) up lt) in
        ap (λ t. with_double t inside doubled) found ∙ sym (ap (λ z. with_last (o.doubles && z) entry doubled) (apart lt) ∙ ap (λ z. with_last z entry doubled) (none o.doubles))
      where
        differs : (x y : ℕ) → x ≤ y → (x ≡ y → ⊥) → x < y
        differs x y le n = omega arith

        either : (z : Bool) → if_ends at (slice_get (standing_of (o ∷ os) (b ∷ bs)) (length (standing_of (o ∷ os) (b ∷ bs)) - 1)) ≡ None
            → (if z then if_ends at (slice_get (standing_of (o ∷ os) (b ∷ bs)) (length (standing_of (o ∷ os) (b ∷ bs)) - 1)) else None) ≡ None
        either true q = q
        either false q = refl

-- no bracket touches the bracket of an image
untouched : (second : Opener) (inside : ℕ) (os : List Opener) (bs : List Bracket) → second.bracket.is_image ≡ true → pairs_following second inside os bs ≡ pairs_of os bs
untouched second inside [] bs image = refl
untouched second inside (o ∷ os) [] image = refl
untouched second inside (o ∷ os) (b ∷ bs) image =
    ap (λ z. with_last (o.doubles && (not z && (second.bracket.start == o.bracket.end))) (record b { inside = inside }) (pairs_following o b.inside os bs)) image
    ∙ ap (λ z. with_last z (record b { inside = inside }) (pairs_following o b.inside os bs)) (none o.doubles)
  where
    none : (x : Bool) → (x && false) ≡ false
    none true = refl
    none false = refl

-- the new bracket is the nearest
pub pushed : (wikilinks : Bool) (place : ℕ → ℕ) (at : ℕ) (os : List Opener) (bs : List Bracket) (st new db ndb : Brackets) (bracket : items.Bracket) (b : Bracket)
    → StandFor wikilinks place at os bs st db → IsFresh at st.inactive_below os bs → IsPlaced place (new_opener bracket) b → b.start ≡ at → ((a : ℕ) → a < at → place a < place at)
    → new.standing.items ≡ st.standing.items ++ (b ∷ []) → new.inactive_below ≡ st.inactive_below
    → ndb.standing.items ≡ (if not b.is_image && wikilinks then with_double (touching at st) b.inside db.standing.items else db.standing.items) → ndb.inactive_below ≡ db.inactive_below
    → StandFor wikilinks place b.inside (new_opener bracket ∷ os) (b ∷ bs) new ndb × IsFresh b.inside new.inactive_below (new_opener bracket ∷ os) (b ∷ bs)
pushed wikilinks place at os bs st new db ndb bracket b h f p begins order are inactive_below pairs inactive_below2 = (
  record {
    placed = (p, (let q : b.inside ≤ b.inside = omega arith in q), subst (λ n. ArePlaced place n os bs) (sym begins) h.placed);
    standing_are = record { are = are ∙ ap (λ l. l ++ (b ∷ [])) h.standing_are.are; few = (let x = h.standing_are.few in let n = length-append (standing_of os bs) (b ∷ []) in let q : new.inactive_below ≤ length (standing_of os bs ++ (b ∷ [])) = omega (arith, x, n, inactive_below) in q) };
    inactive = subst (λ n. AreInactive n (new_opener bracket ∷ os) (b ∷ bs)) (sym inactive_below) ((λ e. active b.is_image (length (standing_of os bs)) st.inactive_below h.standing_are.few), h.inactive);
    doubled_are = λ e. (let d = h.doubled_are e in let w = with_pair e in record { are = w; few = subst (λ n. n ≤ length (pairs_following (new_opener bracket) b.inside os bs)) (sym inactive_below2) (grows e) });
    doubled_inactive = λ e. subst (λ n. PairsInactive n (new_opener bracket) b.inside os bs) (sym inactive_below2) (new_pair os bs db.inactive_below h.placed h.inactive f h.standing_are.few (h.doubled_are e).few (h.doubled_inactive e));
  },
  λ e. (refl, refl, subst (λ n. n ≤ length (standing_of os bs)) (sym inactive_below) h.standing_are.few),
)
  where
    active : (image : Bool) (n inactive_below : ℕ) → inactive_below ≤ n → false ≡ (not image && nat_lt n inactive_below)
    active true n inactive_below le = refl
    active false n inactive_below le = go (nat_lt n inactive_below) refl
      where
        go : (z : Bool) → nat_lt n inactive_below ≡ z → false ≡ z
        go true e = absurd (let l = ltb-true n inactive_below e in omega (arith, l, le))
        go false e = refl

    image : bracket.is_image ≡ b.is_image
    image = ap (λ (c : items.Bracket). c.is_image) p.bracket

    start : bracket.start ≡ place at
    start = ap (λ (c : items.Bracket). c.start) p.bracket ∙ ap place begins

    with_pair : wikilinks ≡ true → ndb.standing.items ≡ pairs_following (new_opener bracket) b.inside os bs
    with_pair e = pairs ∙ ap (λ z. if not b.is_image && z then with_double (touching at st) b.inside db.standing.items else db.standing.items) e
        ∙ ap (λ l. if not b.is_image && true then with_double (touching at st) b.inside l else l) (h.doubled_are e).are
        ∙ go b.is_image refl
      where
        go : (z : Bool) → b.is_image ≡ z → (if not z && true then with_double (touching at st) b.inside (pairs_of os bs) else pairs_of os bs) ≡ pairs_following (new_opener bracket) b.inside os bs
        go true i = sym (untouched (new_opener bracket) b.inside os bs (image ∙ i))
        go false i = touch place at os bs st h.placed f h.standing_are (new_opener bracket) b.inside (image ∙ i) start order

    longer : (second : Opener) (inside : ℕ) (ps : List Opener) (cs : List Bracket) → length (pairs_of ps cs) ≤ length (pairs_following second inside ps cs)
    longer second inside [] cs = omega arith
    longer second inside (x ∷ ps) [] = omega arith
    longer second inside (x ∷ ps) (c ∷ cs) = go (x.doubles && touches second x)
      where
        go : (z : Bool) → length (pairs_following x c.inside ps cs) ≤ length (with_last z (record c { inside = inside }) (pairs_following x c.inside ps cs))
        go true = let n = length-append (pairs_following x c.inside ps cs) (record c { inside = inside } ∷ []) in omega (arith, n)
        go false = omega arith

    grows : wikilinks ≡ true → db.inactive_below ≤ length (pairs_following (new_opener bracket) b.inside os bs)
    grows e = let a = (h.doubled_are e).few in let c = longer (new_opener bracket) b.inside os bs in omega (arith, a, c)

    new_pair : (ps : List Opener) (cs : List Bracket) (doubled_below : ℕ) → ArePlaced place at ps cs → AreInactive st.inactive_below ps cs → IsFresh at st.inactive_below ps cs → st.inactive_below ≤ length (standing_of ps cs) → doubled_below ≤ length (pairs_of ps cs) → AreDoubledInactive doubled_below ps cs
        → PairsInactive doubled_below (new_opener bracket) b.inside ps cs
    new_pair [] cs doubled_below pl k fr few dfew di = tt
    new_pair (x ∷ ps) [] doubled_below pl k fr few dfew di = tt
    new_pair (x ∷ ps) (c ∷ cs) doubled_below pl k fr few dfew di = (
      (λ e.
          (let t = and-right (not bracket.is_image) (bracket.start == x.bracket.end) (and-right x.doubles (touches (new_opener bracket) x) e) in
          let same : place at ≡ place c.inside = sym start ∙ eqb-true bracket.start x.bracket.end t ∙ ap (λ (y : items.Bracket). y.end) pl.0.bracket in
          let met : c.inside ≡ at = one c.inside pl.1 same in
          let is = fr met in
          k.0 is.0 ∙ sym (active c.is_image (length (standing_of ps cs)) st.inactive_below is.2) ∙ active c.is_image (length (pairs_following x c.inside ps cs)) doubled_below dfew)),
      di,
    )
      where
        one : (n : ℕ) → n ≤ at → place at ≡ place n → n ≡ at
        one n le e = go (nat_lt n at) refl
          where
            go : (z : Bool) → nat_lt n at ≡ z → n ≡ at
            go true g = absurd (let l = order n (ltb-true n at g) in omega (arith, l, e))
            go false g = let l = ltb-false n at g in omega (arith, l, le)
