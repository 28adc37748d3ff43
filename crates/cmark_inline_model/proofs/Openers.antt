-- Opening brackets that a closing one uses up, tries or takes.
use Rattle.std.specs.Prelude.{zero, suc, ◌==◌, ◌&&◌, ◌||◌, not, if◌then◌else◌, drop, map}
use Rattle.std.proofs.Common.{◌≡◌, ◌+◌, ◌≤◌, ℕ, Bool, true, false, List, [], ◌∷◌, length, Option, Some, None, refl, sym, ap, subst, arith, ◌∙◌, eqb-true}
use Rattle.std.proofs.lemmas.List.{length-drop}
use Rattle.cmark_grammar.specs.BracketStates.{Opener}
use Rattle.cmark_grammar.specs.OpenBrackets.{Taken, one_nearer, nearest, used_up, touches, doubled_after, doubled, undoubled, tried, inactive, after_link, dropped}
use Rattle.cmark_inline_model.specs.NestedLinks.{Persist, OpenNoLink}
use Rattle.cmark_inline_model.proofs.LinkNesting.{persist-same}

-- the same brackets, with the same inactive ones
abbrev pub Alike : List Opener → List Opener → Type 0
Alike [] b = b ≡ []
Alike (o ∷ a) [] = ⊥
Alike (o ∷ a) (n ∷ b) = (n.bracket ≡ o.bracket) × (n.is_inactive ≡ o.is_inactive) × Alike a b

pub alike-same : (a : List Opener) → Alike a a
alike-same [] = refl
alike-same (o ∷ a) = (refl, refl, alike-same a)

pub alike-then : (a b c : List Opener) → Alike a b → Alike b c → Alike a c
alike-then [] [] c h k = k
alike-then [] (x ∷ b) c h k = absurd (let d : ⊥ = cc in d)
alike-then (o ∷ a) [] c h k = absurd h
alike-then (o ∷ a) (n ∷ b) [] h k = absurd k
alike-then (o ∷ a) (n ∷ b) (m ∷ c) h k = (k.0 ∙ h.0, k.1 ∙ h.1, alike-then a b c h.2 k.2)

pub alike-length : (a b : List Opener) → Alike a b → length b ≡ length a
alike-length [] b h = ap length h
alike-length (o ∷ a) [] h = absurd h
alike-length (o ∷ a) (n ∷ b) h = ap suc (alike-length a b h.2)

pub alike-drop : (n : ℕ) (a b : List Opener) → Alike a b → Alike (drop n a) (drop n b)
alike-drop zero a b h = h
alike-drop (suc n) [] b h = subst (λ (l : List Opener). Alike [] (drop (suc n) l)) (sym h) refl
alike-drop (suc n) (o ∷ a) [] h = absurd h
alike-drop (suc n) (o ∷ a) (m ∷ b) h = alike-drop n a b h.2

pub alike-persist : (a b : List Opener) → Alike a b → Persist a b
alike-persist [] b h = h
alike-persist (o ∷ a) [] h = absurd h
alike-persist (o ∷ a) (n ∷ b) h = (h.0, λ e. h.1 ∙ e, alike-persist a b h.2)

pub used-alike : (a : List Opener) → Alike a (used_up a)
used-alike [] = refl
used-alike (o ∷ a) = grind (arith, alike-same, used-alike a)

pub tried-alike : (n : ℕ) (a : List Opener) → Alike a (tried n a)
tried-alike n [] = refl
tried-alike zero (o ∷ a) = (refl, refl, alike-same a)
tried-alike (suc n) (o ∷ a) = (refl, refl, tried-alike n a)

-- the taken bracket is there
pub record IsTaken (os : List Opener) (taken : Taken) : Type 0 where
  pub opener : Opener
  pub before : List Opener
  pub there : drop taken.nearer os ≡ opener ∷ before
  pub bracket : opener.bracket ≡ taken.opener.bracket
  pub inactive : opener.is_inactive ≡ taken.opener.is_inactive

abbrev pub AreTaken : List Opener → Option Taken → Type 0
AreTaken os None = Unit {0}
AreTaken os (Some taken) = IsTaken os taken

pub taken-alike : (a b : List Opener) (taken : Taken) → Alike a b → IsTaken b taken → IsTaken a taken
taken-alike a b taken h k = go (drop taken.nearer a) refl (subst (Alike (drop taken.nearer a)) k.there (alike-drop taken.nearer a b h))
  where
    go : (l : List Opener) → drop taken.nearer a ≡ l → Alike l (k.opener ∷ k.before) → IsTaken a taken
    go [] e f = absurd (let d : ⊥ = cc in d)
    go (o ∷ more) e f = record { opener = o; before = more; there = e; bracket = sym f.0 ∙ k.bracket; inactive = sym f.1 ∙ k.inactive }

one_nearer_taken : (o : Opener) (os : List Opener) (taken : Option Taken) → AreTaken os taken → AreTaken (o ∷ os) (one_nearer taken)
one_nearer_taken o os None h = tt
one_nearer_taken o os (Some taken) h = record { opener = h.opener; before = h.before; there = h.there; bracket = h.bracket; inactive = h.inactive }

pub nearest-taken : (os : List Opener) → AreTaken os (nearest os)
nearest-taken [] = tt
nearest-taken (o ∷ os) = grind (arith, one_nearer_taken, nearest-taken os)

doubled_after_taken : (second : Opener) (os : List Opener) → AreTaken (second ∷ os) (doubled_after second os)
doubled_after_taken second [] = tt
doubled_after_taken second (first ∷ os) = grind (arith, one_nearer_taken, doubled_after_taken first os)

pub doubled-taken : (os : List Opener) → AreTaken os (doubled os)
doubled-taken [] = tt
doubled-taken (o ∷ os) = doubled_after_taken o os

-- a doubled bracket has a nearer one: its second
abbrev pub IsFar : Option Taken → Type 0
IsFar None = Unit {0}
IsFar (Some taken) = 1 ≤ taken.nearer

one_nearer_far : (taken : Option Taken) → IsFar (one_nearer taken)
one_nearer_far None = tt
one_nearer_far (Some taken) = let e : 1 ≤ suc taken.nearer = omega arith in e

doubled_after_far : (second : Opener) (os : List Opener) → IsFar (doubled_after second os)
doubled_after_far second [] = tt
doubled_after_far second (first ∷ os) = grind (arith, one_nearer_far)

pub doubled-far : (os : List Opener) → IsFar (doubled os)
doubled-far [] = tt
doubled-far (o ∷ os) = doubled_after_far o os

-- the second bracket of a doubled one is directly after the first, and opens no image
pub record IsTouched (os : List Opener) (taken : Taken) : Type 0 where
  pub n : ℕ
  pub second : Opener
  pub before : List Opener
  pub there : drop n os ≡ second ∷ before
  pub link : second.bracket.is_image ≡ false
  pub start : second.bracket.start ≡ taken.opener.bracket.end

abbrev pub AreTouched : List Opener → Option Taken → Type 0
AreTouched os None = Unit {0}
AreTouched os (Some taken) = IsTouched os taken

one_nearer_touched : (o : Opener) (os : List Opener) (taken : Option Taken) → AreTouched os taken → AreTouched (o ∷ os) (one_nearer taken)
one_nearer_touched o os None h = tt
one_nearer_touched o os (Some taken) h = record { n = suc h.n; second = h.second; before = h.before; there = h.there; link = h.link; start = h.start }

doubled_after_touched : (second : Opener) (os : List Opener) → AreTouched (second ∷ os) (doubled_after second os)
doubled_after_touched second [] = tt
doubled_after_touched second (first ∷ os) = go (first.doubles && touches second first) refl (doubled_after_touched first os)
  where
    last-true : (a b : Bool) → (a && b) ≡ true → b ≡ true
    last-true true b e = e
    last-true false b e = cc

    first-true : (a b : Bool) → (a && b) ≡ true → a ≡ true
    first-true true b e = refl
    first-true false b e = cc

    not-false : (a : Bool) → not a ≡ true → a ≡ false
    not-false true e = cc
    not-false false e = refl

    go : (b : Bool) → (first.doubles && touches second first) ≡ b → AreTouched (first ∷ os) (doubled_after first os)
        → AreTouched (second ∷ (first ∷ os)) (if b then Some (record { nearer = 1; opener = first }) else one_nearer (doubled_after first os))
    go true e h =
        let t = last-true first.doubles (touches second first) e in
        record {
          n = 0;
          second = second;
          before = first ∷ os;
          there = refl;
          link = not-false second.bracket.is_image (first-true (not second.bracket.is_image) (second.bracket.start == first.bracket.end) t);
          start = eqb-true second.bracket.start first.bracket.end (last-true (not second.bracket.is_image) (second.bracket.start == first.bracket.end) t);
        }
    go false e h = one_nearer_touched second (first ∷ os) (doubled_after first os) h

pub doubled-touched : (os : List Opener) → AreTouched os (doubled os)
doubled-touched [] = tt
doubled-touched (o ∷ os) = doubled_after_touched o os

pub touched-alike : (a b : List Opener) (taken : Taken) → Alike a b → IsTouched b taken → IsTouched a taken
touched-alike a b taken h k = go (drop k.n a) refl (subst (Alike (drop k.n a)) k.there (alike-drop k.n a b h))
  where
    go : (l : List Opener) → drop k.n a ≡ l → Alike l (k.second ∷ k.before) → IsTouched a taken
    go [] e f = absurd (let d : ⊥ = cc in d)
    go (o ∷ more) e f = grind arith

-- ## What is left of those before the taken one

pub map-persist : (f : Opener → Opener) → ((o : Opener) → ((f o).bracket ≡ o.bracket) × (o.is_inactive ≡ true → (f o).is_inactive ≡ true)) → (os : List Opener) → Persist os (map f os)
map-persist f keeps [] = refl
map-persist f keeps (o ∷ os) = ((keeps o).0, (keeps o).1, map-persist f keeps os)

or_true : (a b : Bool) → a ≡ true → (a || b) ≡ true
or_true true b e = refl
or_true false b e = cc

pub inactive-persist : (os : List Opener) → Persist os (map inactive os)
inactive-persist os = map-persist inactive (λ o. (refl, or_true o.is_inactive (not o.bracket.is_image))) os

pub dropped-persist : (os : List Opener) → Persist os (map dropped os)
dropped-persist os = map-persist dropped (λ o. (refl, λ e. e)) os

pub undoubled-persist : (os : List Opener) → Persist os (map undoubled os)
undoubled-persist os = map-persist undoubled (λ o. (refl, λ e. e)) os

pub link-persist : (is_image : Bool) (os : List Opener) → Persist os (after_link is_image os)
link-persist true os = persist-same os
link-persist false os = inactive-persist os

or_not : (a b : Bool) → ((a || not b) || b) ≡ true
or_not a b = grind arith

pub inactive-opens-none : (os : List Opener) → OpenNoLink (map inactive os)
inactive-opens-none [] = tt
inactive-opens-none (o ∷ os) = (or_not o.is_inactive o.bracket.is_image, inactive-opens-none os)

-- the brackets up to the taken one are removed
pub left-then : (size nearer : ℕ) (os left : List Opener) (o : Opener) (before : List Opener) → length os ≡ size → drop nearer os ≡ o ∷ before → length left ≡ length (drop (suc nearer) os) → length left + suc nearer ≡ size
left-then size nearer os left o before e f g =
    let a = length-drop nearer os in
    let b = length-drop (suc nearer) os in
    let c = ap length f in
    omega arith
