-- The opening brackets of the grammar that the two stacks of brackets represent.
use Rattle.std.specs.Prelude.{◌≡◌, ℕ, suc, ◌+◌, ◌≤◌, nat_lt, Bool, true, false, not, ◌&&◌, List, [], ◌∷◌, ◌++◌, length, drop, Option, Some, None, if◌then◌else◌}
use Rattle.cmark_grammar.specs.BracketStates.{Opener}
use Rattle.cmark_grammar.specs.OpenBrackets.{Taken, touches}
use Rattle.cmark_slots.specs.declared.bracket.Bracket.{Bracket}
use Rattle.cmark_slots.specs.declared.bracket.Brackets.{Brackets}

-- the offset after an opening bracket: after `[`, or after `![` of an image
abbrev pub after_opening : (is_image : Bool) → (start : ℕ) → ℕ
after_opening true start = start + 2
after_opening false start = start + 1

-- `b` is the opening bracket `o` of the grammar, if `place` gives the place of each byte of the text
pub record IsPlaced (place : ℕ → ℕ) (o : Opener) (b : Bracket) : Type 0 where
  pub bracket : o.bracket ≡ record { is_image = b.is_image; start = place b.start; end = place b.inside }
  pub in_text : b.inside ≡ after_opening b.is_image b.start
  pub in_source : place b.inside ≡ after_opening b.is_image (place b.start)

-- the two lists have equal brackets, one before the other, the nearest first. All end by the offset `at`
abbrev pub ArePlaced : (place : ℕ → ℕ) → (at : ℕ) → List Opener → List Bracket → Type 0
ArePlaced place at [] [] = Unit {0}
ArePlaced place at (o ∷ os) (b ∷ bs) = IsPlaced place o b × (b.inside ≤ at) × ArePlaced place b.start os bs
ArePlaced place at [] (b ∷ bs) = ⊥
ArePlaced place at (o ∷ os) [] = ⊥

abbrev pub with_last : Bool → Bracket → List Bracket → List Bracket
with_last true b bs = bs ++ (b ∷ [])
with_last false b bs = bs

-- the brackets that stand, the nearest last
abbrev pub standing_of : List Opener → List Bracket → List Bracket
standing_of [] bs = []
standing_of (o ∷ os) [] = []
standing_of (o ∷ os) (b ∷ bs) = with_last o.stands b (standing_of os bs)

-- two brackets that touch are a doubled bracket, if the first one doubles. It begins with the first one, and its content after the second
abbrev pub pairs_following : (second : Opener) → (inside : ℕ) → List Opener → List Bracket → List Bracket
pairs_following second inside [] bs = []
pairs_following second inside (first ∷ os) [] = []
pairs_following second inside (first ∷ os) (b ∷ bs) = with_last (first.doubles && touches second first) (record b { inside = inside }) (pairs_following first b.inside os bs)

abbrev pub pairs_of : List Opener → List Bracket → List Bracket
pairs_of [] bs = []
pairs_of (o ∷ os) [] = []
pairs_of (o ∷ os) (b ∷ bs) = pairs_following o b.inside os bs

-- of the brackets that stand, exactly those below the height `inactive_below` that open no image are inactive
abbrev pub AreInactive : (inactive_below : ℕ) → List Opener → List Bracket → Type 0
AreInactive inactive_below [] bs = Unit {0}
AreInactive inactive_below (o ∷ os) [] = Unit {0}
AreInactive inactive_below (o ∷ os) (b ∷ bs) = (o.stands ≡ true → o.is_inactive ≡ (not b.is_image && nat_lt (length (standing_of os bs)) inactive_below)) × AreInactive inactive_below os bs

-- of the doubled brackets, exactly those below the height `inactive_below` that open no image are inactive
abbrev pub PairsInactive : (inactive_below : ℕ) → (second : Opener) → (inside : ℕ) → List Opener → List Bracket → Type 0
PairsInactive inactive_below second inside [] bs = Unit {0}
PairsInactive inactive_below second inside (first ∷ os) [] = Unit {0}
PairsInactive inactive_below second inside (first ∷ os) (b ∷ bs) =
    ((first.doubles && touches second first) ≡ true → first.is_inactive ≡ (not b.is_image && nat_lt (length (pairs_following first b.inside os bs)) inactive_below)) × PairsInactive inactive_below first b.inside os bs

abbrev pub AreDoubledInactive : (inactive_below : ℕ) → List Opener → List Bracket → Type 0
AreDoubledInactive inactive_below [] bs = Unit {0}
AreDoubledInactive inactive_below (o ∷ os) [] = Unit {0}
AreDoubledInactive inactive_below (o ∷ os) (b ∷ bs) = PairsInactive inactive_below o b.inside os bs

-- if the nearest bracket ends at the offset `at`, nothing was formed with it or after it. It stands, is not below the height
-- `inactive_below`, and was not tried
abbrev pub IsFresh : (at inactive_below : ℕ) → List Opener → List Bracket → Type 0
IsFresh at inactive_below [] bs = Unit {0}
IsFresh at inactive_below (o ∷ os) [] = Unit {0}
IsFresh at inactive_below (o ∷ os) (b ∷ bs) = b.inside ≡ at → (o.stands ≡ true) × (o.doubles ≡ true) × (inactive_below ≤ length (standing_of os bs))

-- the stack has the brackets `bs`, the nearest last, and `inactive_below` is a height of it
pub record Holds (stack : Brackets) (bs : List Bracket) : Type 0 where
  pub are : stack.standing.items ≡ bs
  pub few : stack.inactive_below ≤ length bs

-- the opening brackets of the grammar are the brackets `bs` of the text. One stack has those that stand, and the other has the doubled
-- ones, if wikilinks are read
pub record StandFor (wikilinks : Bool) (place : ℕ → ℕ) (at : ℕ) (os : List Opener) (bs : List Bracket) (standing doubled : Brackets) : Type 0 where
  pub placed : ArePlaced place at os bs
  pub standing_are : Holds standing (standing_of os bs)
  pub inactive : AreInactive standing.inactive_below os bs
  pub doubled_are : wikilinks ≡ true → Holds doubled (pairs_of os bs)
  pub doubled_inactive : wikilinks ≡ true → AreDoubledInactive doubled.inactive_below os bs

-- the bracket that was taken is the one that the grammar takes. It forms nothing if it is inactive
pub record IsTaken (place : ℕ → ℕ) (bs : List Bracket) (t : Taken) (taken : Option Bracket) : Type 0 where
  pub bracket : Bracket
  pub there : drop t.nearer bs ≡ bracket ∷ drop (suc t.nearer) bs
  pub placed : IsPlaced place t.opener bracket
  pub is : taken ≡ (if t.opener.is_inactive then None else Some bracket)

abbrev pub TakenAs : (place : ℕ → ℕ) → List Bracket → Option Taken → Option Bracket → Type 0
TakenAs place bs None taken = taken ≡ None
TakenAs place bs (Some t) taken = IsTaken place bs t taken
