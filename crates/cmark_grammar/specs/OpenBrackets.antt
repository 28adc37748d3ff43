-- The opening bracket that a closing one takes (CommonMark 6.3, "look for link or image"; wikilinks are this profile's own). Example: in
-- `[a [b](c)` the closing bracket takes the second opening one.
use Rattle.std.specs.Prelude.{ℕ, zero, suc, Bool, true, false, not, ◌==◌, ◌&&◌, ◌||◌, if◌then◌else◌, List, [], ◌∷◌, map, Option, Some, None}
use Rattle.cmark_grammar.specs.BracketStates.{Opener}

-- an opening bracket, and the number of nearer ones
pub record Taken : Type 0 where
  pub nearer : ℕ
  pub opener : Opener

abbrev pub one_nearer : Option Taken → Option Taken
one_nearer None = None
one_nearer (Some taken) = Some (record { nearer = suc taken.nearer; opener = taken.opener })

-- the nearest opening bracket that is not used up; a closing bracket uses it up, whether or not they form something
abbrev pub nearest : List Opener → Option Taken
nearest [] = None
nearest (o ∷ os) = if o.stands then Some (record { nearer = 0; opener = o }) else one_nearer (nearest os)

abbrev pub used_up : List Opener → List Opener
used_up [] = []
used_up (o ∷ os) = if o.stands then record o { stands = false } ∷ os else o ∷ used_up os

-- two touching brackets, `[[` or `![[`, are doubled: they open a wikilink. The result is the first bracket of the nearest pair that was not
-- tried yet
abbrev pub touches : (second first : Opener) → Bool
touches second first = not second.bracket.is_image && (second.bracket.start == first.bracket.end)

abbrev pub doubled_after : (second : Opener) → List Opener → Option Taken
doubled_after second [] = None
doubled_after second (first ∷ os) =
    if first.doubles && touches second first then Some (record { nearer = 1; opener = first }) else one_nearer (doubled_after first os)

abbrev pub doubled : List Opener → Option Taken
doubled [] = None
doubled (o ∷ os) = doubled_after o os

-- the opening bracket after `nearer` nearer ones was tried
abbrev pub undoubled : Opener → Opener
undoubled o = record o { doubles = false }

abbrev pub tried : (nearer : ℕ) → List Opener → List Opener
tried nearer [] = []
tried zero (o ∷ os) = undoubled o ∷ os
tried (suc nearer) (o ∷ os) = o ∷ tried nearer os

-- a link makes the earlier brackets inactive, except those of images; a footnote reference drops all earlier brackets
abbrev pub inactive : Opener → Opener
inactive o = record o { is_inactive = o.is_inactive || not o.bracket.is_image }

abbrev pub after_link : (is_image : Bool) → List Opener → List Opener
after_link true os = os
after_link false os = map inactive os

abbrev pub dropped : Opener → Opener
dropped o = record o { stands = false }
