-- Brackets that touch, and brackets inside a construct that is formed (wikilinks are this profile's own).
use Rattle.std.specs.Prelude.{◌≡◌, ◌==◌, ℕ, ◌-◌, ◌≤◌, ◌<◌, nat_lt, not, ◌&&◌, Bool, true, if◌then◌else◌, List, [], ◌∷◌, ◌++◌, length, take, get_or, slice_get, Option, None, Some}
use Rattle.cmark_grammar.specs.Options.{Options}
use Rattle.cmark_slots.specs.declared.bracket.Bracket.{Bracket}
use Rattle.cmark_slots.specs.declared.bracket.Brackets.{Brackets}

-- the last bracket, if it ends at this offset and no link was formed after it
abbrev pub if_ends : (place : ℕ) → Option Bracket → Option Bracket
if_ends place None = None
if_ends place (Some bracket) = if bracket.inside == place then Some bracket else None

abbrev pub touching : (place : ℕ) → Brackets → Option Bracket
touching place brackets =
    if nat_lt brackets.inactive_below (length brackets.standing.items) then if_ends place (slice_get brackets.standing.items (length brackets.standing.items - 1)) else None

-- two brackets that touch form a doubled one: it begins with the first, and its content is the content of the second
abbrev pub with_double : Option Bracket → (inside : ℕ) → (doubled : List Bracket) → List Bracket
with_double None inside doubled = doubled
with_double (Some first) inside doubled = doubled ++ (record first { inside = inside } ∷ [])

-- it is formed if wikilinks are enabled and the second bracket opens no image
abbrev pub doubles : Options → Brackets → (is_image : Bool) → (start inside : ℕ) → (doubled : List Bracket) → List Bracket
doubles options brackets is_image start inside doubled =
    if not is_image && options.wikilinks then with_double (touching start brackets) inside doubled else doubled

-- the brackets at the end of the list that end after an offset were removed
pub record DropsAfter (place : ℕ) (old new : List Bracket) : Type 0 where
  pub count : ℕ
  pub within : count ≤ length old
  pub is : new ≡ take count old
  pub before : (d : Bracket) → 0 < count → (get_or old (count - 1) d).inside ≤ place
  pub following : (k : ℕ) (d : Bracket) → count ≤ k → k < length old → place < (get_or old k d).inside

-- the last bracket, and whether it can form a link or an image: an image always, a link only if none was formed after it
abbrev pub nearest_of : Option Bracket → (is_active : Bool) → Option (Bracket × Bool)
nearest_of None is_active = None
nearest_of (Some bracket) is_active = Some (bracket, if bracket.is_image then true else is_active)

abbrev pub nearest : Brackets → Option (Bracket × Bool)
nearest brackets = nearest_of (slice_get brackets.standing.items (length brackets.standing.items - 1)) (nat_lt brackets.inactive_below (length brackets.standing.items))
