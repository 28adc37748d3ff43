-- Which addresses are allowed: relative ones, and those of an allowed scheme.
use Rattle.std.specs.Prelude.{ℕ, Bool, true, not, ◌==◌, ◌||◌, ◌&&◌, if◌then◌else◌, List, [], ◌∷◌, codes, drop, take, Option, Some, None, option_map}
use Rattle.std.specs.Char.{is_ascii_alphanumeric}
use Rattle.std.specs.List.{list_all, list_any, prefix_len}
use Rattle.std.specs.Str.{str_eq_ignore_ascii_case}
use Rattle.cmark_grammar.specs.Characters.{colon}
use Rattle.cmark_grammar.specs.Labels.{words}

abbrev pub is_among : List ℕ → ℕ → Bool
is_among signs b = list_any (λ sign. b == sign) signs

-- a name is one of these in any case of ASCII letters
abbrev pub is_one_of : List (List ℕ) → List ℕ → Bool
is_one_of names name = list_any (str_eq_ignore_ascii_case name) names

-- the scheme of an address (RFC 3986 3.1): the bytes before its first colon, unless `/`, `?`, `#` or `&` is among them. `&` begins an
-- entity, and no entity is the escape of a byte of a scheme
abbrev pub scheme_of : List ℕ → Option (List ℕ)
scheme_of [] = None
scheme_of (b ∷ bs) =
    if b == colon then Some []
    else if is_among (codes "/?#&") b then None
    else option_map (λ name. b ∷ name) (scheme_of bs)

-- the schemes that an address may always have, and those that it never may
abbrev pub usual_schemes : List (List ℕ)
usual_schemes = codes "http" ∷ codes "https" ∷ codes "mailto" ∷ []

abbrev pub refused_schemes : List (List ℕ)
refused_schemes = codes "javascript" ∷ codes "vbscript" ∷ codes "data" ∷ codes "file" ∷ []

-- the bytes of a scheme's name: ASCII letters and digits, `+`, `-` and `.`
abbrev pub is_scheme_byte : ℕ → Bool
is_scheme_byte b = is_ascii_alphanumeric b || is_among (codes "+-.") b

-- the schemes that an address may have: the usual ones, and the words of a caller's list but for those that are refused
abbrev pub is_allowed_scheme : (further : List ℕ) → List ℕ → Bool
is_allowed_scheme further name =
    list_all is_scheme_byte name && (not (is_one_of refused_schemes name) && (is_one_of usual_schemes name || is_one_of (words further) name))

abbrev pub is_allowed_if_any : (further : List ℕ) → Option (List ℕ) → Bool
is_allowed_if_any further None = true
is_allowed_if_any further (Some name) = is_allowed_scheme further name

abbrev pub is_allowed : (further address : List ℕ) → Bool
is_allowed further address = is_allowed_if_any further (scheme_of address)

-- a byte before the end of a scheme in a destination that is not escaped yet: `'` ends it too, since its escape is an entity
abbrev pub is_before_sign : ℕ → Bool
is_before_sign b = not (is_among (codes ":/?#&'") b)

abbrev pub if_colon : (name following : List ℕ) → Option (List ℕ)
if_colon name [] = None
if_colon name (b ∷ bs) = if b == colon then Some name else None

abbrev pub unwritten_scheme : List ℕ → Option (List ℕ)
unwritten_scheme d = if_colon (take (prefix_len is_before_sign d) d) (drop (prefix_len is_before_sign d) d)
