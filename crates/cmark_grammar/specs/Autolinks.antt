-- Autolinks (CommonMark 6.5), and the names of wikilinks (this profile's own).
use Rattle.std.specs.Prelude.{ℕ, suc, ◌-◌, Bool, true, ◌==◌, ◌&&◌, ◌||◌, not, nat_le, if◌then◌else◌, List, [], ◌∷◌, length, drop, take, get_or, Option, Some, None}
use Rattle.std.specs.List.{prefix_len}
use Rattle.cmark_grammar.specs.Characters.{apostrophe, asterisk, at_sign, backtick, caret, colon, delete, equals_sign, exclamation_mark, greater_than_sign, hyphen, left_brace, less_than_sign, number_sign, period, pipe, plus_sign, question_mark, slash, space, tilde}
use Rattle.cmark_grammar.specs.Letters.{is_letter, is_alphanumeric, first_is}
use Rattle.cmark_grammar.specs.LinkDefinitions.{Parsed}
use Rattle.cmark_grammar.specs.Tags.{is_name_byte}

-- the first `size` bytes, if the closer follows them, and the bytes after the closer
abbrev pub closed_by : (closer size : ℕ) → List ℕ → Option Parsed
closed_by closer size bs = if first_is (λ b. b == closer) (drop size bs) then Some (record { bytes = take size bs; following = drop (suc size) bs }) else None

abbrev pub is_scheme_byte : ℕ → Bool
is_scheme_byte b = is_alphanumeric b || ((b == plus_sign) || ((b == hyphen) || (b == period)))

-- a scheme of 2 to 32 bytes that begins with a letter, and a colon (CommonMark 6.5)
abbrev pub has_scheme : List ℕ → Bool
has_scheme bs =
    first_is is_letter bs && (nat_le 2 (prefix_len is_scheme_byte bs) && (nat_le (prefix_len is_scheme_byte bs) 32 && first_is (λ b. b == colon) (drop (prefix_len is_scheme_byte bs) bs)))

-- no ASCII control, space, `<` or `>`
abbrev pub is_uri_byte : ℕ → Bool
is_uri_byte b = not (nat_le b space || ((b == delete) || ((b == less_than_sign) || (b == greater_than_sign))))

-- ## Email addresses

-- a byte of ".!#$%&'*+/=?^_`{|}~-"
abbrev pub is_local_mark : ℕ → Bool
is_local_mark b =
    (b == exclamation_mark) || ((nat_le number_sign b && nat_le b apostrophe) || ((b == asterisk) || ((b == plus_sign) || ((nat_le hyphen b && nat_le b slash)
    || ((b == equals_sign) || ((b == question_mark) || ((nat_le caret b && nat_le b backtick) || (nat_le left_brace b && nat_le b tilde))))))))

abbrev pub is_local_byte : ℕ → Bool
is_local_byte b = is_alphanumeric b || is_local_mark b

-- a label of a domain: 1 to 63 letters, digits and hyphens, of which neither the first nor the last is a hyphen
abbrev pub is_domain_label : List ℕ → Bool
is_domain_label bs =
    nat_le 1 (length bs) && (nat_le (length bs) 63 && ((prefix_len is_name_byte bs == length bs)
    && (not (get_or bs 0 0 == hyphen) && not (get_or bs (length bs - 1) 0 == hyphen))))

abbrev pub are_domain_labels : List (List ℕ) → Bool
are_domain_labels [] = true
are_domain_labels (label ∷ labels) = is_domain_label label && are_domain_labels labels

abbrev pub onto_first : ℕ → List (List ℕ) → List (List ℕ)
onto_first b [] = (b ∷ []) ∷ []
onto_first b (label ∷ labels) = (b ∷ label) ∷ labels

-- the parts between the periods
abbrev pub between_periods : List ℕ → List (List ℕ)
between_periods [] = [] ∷ []
between_periods (b ∷ bs) = if b == period then [] ∷ between_periods bs else onto_first b (between_periods bs)

-- labels, with a period between each two
abbrev pub is_domain : List ℕ → Bool
is_domain bs = are_domain_labels (between_periods bs)

-- a local part of at least one byte, `@` and a domain
abbrev pub is_email : List ℕ → Bool
is_email bs =
    nat_le 1 (prefix_len is_local_byte bs)
    && (first_is (λ b. b == at_sign) (drop (prefix_len is_local_byte bs) bs) && is_domain (drop (suc (prefix_len is_local_byte bs)) bs))

-- ## Both

-- an address begins here: a URI, or, with the option for them, an email address that ends before the first byte that no URI has
abbrev pub has_address : (emails : Bool) → List ℕ → Bool
has_address emails bs = has_scheme bs || (emails && is_email (take (prefix_len is_uri_byte bs) bs))

-- the address of an autolink after its `<`; a `>` closes it. Example: `https://a.b>`
abbrev pub autolink_in : (emails : Bool) → List ℕ → Option Parsed
autolink_in emails bs = if has_address emails bs then closed_by greater_than_sign (prefix_len is_uri_byte bs) bs else None

-- the name of a wikilink before the first `|`
abbrev pub piped_name_in : List ℕ → Option Parsed
piped_name_in bs = closed_by pipe (prefix_len (λ b. not (b == pipe)) bs) bs
