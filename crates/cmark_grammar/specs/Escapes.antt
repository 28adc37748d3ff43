-- Escapes in HTML, as the original writes them: each byte of a text is mapped, and the results are joined. Example: `a<b` becomes `a&lt;b`.
use Rattle.std.specs.Prelude.{ℕ, ◌+◌, ◌-◌, ◌/◌, ◌%◌, Bool, ◌||◌, ◌==◌, nat_lt, if◌then◌else◌, List, [], ◌∷◌, flat_map, codes}
use Rattle.std.specs.Char.{is_ascii_alphanumeric}
use Rattle.std.specs.List.{list_any}
use Rattle.cmark_grammar.specs.Characters.{ampersand, apostrophe, capital_a, digit_zero, greater_than_sign, less_than_sign, percent_sign, quotation_mark}

-- in body text `&`, `<` and `>` are written as entities
abbrev pub body_text_byte : ℕ → List ℕ
body_text_byte b =
    if b == ampersand then codes "&amp;"
    else if b == less_than_sign then codes "&lt;"
    else if b == greater_than_sign then codes "&gt;"
    else b ∷ []

abbrev pub escaped_body_text : List ℕ → List ℕ
escaped_body_text text = flat_map body_text_byte text

-- in the value of an attribute `"` and `'` too
abbrev pub html_byte : ℕ → List ℕ
html_byte b =
    if b == quotation_mark then codes "&quot;"
    else if b == apostrophe then codes "&#x27;"
    else body_text_byte b

abbrev pub escaped_html : List ℕ → List ℕ
escaped_html text = flat_map html_byte text

-- the bytes that a URL keeps: ASCII letters and digits, and the listed signs
abbrev pub is_url_byte : ℕ → Bool
is_url_byte b = is_ascii_alphanumeric b || list_any (λ sign. sign == b) (codes "!#$%()*+,-./:;=?@_~")

-- the upper-case digit of a number below 16
abbrev pub hexadecimal_digit : ℕ → ℕ
hexadecimal_digit n = if nat_lt n 10 then digit_zero + n else (capital_a - 10) + n

-- `%` and two digits
abbrev pub percent_encoded : ℕ → List ℕ
percent_encoded b = percent_sign ∷ hexadecimal_digit (b / 16) ∷ hexadecimal_digit (b % 16) ∷ []

-- in the URL of a link `&` and `'` are written as entities. Each other byte that a URL does not keep is percent-encoded
abbrev pub href_byte : ℕ → List ℕ
href_byte b =
    if is_url_byte b then b ∷ []
    else if b == ampersand then codes "&amp;"
    else if b == apostrophe then codes "&#x27;"
    else percent_encoded b

abbrev pub escaped_href : List ℕ → List ℕ
escaped_href url = flat_map href_byte url
