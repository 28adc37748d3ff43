-- The bytes that are escaped.
use Rattle.std.specs.Prelude.{ℕ, Bool, ◌==◌, ◌||◌, not}
use Rattle.cmark_grammar.specs.Characters.{ampersand, apostrophe, greater_than_sign, less_than_sign, quotation_mark}
use Rattle.cmark_grammar.specs.Escapes.{is_url_byte}

abbrev pub is_body_text_mark : ℕ → Bool
is_body_text_mark b = b == ampersand || b == less_than_sign || b == greater_than_sign

abbrev pub is_html_mark : ℕ → Bool
is_html_mark b = is_body_text_mark b || b == quotation_mark || b == apostrophe

abbrev pub is_href_mark : ℕ → Bool
is_href_mark b = not (is_url_byte b)
