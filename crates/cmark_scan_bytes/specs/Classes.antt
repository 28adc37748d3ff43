-- The bytes of a class.
use Rattle.std.specs.Prelude.{ℕ, Bool}
use Rattle.cmark_grammar.specs.Autolinks.{is_local_byte, is_scheme_byte, is_uri_byte}
use Rattle.cmark_grammar.specs.Columns.{is_blank_byte}
use Rattle.cmark_grammar.specs.Letters.{is_alphanumeric, is_number}
use Rattle.cmark_grammar.specs.Tags.{is_name_byte, is_attribute_byte, is_value_byte}
use Rattle.cmark_grammar.specs.Tokens.{is_hexadecimal}
use Rattle.cmark_scan_bytes.specs.declared.bytes.Class.{Class}
use Rattle.cmark_scan_bytes.specs.declared.bytes.Class.TheVariants.{Blank, TagName, AttributeName, BareValue, Scheme, Uri, Local, Alphanumeric, Digit, Hexadecimal}

abbrev pub is_in : Class → ℕ → Bool
is_in Blank = is_blank_byte
is_in TagName = is_name_byte
is_in AttributeName = is_attribute_byte
is_in BareValue = is_value_byte
is_in Scheme = is_scheme_byte
is_in Uri = is_uri_byte
is_in Local = is_local_byte
is_in Alphanumeric = is_alphanumeric
is_in Digit = is_number
is_in Hexadecimal = is_hexadecimal
