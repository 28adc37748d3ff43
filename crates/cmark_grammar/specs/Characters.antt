-- The characters that the definitions name, by their names in Unicode or in the standard. Each is a number: its code point.
use Rattle.std.specs.Prelude.{ℕ, List, [], ◌∷◌}

abbrev pub tab : ℕ
tab = 9

abbrev pub line_feed : ℕ
line_feed = 10

abbrev pub form_feed : ℕ
form_feed = 12

abbrev pub carriage_return : ℕ
carriage_return = 13

abbrev pub space : ℕ
space = 32

abbrev pub exclamation_mark : ℕ
exclamation_mark = 33

abbrev pub quotation_mark : ℕ
quotation_mark = 34

abbrev pub number_sign : ℕ
number_sign = 35

abbrev pub dollar_sign : ℕ
dollar_sign = 36

abbrev pub percent_sign : ℕ
percent_sign = 37

abbrev pub ampersand : ℕ
ampersand = 38

abbrev pub apostrophe : ℕ
apostrophe = 39

abbrev pub left_parenthesis : ℕ
left_parenthesis = 40

abbrev pub right_parenthesis : ℕ
right_parenthesis = 41

abbrev pub asterisk : ℕ
asterisk = 42

abbrev pub plus_sign : ℕ
plus_sign = 43

abbrev pub hyphen : ℕ
hyphen = 45

abbrev pub period : ℕ
period = 46

abbrev pub slash : ℕ
slash = 47

abbrev pub digit_zero : ℕ
digit_zero = 48

abbrev pub digit_nine : ℕ
digit_nine = 57

abbrev pub colon : ℕ
colon = 58

abbrev pub semicolon : ℕ
semicolon = 59

abbrev pub less_than_sign : ℕ
less_than_sign = 60

abbrev pub equals_sign : ℕ
equals_sign = 61

abbrev pub greater_than_sign : ℕ
greater_than_sign = 62

abbrev pub question_mark : ℕ
question_mark = 63

abbrev pub at_sign : ℕ
at_sign = 64

abbrev pub capital_a : ℕ
capital_a = 65

abbrev pub capital_x : ℕ
capital_x = 88

abbrev pub capital_z : ℕ
capital_z = 90

abbrev pub left_bracket : ℕ
left_bracket = 91

abbrev pub backslash : ℕ
backslash = 92

abbrev pub right_bracket : ℕ
right_bracket = 93

abbrev pub caret : ℕ
caret = 94

abbrev pub underscore : ℕ
underscore = 95

abbrev pub backtick : ℕ
backtick = 96

abbrev pub small_a : ℕ
small_a = 97

abbrev pub small_f : ℕ
small_f = 102

abbrev pub small_x : ℕ
small_x = 120

abbrev pub small_z : ℕ
small_z = 122

abbrev pub left_brace : ℕ
left_brace = 123

abbrev pub pipe : ℕ
pipe = 124

abbrev pub right_brace : ℕ
right_brace = 125

abbrev pub tilde : ℕ
tilde = 126

abbrev pub delete : ℕ
delete = 127

-- ## Characters beyond ASCII

abbrev pub en_dash : ℕ
en_dash = 8211

abbrev pub em_dash : ℕ
em_dash = 8212

abbrev pub left_single_quotation_mark : ℕ
left_single_quotation_mark = 8216

abbrev pub right_single_quotation_mark : ℕ
right_single_quotation_mark = 8217

abbrev pub left_double_quotation_mark : ℕ
left_double_quotation_mark = 8220

abbrev pub right_double_quotation_mark : ℕ
right_double_quotation_mark = 8221

-- their bytes in UTF-8
abbrev pub ellipsis : List ℕ
ellipsis = 226 ∷ 128 ∷ 166 ∷ []

abbrev pub replacement_character : List ℕ
replacement_character = 239 ∷ 191 ∷ 189 ∷ []

-- a byte of UTF-8 from the first number up to the second continues a character, and no other byte does
abbrev pub first_continuation : ℕ
first_continuation = 128

abbrev pub first_lead : ℕ
first_lead = 192
