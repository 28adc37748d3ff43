-- The characters of the grammar, by computation: each is the character of its name.
use Rattle.std.specs.Prelude.{◌≡◌, [], ◌∷◌, codes, encode_utf8, get_or}
use lib.Utf8.{encode}
use Rattle.std.proofs.Common.{refl}
use Rattle.cmark_grammar.specs.Characters as character

white_space : codes "\t\n\r " ≡ character.tab ∷ character.line_feed ∷ character.carriage_return ∷ character.space ∷ []
white_space = refl

signs : codes "#$%&+=<>@" ≡ character.number_sign ∷ character.dollar_sign ∷ character.percent_sign ∷ character.ampersand ∷ character.plus_sign
    ∷ character.equals_sign ∷ character.less_than_sign ∷ character.greater_than_sign ∷ character.at_sign ∷ []
signs = refl

marks : codes "!\"'*-./:;?\\^_`|~" ≡ character.exclamation_mark ∷ character.quotation_mark ∷ character.apostrophe ∷ character.asterisk ∷ character.hyphen
    ∷ character.period ∷ character.slash ∷ character.colon ∷ character.semicolon ∷ character.question_mark ∷ character.backslash ∷ character.caret
    ∷ character.underscore ∷ character.backtick ∷ character.pipe ∷ character.tilde ∷ []
marks = refl

brackets : codes "()[]{}" ≡ character.left_parenthesis ∷ character.right_parenthesis ∷ character.left_bracket ∷ character.right_bracket
    ∷ character.left_brace ∷ character.right_brace ∷ []
brackets = refl

digits_and_letters : codes "09AXZafxz" ≡ character.digit_zero ∷ character.digit_nine ∷ character.capital_a ∷ character.capital_x ∷ character.capital_z
    ∷ character.small_a ∷ character.small_f ∷ character.small_x ∷ character.small_z ∷ []
digits_and_letters = refl

beyond_ascii : codes "–—‘’“”" ≡ character.en_dash ∷ character.em_dash ∷ character.left_single_quotation_mark ∷ character.right_single_quotation_mark
    ∷ character.left_double_quotation_mark ∷ character.right_double_quotation_mark ∷ []
beyond_ascii = refl

dots : encode_utf8 (get_or (codes "…") 0 0) ≡ character.ellipsis
unfolding encode
dots = refl

replaced : encode_utf8 (get_or (codes "�") 0 0) ≡ character.replacement_character
unfolding encode
replaced = refl
