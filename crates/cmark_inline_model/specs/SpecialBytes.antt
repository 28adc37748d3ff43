-- The bytes of a text that inline parsing examines (CommonMark 6); all others are literal.
use Rattle.std.specs.Prelude.{ℕ, Bool, ◌==◌, ◌&&◌, ◌||◌, List, codes}
use Rattle.std.specs.List.{list_any}
use Rattle.cmark_grammar.specs.Characters.{caret, equals_sign, pipe, tilde}
use Rattle.cmark_grammar.specs.Options.{Options}

abbrev pub is_one_of : (signs : List ℕ) → ℕ → Bool
is_one_of signs b = list_any (λ sign. sign == b) signs

-- line endings, emphasis, entities, escapes, brackets of links and images, HTML and autolinks, code spans
abbrev pub is_always_special : ℕ → Bool
is_always_special b = is_one_of (codes "\n\r*_&\\[]<!`") b

-- the special bytes, with those of the extensions
abbrev pub is_special : Options → ℕ → Bool
is_special options b =
    is_always_special b
    || ((options.tables && (b == pipe))
    || (((options.strikethrough || options.subscript) && (b == tilde))
    || ((options.superscript && (b == caret))
    || ((options.highlight && (b == equals_sign))
    || ((options.math && is_one_of (codes "${}") b)
    || (options.smart_punctuation && is_one_of (codes ".-\"'") b))))))
