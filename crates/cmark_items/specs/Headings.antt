-- The attributes of a heading, as attributes of the grammar.
use Rattle.std.specs.Prelude.{ℕ, Bool, not, List, [], Option, Some, None}
use Rattle.std.specs.Borrow.{Bor}
use Rattle.std.specs.Char.{is_ascii_whitespace}
use Rattle.cmark_grammar.specs.Attributes.{Attributes, words}
use Rattle.cmark_values.specs.Shown.{shown_attributes}
use Rattle.cmark_items.specs.declared.heading.HeadingAttributes.{HeadingAttributes}

abbrev pub shown_heading : HeadingAttributes → Attributes
shown_heading a = shown_attributes a.id a.classes.items a.attrs.items

abbrev pub is_in_word : ℕ → Bool
is_in_word b = not (is_ascii_whitespace b)

abbrev pub str_bytes : Bor (List ℕ) → List ℕ
str_bytes text = text.now

-- the words that are left after the first word
abbrev pub words_after : Option (List ℕ) → List (List ℕ)
words_after None = []
words_after (Some bs) = words bs
