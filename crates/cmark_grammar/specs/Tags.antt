-- Open and closing tags (CommonMark 6.6). Each part is read from the beginning of the bytes: the result is the bytes after it, if it is
-- there. Examples: `<a href="b">`, `</a >`.
use Rattle.std.specs.Prelude.{ℕ, zero, suc, Bool, ◌==◌, ◌||◌, not, if◌then◌else◌, List, [], ◌∷◌, length, drop, Option, Some, None}
use Rattle.cmark_grammar.specs.Characters.{apostrophe, backtick, carriage_return, colon, equals_sign, greater_than_sign, hyphen, less_than_sign, line_feed, period, quotation_mark, slash, underscore}
use Rattle.cmark_grammar.specs.Columns.{is_blank_byte}
use Rattle.cmark_grammar.specs.Lines.{is_content, ends_line}
use Rattle.cmark_grammar.specs.Letters.{is_letter, is_alphanumeric, first_is, after_while, after_if, and_then}

abbrev pub is_name_byte : ℕ → Bool
is_name_byte b = is_alphanumeric b || (b == hyphen)

abbrev pub is_attribute_start : ℕ → Bool
is_attribute_start b = is_letter b || ((b == underscore) || (b == colon))

abbrev pub is_attribute_byte : ℕ → Bool
is_attribute_byte b = is_alphanumeric b || ((b == underscore) || ((b == colon) || ((b == period) || (b == hyphen))))

-- a space, a tab or a byte of a line ending
abbrev pub is_space_byte : ℕ → Bool
is_space_byte b = is_blank_byte b || not (is_content b)

-- spaces, tabs, line endings, quotes, `=`, `<`, `>` and backticks end a bare value
abbrev pub ends_value : ℕ → Bool
ends_value b = is_space_byte b || ((b == quotation_mark) || ((b == apostrophe) || ((b == less_than_sign) || ((b == equals_sign) || ((b == greater_than_sign) || (b == backtick))))))

abbrev pub is_value_byte : ℕ → Bool
is_value_byte b = not (ends_value b)

-- the bytes after a line ending: a line feed, a carriage return, or both in this order
abbrev pub after_line_feed : List ℕ → List ℕ
after_line_feed [] = []
after_line_feed (b ∷ bs) = if b == line_feed then bs else b ∷ bs

abbrev pub after_ending : List ℕ → Option (List ℕ)
after_ending [] = None
after_ending (b ∷ bs) = if b == line_feed then Some bs else if b == carriage_return then Some (after_line_feed bs) else None

-- a tag's name: a letter, then letters, digits and hyphens
abbrev pub after_tag_name : List ℕ → Option (List ℕ)
after_tag_name bs = and_then (after_if is_letter bs) (λ rest. Some (after_while is_name_byte rest))

-- an attribute's name: a letter, `_` or `:`, then letters, digits, `_`, `:`, `.` and `-`
abbrev pub after_attribute_name : List ℕ → Option (List ℕ)
after_attribute_name bs = and_then (after_if is_attribute_start bs) (λ rest. Some (after_while is_attribute_byte rest))

-- a bare value: one byte or more
abbrev pub after_bare_value : List ℕ → Option (List ℕ)
after_bare_value bs = and_then (after_if is_value_byte bs) (λ rest. Some (after_while is_value_byte rest))

-- the end of a tag: `>`
abbrev pub after_greater : List ℕ → Option (List ℕ)
after_greater bs = after_if (λ b. b == greater_than_sign) bs

-- the end of an open tag, with a `/` or without
abbrev pub after_open_end : List ℕ → Option (List ℕ)
after_open_end [] = None
after_open_end (b ∷ bs) = if b == slash then after_greater bs else after_greater (b ∷ bs)

-- a closing tag after its `</`: a name, then blanks and `>`
abbrev pub after_closing_tag : List ℕ → Option (List ℕ)
after_closing_tag bs = and_then (after_tag_name bs) (λ rest. after_greater (after_while is_blank_byte rest))

-- the number of prefix bytes at the beginning of a line's rest, for each such rest
module _ (prefix : List ℕ → ℕ) where
  -- the rest of a line without its prefixes
  abbrev pub without_prefix : List ℕ → List ℕ
  without_prefix bs = drop (prefix bs) bs

  -- the bytes after the blanks of the next line, if a line ends here
  abbrev pub on_next_line : List ℕ → Option (List ℕ) → List ℕ
  on_next_line bs None = bs
  on_next_line bs (Some rest) = after_while is_blank_byte (without_prefix rest)

  -- white space in a tag: blanks with at most one line ending
  abbrev pub after_space : List ℕ → List ℕ
  after_space bs = on_next_line (after_while is_blank_byte bs) (after_ending (after_while is_blank_byte bs))

  -- the number of prefix bytes after this byte
  abbrev pub prefix_after : ℕ → List ℕ → ℕ
  prefix_after b bs = if ends_line b bs then prefix bs else 0

  -- the bytes after the first closing quotation mark that is in no prefix
  abbrev pub after_quotation_mark : (quote skip : ℕ) → List ℕ → Option (List ℕ)
  after_quotation_mark quote skip [] = None
  after_quotation_mark quote (suc skip) (b ∷ bs) = after_quotation_mark quote skip bs
  after_quotation_mark quote zero (b ∷ bs) = if b == quote then Some bs else after_quotation_mark quote (prefix_after b bs) bs

  -- a value: in double or in single quotes, or bare
  abbrev pub after_value : List ℕ → Option (List ℕ)
  after_value [] = None
  after_value (b ∷ bs) = if (b == quotation_mark) || (b == apostrophe) then after_quotation_mark b 0 bs else after_bare_value (b ∷ bs)

  -- a value after an attribute's name, if `=` follows the name
  abbrev pub after_assigned : (name : List ℕ) → List ℕ → Option (List ℕ)
  after_assigned name [] = Some name
  after_assigned name (b ∷ bs) = if b == equals_sign then after_value (after_space bs) else Some name

  -- an attribute, which comes after white space
  abbrev pub after_attribute : List ℕ → Option (List ℕ)
  after_attribute bs =
      if first_is is_space_byte bs then and_then (after_attribute_name (after_space bs)) (λ name. after_assigned name (after_space name)) else None

  -- all attributes, at most `most` of them
  abbrev pub after_attributes : (most : ℕ) → List ℕ → List ℕ
  after_attributes zero bs = bs
  after_attributes (suc most) bs = elim (after_attribute bs) [ None ↦ bs | Some rest ↦ after_attributes most rest ]

  -- an open tag after its `<`: a name, attributes, white space, and its end
  abbrev pub after_open_tag : List ℕ → Option (List ℕ)
  after_open_tag bs = and_then (after_tag_name bs) (λ rest. after_open_end (after_space (after_attributes (length rest) rest)))

  -- a tag after its `<`
  abbrev pub after_tag_start : List ℕ → Option (List ℕ)
  after_tag_start bs = if first_is (λ b. b == slash) bs then after_closing_tag (drop 1 bs) else after_open_tag bs

  abbrev pub after_tag : List ℕ → Option (List ℕ)
  after_tag bs = and_then (after_if (λ b. b == less_than_sign) bs) after_tag_start

-- no line has a prefix
abbrev pub no_prefix : List ℕ → ℕ
no_prefix bs = 0
