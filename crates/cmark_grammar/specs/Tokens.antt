-- The content of a leaf: texts and HTML (CommonMark 4.2 to 4.8), and bytes with escapes and entities resolved (CommonMark 2.4 and 2.5).
use Rattle.std.specs.Char.{encode_utf8}
use Rattle.std.specs.Prelude.{ℕ, zero, suc, ◌+◌, ◌-◌, ◌*◌, Bool, true, false, ◌==◌, ◌&&◌, ◌||◌, not, nat_lt, nat_le, if◌then◌else◌, List, [], ◌∷◌, ◌++◌, length, drop, take, take_while, replicate, fold, Option, Some, None}
use Rattle.cmark_grammar.specs.Characters.{ampersand, at_sign, backslash, backtick, capital_x, carriage_return, colon, digit_zero, exclamation_mark, left_brace, left_bracket, line_feed, number_sign, replacement_character, semicolon, slash, small_a, small_f, small_x, space, tilde}
use Rattle.cmark_grammar.specs.Answers.{Lookup}
use Rattle.cmark_grammar.specs.Attributes.{Attributes, before_braces, inside_braces, attributes_of}
use Rattle.cmark_grammar.specs.Columns.{Column, is_blank_byte, without_indent, drop_end, without_trailing_blanks, bytes_of}
use Rattle.cmark_grammar.specs.Rows.{Row, is_bare, first_place, indent_of, begin_of, start_of}
use Rattle.cmark_grammar.specs.Leaves.{Fence, closes_fence, is_empty}
use Rattle.cmark_grammar.specs.Lines.{ends_line}
use Rattle.cmark_grammar.specs.HtmlBlocks.{is_alphanumeric, is_number, lower, first_is}
use Rattle.cmark_grammar.specs.BlockDocument.{BlockKind, BlockDocument, Nil, Node, node, Text, OwnedText, Html}

-- ASCII punctuation (CommonMark 2.1)
abbrev pub is_punctuation : ℕ → Bool
is_punctuation b = (nat_le exclamation_mark b && nat_le b slash) || ((nat_le colon b && nat_le b at_sign) || ((nat_le left_bracket b && nat_le b backtick) || (nat_le left_brace b && nat_le b tilde)))

-- the text of an entity, and the number of its bytes from `&` to `;`
pub record Entity : Type 0 where
  pub bytes : List ℕ
  pub size : ℕ

abbrev pub entity_if : Option (List ℕ) → ℕ → Option Entity
entity_if None size = None
entity_if (Some bytes) size = Some (record { bytes = bytes; size = size })

-- 0, surrogates and numbers after the last character give U+FFFD (CommonMark 2.5)
abbrev pub is_character : ℕ → Bool
is_character n = nat_lt 0 n && (nat_le n 1114111 && not (nat_le 55296 n && nat_le n 57343))

-- the UTF-8 of a character; for any other number, of U+FFFD
abbrev pub character : ℕ → List ℕ
character n = if is_character n then encode_utf8 n else replacement_character

abbrev pub is_hexadecimal : ℕ → Bool
is_hexadecimal b = is_number b || (nat_le small_a (lower b) && nat_le (lower b) small_f)

abbrev pub digit_of : ℕ → ℕ
digit_of b = if is_number b then b - digit_zero else lower b - (small_a - 10)

abbrev pub value_of : (base : ℕ) → List ℕ → ℕ
value_of base ds = fold (λ n d. n * base + digit_of d) 0 ds

-- 1 to `most` digits and a semicolon
abbrev pub numeric : (base most size : ℕ) → (digits following : List ℕ) → Option Entity
numeric base most size digits following =
    if nat_lt 0 (length digits) && (nat_le (length digits) most && first_is (λ b. b == semicolon) following)
    then Some (record { bytes = character (value_of base digits); size = length digits + size }) else None

-- 1 to 6 hexadecimal digits and a semicolon (CommonMark 2.5)
abbrev pub hexadecimal_in : List ℕ → Option Entity
hexadecimal_in bs = numeric 16 6 4 (take_while is_hexadecimal bs) (drop (length (take_while is_hexadecimal bs)) bs)

-- 1 to 7 decimal digits and a semicolon (CommonMark 2.5)
abbrev pub decimal_in : List ℕ → Option Entity
decimal_in bs = numeric 10 7 3 (take_while is_number bs) (drop (length (take_while is_number bs)) bs)

abbrev pub numeric_in : List ℕ → Option Entity
numeric_in bs = if first_is (λ b. (b == small_x) || (b == capital_x)) bs then hexadecimal_in (drop 1 bs) else decimal_in bs

-- a name that the look-up knows, and a semicolon
abbrev pub named : Lookup → (name following : List ℕ) → Option Entity
named lookup name following = if not (is_empty name) && first_is (λ b. b == semicolon) following then entity_if (lookup name) (length name + 2) else None

-- a name of letters and digits, and a semicolon (CommonMark 2.5)
abbrev pub named_in : Lookup → List ℕ → Option Entity
named_in lookup bs = named lookup (take_while is_alphanumeric bs) (drop (length (take_while is_alphanumeric bs)) bs)

-- the entity or numeric character reference after `&` (CommonMark 2.5). Examples: `amp;`, `#65;`, `#x41;`
abbrev pub entity_in : Lookup → List ℕ → Option Entity
entity_in lookup bs = if first_is (λ b. b == number_sign) bs then numeric_in (drop 1 bs) else named_in lookup bs

-- the effect of a byte: it is literal, escapes the next one, or begins an entity
pub data Does : Type 0 where
  Stands : Does
  EscapesNext : Does
  Begins : (entity : Entity) → Does

abbrev pub begins_if : Option Entity → Does
begins_if None = Stands
begins_if (Some entity) = Begins entity

abbrev pub does_at : Lookup → (ampersand backslash : Bool) → List ℕ → Does
does_at lookup true backslash bs = begins_if (entity_in lookup bs)
does_at lookup false true bs = if first_is is_punctuation bs then EscapesNext else Stands
does_at lookup false false bs = Stands

-- a byte after an escaping backslash is literal
abbrev pub does : Lookup → (escaped : Bool) → ℕ → List ℕ → Does
does lookup true b bs = Stands
does lookup false b bs = does_at lookup (b == ampersand) (b == backslash) bs

abbrev pub is_escape : Does → Bool
is_escape EscapesNext = true
is_escape _ = false

-- the number of further bytes that it takes
abbrev pub size_after : Does → ℕ
size_after (Begins entity) = entity.size - 1
size_after _ = 0

-- the bytes that it gives, before others
abbrev pub add_bytes : Does → ℕ → List ℕ → List ℕ
add_bytes Stands b bs = b ∷ bs
add_bytes EscapesNext b bs = bs
add_bytes (Begins entity) b bs = entity.bytes ++ bs

abbrev pub resolved_from : Lookup → (escaped : Bool) → (skip : ℕ) → List ℕ → List ℕ
resolved_from lookup escaped skip [] = []
resolved_from lookup escaped (suc skip) (b ∷ bs) = resolved_from lookup false skip bs
resolved_from lookup escaped zero (b ∷ bs) =
    let what = does lookup escaped b bs in add_bytes what b (resolved_from lookup (is_escape what) (size_after what) bs)

-- bytes with escapes and entities resolved (info strings, destinations and titles): a backslash before punctuation is removed, and an
-- entity becomes its text
abbrev pub resolved : Lookup → List ℕ → List ℕ
resolved lookup bs = resolved_from lookup false 0 bs

-- the lines of a title: each line ending becomes a line feed, and the blanks after it are removed (this profile's own). In_front: only
-- blanks were read since the last line ending
abbrev pub title_lines : (preceding : Bool) → List ℕ → List ℕ
title_lines preceding [] = []
title_lines preceding (b ∷ bs) =
    if ends_line b bs then line_feed ∷ title_lines true bs
    else if preceding && is_blank_byte b then title_lines true bs
    else if b == carriage_return then title_lines false bs
    else b ∷ title_lines false bs

-- a piece of a leaf: its bytes, and its range in the text; it is owned if they differ
pub record Piece : Type 0 where
  pub owned : Bool
  pub bytes : List ℕ
  pub start : ℕ
  pub end : ℕ

abbrev pub text_kind_of : Piece → BlockKind
text_kind_of p = if p.owned then OwnedText p.bytes else Text p.bytes

-- pieces as nodes, before others
abbrev pub texts_then : List Piece → BlockDocument → BlockDocument
texts_then [] after = after
texts_then (p ∷ ps) after = Node (node (text_kind_of p) p.start p.end) Nil (texts_then ps after)

-- a line's columns without the blanks at both ends (CommonMark 4.8)
abbrev pub line_columns : Row → List Column
line_columns r = without_trailing_blanks (without_indent r.columns)

-- the place after the last of these columns
abbrev pub end_place : ℕ → List Column → ℕ
end_place none [] = none
end_place none (c ∷ cs) = end_place (suc c.at) cs

-- the bytes of the text from the start up to the end
abbrev pub slice : List ℕ → ℕ → ℕ → List ℕ
slice text start end = take (end - start) (drop start text)

abbrev pub piece_if : List ℕ → ℕ → ℕ → List Piece → List Piece
piece_if text start end ps = if nat_lt start end then record { owned = false; bytes = slice text start end; start = start; end = end } ∷ ps else ps

-- the end of a line without the blanks at its end
abbrev pub words_end : Row → ℕ
words_end r = end_place (start_of r) (line_columns r)

-- a stretch of the text before other nodes: one text, or nothing if it is empty
abbrev pub stretch_then : List ℕ → (start end : ℕ) → BlockDocument → BlockDocument
stretch_then text start end after = texts_then (piece_if text start end []) after

-- lines without their prefixes: the first one from that place on, and the last one without the blanks at its end. A line that begins at the
-- end of the one before it is in the same stretch; any other line begins a new stretch
abbrev pub stretches : List ℕ → (begin : ℕ) → Row → List Row → BlockDocument
stretches text begin r [] = stretch_then text begin (words_end r) Nil
stretches text begin r (s ∷ more) =
    if begin_of s == r.line_end then stretches text begin s more else stretch_then text begin r.line_end (stretches text (begin_of s) s more)

-- The raw content of a paragraph or setext heading is "formed by concatenating the paragraph's lines and removing initial and final spaces
-- or tabs" (CommonMark 4.8). It is stretches of the text, with their line endings, without the prefixes of the containers. The stretches
-- contain the spaces and tabs at the beginning of a later line: a line break removes them, and code spans and inline HTML keep them. The
-- inline pass reads the content
abbrev pub paragraph_tokens : List ℕ → Row → List Row → BlockDocument
paragraph_tokens text first more = stretches text (start_of first) first more

abbrev pub is_hash : Column → Bool
is_hash c = c.byte == number_sign

-- without a closing sequence: `#` at the end, alone or after a blank (CommonMark 4.2)
abbrev pub without_closing : List Column → List Column
without_closing cs =
    if is_bare (drop_end is_hash cs) || nat_lt (length (without_trailing_blanks (drop_end is_hash cs))) (length (drop_end is_hash cs))
    then without_trailing_blanks (drop_end is_hash cs) else cs

-- the columns after a heading's opening sequence and the blanks there
abbrev pub after_hashes : (level : ℕ) → Row → List Column
after_hashes level r = without_indent (drop level (without_indent r.columns))

-- the columns of a heading after its opening sequence, without the spaces and tabs at both ends
abbrev pub content_columns : (level : ℕ) → Row → List Column
content_columns level r = without_trailing_blanks (after_hashes level r)

-- attributes are removed first, if they are read (this profile's own)
abbrev pub without_attributes : (attributes : Bool) → List Column → List Column
without_attributes false cs = cs
without_attributes true cs = without_trailing_blanks (before_braces (λ c. c.byte) cs)

-- the columns between the braces of attributes, if attributes are read
abbrev pub attribute_columns : (attributes : Bool) → List Column → List Column
attribute_columns false cs = []
attribute_columns true cs = inside_braces (λ c. c.byte) cs

-- the raw content of a heading: without the opening and closing sequences, and without spaces and tabs at both ends (CommonMark 4.2)
abbrev pub heading_columns : (attributes : Bool) → (level : ℕ) → Row → List Column
heading_columns attributes level r = without_closing (without_attributes attributes (content_columns level r))

-- the text of a heading as one node, or none if it is empty
abbrev pub heading_tokens : List ℕ → (attributes : Bool) → (level : ℕ) → Row → BlockDocument
heading_tokens text attributes level r =
    let start = first_place r.content_end (after_hashes level r) in stretch_then text start (end_place start (heading_columns attributes level r)) Nil

-- the attributes of a heading
abbrev pub heading_attributes : (attributes : Bool) → (level : ℕ) → Row → Attributes
heading_attributes attributes level r = attributes_of (bytes_of (attribute_columns attributes (content_columns level r)))

-- a line from that place on. If it ends in CR LF, the line feed is a piece of its own and the CR is left out
abbrev pub plain_line : List ℕ → ℕ → Row → List Piece
plain_line text from r =
    if r.line_end - r.content_end == 2 then piece_if text from r.content_end (piece_if text (suc r.content_end) r.line_end []) else piece_if text from r.line_end []

-- a column that is left of a tab of which a prefix took a part
abbrev pub is_left : Column → Bool
is_left c = not (c.part == 0)

abbrev pub left_columns : List Column → ℕ
left_columns cs = length (take_while is_left cs)

-- each of these columns becomes a space, whose place is the end of the tab (this profile's own)
abbrev pub spaces_if : ℕ → ℕ → List Piece → List Piece
spaces_if zero at ps = ps
spaces_if (suc n) at ps = record { owned = true; bytes = replicate (suc n) space; start = at; end = at } ∷ ps

-- a line of code or HTML without prefixes
abbrev pub verbatim_line : List ℕ → List Column → Row → List Piece
verbatim_line text cs r = spaces_if (left_columns cs) (first_place r.content_end cs) (plain_line text (first_place r.content_end cs) r)

-- touching pieces of the text are one
abbrev pub touches : Piece → Piece → Bool
touches p q = not p.owned && (not q.owned && (p.end == q.start))

abbrev pub merge : Piece → List Piece → List Piece
merge p [] = p ∷ []
merge p (q ∷ ps) = if touches p q then record { owned = false; bytes = p.bytes ++ q.bytes; start = p.start; end = q.end } ∷ ps else p ∷ q ∷ ps

abbrev pub merge_all : List Piece → List Piece → List Piece
merge_all [] following = following
merge_all (p ∷ ps) following = merge p (merge_all ps following)

-- a line of code without at most `most` columns of indent
abbrev pub code_columns : (most : ℕ) → Row → List Column
code_columns most r = drop (if nat_le most (indent_of r) then most else indent_of r) r.columns

abbrev pub code_pieces : List ℕ → (most : ℕ) → List Row → List Piece
code_pieces text most [] = []
code_pieces text most (r ∷ rs) = merge_all (verbatim_line text (code_columns most r) r) (code_pieces text most rs)

-- the texts of lines of code (CommonMark 4.4 and 4.5)
abbrev pub code_tokens : List ℕ → (most : ℕ) → List Row → BlockDocument
code_tokens text most rs = texts_then (code_pieces text most rs) Nil

-- the lines before the first that closes a block, for example those of a fence without its closing fence
abbrev pub stop_at : Bool → Row → List Row → List Row
stop_at true r rs = []
stop_at false r rs = r ∷ rs

abbrev pub lines_before : (closes : Row → Bool) → List Row → List Row
lines_before closes [] = []
lines_before closes (r ∷ rs) = stop_at (closes r) r (lines_before closes rs)

abbrev pub fenced_lines : Fence → List Row → List Row
fenced_lines fence rs = lines_before (closes_fence fence) rs

-- HTML lines: one node for each line, except for CR LF and the spaces left of a tab
abbrev pub html_kind_of : Piece → BlockKind
html_kind_of p = if p.owned then OwnedText p.bytes else Html p.bytes

abbrev pub html_then : List Piece → BlockDocument → BlockDocument
html_then [] after = after
html_then (p ∷ ps) after = Node (node (html_kind_of p) p.start p.end) Nil (html_then ps after)

-- the nodes of the lines of an HTML block (CommonMark 4.6)
abbrev pub html_tokens : List ℕ → List Row → BlockDocument
html_tokens text [] = Nil
html_tokens text (r ∷ rs) = html_then (verbatim_line text r.columns r) (html_tokens text rs)
