-- Link reference definitions (CommonMark 4.7): labels, destinations and titles.
use Rattle.std.specs.Prelude.{ℕ, suc, ◌-◌, Bool, true, false, ◌==◌, ◌&&◌, ◌||◌, not, nat_lt, nat_le, if◌then◌else◌, List, [], ◌∷◌, ◌++◌, length, drop, take_while, count_by, Option, Some, None}
use Rattle.std.specs.Char.{is_ascii_whitespace}
use Rattle.cmark_grammar.specs.Characters.{apostrophe, backslash, carriage_return, colon, delete, first_continuation, first_lead, greater_than_sign, left_bracket, left_parenthesis, less_than_sign, line_feed, quotation_mark, right_bracket, right_parenthesis, space}
use Rattle.cmark_grammar.specs.Columns.{is_blank_byte, bytes_of}
use Rattle.cmark_grammar.specs.Rows.{Row, words_of}
use Rattle.cmark_grammar.specs.Leaves.{is_empty}
use Rattle.cmark_grammar.specs.Tags.{after_ending}

-- the part that was read, and the bytes after it
pub record Parsed : Type 0 where
  pub bytes : List ℕ
  pub following : List ℕ

abbrev pub put : ℕ → Option Parsed → Option Parsed
put b None = None
put b (Some found) = Some (record { bytes = b ∷ found.bytes; following = found.following })

-- this byte escapes the next one: it is a backslash that is not escaped itself
abbrev pub escapes_next : (escaped : Bool) → ℕ → Bool
escapes_next escaped b = not escaped && (b == backslash)

-- the bytes up to the closer, which no backslash escapes. The refused byte does not occur in them unless it is escaped, nor does a line end
-- unless it is allowed
abbrev pub up_to_byte : (escaped : Bool) → (closer refused : ℕ) → (over_lines : Bool) → (b : ℕ) → List ℕ → Option Parsed → Option Parsed
up_to_byte escaped closer refused over_lines b bs found =
    if not escaped && (b == closer) then Some (record { bytes = []; following = bs })
    else if (not escaped && (b == refused)) || (not over_lines && ((b == line_feed) || (b == carriage_return))) then None
    else put b found

abbrev pub up_to : (escaped : Bool) → (closer refused : ℕ) → (over_lines : Bool) → List ℕ → Option Parsed
up_to escaped closer refused over_lines [] = None
up_to escaped closer refused over_lines (b ∷ bs) = up_to_byte escaped closer refused over_lines b bs (up_to (escapes_next escaped b) closer refused over_lines bs)

-- the number of UTF-8 characters: all bytes except those that continue a character
abbrev pub characters : List ℕ → ℕ
characters bs = count_by (λ b. nat_lt b first_continuation || nat_le first_lead b) bs

-- 1 to 999 characters, not only ASCII white space (tab, line feed, form feed, carriage return, space)
abbrev pub is_label : List ℕ → Bool
is_label bs = nat_le (characters bs) 999 && nat_lt 0 (count_by (λ b. not (is_ascii_whitespace b)) bs)

-- a label after its opening bracket, up to the next unescaped bracket, which closes it
abbrev pub label_if : Option Parsed → Option Parsed
label_if None = None
label_if (Some found) = if is_label found.bytes then Some found else None

-- a label after its opening bracket (CommonMark 4.7)
abbrev pub label_in : List ℕ → Option Parsed
label_in bs = label_if (up_to false right_bracket left_bracket true bs)

-- a bare destination ends before an ASCII control, a space, or a closing parenthesis without its opening one. Parentheses are balanced, 32
-- deep at most, or escaped (CommonMark 6.3)
abbrev pub ends_bare : ℕ → Bool
ends_bare b = nat_le b space || (b == delete)

abbrev pub depth_after : (escaped : Bool) → (depth b : ℕ) → ℕ
depth_after escaped depth b = if escaped then depth else if b == left_parenthesis then suc depth else if b == right_parenthesis then depth - 1 else depth

abbrev pub bare_byte : (escaped : Bool) → (depth b : ℕ) → List ℕ → Option Parsed → Option Parsed
bare_byte escaped depth b bs found =
    if ends_bare b || (not escaped && ((b == right_parenthesis) && (depth == 0))) then (if depth == 0 then Some (record { bytes = []; following = b ∷ bs }) else None)
    else if not escaped && ((b == left_parenthesis) && nat_le 32 depth) then None
    else put b found

-- a bare destination (CommonMark 6.3). Depth: the number of open parentheses
abbrev pub bare_in : (escaped : Bool) → (depth : ℕ) → List ℕ → Option Parsed
bare_in escaped depth [] = if depth == 0 then Some (record { bytes = []; following = [] }) else None
bare_in escaped depth (b ∷ bs) = bare_byte escaped depth b bs (bare_in (escapes_next escaped b) (depth_after escaped depth b) bs)

abbrev pub nonempty : Option Parsed → Option Parsed
nonempty None = None
nonempty (Some found) = if is_empty found.bytes then None else Some found

-- a destination: in angle brackets on one line, or bare and not empty
abbrev pub destination_in : List ℕ → Option Parsed
destination_in [] = None
destination_in (b ∷ bs) = if b == less_than_sign then up_to false greater_than_sign less_than_sign false bs else nonempty (bare_in false 0 (b ∷ bs))

-- a title in double quotes, single quotes or parentheses, without an unescaped opening byte inside
abbrev pub title_in : List ℕ → Option Parsed
title_in [] = None
title_in (b ∷ bs) =
    if (b == quotation_mark) || (b == apostrophe) then up_to false b b true bs
    else if b == left_parenthesis then up_to false right_parenthesis left_parenthesis true bs
    else None

abbrev pub after_leading_blanks : List ℕ → List ℕ
after_leading_blanks bs = drop (length (take_while is_blank_byte bs)) bs

-- the bytes after the blanks of the next line, if a line ends here
abbrev pub after_next_line : (here : List ℕ) → Option (List ℕ) → List ℕ
after_next_line here None = here
after_next_line here (Some line) = after_leading_blanks line

-- the bytes after blanks with at most one line ending: a line feed, a carriage return, or both in this order
abbrev pub after_separator : List ℕ → List ℕ
after_separator bs = after_next_line (after_leading_blanks bs) (after_ending (after_leading_blanks bs))

-- the rest of the line is blank
abbrev pub at_end : List ℕ → Bool
at_end [] = true
at_end (b ∷ bs) = (b == line_feed) || (b == carriage_return)

abbrev pub is_line_done : List ℕ → Bool
is_line_done bs = at_end (after_leading_blanks bs)

-- a definition as written: the bytes of its label, of its destination, and of its title, if it has one
pub record Definition : Type 0 where
  pub label : List ℕ
  pub destination : List ℕ
  pub title : Option (List ℕ)

-- a definition, and the bytes after it
pub record Defined : Type 0 where
  pub definition : Definition
  pub following : List ℕ

abbrev pub defined : (label destination : List ℕ) → Option (List ℕ) → List ℕ → Defined
defined label destination title following = record { definition = record { label = label; destination = destination; title = title }; following = following }

-- without a title the rest of the line after the destination must be blank
abbrev pub untitled : (label : List ℕ) → Parsed → Option Defined
untitled label destination = if is_line_done destination.following then Some (defined label destination.bytes None destination.following) else None

-- a title counts only if white space separates it from the destination and the rest of its line is blank; else the definition ends before
-- the title
abbrev pub titled : (label : List ℕ) → Parsed → Option Parsed → Option Defined
titled label destination None = untitled label destination
titled label destination (Some title) =
    if nat_lt (length (after_separator destination.following)) (length destination.following) && is_line_done title.following
    then Some (defined label destination.bytes (Some title.bytes) title.following)
    else untitled label destination

abbrev pub with_destination : (label : List ℕ) → Option Parsed → Option Defined
with_destination label None = None
with_destination label (Some destination) = titled label destination (title_in (after_separator destination.following))

abbrev pub after_colon : Parsed → List ℕ → Option Defined
after_colon label [] = None
after_colon label (b ∷ bs) = if b == colon then with_destination label.bytes (destination_in (after_separator bs)) else None

abbrev pub with_label : Option Parsed → Option Defined
with_label None = None
with_label (Some label) = after_colon label label.following

-- the definition at the beginning of these bytes. Example: `[label]: /url "title"`
abbrev pub definition_in : List ℕ → Option Defined
definition_in [] = None
definition_in (b ∷ bs) = if b == left_bracket then with_label (label_in bs) else None

-- the line end in the text: CR LF if it has two bytes
abbrev pub line_end_of : Row → List ℕ
line_end_of r = if nat_le 2 (r.line_end - r.content_end) then carriage_return ∷ line_feed ∷ [] else line_feed ∷ []

-- a line after its indent, and further lines, with the line ends between them
abbrev pub further_bytes : Row → List Row → List ℕ
further_bytes r [] = []
further_bytes r (s ∷ more) = line_end_of r ++ (bytes_of s.columns ++ further_bytes s more)

abbrev pub bytes_over : Row → List Row → List ℕ
bytes_over first more = words_of first ++ further_bytes first more

abbrev pub line_ends : List ℕ → ℕ
line_ends bs = count_by (λ b. b == line_feed) bs
