-- Container blocks, and the prefixes that their lines have (CommonMark 5).
use Rattle.std.specs.Prelude.{ℕ, suc, ◌+◌, ◌-◌, ◌*◌, Bool, true, false, ◌==◌, ◌&&◌, ◌||◌, not, nat_lt, nat_le, if◌then◌else◌, List, [], ◌∷◌, length, drop, take_while, fold, Option, Some, None}
use Rattle.cmark_grammar.specs.Characters.{asterisk, digit_nine, digit_zero, greater_than_sign, hyphen, period, plus_sign, right_parenthesis}
use Rattle.cmark_grammar.specs.Columns.{Column, is_blank, indent, without_indent}
use Rattle.cmark_grammar.specs.Rows.{Row, without, lazy_row, hold, is_bare, is_blank_line, indent_of, words_of}
use Rattle.cmark_grammar.specs.Leaves.{is_parted, is_thematic_break}
use Rattle.cmark_grammar.specs.BlockQuoteKind.{BlockQuoteKind}
use Rattle.cmark_grammar.specs.Alerts.{alert_in}
use Rattle.cmark_grammar.specs.Footnotes.{Footnotes, Off, Gfm, Old, footnotes_in, footnote_in, marker_columns}
use Rattle.cmark_grammar.specs.LinkDefinitions.{Parsed}
use Rattle.cmark_grammar.specs.Options.{Options}
use Rattle.cmark_grammar.specs.TaskItems.{task_in, after_box}

-- the kinds of containers:
--
-- - a block quote, with its kind if it is an alert;
-- - a list item: its character (the bullet, or the byte after the number), its number if it is ordered, the width of the prefix that its
--   later lines have, and whether its box is checked, if it has a task marker (GFM 5.3);
-- - a footnote definition: the bytes of its label, whether it is in the old style, and the number of columns of its marker, from `[^` to
--   the colon (this profile's own);
-- - a definition of a definition list, with the width of the prefix that its later lines have (this profile's own)
pub data Container : Type 0 where
  BlockQuote : (alert : Option BlockQuoteKind) → Container
  Item : (delimiter : ℕ) → (number : Option ℕ) → (width : ℕ) → (task : Option Bool) → Container
  Footnote : (label : List ℕ) → (old : Bool) → (size : ℕ) → Container
  ListDefinition : (width : ℕ) → Container

abbrev pub is_bullet : ℕ → Bool
is_bullet b = (b == hyphen) || ((b == plus_sign) || (b == asterisk))

abbrev pub is_digit : ℕ → Bool
is_digit b = nat_le digit_zero b && nat_le b digit_nine

abbrev pub is_delimiter : ℕ → Bool
is_delimiter b = (b == period) || (b == right_parenthesis)

-- a list marker: its character, its number, and its number of columns (CommonMark 5.2)
pub record Marker : Type 0 where
  pub delimiter : ℕ
  pub number : Option ℕ
  pub size : ℕ

abbrev pub digits : List ℕ → List ℕ
digits bs = take_while is_digit bs

abbrev pub number_of : List ℕ → ℕ
number_of ds = fold (λ n d. n * 10 + (d - digit_zero)) 0 ds

-- one to nine digits, and then `.` or `)`
abbrev pub delimited : List ℕ → List ℕ → Option Marker
delimited ds [] = None
delimited ds (b ∷ bs) =
    if nat_lt 0 (length ds) && (nat_le (length ds) 9 && is_delimiter b) then Some (record { delimiter = b; number = Some (number_of ds); size = suc (length ds) }) else None

-- a bullet, or else an ordered list marker (CommonMark 5.2). Examples: `-`, `12.`
abbrev pub marker_of : List ℕ → Option Marker
marker_of [] = None
marker_of (b ∷ bs) = if is_bullet b then Some (record { delimiter = b; number = None; size = 1 }) else delimited (digits (b ∷ bs)) (drop (length (digits (b ∷ bs))) (b ∷ bs))

-- the columns after a marker of this size
abbrev pub after_marker : ℕ → Row → List Column
after_marker size r = drop (indent_of r + size) r.columns

-- five or more blank columns after the marker count as one, and so does a blank rest of the line (CommonMark 5.2)
abbrev pub padding : List Column → ℕ
padding cs = if is_bare (without_indent cs) || nat_le 5 (indent cs) then 1 else indent cs

-- the width of an item's prefix: the indent, the marker, and the blanks after it that count (CommonMark 5.2). Example: 3 for ` - a`
abbrev pub width_with : ℕ → Row → ℕ
width_with size r = indent_of r + (size + padding (after_marker size r))

-- the list item that a line begins (CommonMark 5.2): a marker, and then a blank or the line's end, on a line that is not a thematic break.
-- Example: `1. a`
abbrev pub item_with : Row → Option Marker → Option Container
item_with r None = None
item_with r (Some m) =
    if is_parted (drop m.size (words_of r)) && not (is_thematic_break (words_of r)) then Some (Item m.delimiter m.number (width_with m.size r) None) else None

abbrev pub item_of : Row → Option Container
item_of r = item_with r (marker_of (words_of r))

abbrev pub begins_with : ℕ → List ℕ → Bool
begins_with b [] = false
begins_with b (c ∷ cs) = c == b

-- at most three columns of indent, and `>` (CommonMark 5.1). Example: `> a`
abbrev pub is_block_quote : Row → Bool
is_block_quote r = nat_le (indent_of r) 3 && begins_with greater_than_sign (words_of r)

-- a column of space, if there is one
abbrev pub one_blank : List Column → ℕ
one_blank [] = 0
one_blank (c ∷ cs) = if is_blank c then 1 else 0

-- the indent, `>` and an optional column of space
abbrev pub block_quote_width : Row → ℕ
block_quote_width r = suc (indent_of r + one_blank (drop (suc (indent_of r)) r.columns))

-- the container that begins on a line with at most three columns of indent
abbrev pub container_with : Option Container → (quoted : Bool) → (alert : Option BlockQuoteKind) → Option Container
container_with (Some k) quoted alert = Some k
container_with None quoted alert = if quoted then Some (BlockQuote alert) else None

abbrev pub footnote_with : (old : Bool) → Row → Option Parsed → Option Container
footnote_with old r None = None
footnote_with old r (Some found) = Some (Footnote found.bytes old (marker_columns found.bytes r.columns))

-- a footnote definition, if the options ask for them
abbrev pub footnote_of : Footnotes → Row → Option Container
footnote_of Off r = None
footnote_of Gfm r = footnote_with false r (footnote_in (words_of r))
footnote_of Old r = footnote_with true r (footnote_in (words_of r))

abbrev pub footnote_or : Option Container → Option Container → Option Container
footnote_or (Some k) other = Some k
footnote_or None other = other

-- a task marker directly after an item's own marker belongs to the item
abbrev pub with_task : Options → Row → Option Container → Option Container
with_task options r None = None
with_task options r (Some (BlockQuote alert)) = Some (BlockQuote alert)
with_task options r (Some (Item delimiter number width task)) = Some (Item delimiter number width (task_in options (without width r)))
with_task options r (Some (Footnote label old size)) = Some (Footnote label old size)
with_task options r (Some (ListDefinition width)) = Some (ListDefinition width)

-- the container that a line begins: a footnote definition, else a list item, else a block quote
abbrev pub container_of : Options → Row → Option Container
container_of options r = footnote_or (footnote_of (footnotes_in options) r) (container_with (with_task options r (item_of r)) (is_block_quote r) (alert_in options (without (block_quote_width r) r)))

abbrev pub is_alert : Container → Bool
is_alert (BlockQuote None) = false
is_alert (BlockQuote (Some kind)) = true
is_alert _ = false

-- the indent, the marker of a footnote definition, and all blanks after it
abbrev pub footnote_width : (size : ℕ) → Row → ℕ
footnote_width size r = indent_of r + (size + indent (after_marker size r))

-- the number of columns of the first line that a container's marker takes, with the blanks that belong to it and an item's task marker
abbrev pub marker_width : Container → Row → ℕ
marker_width (BlockQuote alert) r = block_quote_width r
marker_width (Item delimiter number width task) r = width
marker_width (Footnote label old size) r = footnote_width size r
marker_width (ListDefinition width) r = width

-- the number of columns of the first line that the container's marker takes, with an item's task marker
abbrev pub width_of : Container → Row → ℕ
width_of (BlockQuote alert) r = block_quote_width r
width_of (Item delimiter number width task) r = after_box task width
width_of (Footnote label old size) r = footnote_width size r
width_of (ListDefinition width) r = width

-- a container's first line, after the marker and after an item's task marker
unfoldable pub enter : Container → Row → Row
enter k r = without (width_of k r) r

-- the later lines of a footnote definition are indented by four columns or blank. In the old style it contains its later lines without a
-- prefix, and a blank line ends it (this profile's own)
abbrev pub keep_footnote : (old : Bool) → Row → Option Row
keep_footnote true r = if is_blank_line r then None else Some (hold r)
keep_footnote false r = if is_blank_line r || nat_le 4 (indent_of r) then Some (without 4 r) else None

-- a later line after the container's prefix: `>` for a block quote (CommonMark 5.1). A line of an item is blank or indented by the item's
-- width (CommonMark 5.2)
abbrev pub keep_as : Container → Row → Option Row
keep_as (BlockQuote alert) r = if is_block_quote r then Some (without (block_quote_width r) r) else None
keep_as (Item delimiter number width task) r = if is_blank_line r || nat_le width (indent_of r) then Some (without width r) else None
keep_as (Footnote label old size) r = keep_footnote old r
keep_as (ListDefinition width) r = if is_blank_line r || nat_le width (indent_of r) then Some (without width r) else None

-- an item or a definition whose first line is blank after the marker
abbrev pub is_bare_start : Container → Row → Bool
is_bare_start (Item delimiter number width task) first = is_blank_line (enter (Item delimiter number width task) first)
is_bare_start (ListDefinition width) first = is_blank_line (enter (ListDefinition width) first)
is_bare_start _ first = false

-- a later line after the container's prefix, if it has the prefix. Bare: the line before was the blank first line of an item or of a
-- definition; then a blank line ends the container (CommonMark 5.2)
unfoldable pub keeps : Container → (bare : Bool) → Row → Option Row
keeps k bare r = if r.lazy || (bare && is_blank_line r) then None else keep_as k r

abbrev pub strip_as : Option Row → Row → Row
strip_as (Some s) r = s
strip_as None r = lazy_row r

-- a later line seen from inside the container: without the prefix, or lazy if it lacks the prefix
abbrev pub strip : Container → Bool → Row → Row
strip k bare r = strip_as (keeps k bare r) r

-- later lines seen from inside the container
abbrev pub strips : Container → Bool → List Row → List Row
strips k bare [] = []
strips k bare (r ∷ rs) = strip k bare r ∷ strips k false rs

-- after a further line the container is not bare any more
abbrev pub bare_after : Bool → List Row → Bool
bare_after bare [] = bare
bare_after bare (r ∷ rs) = false

-- the line of an alert's tag has no other content (this profile's own)
abbrev pub unless_tag : (is_tag : Bool) → Row → List Row → List Row
unless_tag true r rs = rs
unless_tag false r rs = r ∷ rs

-- a container's lines seen from inside
abbrev pub insides : Container → Row → List Row → List Row
insides k first more = unless_tag (is_alert k) (enter k first) (strips k (is_bare_start k first) more)
