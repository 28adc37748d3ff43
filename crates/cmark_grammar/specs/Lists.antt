-- Lists: neighbouring items, and whether a list is loose (CommonMark 5.3). Definition lists: titles and definitions in a row (this
-- profile's own). Example: the two lines `- a` and `+ b` are two lists.
use Rattle.std.specs.Prelude.{ℕ, Bool, true, false, ◌==◌, ◌&&◌, ◌||◌, not, if◌then◌else◌, Option, Some, None}
use Rattle.cmark_grammar.specs.Characters.{colon}
use Rattle.cmark_grammar.specs.Containers.{BlockQuote, Item, Footnote, ListDefinition}
use Rattle.cmark_grammar.specs.Blocks.{Blocks, Nil, BlankLine, Paragraph, SetextHeading, LeafBlock, ContainerBlock}

-- a list is identified by the character of its markers; that of a definition list is `:`
abbrev pub definition_delimiter : ℕ
definition_delimiter = colon

-- whether the next block is a definition: the paragraph before it is then its title
abbrev pub is_title : (after : Blocks) → Bool
is_title (BlankLine line after) = is_title after
is_title (ContainerBlock (BlockQuote alert) first more inside after) = false
is_title (ContainerBlock (Footnote label old size) first more inside after) = false
is_title (ContainerBlock (Item delimiter number width task) first more inside after) = false
is_title (ContainerBlock (ListDefinition width) first more inside after) = true
is_title _ = false

-- whether a blank line ends these blocks. Blank lines that end a nested item, definition or footnote definition count too. Front: the
-- marker of the container comes directly before, so that the blank rest of its line does not count as a blank line. So: a blank line comes
-- before
abbrev pub ends_blank : (front so : Bool) → Blocks → Bool
ends_blank front so Nil = so
ends_blank front so (BlankLine line after) = ends_blank false (not front) after
ends_blank front so (Paragraph first more after) = ends_blank false false after
ends_blank front so (SetextHeading level first more underline after) = ends_blank false false after
ends_blank front so (LeafBlock leaf first more after) = ends_blank false false after
ends_blank front so (ContainerBlock (BlockQuote alert) first more inside after) = ends_blank false false after
ends_blank front so (ContainerBlock (Footnote label old size) first more inside after) = ends_blank false (ends_blank true false inside) after
ends_blank front so (ContainerBlock (Item delimiter number width task) first more inside after) = ends_blank false (ends_blank true false inside) after
ends_blank front so (ContainerBlock (ListDefinition width) first more inside after) = ends_blank false (ends_blank true false inside) after

-- the line before, in its container: only the container's marker; a line of an item of a list; or any other line. Titles and definitions
-- are items of a list whose character is `:`
pub data Before : Type 0 where
  Marker : Before
  Other : Before
  ItemWith : (delimiter : ℕ) → Before

abbrev pub is_list_of : ℕ → Before → Bool
is_list_of delimiter (ItemWith m) = m == delimiter
is_list_of delimiter _ = false

-- whether a blank line after it counts as one: the blank rest of the marker's line does not
abbrev pub is_line : Before → Bool
is_line Marker = false
is_line _ = true

-- the line before the next one, after a blank line
abbrev pub after_blank : Before → Before
after_blank (ItemWith m) = ItemWith m
after_blank _ = Other

-- whether a blank line separates two of these blocks. The items of one list are one block, and so are titles with their definitions. Blank:
-- a blank line comes directly before. No blank line before the first block counts: an item begins with at most one blank line, the rest of
-- its marker's line (CommonMark 5.2), and so does a definition
abbrev pub parted : Before → (blank : Bool) → Blocks → Bool
parted before blank Nil = false
parted before blank (BlankLine line after) = parted (after_blank before) (is_line before) after
parted before blank (Paragraph first more after) =
    if is_title after then (blank && not (is_list_of definition_delimiter before)) || parted (ItemWith definition_delimiter) false after else blank || parted Other false after
parted before blank (SetextHeading level first more underline after) = blank || parted Other false after
parted before blank (LeafBlock leaf first more after) = blank || parted Other false after
parted before blank (ContainerBlock (BlockQuote alert) first more inside after) = blank || parted Other false after
parted before blank (ContainerBlock (Footnote label old size) first more inside after) = blank || parted Other (ends_blank true false inside) after
parted before blank (ContainerBlock (Item delimiter number width task) first more inside after) =
    (blank && not (is_list_of delimiter before)) || parted (ItemWith delimiter) (ends_blank true false inside) after
parted before blank (ContainerBlock (ListDefinition width) first more inside after) =
    (blank && not (is_list_of definition_delimiter before)) || parted (ItemWith definition_delimiter) (ends_blank true false inside) after

-- whether an item or a definition contains two blocks with a blank line between them
abbrev pub is_parted_item : Blocks → Bool
is_parted_item inside = parted Marker false inside

-- whether a list of this character is loose from here on, after an item, a title or a definition of it. A blank line before a title makes
-- no list loose
abbrev pub loose_from : (delimiter : ℕ) → (blank : Bool) → Blocks → Bool
loose_from delimiter blank (BlankLine line after) = loose_from delimiter true after
loose_from delimiter blank (Paragraph first more after) = (definition_delimiter == delimiter) && (is_title after && loose_from delimiter false after)
loose_from delimiter blank (ContainerBlock (BlockQuote alert) first more inside after) = false
loose_from delimiter blank (ContainerBlock (Footnote label old size) first more inside after) = false
loose_from delimiter blank (ContainerBlock (Item m number width task) first more inside after) =
    (m == delimiter) && (blank || (is_parted_item inside || loose_from delimiter (ends_blank true false inside) after))
loose_from delimiter blank (ContainerBlock (ListDefinition width) first more inside after) =
    (definition_delimiter == delimiter) && (blank || (is_parted_item inside || loose_from delimiter (ends_blank true false inside) after))
loose_from delimiter blank _ = false

-- whether the list that begins with this item, or definition, is tight (CommonMark 5.3). Then no blank line separates two of its items, or
-- two blocks that an item contains directly
abbrev pub is_tight : (delimiter : ℕ) → (inside after : Blocks) → Bool
is_tight delimiter inside after = not (is_parted_item inside || loose_from delimiter (ends_blank true false inside) after)

-- whether the next block is an item of a list with this character, or, in a definition list, a title or a definition
abbrev pub goes_on : (delimiter : ℕ) → Blocks → Bool
goes_on delimiter (BlankLine line after) = goes_on delimiter after
goes_on delimiter (Paragraph first more after) = (definition_delimiter == delimiter) && is_title after
goes_on delimiter (ContainerBlock (BlockQuote alert) first more inside after) = false
goes_on delimiter (ContainerBlock (Footnote label old size) first more inside after) = false
goes_on delimiter (ContainerBlock (Item m number width task) first more inside after) = m == delimiter
goes_on delimiter (ContainerBlock (ListDefinition width) first more inside after) = definition_delimiter == delimiter
goes_on delimiter _ = false

-- the list to which the item before belongs
pub record ListBefore : Type 0 where
  pub delimiter : ℕ
  pub tight : Bool

-- an item is as tight as the list that it continues, or else as the list that it begins
abbrev pub tight_after : Option ListBefore → (delimiter : ℕ) → (inside after : Blocks) → Bool
tight_after None delimiter inside after = is_tight delimiter inside after
tight_after (Some before) delimiter inside after = if before.delimiter == delimiter then before.tight else is_tight delimiter inside after

-- a title is as tight as the list that it continues, or else as the list that it begins
abbrev pub title_tight_after : Option ListBefore → (after : Blocks) → Bool
title_tight_after None after = not (loose_from definition_delimiter false after)
title_tight_after (Some before) after = if before.delimiter == definition_delimiter then before.tight else not (loose_from definition_delimiter false after)
