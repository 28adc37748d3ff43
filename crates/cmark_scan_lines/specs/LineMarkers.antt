-- The marker at the beginning of a line after the prefixes that were taken, if no blank precedes it.
use Rattle.std.specs.Prelude.{ℕ, ◌+◌, ◌-◌, ◌^◌, min, Bool, ◌==◌, ◌&&◌, if◌then◌else◌, [], Option, Some, None, is_some, unwrap_or}
use Rattle.cmark_grammar.specs.Rows.{Row, without, indent_of, words_of}
use Rattle.cmark_grammar.specs.Containers.{Container, BlockQuote, Item, Footnote, ListDefinition, is_block_quote, block_quote_width, footnote_width, item_of, enter}
use Rattle.cmark_grammar.specs.Footnotes.{footnote_in, marker_columns}
use Rattle.cmark_grammar.specs.LinkDefinitions.{Parsed}
use Rattle.cmark_grammar.specs.BlockQuoteKind.{BlockQuoteKind}
use Rattle.cmark_grammar.specs.Alerts.{alert_of}
use Rattle.cmark_grammar.specs.DefinitionLists.{definition_width}
use Rattle.cmark_grammar.specs.TaskMarkers.{task_of}

abbrev pub is_flush : Row → Bool
is_flush r = indent_of r == 0

-- the marker, if no blank precedes it
abbrev pub flush : {A : Type 0} → Row → Option A → Option A
flush r found = if is_flush r then found else None

-- the marker of a block quote, and the line after it
abbrev pub begins_block_quote : Row → Bool
begins_block_quote r = is_flush r && is_block_quote r

abbrev pub after_block_quote : Row → Row
after_block_quote r = if begins_block_quote r then without (block_quote_width r) r else r

-- the tag of an alert, and the line after it, which is empty
abbrev pub alert_in : Row → Option BlockQuoteKind
alert_in r = flush r (alert_of (words_of r))

abbrev pub after_alert : Row → Row
after_alert r = if is_some (alert_in r) then record r { columns = [] } else r

-- the list item, and its first line after the marker
abbrev pub item_in : Row → Option Container
item_in r = flush r (item_of r)

abbrev pub entered : Option Container → Row → Row
entered None r = r
entered (Some k) r = enter k r

-- a sum, or the largest number if the sum is greater
abbrev pub sum_up_to_most : ℕ → ℕ → ℕ
sum_up_to_most m n = min (m + n) (2 ^ 64 - 1)

-- a list item's character, its number (`None` for a bullet), and its width with the indent that was taken before
abbrev pub item_numbers : (indent : ℕ) → Option Container → Option (ℕ × Option ℕ × ℕ)
item_numbers indent None = None
item_numbers indent (Some (BlockQuote alert)) = None
item_numbers indent (Some (Footnote label old size)) = None
item_numbers indent (Some (ListDefinition width)) = None
item_numbers indent (Some (Item delimiter number width task)) = Some (delimiter, number, sum_up_to_most indent width)

-- a list item's character, its number (0 for a bullet), and its width
abbrev pub plain_numbers : ℕ × Option ℕ × ℕ → ℕ × ℕ × ℕ
plain_numbers found = (found.0, unwrap_or found.1 0, found.2)

-- the width of a definition's prefix, and its first line after the marker
abbrev pub definition_in : Row → Option ℕ
definition_in r = flush r (definition_width r)

abbrev pub after_definition : Row → Row
after_definition r = without (unwrap_or (definition_in r) 0) r

-- the task marker, and the line after its box
abbrev pub task_in : Row → Option Bool
task_in r = flush r (task_of (words_of r))

abbrev pub after_task : Row → Row
after_task r = if is_some (task_in r) then without 3 r else r

-- the footnote definition whose marker is at the beginning, and the line after the marker and the blanks after it
abbrev pub footnote_at : Row → Option Parsed
footnote_at r = flush r (footnote_in (words_of r))

abbrev pub after_footnote : Option Parsed → Row → Row
after_footnote None r = r
after_footnote (Some found) r = without (footnote_width (marker_columns found.bytes r.columns) r) r
