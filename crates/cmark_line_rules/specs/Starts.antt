-- The containers of this crate, as those of the grammar.
use Rattle.std.specs.Prelude.{◌≡◌, ℕ, Bool, ◌==◌, ◌||◌, nat_le, if◌then◌else◌, Option, Some, None}
use Rattle.cmark_grammar.specs.Characters.{pipe}
use Rattle.cmark_grammar.specs.Containers as grammar
use Rattle.cmark_grammar.specs.Containers.{item_of, with_task, marker_width, container_of, container_with, footnote_of, is_block_quote, block_quote_width}
use Rattle.cmark_grammar.specs.Footnotes.{footnotes_in, footnote_in, marker_columns}
use Rattle.cmark_grammar.specs.LinkDefinitions.{Parsed}
use Rattle.cmark_scan_bytes.specs.Footnotes.{marked, IsClosed}
use Rattle.cmark_grammar.specs.Alerts.{alert_in}
use Rattle.cmark_grammar.specs.TaskItems.{task_in}
use Rattle.cmark_grammar.specs.Options.{Options}
use Rattle.cmark_grammar.specs.Letters.{is_letter}
use Rattle.cmark_grammar.specs.Rows.{Row, without, indent_of, words_of}
use Rattle.cmark_line_rules.specs.Rests.{row_of}
use Rattle.cmark_line_rules.specs.declared.line_rest.LineRest.{LineRest}
use Rattle.cmark_line_rules.specs.declared.container.Container.{Container}
use Rattle.cmark_line_rules.specs.declared.container.Container.TheVariants as kept
use Rattle.cmark_line_rules.specs.declared.container.ItemStart.{ItemStart}
use Rattle.cmark_line_rules.specs.declared.container.ContainerStart.{ContainerStart}
use Rattle.cmark_line_rules.specs.declared.container.ContainerStart.TheVariants as begun

-- a container of the grammar keeps the same lines as this one: the other data of an item or a footnote definition do not matter to its
-- later lines
abbrev pub Shows : Container → grammar.Container → Type 0
Shows kept.BlockQuote (grammar.BlockQuote alert) = Unit {0}
Shows kept.BlockQuote (grammar.Item delimiter number width task) = ⊥
Shows kept.BlockQuote (grammar.Footnote label old size) = ⊥
Shows kept.BlockQuote (grammar.ListDefinition width) = ⊥
Shows (kept.Item w) (grammar.BlockQuote alert) = ⊥
Shows (kept.Item w) (grammar.Item delimiter number width task) = w ≡ width
Shows (kept.Item w) (grammar.Footnote label old size) = ⊥
Shows (kept.Item w) (grammar.ListDefinition width) = ⊥
Shows (kept.Footnote o) (grammar.BlockQuote alert) = ⊥
Shows (kept.Footnote o) (grammar.Item delimiter number width task) = ⊥
Shows (kept.Footnote o) (grammar.Footnote label old size) = o ≡ old
Shows (kept.Footnote o) (grammar.ListDefinition width) = ⊥
Shows (kept.Definition w) (grammar.BlockQuote alert) = ⊥
Shows (kept.Definition w) (grammar.Item delimiter number width task) = ⊥
Shows (kept.Definition w) (grammar.Footnote label old size) = ⊥
Shows (kept.Definition w) (grammar.ListDefinition width) = w ≡ width

abbrev pub shown_item : ItemStart → grammar.Container
shown_item item = grammar.Item item.delimiter item.number item.width None

-- the footnote definition whose label has `label_size` bytes
abbrev pub shown_footnote : Row → (label_size : ℕ) → (old : Bool) → grammar.Container
shown_footnote r label_size old = let label = (marked (words_of r) label_size).bytes in grammar.Footnote label old (marker_columns label r.columns)

-- the container that begins, and the line after its marker. That line shows whether a block quote is an alert, and whether an item has a
-- task marker
abbrev pub shown_start : Options → Row → ContainerStart → grammar.Container
shown_start options r (begun.BlockQuote inside) = grammar.BlockQuote (alert_in options (row_of inside))
shown_start options r (begun.Item item inside) = grammar.Item item.delimiter item.number item.width (task_in options (row_of inside))
shown_start options r (begun.Footnote footnote inside) = shown_footnote r footnote.label_size footnote.old

abbrev pub inside_of : ContainerStart → LineRest
inside_of (begun.BlockQuote inside) = inside
inside_of (begun.Item item inside) = inside
inside_of (begun.Footnote footnote inside) = inside

-- the line is the one after the container's own marker
abbrev pub Enters : Row → ContainerStart → Type 0
Enters r start = (options : Options) → row_of (inside_of start) ≡ without (marker_width (shown_start options r start) r) r

-- the label of a footnote definition is between brackets
abbrev pub HasMarker : Row → ContainerStart → Type 0
HasMarker r (begun.BlockQuote inside) = Unit {0}
HasMarker r (begun.Item item inside) = Unit {0}
HasMarker r (begun.Footnote footnote inside) = IsClosed (words_of r) footnote.label_size

-- the item and the container that a line begins which is indented by at most three columns
abbrev pub begun_item : Row → Option grammar.Container
begun_item r = if nat_le (indent_of r) 3 then item_of r else None

-- the footnote definition, and the item or block quote
abbrev pub begun_footnote : Options → Row → Option grammar.Container
begun_footnote options r = if nat_le (indent_of r) 3 then footnote_of (footnotes_in options) r else None

abbrev pub begun_marked : Options → Row → Option grammar.Container
begun_marked options r = if nat_le (indent_of r) 3 then container_with (with_task options r (item_of r)) (is_block_quote r) (alert_in options (without (block_quote_width r) r)) else None

-- the label of the footnote definition, and the bytes after its marker
abbrev pub begun_label : Row → Option Parsed
begun_label r = if nat_le (indent_of r) 3 then footnote_in (words_of r) else None

abbrev pub label_shown : Row → ℕ × LineRest → Parsed
label_shown r begun = marked (words_of r) begun.0

abbrev pub EntersFootnote : Row → ℕ × LineRest → Type 0
EntersFootnote r begun = (old : Bool) → row_of begun.1 ≡ without (marker_width (shown_footnote r begun.0 old) r) r

abbrev pub IsMarkerClosed : Row → ℕ × LineRest → Type 0
IsMarkerClosed r begun = IsClosed (words_of r) begun.0

abbrev pub begun_container : Options → Row → Option grammar.Container
begun_container options r = if nat_le (indent_of r) 3 then container_of options r else None

-- a bullet, or a digit of an ordered item's number
abbrev pub begins_item : ℕ → Bool
begins_item b = grammar.is_bullet b || grammar.is_digit b

-- an ASCII letter, or the pipe at the beginning of a table's row
abbrev pub is_letter_or_pipe : ℕ → Bool
is_letter_or_pipe b = is_letter b || (b == pipe)

abbrev pub shown_begun : ItemStart × LineRest → grammar.Container
shown_begun begun = shown_item begun.0

abbrev pub EntersItem : Row → ItemStart × LineRest → Type 0
EntersItem r begun = row_of begun.1 ≡ without begun.0.width r

-- the first line of a block quote after its marker
abbrev pub block_quote_entered : Row → Option Row
block_quote_entered r = if is_block_quote r then Some (without (block_quote_width r) r) else None
