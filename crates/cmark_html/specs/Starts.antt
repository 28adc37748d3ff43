-- The HTML of the starts of elements without a text of their own.
use Rattle.std.specs.Prelude.{ℕ, List, ◌++◌}
use Rattle.cmark_grammar.specs.Html.{Writing, cell_start, fresh_line, list_start}
use Rattle.cmark_html.specs.declared.start.Start.{Start}
use Rattle.cmark_html.specs.declared.start.Start.TheVariants as start

abbrev pub started : Writing → Start → List ℕ
started w (start.OnLine text) = fresh_line w.line_start ++ text.now
started w (start.Here text) = text.now
started w (start.Listing first) = fresh_line w.line_start ++ list_start first
started w start.Cell = cell_start w.table
