-- The place of a task marker: directly after an item's own marker (GFM 5.3).
use Rattle.std.specs.Prelude.{ℕ, ◌+◌, Bool, ◌==◌, ◌&&◌, if◌then◌else◌, Option, Some, None}
use Rattle.cmark_grammar.specs.Options.{Options}
use Rattle.cmark_grammar.specs.Rows.{Row, indent_of, words_of}
use Rattle.cmark_grammar.specs.TaskMarkers.{task_of}

-- whether the box at the beginning of a line is checked, if there is one and the options ask for task markers; no blank precedes it
abbrev pub task_in : Options → Row → Option Bool
task_in options r = if options.tasklists && (indent_of r == 0) then task_of (words_of r) else None

-- the width of an item's marker with the three columns of its task marker, if it has one
abbrev pub after_box : Option Bool → (width : ℕ) → ℕ
after_box None width = width
after_box (Some is_checked) width = width + 3
