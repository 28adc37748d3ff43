-- Task list items: the marker before an item's text (GFM 5.3). Example: `- [x] done`
use Rattle.std.specs.Prelude.{ℕ, Bool, true, false, ◌&&◌, ◌||◌, not, if◌then◌else◌, List, drop, codes, Option, Some, None}
use Rattle.cmark_grammar.specs.Columns.{is_blank_byte}
use Rattle.cmark_grammar.specs.Leaves.{are_blank}
use Rattle.cmark_grammar.specs.HtmlBlocks.{first_is, starts}

-- whether the box at the beginning is checked, if there is one
abbrev pub box_of : List ℕ → Option Bool
box_of bs =
    if starts (codes "[ ]") bs then Some false
    else if starts (codes "[x]") bs || starts (codes "[X]") bs then Some true
    else None

-- a blank, and text somewhere after it
abbrev pub is_parted_text : List ℕ → Bool
is_parted_text bs = first_is is_blank_byte bs && not (are_blank bs)

-- the task marker at the beginning: a box, a blank and text (that text must follow is this profile's own)
abbrev pub task_of : List ℕ → Option Bool
task_of bs = if is_parted_text (drop 3 bs) then box_of bs else None
