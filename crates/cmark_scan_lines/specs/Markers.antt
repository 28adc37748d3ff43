-- The markers of list items on a line.
use Rattle.std.specs.Prelude.{ℕ, ◌&&◌, not, if◌then◌else◌, List, drop, Option, Some, None}
use Rattle.cmark_grammar.specs.Leaves.{is_parted, is_thematic_break}
use Rattle.cmark_grammar.specs.Containers.{Marker}
use Rattle.cmark_scan_lines.specs.declared.marker.ListMarker.{ListMarker}

abbrev pub shown_marker : ListMarker → Marker
shown_marker marker = record { delimiter = marker.delimiter; number = marker.number; size = marker.size }

-- the marker, if nothing or a blank follows it
abbrev pub parted : Option Marker → List ℕ → Option Marker
parted None bs = None
parted (Some m) bs = if is_parted (drop m.size bs) then Some m else None

-- the marker, if nothing or a blank follows it and the line is not a thematic break
abbrev pub begun : Option Marker → List ℕ → Option Marker
begun None bs = None
begun (Some m) bs = if is_parted (drop m.size bs) && not (is_thematic_break bs) then Some m else None
