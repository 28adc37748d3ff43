-- One line of JSON for each event: its range and the event.
use Rattle.std.specs.Prelude.{ℕ, List, [], ◌∷◌, ◌++◌, codes, decimal}
use Rattle.cmark_grammar.specs.Event.{Ranged}
use Rattle.cmark_json.specs.EventData.{event_data}
use Rattle.serde_json.specs.Written.{compact_text}

-- an object without blanks: the range, as an array of its start and its end, and this event
abbrev pub line_around : (start end : ℕ) → List ℕ → List ℕ
line_around start end event =
    codes "{\"range\":[" ++ (decimal start ++ (codes "," ++ (decimal end ++ (codes "],\"event\":" ++ (event ++ codes "}\n")))))

abbrev pub line : Ranged → List ℕ
line r = line_around r.start r.end (compact_text (event_data r.event))

abbrev pub lines : List Ranged → List ℕ
lines [] = []
lines (r ∷ more) = line r ++ lines more
