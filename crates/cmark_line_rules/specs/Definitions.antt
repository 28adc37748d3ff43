-- The beginning of a definition in a definition list, as in the grammar.
use Rattle.std.specs.Prelude.{◌≡◌, ℕ, nat_le, if◌then◌else◌, Option, None}
use Rattle.cmark_grammar.specs.DefinitionLists.{definition_width}
use Rattle.cmark_grammar.specs.Rows.{Row, indent_of, without}
use Rattle.cmark_line_rules.specs.Rests.{row_of}
use Rattle.cmark_line_rules.specs.declared.line_rest.LineRest.{LineRest}

abbrev pub width_of : ℕ × LineRest → ℕ
width_of begun = begun.0

-- the width of the definition that a line begins, indented by at most three columns
abbrev pub definition_after : Row → Option ℕ
definition_after r = if nat_le (indent_of r) 3 then definition_width r else None

-- the line is the one after the marker
abbrev pub EntersDefinition : Row → ℕ × LineRest → Type 0
EntersDefinition r begun = row_of begun.1 ≡ without begun.0 r
