-- Definition lists: the marker of a definition, and the places at which it begins one (this profile's own).
use Rattle.std.specs.Prelude.{ℕ, Bool, true, false, ◌&&◌, not, nat_le, if◌then◌else◌, Option, Some, None}
use Rattle.cmark_grammar.specs.Characters.{colon}
use Rattle.cmark_grammar.specs.Rows.{Row, indent_of, words_of}
use Rattle.cmark_grammar.specs.Containers.{Container, ListDefinition, begins_with, width_with}
use Rattle.cmark_grammar.specs.Options.{Options}
use Rattle.cmark_grammar.specs.Places.{Place, is_after_title}

-- the width of the prefix that a definition's later lines have, if the line begins with the marker `:`. It is the indent, the marker and
-- the blanks after it, as for a list item, but no blank is required. Example: 2 for `: text`, 1 for `:text`
abbrev pub definition_width : Row → Option ℕ
definition_width r = if begins_with colon (words_of r) then Some (width_with 1 r) else None

-- the width of the definition that a line may begin, if definition lists are asked for: the line lacks no prefix, and is indented by at
-- most three columns
abbrev pub definition_marker : Options → Row → Option ℕ
definition_marker options r = if options.definition_list && (not r.lazy && nat_le (indent_of r) 3) then definition_width r else None

abbrev pub is_marker : Option ℕ → Bool
is_marker None = false
is_marker (Some width) = true

-- a definition's marker on the line interrupts a paragraph: the paragraph is then the title
abbrev pub begins_definition : Options → Row → Bool
begins_definition options r = is_marker (definition_marker options r)

-- a definition begins only after a paragraph or another definition
abbrev pub definition_at : Options → Place → Row → Option ℕ
definition_at options place r = if is_after_title place then definition_marker options r else None

abbrev pub is_definition : Container → Bool
is_definition (ListDefinition width) = true
is_definition _ = false
