-- The meaning of structs.
use Rattle.std.specs.Prelude.{ℕ, List, drop, option_copied}
use Rattle.cmark_grammar.specs.LinkDefinitions as definitions
use Rattle.cmark_link_definitions.specs.declared.definition.Definition.{Definition}
use Rattle.cmark_link_definitions.specs.declared.definition.Read.{Read}

abbrev pub shown_read : Read → definitions.Defined
shown_read read = definitions.defined read.label.now read.destination.now (option_copied read.title) read.following.now

-- a definition as written
abbrev pub written : Definition → definitions.Definition
written definition = record { label = definition.label.now; destination = definition.destination.now; title = option_copied definition.title }

-- a definition with the bytes of the paragraph after it
abbrev pub shown_definition : (paragraph : List ℕ) → Definition → definitions.Defined
shown_definition paragraph definition = record { definition = written definition; following = drop definition.end paragraph }
