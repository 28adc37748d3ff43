-- The reader of the code, as the definitions of a reading take it.
use Rattle.cmark_grammar.specs.Answers.{Lookup}
use Rattle.cmark_grammar.specs.Options.{Options}
use Rattle.cmark_inline.specs.declared.read.Reader.{Reader}
use Rattle.cmark_references.specs.declared.definitions.RefDefs.{RefDefs}
use Rattle.cmark_values.specs.Shown.{shown_options}

-- what is said of options, of a look-up of entities and of link reference definitions, said of those of a reader
abbrev pub reading_of : {E : Type 0} {A : Type 1} → (replacement : E → Lookup) → Reader E → (Options → Lookup → RefDefs → A) → A
reading_of replacement reader says = says (shown_options reader.options) (replacement reader.entities.now) reader.references.now
