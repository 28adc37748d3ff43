-- The results of a look-up.
use Rattle.std.specs.Prelude.{◌≡◌, ℕ, List, option_and_then}
use Rattle.cmark_grammar.specs.Answers.{Lookup}
use Rattle.serde_json.specs.Data.{Members}
use Rattle.serde_json.specs.Find.{as_str, get}
use Rattle.serde_json.specs.View.{view}
use Rattle.program_settings.specs.Entities.{Spells, entity_of, or_basic}
use Rattle.program_settings.specs.declared.entities.NamedEntities.{NamedEntities}

abbrev pub looked_up : NamedEntities → Lookup
looked_up entities name = or_basic (option_and_then as_str (get name (view entities.file))) name

-- the bytes spell names, and the look-up is the one of these names and the eleven
abbrev pub HasNamesOf : (bytes : List ℕ) → NamedEntities → Type 0
HasNamesOf bytes found = (names : Members) × Spells bytes names × ((name : List ℕ) → looked_up found name ≡ entity_of names name)
