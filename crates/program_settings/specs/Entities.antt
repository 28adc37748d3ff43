-- The meaning of a file of entities: one JSON object (RFC 8259) whose values are all texts.
use Rattle.std.specs.Prelude.{◌≡◌, ◌&&◌, ℕ, Bool, true, false, List, Option, Some, None, is_some, option_and_then, IsUtf8}
use Rattle.std.specs.Option.{option_map_or}
use Rattle.cmark_grammar.specs.Answers.{Lookup}
use Rattle.cmark_grammar.specs.Entities.{basic_entity}
use Rattle.serde_json.specs.Data.{Data, object, Members, no_members, member}
use Rattle.serde_json.specs.Find.{as_object, as_str, get_member}
use Rattle.serde_json.specs.Read.{read}

abbrev pub is_text : Data → Bool
is_text value = is_some (as_str value)

abbrev pub are_texts : Members → Bool
are_texts no_members = true
are_texts (member name value rest) = is_text value && are_texts rest

-- the value is an object whose values are all texts
abbrev pub holds_texts : Data → Bool
holds_texts value = option_map_or are_texts (as_object value) false

-- the bytes are one JSON object of these names and texts; a name that occurs twice has its last text
pub record Spells (bytes : List ℕ) (names : Members) : Type 0 where
  pub utf8 : IsUtf8 bytes
  pub is_object : read bytes ≡ Some (object names)
  pub texts : are_texts names ≡ true

-- the text that is found, or else the text of one of the eleven names
abbrev pub or_basic : Option (List ℕ) → Lookup
or_basic (Some text) name = Some text
or_basic None name = basic_entity name

-- a name has its text in the object; a name that the object lacks has its text among the eleven
abbrev pub entity_of : Members → Lookup
entity_of names name = or_basic (option_and_then as_str (get_member name names)) name
