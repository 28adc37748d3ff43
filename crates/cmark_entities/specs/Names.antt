-- The texts of all entity names (CommonMark 2.5).
use Rattle.std.specs.Prelude.{bytes_eq, option_map}
use Rattle.std.specs.Map.{lookup}
use Rattle.std.specs.Str.{encode_utf8_all}
use Rattle.cmark_entities.specs.Rows.{entity_rows}
use Rattle.cmark_grammar.specs.Answers.{Lookup}

-- the UTF-8 of the code points that the HTML Standard's list gives a name, if it has this name
unfoldable pub all_entity : Lookup
all_entity name = option_map encode_utf8_all (lookup (bytes_eq name) entity_rows)
