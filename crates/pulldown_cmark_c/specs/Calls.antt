-- The meaning of the numbers in a call from C: the options, the entity names, and the version.
use Rattle.std.specs.Prelude.{◌==◌, ◌≡◌, ℕ, Bool, List, ◌+◌, ◌*◌, if◌then◌else◌}
use Rattle.std.specs.Int.Bits.{bit_and}
use Rattle.cmark_entities.specs.Names.{all_entity}
use Rattle.cmark_grammar.specs.Answers.{Lookup}
use Rattle.cmark_grammar.specs.Entities.{basic_entity}
use Rattle.cmark_grammar.specs.Options.{Options}
use Rattle.program_io.specs.Statuses.{Refused}

-- whether all bits of an option are in a set
abbrev pub has : ℕ → ℕ → Bool
has set bits = bit_and set bits == bits

-- the options of a set of bits
abbrev pub options_of : ℕ → Options
options_of set = record {
  tables = has set 2;
  footnotes = has set 4;
  strikethrough = has set 8;
  tasklists = has set 16;
  smart_punctuation = has set 32;
  heading_attributes = has set 64;
  yaml_style_metadata_blocks = has set 128;
  pluses_delimited_metadata_blocks = has set 256;
  old_footnotes = has set 516;
  math = has set 1024;
  gfm = has set 2048;
  definition_list = has set 4096;
  superscript = has set 8192;
  subscript = has set 16384;
  wikilinks = has set 32768;
  highlight = has set 65536;
  email_autolinks = has set 131072;
}

-- the entity names of a set of bits: all names of HTML's list, or eleven
abbrev pub entities_of : ℕ → Lookup
entities_of set = if has set 1073741824 then all_entity else basic_entity

-- the bits of all options, and the one of all entity names
abbrev pub known_bits : ℕ
known_bits = 2 + 4 + 8 + 16 + 32 + 64 + 128 + 256 + 512 + 1024 + 2048 + 4096 + 8192 + 16384 + 32768 + 65536 + 131072 + 1073741824

-- whether each bit of a set has a meaning
abbrev pub are_known : ℕ → Bool
are_known set = has known_bits set

-- the status, room and size after a call with a bit that has no meaning
abbrev pub SaysUnknown : (old new : List ℕ) → (size status : ℕ) → Type 0
SaysUnknown old new size status = (status ≡ 5) × Refused old new size

-- a version as one number
abbrev pub version_number : (major minor patch : ℕ) → ℕ
version_number major minor patch = major * 65536 + minor * 256 + patch
