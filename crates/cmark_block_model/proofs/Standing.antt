-- A level before any block, after a blank line, after a block that is not an item, or after an item of an open list.
use Rattle.std.specs.Prelude.{ℕ, Bool, true, false, Option, Some, None}
use Rattle.cmark_grammar.specs.Lists.{Before, Marker, Other, ItemWith, definition_delimiter}
use Rattle.cmark_block_model.specs.Drawing.{Drawing}
use Rattle.cmark_block_model.specs.OpenBlocks.{OpenList}
use Rattle.cmark_block_model.proofs.Replay.{Noted, Level}

pub data Stand : Type 0 where
  First : Stand
  Following : Stand
  InList : (list : OpenList) → Stand

abbrev pub has_of : Stand → Bool
has_of First = false
has_of _ = true

abbrev pub front_of : Stand → Bool
front_of First = true
front_of _ = false

abbrev pub list_of : Stand → Option OpenList
list_of (InList o) = Some o
list_of _ = None

abbrev pub before_of : Stand → Before
before_of First = Marker
before_of Following = Other
before_of (InList o) = ItemWith o.delimiter

abbrev pub delimiter_of : Stand → Option ℕ
delimiter_of (InList o) = Some o.delimiter
delimiter_of _ = None

abbrev pub level_of : Stand → Drawing → (blank parted : Bool) → Noted → Level
level_of stand d blank parted noted = record {
  drawing = d;
  inner = record { has_line = has_of stand; blank = blank; parted = parted; list = list_of stand; title = None };
  noted = noted;
}

-- after a paragraph, with the definition list that was open before it, if any, and the earlier flags
abbrev pub titled : Option OpenList → Drawing → (blank parted before : Bool) → Noted → Level
titled list d blank parted before noted = record {
  drawing = d;
  inner = record { has_line = true; blank = blank; parted = parted; list = None; title = Some (record { list = list; parted = before }) };
  noted = noted;
}

-- a list of the character of definitions
abbrev pub with_colon : OpenList → OpenList
with_colon o = record o { delimiter = definition_delimiter }

abbrev pub colon : Option OpenList → Option OpenList
colon None = None
colon (Some o) = Some (with_colon o)
