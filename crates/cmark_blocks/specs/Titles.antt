-- Paragraphs that may be titles of definitions.
use Rattle.std.specs.Prelude.{ℕ, Bool, false, ◌||◌, Option, Some, None}
use Rattle.cmark_grammar.specs.Lists.{definition_delimiter}
use Rattle.cmark_block_model.specs.BlockPass.{ended_but, definitions_in, siblings_with_paragraph}
use Rattle.cmark_block_model.specs.OpenBlocks.{OpenList, Title, Siblings, Pass}

-- a paragraph begins: the open siblings before it were closed, except a definition list
abbrev pub text_block_begun : Pass → Pass
text_block_begun p = record p { drawing = ended_but (definitions_in p.inner.list) p.inner p.drawing; inner = siblings_with_paragraph p.inner }

-- the definition list in which a paragraph is drawn
abbrev pub list_around : Option Title → Option OpenList
list_around None = None
list_around (Some t) = t.list

-- the siblings after the last one, a paragraph, became the title of a definition
abbrev pub with_title : Option OpenList → (parted : Bool) → (start : ℕ) → Siblings → Siblings
with_title None parted start s = record s { blank = false; list = Some (record { delimiter = definition_delimiter; number = None; loose = s.blank; end = start }); title = None }
with_title (Some l) parted start s = record s { blank = false; parted = parted; list = Some (record l { loose = l.loose || s.blank }); title = None }

-- the siblings after the last one, a paragraph, became another block
abbrev pub untitled : Siblings → Siblings
untitled s = record s { title = None }

-- the siblings with this list as the open one
abbrev pub with_open : OpenList → Siblings → Siblings
with_open l s = record s { list = Some l; title = None }
