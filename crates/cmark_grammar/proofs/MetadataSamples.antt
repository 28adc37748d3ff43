-- Metadata blocks, by computation: which lines begin one, and which lines belong to it.
use Rattle.std.specs.Prelude.{◌≡◌, ℕ, true, false, List, codes, Option, Some, None}
use Rattle.std.proofs.Common.{refl}
use Rattle.cmark_grammar.specs.Metadata.{metadata_kind, holds_metadata}
use Rattle.cmark_grammar.specs.MetadataBlockKind.{MetadataBlockKind, YamlStyle, PlusesStyle}
use Rattle.cmark_grammar.specs.Options.{Options, no_options}
use Rattle.cmark_grammar.specs.Rows.{row_at, rows, hold, without}

abbrev yaml : Options
yaml = record no_options { yaml_style_metadata_blocks = true }

abbrev pluses : Options
pluses = record no_options { pluses_delimited_metadata_blocks = true }

abbrev begun : Options → List ℕ → Option MetadataBlockKind
begun options line = metadata_kind options (row_at 0 line)

hyphens : begun yaml (codes "--- \n") ≡ Some YamlStyle
hyphens = refl

plus_signs : begun pluses (codes "+++\n") ≡ Some PlusesStyle
plus_signs = refl

-- with the option off there is no metadata block
off : begun pluses (codes "---\n") ≡ None
off = refl

four : begun yaml (codes "----\n") ≡ None
four = refl

-- the line has no indent, and is in no container: neither after a prefix nor in a footnote definition of the old style
indented : begun yaml (codes " ---\n") ≡ None
indented = refl

in_block_quote : metadata_kind yaml (without 1 (row_at 0 (codes ">---\n"))) ≡ None
in_block_quote = refl

in_footnote_definition : metadata_kind yaml (hold (row_at 0 (codes "---\n"))) ≡ None
in_footnote_definition = refl

-- the lines ahead: one of them ends the block
ended : holds_metadata YamlStyle (rows (codes "a\n\nb\n---\n")) ≡ true
ended = refl

ended_by_dots : holds_metadata YamlStyle (rows (codes "a\n...\n")) ≡ true
ended_by_dots = refl

no_dots : holds_metadata PlusesStyle (rows (codes "a\n...\n")) ≡ false
no_dots = refl

not_ended : holds_metadata YamlStyle (rows (codes "a\n ---\n")) ≡ false
not_ended = refl

-- the first of them is not blank and does not end it
before_blank : holds_metadata YamlStyle (rows (codes "\na\n---\n")) ≡ false
before_blank = refl

empty : holds_metadata YamlStyle (rows (codes "...\na\n---\n")) ≡ false
empty = refl
