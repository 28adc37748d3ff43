-- Metadata blocks: the lines at their beginning and end (this profile's own). Example: `---`, `a: b` and `---` on three lines.
use Rattle.std.specs.Prelude.{ℕ, Bool, false, ◌&&◌, ◌||◌, not, if◌then◌else◌, List, [], ◌∷◌, length, drop, codes, Option, Some, None}
use Rattle.cmark_grammar.specs.Columns.{bytes_of}
use Rattle.cmark_grammar.specs.Rows.{Row, is_blank_line, is_whole_line}
use Rattle.cmark_grammar.specs.Leaves.{Continuation, GoesOn, Closes, are_blank}
use Rattle.cmark_grammar.specs.HtmlBlocks.{starts}
use Rattle.cmark_grammar.specs.MetadataBlockKind.{MetadataBlockKind, YamlStyle, PlusesStyle}
use Rattle.cmark_grammar.specs.Options.{Options}

-- exactly these bytes, and only blanks after them
abbrev pub is_line_of : (delimiter bs : List ℕ) → Bool
is_line_of delimiter bs = starts delimiter bs && are_blank (drop (length delimiter) bs)

-- the kind of the metadata block that a line begins, if a later line ends it: `---` or `+++`
abbrev pub metadata_of : List ℕ → Option MetadataBlockKind
metadata_of bs =
    if is_line_of (codes "---") bs then Some YamlStyle
    else if is_line_of (codes "+++") bs then Some PlusesStyle
    else None

-- whether a line ends a metadata block of this kind
abbrev pub closes_metadata : MetadataBlockKind → List ℕ → Bool
closes_metadata YamlStyle bs = is_line_of (codes "---") bs || is_line_of (codes "...") bs
closes_metadata PlusesStyle bs = is_line_of (codes "+++") bs

-- whether a line ends a metadata block of this kind: the closing delimiter begins in its first column
abbrev pub ends_metadata : MetadataBlockKind → Row → Bool
ends_metadata kind r = closes_metadata kind (bytes_of r.columns)

abbrev pub metadata_continuation : MetadataBlockKind → Row → Continuation
metadata_continuation kind r = if ends_metadata kind r then Closes else GoesOn

abbrev pub is_ended : MetadataBlockKind → List Row → Bool
is_ended kind [] = false
is_ended kind (r ∷ ahead) = ends_metadata kind r || is_ended kind ahead

-- whether the lines ahead belong to a metadata block: a line among them ends it, and the first one is not blank and does not end it
abbrev pub holds_metadata : MetadataBlockKind → List Row → Bool
holds_metadata kind [] = false
holds_metadata kind (r ∷ ahead) = not (is_blank_line r || ends_metadata kind r) && is_ended kind ahead

-- whether blocks of this kind are read
abbrev pub has_metadata : Options → MetadataBlockKind → Bool
has_metadata options YamlStyle = options.yaml_style_metadata_blocks
has_metadata options PlusesStyle = options.pluses_delimited_metadata_blocks

abbrev pub metadata_if : Options → Option MetadataBlockKind → Option MetadataBlockKind
metadata_if options None = None
metadata_if options (Some kind) = if has_metadata options kind then Some kind else None

-- the kind of the metadata block that a line may begin: the line is inside no container and begins with the delimiter
abbrev pub metadata_kind : Options → Row → Option MetadataBlockKind
metadata_kind options r = if is_whole_line r then metadata_if options (metadata_of (bytes_of r.columns)) else None
