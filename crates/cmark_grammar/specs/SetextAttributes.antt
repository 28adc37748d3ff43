-- The attributes of a setext heading (this profile's own): braces at the end of its content, which may span several lines. Example:
-- `a {#b}` over a line `===`.
use Rattle.std.specs.Prelude.{ℕ, Bool, true, false, nat_lt, if◌then◌else◌, List, [], ◌∷◌, ◌++◌, length, drop}
use Rattle.cmark_grammar.specs.Attributes.{Attributes, no_attributes, before_braces, inside_braces, attributes_of}
use Rattle.cmark_grammar.specs.BlockDocument.{BlockDocument, Nil, Node}
use Rattle.cmark_grammar.specs.Columns.{Column, drop_end, without_trailing_blanks, bytes_of}
use Rattle.cmark_grammar.specs.Characters.{line_feed}
use Rattle.cmark_grammar.specs.Rows.{Row, first_place}
use Rattle.cmark_grammar.specs.Tags.{is_space_byte}
use Rattle.cmark_grammar.specs.Tokens.{stretch_then, paragraph_tokens}

-- a line ending between two lines, in a column of its own
abbrev pub line_end_column : Row → Column
line_end_column r = record { byte = line_feed; at = r.content_end; part = 0 }

-- the columns of a heading's lines without their prefixes, joined, without the blanks at the end
abbrev pub content_of : List Row → List Column
content_of [] = []
content_of (r ∷ []) = without_trailing_blanks r.columns
content_of (r ∷ (s ∷ more)) = r.columns ++ line_end_column r ∷ content_of (s ∷ more)

-- the content ends in braces that contain no braces
abbrev pub ends_in_braces : List Column → Bool
ends_in_braces cs = nat_lt (length (before_braces (λ c. c.byte) cs)) (length cs)

-- the content before the braces, without the blanks and line endings at its end
abbrev pub before_attributes : List Column → List Column
before_attributes cs = drop_end (λ c. is_space_byte c.byte) (before_braces (λ c. c.byte) cs)

-- the place at which the attributes begin, or the blanks and line endings before them
abbrev pub attributes_place : List Column → ℕ
attributes_place cs = first_place 0 (drop (length (before_attributes cs)) cs)

-- the texts up to a place: those that end before it, and the part before it of the first other one
abbrev pub texts_before : List ℕ → (place : ℕ) → BlockDocument → BlockDocument
texts_before text place Nil = Nil
texts_before text place (Node node inside after) =
    if nat_lt node.end place then Node node inside (texts_before text place after) else stretch_then text node.start place Nil

abbrev pub texts_if : (ends : Bool) → List ℕ → (place : ℕ) → BlockDocument → BlockDocument
texts_if true text place d = texts_before text place d
texts_if false text place d = d

-- the texts without the attributes at the end of this content, if attributes are read
abbrev pub without_braces : List ℕ → (attributes : Bool) → List Column → BlockDocument → BlockDocument
without_braces text false cs d = d
without_braces text true cs d = texts_if (ends_in_braces cs) text (attributes_place cs) d

-- the raw content of a setext heading: that of a paragraph (CommonMark 4.3), without its attributes
abbrev pub setext_tokens : List ℕ → (attributes : Bool) → Row → List Row → BlockDocument
setext_tokens text attributes first more = without_braces text attributes (content_of (first ∷ more)) (paragraph_tokens text first more)

-- the attributes of a setext heading with this content, if attributes are read
abbrev pub setext_attributes : (attributes : Bool) → List Column → Attributes
setext_attributes false cs = no_attributes
setext_attributes true cs = attributes_of (bytes_of (inside_braces (λ c. c.byte) cs))
