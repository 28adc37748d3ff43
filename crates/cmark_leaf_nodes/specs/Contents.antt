-- The lines of a setext heading, and the attributes at the end of its content.
use Rattle.std.specs.Prelude.{◌≡◌, ℕ, suc, ◌+◌, ◌-◌, true, false, nat_le, if◌then◌else◌, List, [], ◌∷◌, ◌++◌, length, map, string_bytes, Option, Some, None}
use Rattle.cmark_grammar.specs.Attributes.{inside_braces}
use Rattle.cmark_grammar.specs.Columns.{Column, bytes_of}
use Rattle.cmark_grammar.specs.Rows.{Row, begin_of}
use Rattle.cmark_grammar.specs.SetextAttributes.{content_of, ends_in_braces, attributes_place}
use Rattle.cmark_line_rules.specs.Rests.{row_of}
use Rattle.cmark_line_rules.specs.declared.line_rest.LineRest.{LineRest}
use Rattle.cmark_leaf_nodes.specs.TextColumns.{IsRead}
use Rattle.cmark_leaf_nodes.specs.declared.setext.SetextAttributes.{SetextAttributes}

-- these lines are read from the text
abbrev pub AreRead : List ℕ → List LineRest → Type 0
AreRead text [] = Unit {0}
AreRead text (rest ∷ lines) = IsRead text rest × AreRead text lines

-- the columns of the content of a heading with these lines
abbrev pub content_columns : (before : List LineRest) → (last : LineRest) → List Column
content_columns before last = content_of (map row_of before ++ row_of last ∷ [])

-- the bytes of lines without their prefixes, with a line feed for each line ending between them
abbrev pub gathered_bytes : (before : List Row) → (last : Row) → List ℕ
gathered_bytes [] last = bytes_of last.columns
gathered_bytes (r ∷ rs) last = bytes_of r.columns ++ 10 ∷ gathered_bytes rs last

-- the place in the text of the byte that comes after the first `n` of these bytes
abbrev pub place_in : (before : List Row) → (last : Row) → ℕ → ℕ
place_in [] last n = begin_of last + n
place_in (r ∷ rs) last n = if nat_le n (length (bytes_of r.columns)) then begin_of r + n else place_in rs last (n - suc (length (bytes_of r.columns)))

-- these are the attributes at the end of this content
pub record HasAttributes (cs : List Column) (found : SetextAttributes) : Type 0 where
  pub ends : ends_in_braces cs ≡ true
  pub words : string_bytes found.words ≡ bytes_of (inside_braces (λ c. c.byte) cs)
  pub place : found.place ≡ attributes_place cs

-- the attributes of a heading with these lines were found, or it has none
abbrev pub FindsSetext : (before : List LineRest) → (last : LineRest) → Option SetextAttributes → Type 0
FindsSetext before last None = ends_in_braces (content_columns before last) ≡ false
FindsSetext before last (Some found) = HasAttributes (content_columns before last) found
