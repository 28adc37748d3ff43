-- The HTML of events, composed of parts.
use Rattle.std.specs.Prelude.{ℕ, Bool, List, [], ◌∷◌, ◌++◌, codes}
use Rattle.cmark_grammar.specs.Escapes.{escaped_body_text, escaped_html, escaped_href}
use Rattle.cmark_grammar.specs.Html.{fresh_line, digit}
use Rattle.cmark_grammar.specs.LinkType.{LinkType}
use Rattle.cmark_grammar.specs.Tag.{Linked}
use Rattle.cmark_html.specs.declared.parts.Part.{Part}
use Rattle.cmark_html.specs.declared.parts.Part.TheVariants.{Raw, BodyText, Value, Href}

abbrev pub part_bytes : Part → List ℕ
part_bytes (Raw text) = text.now
part_bytes (BodyText text) = escaped_body_text text.now
part_bytes (Value text) = escaped_html text.now
part_bytes (Href url) = escaped_href url.now

abbrev pub joined : List Part → List ℕ
joined [] = []
joined (p ∷ []) = part_bytes p
joined (p ∷ q ∷ ps) = part_bytes p ++ joined (q ∷ ps)

-- the attribute of some classes, from its start to the end of the first class
abbrev pub class_start : List ℕ → List ℕ
class_start first = codes " class=\"" ++ escaped_html first

-- the start of a heading up to its attributes
abbrev pub heading_start : Bool → ℕ → List ℕ
heading_start line_start level = fresh_line line_start ++ (codes "<h" ++ (digit level ∷ []))

-- a link without a label
abbrev pub linked : LinkType → List ℕ → List ℕ → Linked
linked link_type destination title = record { link_type = link_type; destination = destination; title = title; id = [] }
