-- The attributes of setext headings.
use Rattle.std.specs.Prelude.{◌≡◌, Bool, true, false, List, Option, None}
use Rattle.cmark_leaf_nodes.specs.Contents.{FindsSetext}
use Rattle.cmark_leaf_nodes.specs.declared.setext.SetextAttributes.{SetextAttributes}
use Rattle.cmark_line_rules.specs.declared.line_rest.LineRest.{LineRest}

-- the attributes of a heading with these lines were found; or it has none, or attributes are not read
abbrev pub FindsIf : (attributes : Bool) → (before : List LineRest) → (last : LineRest) → Option SetextAttributes → Type 0
FindsIf true before last found = FindsSetext before last found
FindsIf false before last found = found ≡ None
