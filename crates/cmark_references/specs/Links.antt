-- A link or an image of the definitions.
use Rattle.std.specs.Prelude.{◌≡◌, []}
use Rattle.cmark_grammar.specs.Tag.{Linked}
use Rattle.cmark_values.specs.Shown.{shown_linked, text_bytes}
use Rattle.cmark_values.specs.declared.kind.LinkType.TheVariants.{ShortcutUnknown}
use Rattle.cmark_references.specs.declared.link.Link.{Link}

abbrev pub shown_link : Link → Linked
shown_link link = shown_linked link.link_type link.dest_url link.title link.id

-- an unknown shortcut without texts
abbrev pub IsUnknown : Link → Type 0
IsUnknown link = (link.link_type ≡ ShortcutUnknown) × (text_bytes link.dest_url ≡ []) × (text_bytes link.title ≡ []) × (text_bytes link.id ≡ [])
