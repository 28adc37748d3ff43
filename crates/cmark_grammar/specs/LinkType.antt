-- The written forms of links and images (CommonMark 6.3 to 6.5; wikilinks are this profile's own). Examples: `[a](b)` is inline, `[a][b]` a
-- full reference, `[a][]` a collapsed one and `[a]` a shortcut.
use Rattle.std.specs.Prelude.{Bool}

-- a reference is unknown if no definition has its label and the caller's code gave its destination. A wikilink has a pothole if it shows a
-- text of its own
pub data LinkType : Type 0 where
  Inline : LinkType
  Reference : LinkType
  ReferenceUnknown : LinkType
  Collapsed : LinkType
  CollapsedUnknown : LinkType
  Shortcut : LinkType
  ShortcutUnknown : LinkType
  Autolink : LinkType
  Email : LinkType
  WikiLink : (has_pothole : Bool) → LinkType

-- the three reference forms become unknown ones; the others stay
abbrev pub to_unknown : LinkType → LinkType
to_unknown Inline = Inline
to_unknown Collapsed = CollapsedUnknown
to_unknown CollapsedUnknown = CollapsedUnknown
to_unknown Shortcut = ShortcutUnknown
to_unknown ShortcutUnknown = ShortcutUnknown
to_unknown Autolink = Autolink
to_unknown Email = Email
to_unknown (WikiLink has_pothole) = WikiLink has_pothole
to_unknown _ = ReferenceUnknown
