-- Which texts, kinds, tags and events are copied, or made to borrow nothing, without memory.
use Rattle.std.specs.Prelude.{◌≤◌, length}
use Rattle.std.specs.Box.{boxed_str_bytes}
use Rattle.cmark_values.specs.declared.text.CowStr.{CowStr}
use Rattle.cmark_values.specs.declared.text.CowStr.TheVariants.{Boxed, Borrowed, Inlined}
use Rattle.cmark_values.specs.declared.kind.CodeBlockKind.{CodeBlockKind}
use Rattle.cmark_values.specs.declared.kind.CodeBlockKind.TheVariants.{Indented, Fenced}

-- an owned text is copied without memory only if it fits into the value
abbrev pub CopiesInPlace : CowStr → Type 0
CopiesInPlace (Boxed text) = length (boxed_str_bytes text) ≤ 22
CopiesInPlace (Borrowed text) = Unit {0}
CopiesInPlace (Inlined text) = Unit {0}

abbrev pub KindCopiesInPlace : CodeBlockKind → Type 0
KindCopiesInPlace Indented = Unit {0}
KindCopiesInPlace (Fenced info) = CopiesInPlace info

-- a borrowed text is made static without memory only if it fits into the value
abbrev pub StaysInPlace : CowStr → Type 0
StaysInPlace (Boxed text) = Unit {0}
StaysInPlace (Borrowed text) = length text.now ≤ 22
StaysInPlace (Inlined text) = Unit {0}

abbrev pub KindStaysInPlace : CodeBlockKind → Type 0
KindStaysInPlace Indented = Unit {0}
KindStaysInPlace (Fenced info) = StaysInPlace info
