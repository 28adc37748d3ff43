-- The law that decoding flat records gives back the events.
use Rattle.std.specs.Prelude.{◌≡◌, ◌<◌, ◌^◌, ℕ, List, length, IfSome, Some, IsUtf8}
use Rattle.std.specs.List.{AllByRecursion}
use Rattle.cmark_grammar.specs.Answers.{Destination}
use Rattle.cmark_grammar.specs.Attributes.{Attribute}
use Rattle.cmark_grammar.specs.BlockDocument.{Reference}
use Rattle.cmark_grammar.specs.CodeBlockKind.{CodeBlockKind, Indented, Fenced}
use Rattle.cmark_grammar.specs.Event.{Event, Ranged, Start, End, Text, Code, InlineMath, DisplayMath, Html, InlineHtml, FootnoteReference}
use Rattle.cmark_grammar.specs.Tag as tag
use Rattle.cmark_grammar.specs.Tag.{Tag, Linked}
use Rattle.cmark_grammar.specs.TagEnd as end
use Rattle.cmark_grammar.specs.TagEnd.{TagEnd}
use Rattle.cmark_flat.specs.Decode.{decode}
use Rattle.cmark_flat.specs.Definitions.{decode_definitions, flat_definitions}
use Rattle.cmark_flat.specs.Flat.{flat}
use Rattle.cmark_flat.specs.Questions.{Reply, decode_replies, flat_replies}

-- a number that eight bytes hold
abbrev pub IsWide : ℕ → Type 0
IsWide n = n < 2 ^ 64

-- a text whose length is such a number
abbrev pub IsText : List ℕ → Type 0
IsText text = IsUtf8 text × IsWide (length text)

-- a level is 1 to 6
abbrev pub IsLevel : ℕ → Type 0
IsLevel level = (0 < level) × (level < 7)

abbrev pub IsProperAttribute : Attribute → Type 0
IsProperAttribute a = IsText a.name × IfSome a.value IsText

abbrev pub IsProperLinked : Linked → Type 0
IsProperLinked l = IsText l.destination × IsText l.title × IsText l.id

abbrev pub IsProperKind : CodeBlockKind → Type 0
IsProperKind Indented = Unit {0}
IsProperKind (Fenced info) = IsText info

abbrev pub IsProperTag : Tag → Type 0
IsProperTag (tag.Heading level a) = IsLevel level × IfSome a.id IsText × AllByRecursion IsText a.classes × AllByRecursion IsProperAttribute a.others
IsProperTag (tag.CodeBlock kind) = IsProperKind kind
IsProperTag (tag.Listing first) = IfSome first IsWide
IsProperTag (tag.FootnoteDefinition label) = IsText label
IsProperTag (tag.Table alignments) = IsWide (length alignments)
IsProperTag (tag.Link linked) = IsProperLinked linked
IsProperTag (tag.Image linked) = IsProperLinked linked
IsProperTag t = Unit {0}

abbrev pub IsProperEnd : TagEnd → Type 0
IsProperEnd (end.Heading level) = IsLevel level
IsProperEnd e = Unit {0}

abbrev pub IsProperEvent : Event → Type 0
IsProperEvent (Start t) = IsProperTag t
IsProperEvent (End e) = IsProperEnd e
IsProperEvent (Text text) = IsText text
IsProperEvent (Code text) = IsText text
IsProperEvent (InlineMath text) = IsText text
IsProperEvent (DisplayMath text) = IsText text
IsProperEvent (Html text) = IsText text
IsProperEvent (InlineHtml text) = IsText text
IsProperEvent (FootnoteReference label) = IsText label
IsProperEvent e = Unit {0}

-- levels are 1 to 6, texts are UTF-8, and numbers have 64 bits, as in values of the library
abbrev pub IsProper : Ranged → Type 0
IsProper r = IsWide r.start × IsWide r.end × IsProperEvent r.event

-- decoding the flat records of proper events gives these events
abbrev pub FlatIsDecoded : Type 0
FlatIsDecoded = (events : List Ranged) → AllByRecursion IsProper events → decode (flat events) ≡ Some events

abbrev pub IsProperDefinition : Reference → Type 0
IsProperDefinition d = IsWide d.start × IsWide d.end × IsText d.destination × IfSome d.title IsText × IsText d.label

-- decoding the flat records of proper definitions gives these definitions
abbrev pub DefinitionsAreDecoded : Type 0
DefinitionsAreDecoded = (ds : List Reference) → AllByRecursion IsProperDefinition ds → decode_definitions (flat_definitions ds) ≡ Some ds

abbrev pub IsProperReply : Reply → Type 0
IsProperReply r = IsWide r.start × IsWide r.end × IfSome r.answer (λ (destination : Destination). IsText destination.url × IsText destination.title)

-- decoding the flat records of proper replies gives these replies
abbrev pub RepliesAreDecoded : Type 0
RepliesAreDecoded = (rs : List Reply) → AllByRecursion IsProperReply rs → decode_replies (flat_replies rs) ≡ Some rs
