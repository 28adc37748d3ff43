-- The safe events of a text: one for each event of the text.
use Rattle.std.specs.Prelude.{ℕ, if◌then◌else◌, List, [], ◌++◌, Option, option_map, IfSome, ◌≡◌, false, true, map}
use Rattle.std.specs.List.{take_while}
use Rattle.cmark_grammar.specs.Attributes.{Attributes}
use Rattle.cmark_grammar.specs.CodeBlockKind.{CodeBlockKind, Fenced}
use Rattle.cmark_grammar.specs.Escapes.{escaped_href}
use Rattle.cmark_grammar.specs.Event.{Event, Start, End, Text, Html, InlineHtml, FootnoteReference}
use Rattle.cmark_grammar.specs.Html.{html}
use Rattle.cmark_grammar.specs.Tag as tag
use Rattle.cmark_grammar.specs.Tag.{Tag, Linked}
use Rattle.cmark_grammar.specs.TagEnd as end
use Rattle.cmark_grammar.specs.TagEnd.{TagEnd}
use Rattle.cmark_safe.specs.SafeHtml.{IsSafe, is_in_word, is_level, own_prefix}
use Rattle.cmark_safe.specs.Schemes.{is_allowed, is_one_of, refused_schemes, scheme_of}

-- a name has a prefix
abbrev pub own_name : List ℕ → List ℕ
own_name name = own_prefix ++ name

-- a heading has its anchor alone
abbrev pub anchored : Option (List ℕ) → Attributes
anchored id = record { id = option_map own_name id; classes = []; others = [] }

-- no heading has a level beyond these
abbrev pub safe_level : ℕ → ℕ
safe_level level = if is_level level then level else 6

-- a destination is replaced by an empty one if its escaped form is not an allowed address
abbrev pub safe_destination : (further : List ℕ) → List ℕ → List ℕ
safe_destination further destination = if is_allowed further (escaped_href destination) then destination else []

abbrev pub safe_linked : (further : List ℕ) → Linked → Linked
safe_linked further l = record { link_type = l.link_type; destination = safe_destination further l.destination; title = l.title; id = l.id }

-- an info string is cut before its first white space, so the text chooses one class of the code
abbrev pub first_word : List ℕ → List ℕ
first_word info = take_while is_in_word info

abbrev pub safe_code : CodeBlockKind → CodeBlockKind
safe_code (Fenced info) = Fenced (first_word info)
safe_code kind = kind

-- an HTML block is a paragraph
abbrev pub safe_tag : (further : List ℕ) → Tag → Tag
safe_tag further tag.HtmlBlock = tag.Paragraph
safe_tag further (tag.Heading level attributes) = tag.Heading (safe_level level) (anchored attributes.id)
safe_tag further (tag.CodeBlock kind) = tag.CodeBlock (safe_code kind)
safe_tag further (tag.FootnoteDefinition label) = tag.FootnoteDefinition (own_name label)
safe_tag further (tag.Link linked) = tag.Link (safe_linked further linked)
safe_tag further (tag.Image linked) = tag.Image (safe_linked further linked)
safe_tag further t = t

abbrev pub safe_end : TagEnd → TagEnd
safe_end end.HtmlBlock = end.Paragraph
safe_end (end.Heading level) = end.Heading (safe_level level)
safe_end e = e

-- raw HTML is text; `further` has the names of further schemes
abbrev pub safe : (further : List ℕ) → Event → Event
safe further (Start t) = Start (safe_tag further t)
safe further (End e) = End (safe_end e)
safe further (Html text) = Text text
safe further (InlineHtml text) = Text text
safe further (FootnoteReference label) = FootnoteReference (own_name label)
safe further e = e

-- the HTML of safe events is safe, whatever the events: those of any text, with any options, changed on the way or not
abbrev pub SafeEventsAreSafe : Type 0
SafeEventsAreSafe = (further : List ℕ) (events : List Event) → IsSafe further (html (map (safe further) events))

-- no list of a caller lets an address have a refused scheme
abbrev pub RefusedSchemesStay : Type 0
RefusedSchemesStay = (further address : List ℕ) → is_allowed further address ≡ true → IfSome (scheme_of address) (λ name. is_one_of refused_schemes name ≡ false)
