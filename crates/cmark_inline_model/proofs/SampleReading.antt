-- The events and the HTML that the model gives for samples: for the text of one leaf, and for whole documents.
use Rattle.std.specs.Prelude.{ℕ, true, false, List, [], ◌∷◌, ◌++◌, codes, bytes_eq, if◌then◌else◌, length, map, max, Option, Some, None}
use Rattle.cmark_grammar.specs.BlockDocument.{BlockDocument, Reference}
use Rattle.cmark_block_model.specs.DocumentModel.{document}
use Rattle.cmark_grammar.specs.Entities.{basic_entity}
use Rattle.cmark_grammar.specs.Event.{Event, Start, End, Text, FootnoteReference, Ranged}
use Rattle.cmark_grammar.specs.Html as written
use Rattle.cmark_grammar.specs.LeafReading.{Between}
use Rattle.cmark_grammar.specs.LeafText.{Stretch, Leaf}
use Rattle.cmark_grammar.specs.LinkType.{LinkType}
use Rattle.cmark_grammar.specs.Options.{Options, no_options}
use Rattle.cmark_grammar.specs.Questions.{Question, Exchange, Plan}
use Rattle.cmark_grammar.specs.Readers.{Reader}
use Rattle.cmark_grammar.specs.SpanDocuments.{Profile, reader_of, segments, at_start}
use Rattle.cmark_grammar.specs.Tag.{Tag, Linked}
use Rattle.cmark_grammar.specs.TagEnd.{end_of as end_tag}
use Rattle.cmark_inline_model.specs.LeafModel.{leaf_events, leaf_after, all_events}

-- the plan whose answers are all None
abbrev pub never : Plan
never asked question = None

-- ## One leaf

-- the text without definitions, all of which is one leaf
abbrev pub plain_reader : Options → List ℕ → Reader
plain_reader options text = record { source = text; options = options; lookup = basic_entity; definition = λ label. None; has_footnote = λ label. false; has_callback = false }

abbrev pub stretch : (start end : ℕ) → Stretch
stretch start end = record { start = start; end = end }

abbrev pub paragraph : List Stretch → Leaf
paragraph stretches = record { stretches = stretches; is_cell = false }

abbrev pub cell : (start end : ℕ) → Leaf
cell start end = record { stretches = stretch start end ∷ []; is_cell = true }

abbrev pub whole : List ℕ → Leaf
whole text = paragraph (stretch 0 (length text) ∷ [])

abbrev pub start : Between
start = record { expansion_left = 100000; asked = [] }

-- a footnote reference as a text, since its number does not compute
abbrev pub with_label : Event → Event
with_label (FootnoteReference label) = Text (codes "{^" ++ (label ++ codes "}"))
with_label event = event

abbrev pub html_of : List Ranged → List ℕ
html_of events = written.html (map with_label (map Ranged.event events))

abbrev pub html_with : Options → List ℕ → List ℕ
html_with options text = html_of (leaf_events (plain_reader options text) never (whole text) start)

abbrev pub html : List ℕ → List ℕ
html text = html_with no_options text

-- with the definition `[x]: /u` and the footnote `1`
abbrev pub x_is_u : List ℕ → Option Reference
x_is_u label = if bytes_eq label (codes "x") then Some (record { label = codes "x"; destination = codes "/u"; title = None; start = 0; end = 0 }) else None

abbrev pub defining_reader : Options → List ℕ → Reader
defining_reader options text = record (plain_reader options text) { definition = x_is_u; has_footnote = λ label. bytes_eq label (codes "1") }

abbrev pub html_defining : Options → List ℕ → List ℕ
html_defining options text = html_of (leaf_events (defining_reader options text) never (whole text) start)

abbrev pub events_with : Options → List ℕ → List Ranged
events_with options text = leaf_events (plain_reader options text) never (whole text) start

-- of a leaf that is no more than a part of the text
abbrev pub events_in : Options → List ℕ → Leaf → List Ranged
events_in options text leaf = leaf_events (plain_reader options text) never leaf start

-- ## Questions

abbrev pub asking : Options → List ℕ → Reader
asking options text = record (plain_reader options text) { has_callback = true }

abbrev pub questions : Plan → List ℕ → List Question
questions plan text = map Exchange.question (leaf_after (asking no_options text) plan (whole text) start).asked

abbrev pub answered_html : Plan → List ℕ → List ℕ
answered_html plan text = html_of (leaf_events (asking no_options text) plan (whole text) start)

-- ## Documents

abbrev pub profile : Options → List ℕ → Profile
profile options text = record { options = options; lookup = basic_entity; reference_expansion_limit = max (length text) 100000; has_callback = false }

abbrev pub events_of_document : Profile → List ℕ → BlockDocument → List Ranged
events_of_document how text blocks = all_events (reader_of text how blocks) never (segments blocks) (at_start how)

abbrev pub document_html : List ℕ → List ℕ
document_html text = html_of (events_of_document (profile no_options text) text (document text no_options basic_entity))

-- ## Events written out

abbrev pub at : (start end : ℕ) → Event → Ranged
at start end event = record { event = event; start = start; end = end }

abbrev pub says : (start end : ℕ) → List ℕ → Ranged
says start end text = at start end (Text text)

abbrev pub begins : (start end : ℕ) → Tag → Ranged
begins start end tag = at start end (Start tag)

abbrev pub ends : (start end : ℕ) → Tag → Ranged
ends start end tag = at start end (End (end_tag tag))

abbrev pub leading : LinkType → (destination title id : List ℕ) → Linked
leading link_type destination title id = record { link_type = link_type; destination = destination; title = title; id = id }
