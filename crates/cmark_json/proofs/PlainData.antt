-- The JSON of an event has no float.
use Rattle.std.proofs.Common.{◌≡◌, ℕ, false, ◌||◌, List, [], ◌∷◌, map, refl, ap, ◌∙◌, Option, Some, None}
use Rattle.cmark_grammar.specs.Alignment.{Alignment}
use Rattle.cmark_grammar.specs.Attributes.{Attribute, Attributes}
use Rattle.cmark_grammar.specs.BlockQuoteKind.{BlockQuoteKind, Note, Tip, Important, Warning, Caution}
use Rattle.cmark_grammar.specs.CodeBlockKind.{CodeBlockKind, Indented, Fenced}
use Rattle.cmark_grammar.specs.Event.{Event, Start, End}
use Rattle.cmark_grammar.specs.LinkType.{LinkType, Inline, Reference, ReferenceUnknown, Collapsed, CollapsedUnknown, Shortcut, ShortcutUnknown, Autolink, Email, WikiLink}
use Rattle.cmark_grammar.specs.Tag as tag
use Rattle.cmark_grammar.specs.Tag.{Tag, Linked}
use Rattle.cmark_grammar.specs.TagEnd as end
use Rattle.cmark_grammar.specs.TagEnd.{TagEnd}
use Rattle.cmark_json.specs.EventData.{with_one, named, text_or_null, number_or_null, attribute_data, alignment_data, quote_kind_data, code_kind_data, link_type_data, linked, heading, tag_data, end_data, event_data}
use Rattle.serde_json.specs.Data.{Data, string}
use Rattle.serde_json.specs.View.{items_of}
use Rattle.serde_json.specs.Written.{has_float, items_have_float}

abbrev IsPlain : Data → Type 0
IsPlain d = has_float d ≡ false

one-plain : (name : List ℕ) (d : Data) → IsPlain d → IsPlain (with_one name d)
one-plain name d h = ap (λ b. b || false) h

text-plain : (text : Option (List ℕ)) → IsPlain (text_or_null text)
text-plain None = refl
text-plain (Some text) = refl

number-plain : (n : Option ℕ) → IsPlain (number_or_null n)
number-plain None = refl
number-plain (Some n) = refl

texts-plain : (ts : List (List ℕ)) → items_have_float (items_of (map (λ t. string t) ts)) ≡ false
texts-plain [] = refl
texts-plain (t ∷ ts) = texts-plain ts

attribute-plain : (a : Attribute) → IsPlain (attribute_data a)
attribute-plain a = ap (λ b. b || false) (text-plain a.value)

attributes-plain : (listed : List Attribute) → items_have_float (items_of (map attribute_data listed)) ≡ false
attributes-plain [] = refl
attributes-plain (a ∷ others) = ap (λ b. b || items_have_float (items_of (map attribute_data others))) (attribute-plain a) ∙ attributes-plain others

alignments-plain : (listed : List Alignment) → items_have_float (items_of (map alignment_data listed)) ≡ false
alignments-plain [] = refl
alignments-plain (a ∷ others) = alignments-plain others

quote-plain : (kind : Option BlockQuoteKind) → IsPlain (quote_kind_data kind)
quote-plain None = refl
quote-plain (Some Note) = refl
quote-plain (Some Tip) = refl
quote-plain (Some Important) = refl
quote-plain (Some Warning) = refl
quote-plain (Some Caution) = refl

code-plain : (kind : CodeBlockKind) → IsPlain (code_kind_data kind)
code-plain Indented = refl
code-plain (Fenced info) = refl

type-plain : (t : LinkType) → IsPlain (link_type_data t)
type-plain Inline = refl
type-plain Reference = refl
type-plain ReferenceUnknown = refl
type-plain Collapsed = refl
type-plain CollapsedUnknown = refl
type-plain Shortcut = refl
type-plain ShortcutUnknown = refl
type-plain Autolink = refl
type-plain Email = refl
type-plain (WikiLink has_pothole) = refl

linked-plain : (name : List ℕ) (l : Linked) → IsPlain (named name (linked l))
linked-plain name l = ap (λ b. b || false) (type-plain l.link_type)

heading-plain : (name : List ℕ) (level : ℕ) (a : Attributes) → IsPlain (named name (heading level a))
heading-plain name level a =
    ap (λ b. b || (items_have_float (items_of (map (λ t. string t) a.classes)) || (items_have_float (items_of (map attribute_data a.others)) || false))) (text-plain a.id)
    ∙ ap (λ b. b || (items_have_float (items_of (map attribute_data a.others)) || false)) (texts-plain a.classes)
    ∙ ap (λ b. b || false) (attributes-plain a.others)

tag-plain : (t : Tag) → IsPlain (tag_data t)
tag-plain (tag.Heading level a) = heading-plain [] level a
tag-plain (tag.BlockQuote kind) = one-plain [] (quote_kind_data kind) (quote-plain kind)
tag-plain (tag.CodeBlock kind) = one-plain [] (code_kind_data kind) (code-plain kind)
tag-plain (tag.Listing first) = one-plain [] (number_or_null first) (number-plain first)
tag-plain (tag.Table columns) = ap (λ b. b || false) (alignments-plain columns)
tag-plain (tag.Link l) = linked-plain [] l
tag-plain (tag.Image l) = linked-plain [] l
tag-plain _ = refl

end-plain : (t : TagEnd) → IsPlain (end_data t)
end-plain (end.BlockQuote kind) = one-plain [] (quote_kind_data kind) (quote-plain kind)
end-plain _ = refl

pub event-plain : (e : Event) → has_float (event_data e) ≡ false
event-plain (Start t) = one-plain [] (tag_data t) (tag-plain t)
event-plain (End t) = one-plain [] (end_data t) (end-plain t)
event-plain _ = refl
