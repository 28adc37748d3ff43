-- Decoding the bytes of proper events gives these events.
use Rattle.std.proofs.Common.{◌≡◌, ℕ, suc, ◌^◌, ◌<◌, true, List, [], ◌∷◌, ◌++◌, length, map, Option, Some, None, refl, sym, ap, subst, ◌∙◌, arith}
use Rattle.std.specs.Prelude.{IfSome}
use Rattle.std.specs.List.{flat_map, AllByRecursion}
use Rattle.std.specs.Str.{IsAscii, is_utf8}
use Rattle.std.proofs.lemmas.List.Concat.{flat_map-cons}
use Rattle.std.proofs.lemmas.Str.Ascii.{IsAscii-cons, IsAscii-nil}
use Rattle.std.proofs.lemmas.Str.{IsUtf8-from_ascii, IsUtf8-nil, is_utf8-from_IsUtf8}
use Rattle.cmark_grammar.specs.Alignment.{Alignment, Unaligned, Left, Center, Right}
use Rattle.cmark_grammar.specs.Attributes.{Attribute}
use Rattle.cmark_grammar.specs.CodeBlockKind.{Indented, Fenced}
use Rattle.cmark_grammar.specs.Event.{Event, Ranged, Start, Text, Code, InlineMath, DisplayMath, Html, InlineHtml, FootnoteReference}
use Rattle.cmark_grammar.specs.Tag as tag
use Rattle.cmark_grammar.specs.Tag.{Tag, Linked}
use Rattle.cmark_flat.specs.Decode.{◌>>=◌, each, groups, ranged_of}
use Rattle.cmark_flat.specs.Flat.{alignment_number, attribute_parts, class_part, event_parts, event_text, id_part, part, records, tag_parts, tag_text, value_part}
use Rattle.cmark_flat.specs.Laws.{FlatIsDecoded, IsProper, IsProperAttribute, IsProperEvent, IsProperTag, IsText}
use Rattle.cmark_flat.specs.Records.{FlatRecord}
use Rattle.cmark_flat.proofs.EventLaw.{events_again}
use Rattle.cmark_flat.proofs.RecordLaw.{Fits, records_again}

-- a text that a record can have
abbrev pub Holds : List ℕ → Type 0
Holds text = (length text < 2 ^ 64) × (is_utf8 text ≡ true)

pub text_holds : (text : List ℕ) → IsText text → Holds text
text_holds text proper = (proper.1, is_utf8-from_IsUtf8 text proper.0)

pub nothing_holds : Holds []
nothing_holds = (omega arith, is_utf8-from_IsUtf8 [] IsUtf8-nil)

pub part_fits : (kind : ℕ) (text : List ℕ) → Holds text → Fits (part kind text)
part_fits kind text holds = record { start = omega arith; end = omega arith; size = holds.0; utf8 = holds.1 }

abbrev pub AllFit : List FlatRecord → Type 0
AllFit rs = AllByRecursion Fits rs

pub fit_then : (ps qs : List FlatRecord) → AllFit ps → AllFit qs → AllFit (ps ++ qs)
fit_then [] qs p q = q
fit_then (x ∷ ps) qs p q = (p.0, fit_then ps qs p.1 q)

id_fits : (id : Option (List ℕ)) → IfSome id IsText → AllFit (id_part id)
id_fits None proper = tt
id_fits (Some id) proper = (part_fits _ id (text_holds id proper), tt)

classes_fit : (classes : List (List ℕ)) → AllByRecursion IsText classes → AllFit (map class_part classes)
classes_fit [] proper = tt
classes_fit (c ∷ classes) proper = (part_fits _ c (text_holds c proper.0), classes_fit classes proper.1)

value_fits : (value : Option (List ℕ)) → IfSome value IsText → Fits (value_part value)
value_fits None proper = part_fits _ [] nothing_holds
value_fits (Some value) proper = part_fits _ value (text_holds value proper)

attributes_fit : (xs : List Attribute) → AllByRecursion IsProperAttribute xs → AllFit (flat_map attribute_parts xs)
attributes_fit [] proper = tt
attributes_fit (a ∷ xs) proper = subst AllFit (sym (flat_map-cons attribute_parts a xs))
    (part_fits _ a.name (text_holds a.name proper.0.0), (value_fits a.value proper.0.1, attributes_fit xs proper.1))

two_fit : (l : Linked) → IsText l.title → IsText l.id → AllFit (tag_parts (tag.Link l))
two_fit l title id = (part_fits _ l.title (text_holds l.title title), (part_fits _ l.id (text_holds l.id id), tt))

tag_parts_fit : (t : Tag) → IsProperTag t → AllFit (tag_parts t)
tag_parts_fit (tag.Heading level a) proper = fit_then (id_part a.id) _ (id_fits a.id proper.1) (fit_then (map class_part a.classes) _ (classes_fit a.classes proper.2) (attributes_fit a.others proper.3))
tag_parts_fit (tag.Listing None) proper = tt
tag_parts_fit (tag.Listing (Some first)) proper = (record { start = proper; end = omega arith; size = omega arith; utf8 = nothing_holds.1 }, tt)
tag_parts_fit (tag.Link linked) proper = two_fit linked proper.1 proper.2
tag_parts_fit (tag.Image linked) proper = two_fit linked proper.1 proper.2
tag_parts_fit _ proper = tt

parts_fit : (e : Event) → IsProperEvent e → AllFit (event_parts e)
parts_fit (Start t) proper = tag_parts_fit t proper
parts_fit _ proper = tt

-- the numbers of alignments are ASCII
small : (a : Alignment) → alignment_number a < 128
small Unaligned = omega arith
small Left = omega arith
small Center = omega arith
small Right = omega arith

all_small : (xs : List Alignment) → IsAscii (map alignment_number xs)
all_small [] = IsAscii-nil
all_small (a ∷ xs) = IsAscii-cons (alignment_number a) (map alignment_number xs) (small a) (all_small xs)

ascii_again : (xs : List Alignment) → is_utf8 (map alignment_number xs) ≡ true
ascii_again xs = is_utf8-from_IsUtf8 _ (IsUtf8-from_ascii _ (all_small xs))

same_length : (xs : List Alignment) → length (map alignment_number xs) ≡ length xs
same_length [] = refl
same_length (a ∷ xs) = ap (λ n. suc n) (same_length xs)

tag_text_holds : (t : Tag) → IsProperTag t → Holds (tag_text t)
tag_text_holds (tag.CodeBlock Indented) proper = nothing_holds
tag_text_holds (tag.CodeBlock (Fenced info)) proper = text_holds info proper
tag_text_holds (tag.FootnoteDefinition label) proper = text_holds label proper
tag_text_holds (tag.Table alignments) proper = (rw (same_length alignments) proper, ascii_again alignments)
tag_text_holds (tag.Link linked) proper = text_holds linked.destination proper.0
tag_text_holds (tag.Image linked) proper = text_holds linked.destination proper.0
tag_text_holds _ proper = nothing_holds

event_text_holds : (e : Event) → IsProperEvent e → Holds (event_text e)
event_text_holds (Start t) proper = tag_text_holds t proper
event_text_holds (Text text) proper = text_holds text proper
event_text_holds (Code text) proper = text_holds text proper
event_text_holds (InlineMath text) proper = text_holds text proper
event_text_holds (DisplayMath text) proper = text_holds text proper
event_text_holds (Html text) proper = text_holds text proper
event_text_holds (InlineHtml text) proper = text_holds text proper
event_text_holds (FootnoteReference label) proper = text_holds label proper
event_text_holds _ proper = nothing_holds

records_fit : (r : Ranged) → IsProper r → AllFit (records r)
records_fit r proper =
    let holds : Holds (event_text r.event) = event_text_holds r.event proper.2 in
    (record { start = proper.0; end = proper.1; size = holds.0; utf8 = holds.1 }, parts_fit r.event proper.2)

all_fit : (es : List Ranged) → AllByRecursion IsProper es → AllFit (flat_map records es)
all_fit [] proper = tt
all_fit (e ∷ es) proper = subst AllFit (sym (flat_map-cons records e es)) (fit_then (records e) _ (records_fit e proper.0) (all_fit es proper.1))

pub flat_is_decoded : FlatIsDecoded
flat_is_decoded es proper =
    ap (λ o. o >>= λ rs. each ranged_of (groups rs)) (records_again (flat_map records es) (all_fit es proper))
    ∙ events_again es proper
