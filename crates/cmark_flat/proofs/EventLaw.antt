-- Decoding the records of an event gives this event.
use Rattle.std.proofs.Common.{◌≡◌, ℕ, true, false, cond, List, [], ◌∷◌, ◌++◌, map, Option, Some, None, refl, sym, ap, subst, ◌∙◌}
use Rattle.std.specs.List.{flat_map, AllByRecursion}
use Rattle.std.proofs.lemmas.Bool.{lt-ltb}
use Rattle.std.proofs.lemmas.List.Concat.{flat_map-cons}
use Rattle.cmark_grammar.specs.Alignment.{Alignment, Unaligned, Left, Center, Right}
use Rattle.cmark_grammar.specs.Attributes.{Attribute, Attributes}
use Rattle.cmark_grammar.specs.BlockQuoteKind.{BlockQuoteKind, Note, Tip, Important, Warning, Caution}
use Rattle.cmark_grammar.specs.CodeBlockKind.{Indented, Fenced}
use Rattle.cmark_grammar.specs.Event.{Event, Ranged, Start, End, Text, Code, InlineMath, DisplayMath, Html, InlineHtml, FootnoteReference, SoftBreak, HardBreak, Rule, TaskListMarker}
use Rattle.cmark_grammar.specs.LinkType.{LinkType, Inline, Reference, ReferenceUnknown, Collapsed, CollapsedUnknown, Shortcut, ShortcutUnknown, Autolink, Email, WikiLink}
use Rattle.cmark_grammar.specs.MetadataBlockKind.{MetadataBlockKind, YamlStyle, PlusesStyle}
use Rattle.cmark_grammar.specs.Tag as tag
use Rattle.cmark_grammar.specs.Tag.{Tag, Linked}
use Rattle.cmark_grammar.specs.TagEnd as end
use Rattle.cmark_grammar.specs.TagEnd.{TagEnd}
use Rattle.cmark_flat.specs.Records.{FlatRecord}
use Rattle.cmark_flat.specs.Flat.{alignment_number, attribute_parts, class_part, end_datum, end_number, event_parts, event_record, heading_parts, id_part, link_number, metadata_number, quote_number, records, tag_datum, tag_number, tag_parts, tag_text, value_part}
use Rattle.cmark_flat.specs.Decode.{◌>>=◌, Group, alignment_of, attributes_of, classes_at, each, end_of, event_of, groups, heading_parts_of, id_at, is_further, later, level_of, link_of, linked_of, metadata_of, parts_at, quote_of, ranged_of, tag_of, value_of}
use Rattle.cmark_flat.specs.Laws.{IsLevel, IsProper, IsProperEnd, IsProperEvent, IsProperTag}
use Rattle.cmark_flat.specs.Numbers as number

level_again : (n : ℕ) → IsLevel n → level_of n ≡ Some n
level_again n level = rw (lt-ltb 0 n level.0, lt-ltb n 7 level.1) refl

alignment_again : (a : Alignment) → alignment_of (alignment_number a) ≡ Some a
alignment_again Unaligned = refl
alignment_again Left = refl
alignment_again Center = refl
alignment_again Right = refl

alignments_again : (xs : List Alignment) → each alignment_of (map alignment_number xs) ≡ Some xs
alignments_again [] = refl
alignments_again (a ∷ xs) =
    ap (λ o. o >>= λ first. each alignment_of (map alignment_number xs) >>= λ others. Some (first ∷ others)) (alignment_again a)
    ∙ ap (λ o. o >>= λ others. Some (a ∷ others)) (alignments_again xs)

quote_again : (kind : Option BlockQuoteKind) → quote_of (quote_number kind) ≡ Some kind
quote_again None = refl
quote_again (Some Note) = refl
quote_again (Some Tip) = refl
quote_again (Some Important) = refl
quote_again (Some Warning) = refl
quote_again (Some Caution) = refl

metadata_again : (kind : MetadataBlockKind) → metadata_of (metadata_number kind) ≡ Some kind
metadata_again YamlStyle = refl
metadata_again PlusesStyle = refl

link_again : (t : LinkType) → link_of (link_number t) ≡ Some t
link_again Inline = refl
link_again Reference = refl
link_again ReferenceUnknown = refl
link_again Collapsed = refl
link_again CollapsedUnknown = refl
link_again Shortcut = refl
link_again ShortcutUnknown = refl
link_again Autolink = refl
link_again Email = refl
link_again (WikiLink false) = refl
link_again (WikiLink true) = refl

-- a record with any range
abbrev own : (kind tag datum start end : ℕ) → List ℕ → FlatRecord
own kind tag datum start end text = record { kind = kind; tag = tag; datum = datum; start = start; end = end; text = text }

linked_again : (l : Linked) (kind element start end : ℕ) → linked_of (own kind element (link_number l.link_type) start end l.destination) (tag_parts (tag.Link l)) ≡ Some l
linked_again l kind element start end =
    ap (λ o. o >>= λ t. Some (record { link_type = t; destination = l.destination; title = l.title; id = l.id })) (link_again l.link_type)

-- ---- headings

value_again : (value : Option (List ℕ)) → value_of (value_part value) ≡ Some value
value_again None = refl
value_again (Some value) = refl

attribute_again : (a : Attribute) (rest : List FlatRecord) (others : List Attribute) → attributes_of rest ≡ Some others → attributes_of (attribute_parts a ++ rest) ≡ Some (a ∷ others)
attribute_again a rest others h =
    ap (λ o. (o >>= λ has. Some (record { name = a.name; value = has })) >>= λ first. attributes_of rest >>= λ more. Some (first ∷ more)) (value_again a.value)
    ∙ ap (λ o. o >>= λ more. Some (a ∷ more)) h

attributes_again : (xs : List Attribute) → attributes_of (flat_map attribute_parts xs) ≡ Some xs
attributes_again [] = refl
attributes_again (a ∷ xs) = ap attributes_of (flat_map-cons attribute_parts a xs) ∙ attribute_again a (flat_map attribute_parts xs) xs (attributes_again xs)

-- an attribute is no class
no_class : (xs : List Attribute) → classes_at (flat_map attribute_parts xs) ≡ Some ([], flat_map attribute_parts xs)
no_class [] = refl
no_class (a ∷ xs) = rw (flat_map-cons attribute_parts a xs) refl

classes_again : (classes : List (List ℕ)) (rest : List FlatRecord) → classes_at rest ≡ Some ([], rest) → classes_at (map class_part classes ++ rest) ≡ Some (classes, rest)
classes_again [] rest h = h
classes_again (c ∷ classes) rest h = ap (λ o. o >>= λ others. Some (c ∷ others.0, others.1)) (classes_again classes rest h)

-- neither a class nor an attribute is an id
no_id : (classes : List (List ℕ)) (xs : List Attribute) → id_at (map class_part classes ++ flat_map attribute_parts xs) ≡ Some (None, map class_part classes ++ flat_map attribute_parts xs)
no_id [] [] = refl
no_id [] (a ∷ xs) = rw (flat_map-cons attribute_parts a xs) refl
no_id (c ∷ classes) xs = refl

id_again : (id : Option (List ℕ)) (rest : List FlatRecord) → id_at rest ≡ Some (None, rest) → id_at (id_part id ++ rest) ≡ Some (id, rest)
id_again None rest h = h
id_again (Some id) rest h = refl

heading_again : (a : Attributes) → heading_parts_of (heading_parts a) ≡ Some a
heading_again a =
    let attributes : List FlatRecord = flat_map attribute_parts a.others in
    let after_id : List FlatRecord = map class_part a.classes ++ attributes in
    ap (λ o. o >>= λ id. classes_at id.1 >>= λ classes. attributes_of classes.1 >>= λ others. Some (record { id = id.0; classes = classes.0; others = others })) (id_again a.id after_id (no_id a.classes a.others))
    ∙ ap (λ o. o >>= λ classes. attributes_of classes.1 >>= λ others. Some (record { id = a.id; classes = classes.0; others = others })) (classes_again a.classes attributes (no_class a.others))
    ∙ ap (λ o. o >>= λ others. Some (record { id = a.id; classes = a.classes; others = others })) (attributes_again a.others)

-- ---- tags

abbrev start_record : Tag → ℕ → ℕ → FlatRecord
start_record t start end = own number.start_kind (tag_number t) (tag_datum t) start end (tag_text t)

tag_again : (t : Tag) (start end : ℕ) → IsProperTag t → tag_of (start_record t start end) (tag_parts t) ≡ Some t
tag_again (tag.Heading level a) start end proper =
    ap (λ o. o >>= λ l. heading_parts_of (heading_parts a) >>= λ attributes. Some (tag.Heading l attributes)) (level_again level proper.0)
    ∙ ap (λ o. o >>= λ attributes. Some (tag.Heading level attributes)) (heading_again a)
tag_again (tag.BlockQuote kind) start end proper = ap (λ o. o >>= λ k. Some (tag.BlockQuote k)) (quote_again kind)
tag_again (tag.CodeBlock Indented) start end proper = refl
tag_again (tag.CodeBlock (Fenced info)) start end proper = refl
tag_again (tag.Listing None) start end proper = refl
tag_again (tag.Listing (Some first)) start end proper = refl
tag_again (tag.Table alignments) start end proper = ap (λ o. o >>= λ columns. Some (tag.Table columns)) (alignments_again alignments)
tag_again (tag.Link linked) start end proper = ap (λ o. o >>= λ l. Some (tag.Link l)) (linked_again linked number.start_kind number.link_tag start end)
tag_again (tag.Image linked) start end proper = ap (λ o. o >>= λ l. Some (tag.Image l)) (linked_again linked number.start_kind number.image_tag start end)
tag_again (tag.MetadataBlock kind) start end proper = ap (λ o. o >>= λ k. Some (tag.MetadataBlock k)) (metadata_again kind)
tag_again _ start end proper = refl

abbrev end_record : TagEnd → ℕ → ℕ → FlatRecord
end_record e start end = own number.end_kind (end_number e) (end_datum e) start end []

end_again : (e : TagEnd) (start end : ℕ) → IsProperEnd e → end_of (end_record e start end) ≡ Some e
end_again (end.Heading level) start to proper = ap (λ o. o >>= λ l. Some (end.Heading l)) (level_again level proper)
end_again (end.BlockQuote kind) start to proper = ap (λ o. o >>= λ k. Some (end.BlockQuote k)) (quote_again kind)
end_again (end.MetadataBlock kind) start to proper = ap (λ o. o >>= λ k. Some (end.MetadataBlock k)) (metadata_again kind)
end_again (end.Listing true) start to proper = refl
end_again _ start to proper = refl

-- ---- events

abbrev at : Event → ℕ → ℕ → Ranged
at event start end = record { event = event; start = start; end = end }

event_again : (event : Event) (start end : ℕ) → IsProperEvent event → event_of (event_record (at event start end)) (event_parts event) ≡ Some event
event_again (Start t) start to proper = ap (λ o. o >>= λ x. Some (Start x)) (tag_again t start to proper)
event_again (End e) start to proper = ap (λ o. o >>= λ x. Some (End x)) (end_again e start to proper)
event_again (TaskListMarker true) start to proper = refl
event_again _ start to proper = refl

pub ranged_again : (r : Ranged) → IsProper r → ranged_of (record { own = event_record r; parts = event_parts r.event }) ≡ Some r
ranged_again r proper = ap (λ o. o >>= λ event. Some (at event r.start r.end)) (event_again r.event r.start r.end proper.2)

-- ---- groups

abbrev pub AreFurther : List FlatRecord → Type 0
AreFurther rs = AllByRecursion (λ r. is_further r ≡ true) rs

pub parts_all : (ps rs : List FlatRecord) → AreFurther ps → parts_at rs ≡ [] → parts_at (ps ++ rs) ≡ ps
parts_all [] rs further h = h
parts_all (p ∷ ps) rs further h = rw (further.0, parts_all ps rs further.1 h) refl

pub later_all : (ps rs : List FlatRecord) → AreFurther ps → later (ps ++ rs) ≡ later rs
later_all [] rs further = refl
later_all (p ∷ ps) rs further = rw (further.0) (later_all ps rs further.1)

further_then : (ps qs : List FlatRecord) → AreFurther ps → AreFurther qs → AreFurther (ps ++ qs)
further_then [] qs p q = q
further_then (x ∷ ps) qs p q = (p.0, further_then ps qs p.1 q)

further_id : (id : Option (List ℕ)) → AreFurther (id_part id)
further_id None = tt
further_id (Some id) = (refl, tt)

further_classes : (classes : List (List ℕ)) → AreFurther (map class_part classes)
further_classes [] = tt
further_classes (c ∷ classes) = (refl, further_classes classes)

further_value : (value : Option (List ℕ)) → is_further (value_part value) ≡ true
further_value None = refl
further_value (Some value) = refl

further_attributes : (xs : List Attribute) → AreFurther (flat_map attribute_parts xs)
further_attributes [] = tt
further_attributes (a ∷ xs) = subst AreFurther (sym (flat_map-cons attribute_parts a xs)) (refl, (further_value a.value, further_attributes xs))

further_tag : (t : Tag) → AreFurther (tag_parts t)
further_tag (tag.Heading level a) = further_then (id_part a.id) _ (further_id a.id) (further_then (map class_part a.classes) _ (further_classes a.classes) (further_attributes a.others))
further_tag (tag.Listing None) = tt
further_tag (tag.Listing (Some first)) = (refl, tt)
further_tag (tag.Link linked) = (refl, (refl, tt))
further_tag (tag.Image linked) = (refl, (refl, tt))
further_tag _ = tt

further_event : (e : Event) → AreFurther (event_parts e)
further_event (Start t) = further_tag t
further_event _ = tt

own_kind : (r : Ranged) (e : Event) → is_further (event_record (at e r.start r.end)) ≡ false
own_kind r (Start t) = refl
own_kind r (End e) = refl
own_kind r (Text text) = refl
own_kind r (Code text) = refl
own_kind r (InlineMath text) = refl
own_kind r (DisplayMath text) = refl
own_kind r (Html text) = refl
own_kind r (InlineHtml text) = refl
own_kind r (FootnoteReference label) = refl
own_kind r SoftBreak = refl
own_kind r HardBreak = refl
own_kind r Rule = refl
own_kind r (TaskListMarker is_checked) = refl

-- events begin with a record of their own
pub no_parts_at : (r : FlatRecord) (rs : List FlatRecord) → is_further r ≡ false → parts_at (r ∷ rs) ≡ []
no_parts_at r rs h = ap (λ b. cond b (r ∷ parts_at rs) []) h

pub later_at : (r : FlatRecord) (rs : List FlatRecord) → is_further r ≡ false → later (r ∷ rs) ≡ groups (r ∷ rs)
later_at r rs h = ap (λ b. cond b (later rs) (record { own = r; parts = parts_at rs } ∷ later rs)) h

no_parts : (es : List Ranged) → parts_at (flat_map records es) ≡ []
no_parts [] = refl
no_parts (e ∷ es) = ap parts_at (flat_map-cons records e es) ∙ no_parts_at (event_record e) (event_parts e.event ++ flat_map records es) (own_kind e e.event)

later_is : (es : List Ranged) → later (flat_map records es) ≡ groups (flat_map records es)
later_is [] = refl
later_is (e ∷ es) = ap later (flat_map-cons records e es) ∙ later_at (event_record e) (event_parts e.event ++ flat_map records es) (own_kind e e.event) ∙ ap groups (sym (flat_map-cons records e es))

abbrev group_of : Ranged → Group
group_of r = record { own = event_record r; parts = event_parts r.event }

one_group : (r : Ranged) (rest : List FlatRecord) → parts_at rest ≡ [] → groups (records r ++ rest) ≡ group_of r ∷ later rest
one_group r rest h = rw (parts_all (event_parts r.event) rest (further_event r.event) h, later_all (event_parts r.event) rest (further_event r.event)) refl

pub events_again : (es : List Ranged) → AllByRecursion IsProper es → each ranged_of (groups (flat_map records es)) ≡ Some es
events_again [] proper = refl
events_again (e ∷ es) proper =
    let rest : List FlatRecord = flat_map records es in
    let grouped : groups (flat_map records (e ∷ es)) ≡ group_of e ∷ groups rest = ap groups (flat_map-cons records e es) ∙ one_group e rest (no_parts es) ∙ ap (λ gs. group_of e ∷ gs) (later_is es) in
    ap (each ranged_of) grouped
    ∙ ap (λ o. o >>= λ first. each ranged_of (groups rest) >>= λ others. Some (first ∷ others)) (ranged_again e proper.0)
    ∙ ap (λ o. o >>= λ others. Some (e ∷ others)) (events_again es proper.1)
