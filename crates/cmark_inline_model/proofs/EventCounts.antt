-- The number of events of a text: those of its blocks, and at most three for each byte of a leaf.
use Rattle.std.specs.Prelude.{if◌then◌else◌, get_or, drop, encode_utf8}
use Rattle.std.proofs.Common.{◌≡◌, ℕ, zero, suc, ◌+◌, ◌*◌, ◌<◌, ◌≤◌, Bool, true, false, List, [], ◌∷◌, ◌++◌, length, refl, ap, ◌∙◌, arith, Some, None}
use Rattle.std.proofs.lemmas.List.{length-append}
use Rattle.cmark_grammar.specs.BlockDocument.{BlockKind, BlockNode, BlockDocument, Nil as NoNodes, Node}
use Rattle.cmark_grammar.specs.BlockReading.{Reads as ReadsAs, Around as AroundNode, first_event, over}
use Rattle.cmark_grammar.specs.BracketDecisions.{decide}
use Rattle.cmark_grammar.specs.BracketReading.{Reads}
use Rattle.cmark_grammar.specs.BracketStates.{State, StaysText, Forms, moved, opened}
use Rattle.cmark_grammar.specs.Derivation.{Derives}
use Rattle.cmark_inline_model.specs.EmphasisModel.{pairs_of, spans_of}
use Rattle.cmark_grammar.specs.Event.{End, Ranged}
use Rattle.cmark_grammar.specs.InlineReading.{inline_events}
use Rattle.cmark_grammar.specs.InlineTokens.{token}
use Rattle.cmark_grammar.specs.Items.{ItemKind, Written, Delimiters, Item, Bracket}
use Rattle.cmark_grammar.specs.LeafReading.{Between, entering, ReadsLeaf}
use Rattle.cmark_grammar.specs.LeafText.{Leaf, InTurn, end_of}
use Rattle.cmark_grammar.specs.Options.{Options}
use Rattle.cmark_grammar.specs.Parts.{Formed, Parts, Nil as NoParts, Single as SinglePart, Form, Closing, Opening, Linking, Footnote, Wiki, openings}
use Rattle.cmark_grammar.specs.Questions.{Exchange, IsNext, Saying}
use Rattle.cmark_grammar.specs.Quotes.{quote_characters}
use Rattle.cmark_block_model.specs.Ranges.{count_nodes, count_tables}
use Rattle.cmark_grammar.specs.Readers.{Reader}
use Rattle.cmark_grammar.specs.Siblings.{Inline, Nil, Single, Around, item, quote_as, with_characters, with_quotes, item_then, footnote_then, from_place, display_from, quotes_of}
use Rattle.cmark_inline_model.specs.RunSpans.{runs_from}
use Rattle.cmark_inline_model.specs.SiblingsModel.{dress, siblings_of, spans_in}
use Rattle.cmark_grammar.specs.SpanDocuments.{Segment, Given, Content, IsReading, Profile, ReadsAll, at_start, first_of_segments, leaf_of, node_segments, reader_of, segments, with_first_segment}
use Rattle.cmark_grammar.specs.TagEnd.{end_of as end_of_tag}
use Rattle.cmark_block_model.proofs.CountLaws.{derived-count}
use Rattle.cmark_inline_model.proofs.EmphasisSound.{sound}
use Rattle.cmark_block_model.proofs.RangeLaws.{derived-order}
use Rattle.cmark_inline_model.specs.LeafExtents.{extent, extents}
use Rattle.cmark_inline_model.specs.LeafModel.{AreLeavesInTurn}
use Rattle.cmark_inline_model.specs.PartRanges.{Reaches}
use Rattle.cmark_inline_model.specs.SlotRows.{Slot, ItemSlot, BeginSlot, EndSlot, NothingSlot, byte_places, item_slots, quote_places, row_of, run_slots, seen, slots_of}
use Rattle.cmark_inline_model.proofs.DocumentLeaves.{segments-turn}
use Rattle.cmark_inline_model.proofs.ForwardLaws.{leaf-forward, leaf-ranges}
use Rattle.cmark_inline_model.proofs.LeafExtents.{derived-extents}
use Rattle.cmark_inline_model.proofs.LeafPlaces.{leaf-up}
use Rattle.cmark_inline_model.proofs.LinkNesting.{always-comes}
use Rattle.cmark_inline_model.proofs.PartOrders.{FillsItem, parts-fill}
use Rattle.cmark_inline_model.proofs.ReadingDocuments.{document-of}
use Rattle.cmark_inline_model.proofs.ReadingLaws.{reading-stands}
use Rattle.cmark_inline_model.proofs.SiblingsOne.{spans-one}
use Rattle.cmark_inline_model.proofs.SlotCells.{laid-out}
use Rattle.cmark_inline_model.proofs.SlotLaws.{marks-make}
use Rattle.cmark_inline_model.proofs.TokenItems.{OfItems}

-- ## Spans have no more events than their siblings have slots

events-slots : (source : List ℕ) (spans : Inline) → length (inline_events source spans) ≡ length (slots_of spans)
events-slots source Nil = refl
events-slots source (Single x after) = let i = events-slots source after in omega arith
events-slots source (Around tag start end inside after) = grind (arith, length-append, events-slots source inside, events-slots source after)

seen-few : (slots : List Slot) → length (seen slots) ≤ length slots
seen-few [] = omega arith
seen-few (ItemSlot x ∷ slots) = let i = seen-few slots in omega arith
seen-few (BeginSlot tag start end ∷ slots) = let i = seen-few slots in omega arith
seen-few (EndSlot ∷ slots) = let i = seen-few slots in omega arith
seen-few (NothingSlot ∷ slots) = let i = seen-few slots in omega arith

abbrev size : Inline → ℕ
size siblings = length (row_of siblings)

run-size : (start count : ℕ) (after : List Slot) → length (run_slots start count after) ≡ count + length after
run-size start zero after = omega arith
run-size start (suc count) after = let i = run-size (suc start) count after in omega arith

-- the slots of an item
abbrev slots-for : ItemKind → ℕ
slots-for (Delimiters run) = run.run_length
slots-for _ = 1

item-size : (kind : ItemKind) (x : Item) (after : List Slot) → length (item_slots kind x after) ≡ slots-for kind + length after
item-size (Delimiters run) x after = run-size x.start run.run_length after
item-size _ x after = omega arith

around-size : (inside : Inline) (after : List Slot) → length (slots_of inside ++ (EndSlot ∷ after)) ≡ suc (length (slots_of inside) + length after)
around-size inside after = let e = length-append (slots_of inside) (EndSlot ∷ after) in omega arith

quoted-size : (siblings : Inline) (cs : List ℕ) → size (with_characters siblings cs) ≡ size siblings
quoted-size Nil cs = refl
quoted-size (Around tag start end inside after) cs = grind (arith, around-size, quoted-size after cs)
quoted-size (Single x after) cs =
    let a = item-size x.kind x (row_of (with_characters after cs)) in
    let b = item-size x.kind x (row_of after) in
    let i = quoted-size after cs in
    by-kind (quoted-size after (drop 1 cs)) (omega arith) x.kind refl
  where
    by-kind : size (with_characters after (drop 1 cs)) ≡ size after → size (Single x (with_characters after cs)) ≡ size (Single x after) → (kind : ItemKind) → x.kind ≡ kind
        → size (quote_as (λ cs. Single (item (Written (encode_utf8 (get_or cs 0 0))) x.start x.end) (with_characters after (drop 1 cs))) (λ cs. Single x (with_characters after cs)) kind cs) ≡ size (Single x after)
    by-kind i other kind e = grind (arith, item-size)

dress-few : (options : Options) (siblings : Inline) → length (slots_of (dress options siblings)) ≤ size siblings
dress-few options siblings =
    let q = with_quotes siblings in
    let pairs = pairs_of (runs_from q 0) in
    let spans = spans_of (runs_from q 0) in
    let m = marks-make options q pairs spans (sound (runs_from q 0)) [] (row_of q) (byte_places 0 q) (quote_places 0 q) (laid-out q 0) in
    let a = seen-few m.own in
    let b = m.as_many in
    let c = ap length m.stand_for in
    let d = quoted-size siblings (quote_characters [] (quotes_of siblings)) in
    omega arith

-- ## Three slots a byte

-- the siblings after a pipe, and an empty text if there are none
from-size : (place : ℕ) (siblings : Inline) → size (from_place place siblings) ≤ size siblings
from-size place Nil = omega arith
from-size place (Single x after) = grind (arith, item-size, from-size place after)
from-size place (Around tag start end inside after) = grind (arith, around-size, from-size place after)

display-size : (place end : ℕ) (siblings : Inline) → size (display_from place end siblings) ≤ suc (size siblings)
display-size place end siblings = grind (arith, from-size)

-- a run has a slot for each byte, an autolink has three, and any other item has one
item-few : (x : Item) (after : Inline) (at resume : ℕ) → at ≤ x.start → x.end ≤ resume → at < resume → FillsItem x → size (item_then x.kind x after) + 3 * at ≤ 3 * resume + size after
item-few x after at resume low high on fills = grind (arith, item-size)

footnote-few : (is_image : Bool) (start : ℕ) (label : List ℕ) (end : ℕ) (after : Inline) → size (footnote_then is_image start label end after) ≤ 2 + size after
footnote-few true start label end after = omega arith
footnote-few false start label end after = omega arith

module _ (reader : Reader) (leaf : Leaf) (most : ℕ) (turn : InTurn 0 leaf.stretches most) (Says : Saying) where
  -- a construct that two brackets form, with its two slots and the slots of its content
  formed-few : (siblings : Inline) (after : List Slot) → length (slots_of (dress reader.options siblings) ++ (EndSlot ∷ after)) ≤ suc (size siblings + length after)
  formed-few siblings after = grind (arith, around-size, dress-few)

  -- an opening bracket and a closing one take a byte each
  between : (s : State) (opener : Bracket) (inside : Parts) (closer : Bracket) (formed : Formed) (after : Parts) (t : State) (h : Reads (token reader leaf) (decide reader leaf) Says s (Form opener inside closer formed after) t)
      → (s.at < opener.end) × (h.until.at < h.next.at)
  between s opener inside closer formed after t h =
      let c = (leaf-ranges reader leaf most turn).closes h.until.at closer h.closes in
      let r = always-comes (Reaches closer.end (end_of leaf.stretches)) Says h.until.asked (decide reader leaf h.until closer) (record { result = Forms (openings inside) formed; after = h.next })
      ((leaf-ranges reader leaf most turn).comes h.until closer h.closes) h.comes in
      let x = c.0.begins in let y = c.1 in let z = r.following.0 in let w = r.following.1 in
      ((leaf-forward reader leaf most turn).opens s.at opener h.opens, omega arith)

  pub parts-few : (s : State) (parts : Parts) (t : State) → Reads (token reader leaf) (decide reader leaf) Says s parts t → OfItems FillsItem parts
      → size (siblings_of reader.options parts) + 3 * s.at ≤ 3 * t.at
  parts-few s NoParts t h f = let e : t.at ≡ s.at = ap (λ (x : State). x.at) h in omega arith
  parts-few s (SinglePart x after) t h f =
      let a = (leaf-ranges reader leaf most turn).stands s.at h.0 x h.1 in
      let b = (leaf-forward reader leaf most turn).stands s.at h.0 x h.1 in
      let i = item-few x (siblings_of reader.options after) s.at h.0 a.0.begins a.0.ends b f.0 in
      let k = parts-few (moved h.0 s) after t h.2 f.1 in
      omega arith
  parts-few s (Form opener inside closer (Linking target) after) t h f =
      let c = between s opener inside closer (Linking target) after t h in
      let i = parts-few (opened opener s) inside h.until h.inside f.0 in
      let k = parts-few h.next after t h.after f.1 in
      let n = formed-few (siblings_of reader.options inside) (row_of (siblings_of reader.options after)) in
      omega (arith, c.0, c.1, i, k, n)
  parts-few s (Form opener inside closer (Footnote label end) after) t h f =
      let c = between s opener inside closer (Footnote label end) after t h in
      let i = parts-few (opened opener s) inside h.until h.inside f.0 in
      let k = parts-few h.next after t h.after f.1 in
      let n = footnote-few opener.is_image opener.start label end (siblings_of reader.options after) in
      omega (arith, c.0, c.1, i, k, n)
  parts-few s (Form opener inside closer (Wiki name None end) after) t h f =
      let c = between s opener inside closer (Wiki name None end) after t h in
      let i = parts-few (opened opener s) inside h.until h.inside f.0 in
      let k = parts-few h.next after t h.after f.1 in
      omega (arith, c.0, c.1, i, k)
  parts-few s (Form opener inside closer (Wiki name (Some place) end) after) t h f =
      let c = between s opener inside closer (Wiki name (Some place) end) after t h in
      let i = parts-few (opened opener s) inside h.until h.inside f.0 in
      let k = parts-few h.next after t h.after f.1 in
      let d = display-size place closer.start (siblings_of reader.options inside) in
      let n = formed-few (display_from place closer.start (siblings_of reader.options inside)) (row_of (siblings_of reader.options after)) in
      omega (arith, c.0, c.1, i, k, d, n)
  parts-few s (Closing closer after) t h f =
      let c = (leaf-ranges reader leaf most turn).closes s.at closer h.closes in
      let r = always-comes (Reaches closer.end (end_of leaf.stretches)) Says s.asked (decide reader leaf s closer) (record { result = StaysText; after = h.next })
      ((leaf-ranges reader leaf most turn).comes s closer h.closes) h.comes in
      let k = parts-few h.next after t h.after f in
      let x = c.0.begins in let y = c.1 in let z : closer.end ≤ h.next.at = r.following in
      omega arith
  parts-few s (Opening opener after) t h f =
      let o = (leaf-forward reader leaf most turn).opens s.at opener h.0 in
      let k = parts-few (opened opener s) after t h.1 f in
      omega arith

-- ## A leaf, and a text

pub leaf-few : (reader : Reader) (leaf : Leaf) (most : ℕ) → InTurn 0 leaf.stretches most → (Says : Saying) (before after : Between) (events : List Ranged) → ReadsLeaf reader Says leaf before events after
    → length events ≤ 3 * extent leaf
leaf-few reader leaf most turn Says before after events h =
    let s = entering leaf before in
    let up = leaf-up leaf.stretches most turn in
    let fills = parts-fill reader leaf most turn Says s h.parts h.last h.reads.reads in
    let few = parts-few reader leaf most turn Says s h.parts h.last h.reads.reads fills in
    let within = (reading-stands (token reader leaf) (decide reader leaf) Says (end_of leaf.stretches) (leaf-ranges reader leaf most turn) s h.parts h.last s.at (omega arith) up h.reads.reads).1 in
    let e = ap length (h.events_are ∙ ap (inline_events reader.source) (spans-one reader.options h.parts h.spans h.are)) in
    let l = events-slots reader.source (spans_in reader.options h.parts) in
    let d = dress-few reader.options (siblings_of reader.options h.parts) in
    omega (arith, up, few, within, e, l, d)

-- the events of the blocks
abbrev givens : List Segment → ℕ
givens [] = 0
givens (Given r ∷ others) = suc (givens others)
givens (Content leaf ∷ others) = givens others

all-few : (reader : Reader) (most : ℕ) (Says : Saying) (others : List Segment) (before after : Between) (events : List Ranged) → AreLeavesInTurn most others → ReadsAll reader Says others before events after
    → length events ≤ givens others + 3 * extents others
all-few reader most Says [] before after events turn h = let e = ap length h.0 in omega arith
all-few reader most Says (Given r ∷ others) before after events turn h = grind (arith, all-few reader most Says others before after h.0 turn h.1)
all-few reader most Says (Content leaf ∷ others) before after events turn h =
    let l = leaf-few reader leaf most turn.0 Says before h.2 h.0 h.3 in
    let i = all-few reader most Says others h.2 after h.1 turn.1 h.4 in
    let e = ap length h.5 in
    let a = length-append h.0 h.1 in
    omega (arith, l, i, e, a)

givens-append : (first second : List Segment) → givens (first ++ second) ≡ givens first + givens second
givens-append [] second = omega arith
givens-append (Given r ∷ first) second = let i = givens-append first second in omega arith
givens-append (Content leaf ∷ first) second = givens-append first second

node-givens : (r : ReadsAs) (n : BlockNode) (l : List Segment) → givens (node_segments r n l) ≤ 2 + givens l
node-givens (AroundNode tag) n l = let e = givens-append l (Given (over n (End (end_of_tag tag))) ∷ []) in omega arith
node-givens _ n l = omega arith

first-givens : (starts : ℕ) (r : Ranged) (others : List Segment) → givens (first_of_segments starts (Given r) others) ≡ suc (givens others)
first-givens zero r others = refl
first-givens (suc starts) r [] = refl
first-givens (suc starts) r (Given x ∷ others) = let i = first-givens starts r others in omega arith
first-givens (suc starts) r (Content leaf ∷ others) = first-givens starts r others

with-givens : (r : ReadsAs) (starts : ℕ) (n : BlockNode) (l others : List Segment) → givens (with_first_segment (first_event r) starts n (node_segments r n l ++ others)) ≤ 2 + (givens l + givens others)
with-givens r starts n l others = grind (arith, givens-append, node-givens, first-givens)

inside-givens : (kind : BlockKind) (b : Bool) (content : BlockDocument) (others : List Segment) → givens (if b then Content (leaf_of kind content) ∷ [] else others) ≤ givens others
inside-givens kind true content others = omega arith
inside-givens kind false content others = omega arith

-- two for each node at most
nodes-givens : (document : BlockDocument) → givens (segments document) ≤ 2 * count_nodes document
nodes-givens NoNodes = omega arith
nodes-givens (Node n inside after) = grind (arith, with-givens, inside-givens, nodes-givens inside, nodes-givens after)

pub reading-few : (text : List ℕ) (profile : Profile) (document : BlockDocument) (exchanges : List Exchange) (events : List Ranged) → Derives text profile.options profile.lookup document → IsReading text profile exchanges events
    → length events ≤ 11 * length text + 524288 * count_tables document
reading-few text profile document exchanges events derives h =
    document-of text profile document exchanges events derives h (λ d. length events ≤ 11 * length text + 524288 * count_tables d)
    (let turn = segments-turn (length text) 0 h.document (length text) (omega arith) (derived-order text profile.options profile.lookup h.document h.derives) in
    let a = all-few (reader_of text profile h.document) (length text) (IsNext exchanges) (segments h.document) (at_start profile) h.after events turn h.reads in
    let g = nodes-givens h.document in
    let n = derived-count text profile.options profile.lookup h.document h.derives in
    let e = derived-extents text profile.options profile.lookup h.document h.derives in
    omega (arith, a, g, n, e))
