-- A slot as a slot of the model, with offsets of the source, and the events that are read from slots.
use Rattle.std.specs.Prelude.{◌≢◌, ◌<◌, ℕ, ◌+◌, ◌-◌, List, [], length, map, get_or, slice_get, encode_utf8, All, Option, None, Some}
use Rattle.std.specs.Str.{IsCharBoundary}
use Rattle.cmark_grammar.specs.CodeSpans.{code_text}
use Rattle.cmark_grammar.specs.Event.{Ranged}
use Rattle.cmark_grammar.specs.InlineTokens.{as_in}
use Rattle.cmark_grammar.specs.Items as items
use Rattle.cmark_grammar.specs.LinkType as link
use Rattle.cmark_grammar.specs.Siblings.{item}
use Rattle.cmark_grammar.specs.Tag as tag
use Rattle.cmark_grammar.specs.Tag.{Linked, Tag}
use Rattle.cmark_grammar.specs.Tokens.{slice}
use Rattle.cmark_inline_model.specs.SlotRows as row
use Rattle.cmark_inline_model.specs.SlotRows.{slot_events}
use Rattle.cmark_leaf_text.specs.Reads.{is_cell_of, place_of, source_of, text_of}
use Rattle.cmark_leaf_text.specs.declared.leaf_text.LeafText.{LeafText}
use Rattle.cmark_references.specs.Links.{shown_link}
use Rattle.cmark_values.specs.Shown.{text_bytes}
use Rattle.cmark_values.specs.declared.text.CowStr.{CowStr}
use Rattle.cmark_references.specs.declared.link.Link.{Link}
use Rattle.cmark_slots.specs.Elements.{emphasis_tag}
use Rattle.cmark_slots.specs.Slots.{before_backticks}
use Rattle.cmark_slots.specs.declared.slot.LinkElement.{LinkElement}
use Rattle.cmark_slots.specs.declared.slot.LinkElement.TheVariants as element
use Rattle.cmark_slots.specs.declared.slot.Slot.{Slot}
use Rattle.cmark_slots.specs.declared.slot.SlotKind.{SlotKind}
use Rattle.cmark_slots.specs.declared.slot.SlotKind.TheVariants as kind

-- ## Slots

-- the text with an index; empty if it is missing, which CanBeGiven excludes
abbrev pub bytes_or_none : Option CowStr → List ℕ
bytes_or_none None = []
bytes_or_none (Some text) = text_bytes text

abbrev pub text_at : List CowStr → (index : ℕ) → List ℕ
text_at texts index = bytes_or_none (slice_get texts index)

-- the link with an index; an empty one if it is missing
abbrev pub linked_or_none : Option Link → Linked
linked_or_none None = record { link_type = link.Inline; destination = []; title = []; id = [] }
linked_or_none (Some parts) = shown_link parts

abbrev pub linked_at : List Link → (index : ℕ) → Linked
linked_at links index = linked_or_none (slice_get links index)

-- the tag of an element with this link; an autolink is a link
abbrev pub link_tag : LinkElement → Linked → Tag
link_tag element.Link linked = tag.Link linked
link_tag element.Autolink linked = tag.Link linked
link_tag element.Image linked = tag.Image linked

-- the start and the end of a slot's bytes in the source
abbrev pub first_of : LeafText → Slot → ℕ
first_of leaf slot = place_of leaf slot.start

abbrev pub slot_end : LeafText → Slot → ℕ
slot_end leaf slot = place_of leaf (slot.end - 1) + 1

-- the bytes of the leaf's text between two offsets
abbrev pub written : LeafText → (from to : ℕ) → List ℕ
written leaf from to = slice (text_of leaf) from to

-- the content of a code span that begins at an offset, if the span ends at another
abbrev pub written_code : LeafText → (from end : ℕ) → List ℕ
written_code leaf from end = written leaf from (before_backticks (text_of leaf) end)

abbrev pub item_slot : items.ItemKind → (start end : ℕ) → row.Slot
item_slot kind start end = row.ItemSlot (item kind start end)

-- the meaning of a slot of this kind
module _ (leaf : LeafText) (texts : List CowStr) (links : List Link) (slot : Slot) where
  abbrev pub slot_as : SlotKind → row.Slot
  slot_as kind.Text = item_slot (items.Written (written leaf slot.start slot.end)) (first_of leaf slot) (slot_end leaf slot)
  slot_as (kind.OwnedText index) = item_slot (items.Written (text_at texts index)) (first_of leaf slot) (slot_end leaf slot)
  slot_as (kind.Character character) = item_slot (items.Written (encode_utf8 character)) (first_of leaf slot) (slot_end leaf slot)
  slot_as (kind.Whole last) = item_slot items.Own (first_of leaf slot) (slot_end leaf slot)
  slot_as kind.SoftBreak = item_slot items.SoftBreak (first_of leaf slot) (slot_end leaf slot)
  slot_as kind.HardBreak = item_slot items.HardBreak (first_of leaf slot) (slot_end leaf slot)
  slot_as (kind.Code from) = item_slot (items.Code (code_text (as_in (is_cell_of leaf) (written_code leaf from slot.end)))) (first_of leaf slot) (slot_end leaf slot)
  slot_as (kind.InlineMath from) = item_slot (items.InlineMath (as_in (is_cell_of leaf) (written leaf from (slot.end - 1)))) (first_of leaf slot) (slot_end leaf slot)
  slot_as (kind.DisplayMath from) = item_slot (items.DisplayMath (as_in (is_cell_of leaf) (written leaf from (slot.end - 2)))) (first_of leaf slot) (slot_end leaf slot)
  slot_as kind.InlineHtml = item_slot (items.OwnedHtml (written leaf slot.start slot.end)) (first_of leaf slot) (slot_end leaf slot)
  slot_as (kind.SourceHtml end) = item_slot items.Html (first_of leaf slot) end
  slot_as (kind.CutHtml from) = item_slot (items.OwnedHtml (written leaf from slot.end)) (first_of leaf slot) (slot_end leaf slot)
  slot_as (kind.SourceText end) = item_slot items.Own (first_of leaf slot) end
  slot_as kind.Empty = item_slot (items.Written []) (first_of leaf slot) (first_of leaf slot)
  slot_as (kind.FootnoteReference index) = item_slot (items.FootnoteReference (text_at texts index)) (first_of leaf slot) (slot_end leaf slot)
  slot_as (kind.Begin mark) = row.BeginSlot (emphasis_tag mark) (first_of leaf slot) (slot_end leaf slot)
  slot_as (kind.BeginLink element index) = row.BeginSlot (link_tag element (linked_at links index)) (first_of leaf slot) (slot_end leaf slot)
  slot_as kind.End = row.EndSlot
  slot_as kind.Nothing = row.NothingSlot

abbrev pub shown_slot : LeafText → List CowStr → List Link → Slot → row.Slot
shown_slot leaf texts links slot = slot_as leaf texts links slot slot.kind

abbrev pub shown_slots : LeafText → List CowStr → List Link → List Slot → List row.Slot
shown_slots leaf texts links slots = map (shown_slot leaf texts links) slots

-- the events of all slots of a leaf
abbrev pub all_events : LeafText → List CowStr → List Link → List Slot → List Ranged
all_events leaf texts links slots = slot_events (source_of leaf) (shown_slots leaf texts links slots) []

-- ## The texts and links that slots name. A text or a link is moved out when its slot is given, so it can be given once

abbrev pub text_named : SlotKind → Option ℕ
text_named (kind.OwnedText index) = Some index
text_named (kind.FootnoteReference index) = Some index
text_named _ = None

abbrev pub link_named : SlotKind → Option ℕ
link_named (kind.BeginLink element index) = Some index
link_named _ = None

abbrev pub IsThere : (count : ℕ) → Option ℕ → Type 0
IsThere count None = Unit {0}
IsThere count (Some index) = index < count

-- no two slots name one thing
abbrev pub Differ : (one other : Option ℕ) → Type 0
Differ None other = Unit {0}
Differ (Some index) other = other ≢ Some index

abbrev pub AreOnce : (SlotKind → Option ℕ) → List Slot → Type 0
AreOnce named slots = (i j : ℕ) (d : Slot) → i < j → j < length slots → Differ (named (get_or slots i d).kind) (named (get_or slots j d).kind)

-- HTML and a text of the source end after their start, at a character boundary
abbrev pub EndsAfter : LeafText → Slot → SlotKind → Type 0
EndsAfter leaf slot (kind.SourceHtml end) = (first_of leaf slot < end) × IsCharBoundary (source_of leaf) end
EndsAfter leaf slot (kind.SourceText end) = (first_of leaf slot < end) × IsCharBoundary (source_of leaf) end
EndsAfter leaf slot _ = Unit {0}

-- each text and each link that these slots name exists, and is named once
pub record CanBeGiven (leaf : LeafText) (texts : List CowStr) (links : List Link) (slots : List Slot) : Type 0 where
  pub texts_there : All (λ (slot : Slot). IsThere (length texts) (text_named slot.kind)) slots
  pub links_there : All (λ (slot : Slot). IsThere (length links) (link_named slot.kind)) slots
  pub texts_once : AreOnce text_named slots
  pub links_once : AreOnce link_named slots
  pub ends : All (λ (slot : Slot). EndsAfter leaf slot slot.kind) slots
