-- A slot that represents an item of a leaf's text gives the event of this item in the places of the source.
use Rattle.std.specs.Prelude.{encode_utf8}
use Rattle.std.proofs.Common.{◌≡◌, ℕ, suc, ◌+◌, ◌-◌, ◌<◌, ◌≤◌, true, false, true≢false, List, length, drop, refl, sym, ap, ◌∙◌, subst, arith}
use Rattle.cmark_grammar.specs.CodeSpans.{code_text}
use Rattle.cmark_grammar.specs.Event as event
use Rattle.cmark_grammar.specs.InlineHtml.{takes_lines}
use Rattle.cmark_grammar.specs.InlineReading.{event_of}
use Rattle.cmark_grammar.specs.InlineTokens.{as_in}
use Rattle.cmark_grammar.specs.Items.{ItemKind, Plain, Own, Written, Code, InlineMath, DisplayMath, Html, OwnedHtml, SoftBreak, HardBreak, Item, Stands}
use Rattle.cmark_grammar.specs.LeafText.{Leaf}
use Rattle.cmark_grammar.specs.Readers.{Reader}
use Rattle.cmark_grammar.specs.Tokens.{slice}
use Rattle.cmark_leaf_text.specs.Reads.{place_of, text_of, is_cell_of}
use Rattle.cmark_leaf_text.specs.declared.leaf_text.LeafText.{LeafText}
use Rattle.cmark_values.specs.declared.text.CowStr.{CowStr}
use Rattle.cmark_inline_model.specs.LikeSlots.{IsLike, is_html}
use Rattle.cmark_inline_model.specs.PlacedTokens.{AreLeafPlaces, may_open_markup, is_as_written, placed_item}
use Rattle.cmark_inline_model.specs.SlotRows.{ItemSlot}
use Rattle.cmark_inline_model.proofs.TogetherTokens.{byte-lines, byte-together}
use Rattle.cmark_slots.specs.SlotViews.{first_of, slot_end, written, written_code, bytes_or_none, text_at, slot_as, shown_slot}
use Rattle.cmark_inline.specs.Tokens.{begins_at, Says, IsItem}
use Rattle.cmark_references.specs.declared.link.Link.{Link}
use Rattle.cmark_slots.specs.declared.slot.Slot.{Slot}
use Rattle.cmark_slots.specs.declared.slot.SlotKind.{SlotKind}
use Rattle.cmark_slots.specs.declared.slot.SlotKind.TheVariants as kind

html-written : (k : ItemKind) → is_html k ≡ true → is_as_written k ≡ true
html-written Html e = refl
html-written k e = absurd (true≢false (sym e))

module _ (leaf : LeafText) (reader : Reader) (read : Leaf) (place : ℕ → ℕ) (places : AreLeafPlaces reader read (text_of leaf) place) (cell : read.is_cell ≡ is_cell_of leaf)
    (bytes : (k : ℕ) → k < length (text_of leaf) → place_of leaf k ≡ place k) where
  abbrev text : List ℕ
  text = text_of leaf

  -- an item of the text with its range
  module _ (texts : List CowStr) (links : List Link) (slot : Slot) (s e : ℕ) (start : slot.start ≡ s) (end : slot.end ≡ e) (some : s < e) (within : e ≤ length (text_of leaf)) where
    abbrev placed : ItemKind → Item
    placed k = record { kind = k; start = place s; end = suc (place (e - 1)) }

    first_is : first_of leaf slot ≡ place s
    first_is = ap (place_of leaf) start ∙ bytes s (omega arith)

    past_is : slot_end leaf slot ≡ suc (place (e - 1))
    past_is = ap (λ i. place_of leaf (i - 1) + 1) end ∙ ap (λ i. i + 1) (bytes (e - 1) (omega arith)) ∙ (let q : place (e - 1) + 1 ≡ suc (place (e - 1)) = omega arith in q)

    written_is : written leaf slot.start slot.end ≡ slice text s e
    written_is = ap (λ i. slice text i slot.end) start ∙ ap (slice text s) end

    -- the range and the event are equal
    gives : (k : ItemKind) (x : ItemKind) → (takes_lines (slice reader.source (first_of leaf slot) (slot_end leaf slot)) ≡ true → is_html k ≡ is_html x) → ((i j : ℕ) (y : Item) → event_of reader.source y k ≡ event_of reader.source (placed x) x)
        → IsLike reader.source (ItemSlot (record { kind = k; start = first_of leaf slot; end = slot_end leaf slot })) (ItemSlot (placed x))
    gives k x lines h = record { start = first_is; end = past_is; event = h 0 0 (record { kind = k; start = first_of leaf slot; end = slot_end leaf slot }); lines = lines }

    -- the bytes of the source, if the item has them as written
    as_text : (x : ItemKind) → slice reader.source (place s) (suc (place (e - 1))) ≡ slice text s e → event_of reader.source (placed Plain) Plain ≡ event.Text (written leaf slot.start slot.end)
    as_text x b = ap event.Text (b ∙ sym written_is)

    pub item-like : (x : ItemKind) (k : SlotKind) → (is_as_written x ≡ true → slice reader.source (place s) (suc (place (e - 1))) ≡ slice text s e) → (is_html x ≡ true → takes_lines (slice text s e) ≡ false)
        → Says (is_cell_of leaf) text texts slot.start slot.end x k
        → IsLike reader.source (slot_as leaf texts links slot k) (ItemSlot (placed x))
    item-like Plain kind.Text b none says = gives (Written (written leaf slot.start slot.end)) Plain (λ q. refl) (λ i j y. ap event.Text (written_is ∙ sym (b refl)))
    item-like Own kind.Text b none says = gives (Written (written leaf slot.start slot.end)) Own (λ q. refl) (λ i j y. ap event.Text (written_is ∙ sym (b refl)))
    item-like (Written bs) (kind.OwnedText index) b none says = gives (Written (text_at texts index)) (Written bs) (λ q. refl) (λ i j y. ap event.Text (ap bytes_or_none says.1 ∙ says.2))
    item-like (Written bs) (kind.Character character) b none says = gives (Written (encode_utf8 character)) (Written bs) (λ q. refl) (λ i j y. ap event.Text says)
    item-like (Code bs) (kind.Code from) b none says = gives (Code (code_text (as_in (is_cell_of leaf) (written_code leaf from slot.end)))) (Code bs) (λ q. refl) (λ i j y. ap event.Code says)
    item-like (InlineMath bs) (kind.InlineMath from) b none says = gives (InlineMath (as_in (is_cell_of leaf) (written leaf from (slot.end - 1)))) (InlineMath bs) (λ q. refl) (λ i j y. ap event.InlineMath says)
    item-like (DisplayMath bs) (kind.DisplayMath from) b none says = gives (DisplayMath (as_in (is_cell_of leaf) (written leaf from (slot.end - 2)))) (DisplayMath bs) (λ q. refl) (λ i j y. ap event.DisplayMath says)
    item-like Html kind.InlineHtml b none says =
        gives (OwnedHtml (written leaf slot.start slot.end)) Html
        (λ q. absurd (true≢false (sym q ∙ ap takes_lines (ap (λ n. slice reader.source n (slot_end leaf slot)) first_is ∙ ap (slice reader.source (place s)) past_is ∙ b refl) ∙ none refl))) (λ i j y. ap event.InlineHtml (written_is ∙ sym (b refl)))
    item-like (OwnedHtml bs) kind.InlineHtml b none says = gives (OwnedHtml (written leaf slot.start slot.end)) (OwnedHtml bs) (λ q. refl) (λ i j y. ap event.InlineHtml says)
    item-like SoftBreak kind.SoftBreak b none says = gives SoftBreak SoftBreak (λ q. refl) (λ i j y. refl)
    item-like HardBreak kind.HardBreak b none says = gives HardBreak HardBreak (λ q. refl) (λ i j y. refl)
    item-like x k b none says = absurd says

  pub slot-like : (texts : List CowStr) (links : List Link) (slot : Slot) (item : Item) (at resume : ℕ) → begins_at reader.options reader.lookup (is_cell_of leaf) text at ≡ Stands item resume → may_open_markup reader.options.email_autolinks (drop at text) ≡ false
      → IsItem (is_cell_of leaf) text texts item slot → item.start < item.end → item.end ≤ length text → IsLike reader.source (shown_slot leaf texts links slot) (ItemSlot (placed_item place item))
  slot-like texts links slot item at resume token none is some within =
      item-like texts links slot item.start item.end is.start is.end some within item.kind slot.kind
      (byte-together reader read text place places at none item resume here) (λ h. byte-lines reader read text place places at none item resume here (html-written item.kind h)) is.says
    where
      here : begins_at reader.options reader.lookup read.is_cell text at ≡ Stands item resume
      here = subst (λ c. begins_at reader.options reader.lookup c text at ≡ Stands item resume) (sym cell) token
