-- A pending text is one item of the grammar, and its slot is like it.
use Rattle.std.proofs.Common.{◌≡◌, ℕ, ◌-◌, ◌<◌, ◌≤◌, Bool, false, List, length, drop, refl, sym, ap, ◌∙◌, subst, arith, length-drop, true≢false}
use Rattle.cmark_grammar.specs.InlineTokens.{from, item_at, token}
use Rattle.cmark_grammar.specs.Items.{Plain, Item, Stands}
use Rattle.cmark_grammar.specs.LeafText.{Leaf}
use Rattle.cmark_grammar.specs.Readers.{Reader}
use Rattle.cmark_leaf_text.specs.Reads.{text_of, is_cell_of}
use Rattle.cmark_leaf_text.specs.declared.leaf_text.LeafText.{LeafText}
use Rattle.cmark_values.specs.declared.text.CowStr.{CowStr}
use Rattle.cmark_inline_model.specs.LikeSlots.{IsLike}
use Rattle.cmark_inline_model.specs.PlacedTokens.{StopsAt, may_open_markup, placed, placed_item, one_stretch, text_reader}
use Rattle.cmark_inline_model.specs.SlotRows.{ItemSlot}
use Rattle.cmark_inline_model.proofs.PlacedTokens.{from-text}
use Rattle.cmark_inline_model.proofs.PlainTokens.{one-text, token-at}
use Rattle.cmark_inline_model.proofs.TogetherTokens.{text-together}
use Rattle.cmark_inline.specs.PlainStretches.{StandsForItself}
use Rattle.cmark_inline.specs.Reached.{ReadsPlaces}
use Rattle.cmark_slots.specs.SlotViews.{shown_slot}
use Rattle.cmark_inline.specs.Tokens.{begins_at}
use Rattle.cmark_references.specs.declared.link.Link.{Link}
use Rattle.cmark_slots.specs.declared.slot.Slot.{Slot}
use Rattle.cmark_slots.specs.declared.slot.SlotKind.TheVariants as kind
use Rattle.cmark_inline.proofs.ItemSlots.{item-like}

abbrev pub text_item : (start to : ℕ) → Item
text_item start to = record { kind = Plain; start = start; end = to }

abbrev pub text_slot : (start to : ℕ) → Slot
text_slot start to = record { kind = kind.Text; start = start; end = to }

module _ (leaf : LeafText) (reader : Reader) (read : Leaf) (place : ℕ → ℕ) (r : ReadsPlaces leaf reader read place) where
  abbrev text : List ℕ
  text = text_of leaf

  abbrev cell : Bool
  cell = is_cell_of leaf

  module _ (at start end to : ℕ) (begins : begins_at reader.options reader.lookup cell text at ≡ item_at Plain start end) (none : may_open_markup reader.options.email_autolinks (drop at text) ≡ false) (some : start < end) (order : end ≤ to) (within : to ≤ length text)
      (all : (k : ℕ) → end ≤ k → k < to → StandsForItself reader.options reader.lookup cell text k to) (stops : StopsAt (text_reader reader.options reader.lookup text) (one_stretch cell text) to) (before_end : at ≤ length text) where
    own_bytes : from (text_reader reader.options reader.lookup text) (one_stretch cell text) end ≡ drop end text
    own_bytes = subst (λ c. from (text_reader reader.options reader.lookup text) (one_stretch c text) end ≡ drop end text) r.cell (from-text reader read text place r.places end)

    own_token : token (text_reader reader.options reader.lookup text) (one_stretch cell text) at ≡ item_at Plain start to
    own_token =
        one-text (text_reader reader.options reader.lookup text) (one_stretch cell text) at start end to begins order
        (let e : length (drop end text) ≡ length text - end = length-drop end text in let q = ap length own_bytes in omega arith)
        (λ k a b. (let s = all k a b in record { end = s.end; further = s.further; within = s.within; token = s.token })) stops

    -- the token in the cell or the paragraph that the grammar reads
    there : token (text_reader reader.options reader.lookup text) (one_stretch read.is_cell text) at ≡ item_at Plain start to
    there = subst (λ c. token (text_reader reader.options reader.lookup text) (one_stretch c text) at ≡ item_at Plain start to) (sym r.cell) own_token

    pub pending-token : token reader read (place at) ≡ Stands (placed_item place (text_item start to)) (place to)
    pending-token = token-at reader read text place r.places at before_end none ∙ ap (placed place) there

    pub pending-like : (texts : List CowStr) (links : List Link) → IsLike reader.source (shown_slot leaf texts links (text_slot start to)) (ItemSlot (placed_item place (text_item start to)))
    pending-like texts links =
        item-like leaf reader read place r.places r.cell r.bytes texts links (text_slot start to) start to refl refl (omega arith) within Plain kind.Text
        (text-together reader read text place r.places at none (text_item start to) to there) (λ h. absurd (true≢false (sym h))) tt
