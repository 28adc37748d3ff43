-- The slots of a link or an image.
use Rattle.std.proofs.Common.{◌≡◌, ℕ, ◌+◌, ◌-◌, ◌<◌, ◌≤◌, true, false, List, [], ◌∷◌, ◌++◌, length, drop, take, get_or, set, refl, sym, ap, subst, ◌∙◌, arith}
use Rattle.std.specs.Prelude.{map, max}
use Rattle.std.proofs.lemmas.List.{append-nil, get_or_default, length-map, map-append, map-set}
use Rattle.cmark_emphasis.specs.Least.{least_examined}
use Rattle.cmark_grammar.specs.Emphasis.{IsEmphasis, Pair, runs_of}
use Rattle.cmark_grammar.specs.Options.{Options}
use Rattle.cmark_grammar.specs.Siblings.{tag_by}
use Rattle.cmark_grammar.specs.Spans.{Spans}
use Rattle.cmark_grammar.specs.Tag.{Tag}
use Rattle.cmark_leaf_text.specs.Reads.{place_of}
use Rattle.cmark_leaf_text.specs.declared.leaf_text.LeafText.{LeafText}
use Rattle.cmark_values.specs.declared.text.CowStr.{CowStr}
use Rattle.cmark_inline_model.specs.SlotRows as row
use Rattle.cmark_inline_model.specs.SlotRows.{marks_by}
use Rattle.cmark_slots.specs.MarkedSlots.{begun_as, places_of, siblings_from}
use Rattle.cmark_slots.specs.QuoteSlots.{characters_of}
use Rattle.cmark_references.specs.Links.{shown_link}
use Rattle.cmark_slots.specs.SlotViews.{first_of, link_tag, linked_at, linked_or_none, shown_slot, shown_slots}
use Rattle.cmark_slots.specs.Standing.{AreNamed, CanSettle}
use Rattle.cmark_slots.specs.Slots.{AreSlots}
use Rattle.cmark_inline.specs.FormedSlots.{WritesElement, dressed_after, end_slot, wrapped}
use Rattle.cmark_slots.specs.declared.bracket.Bracket.{Bracket}
use Rattle.cmark_emphasis.specs.declared.run.PlacedRun.{PlacedRun}
use Rattle.cmark_references.specs.declared.link.Link.{Link}
use Rattle.cmark_inline.specs.declared.link.Target.{Target}
use Rattle.cmark_slots.specs.declared.quote.PlacedQuote.{PlacedQuote}
use Rattle.cmark_slots.specs.declared.slot.LinkElement.{LinkElement}
use Rattle.cmark_slots.specs.declared.slot.LinkElement.TheVariants as element
use Rattle.cmark_slots.specs.declared.slot.Slot.{Slot}
use Rattle.cmark_slots.specs.declared.slot.SlotKind.TheVariants as kind
use Rattle.cmark_inline.specs.declared.state.InlineState.{InlineState}
use Rattle.cmark_slots.proofs.Marks.{no-slot}
use Rattle.cmark_slots.proofs.Longer.{get-last, shown-longer}
use Rattle.cmark_slots.proofs.RunPlaces.{all-ahead}
use Rattle.cmark_inline.proofs.Wrapping.{AreInside, ahead-inside, dressed-wrapped, texts-inside}

-- the tag of a link or an image whose parts are the last of the table
pub link-shown : (links : List Link) (parts : Link) (index : ℕ) → index ≡ length links → link_tag element.Link (linked_at (links ++ (parts ∷ [])) index) ≡ tag_by false (shown_link parts)
link-shown links parts index e = ap (λ i. link_tag element.Link (linked_at (links ++ (parts ∷ [])) i)) e ∙ ap (λ o. tag_by false (linked_or_none o)) (get-last links parts)

pub image-shown : (links : List Link) (parts : Link) (index : ℕ) → index ≡ length links → link_tag element.Image (linked_at (links ++ (parts ∷ [])) index) ≡ tag_by true (shown_link parts)
image-shown links parts index e = ap (λ i. link_tag element.Image (linked_at (links ++ (parts ∷ [])) i)) e ∙ ap (λ o. tag_by true (linked_or_none o)) (get-last links parts)

larger : (m n : ℕ) → m ≤ n → max m n ≡ n
larger m n le = omega (arith, le)

module _ (leaf : LeafText) (texts : List CowStr) (links links1 : List Link) (at : ℕ) (slots : List Slot) (there : at < length slots) (element : LinkElement) (index : ℕ) (tag : Tag) (shows : link_tag element (linked_at links1 index) ≡ tag) (close end : ℕ) (s d : Slot) (before : (get_or slots at d).end ≤ end)
    (same : shown_slots leaf texts links1 slots ≡ shown_slots leaf texts links slots) (begins : s ≡ begun_as (kind.BeginLink element index) end (get_or slots at d)) where
  abbrev begin : row.Slot
  begin = row.BeginSlot tag (first_of leaf (get_or slots at d)) (place_of leaf (end - 1) + 1)

  begin-shown : shown_slot leaf texts links1 s ≡ begin
  begin-shown =
      ap (shown_slot leaf texts links1) begins
      ∙ ap (λ t. row.BeginSlot t (first_of leaf (get_or slots at d)) (place_of leaf (max (get_or slots at d).end end - 1) + 1)) shows
      ∙ ap (λ n. row.BeginSlot tag (first_of leaf (get_or slots at d)) (place_of leaf (n - 1) + 1)) (larger (get_or slots at d).end end before)

  -- the slots before characters and marks are written
  pub ends-shown : shown_slots leaf texts links1 (set slots at s ++ (end_slot close end ∷ [])) ≡ set (shown_slots leaf texts links slots) at begin ++ (row.EndSlot ∷ [])
  ends-shown =
      map-append (shown_slot leaf texts links1) (set slots at s) (end_slot close end ∷ [])
      ∙ ap (λ l. l ++ (row.EndSlot ∷ [])) (map-set (shown_slot leaf texts links1) slots at s ∙ ap (λ x. set (shown_slots leaf texts links1 slots) at x) begin-shown ∙ ap (λ l. set l at begin) same)

  -- the slots after that
  pub element-dressed : (options : Options) (bracket : Bracket) (pairs : List Pair) (runs : List PlacedRun) (quotes : List PlacedQuote) → bracket.slot ≡ at → CanSettle (at + 1) slots (drop bracket.runs runs) (drop bracket.quotes quotes)
      → dressed_after options bracket pairs runs quotes (shown_slots leaf texts links1 (set slots at s ++ (end_slot close end ∷ []))) ≡ wrapped at begin (dressed_after options bracket pairs runs quotes (shown_slots leaf texts links slots))
  element-dressed options bracket pairs runs quotes slot_is can =
      let shown = shown_slots leaf texts links slots in
      let n = length-map slots (shown_slot leaf texts links) in
      let lt : at < at + 1 = omega arith in
      let places = places_of (drop bracket.runs runs) in
      let inside : AreInside at (length shown) places = subst (λ k. AreInside at k places) (sym n) (ahead-inside slots (at + 1) 0 places at lt (all-ahead slots (at + 1) 0 (drop bracket.runs runs) can.runs_are)) in
      let quoted_at = map (λ (q : PlacedQuote). q.slot) (drop bracket.quotes quotes) in
      let among : AreInside at (length shown) quoted_at = subst (λ k. AreInside at k quoted_at) (sym n) (texts-inside slots (drop bracket.quotes quotes) (at + 1) at lt can.quotes_are can.quotes_after) in
      ap (dressed_after options bracket pairs runs quotes) ends-shown
      ∙ dressed-wrapped options at begin places (marks_by (length places) pairs) quoted_at (characters_of (drop bracket.quotes quotes)) shown (let q : at < length shown = omega (arith, n, there) in q) inside among

-- the slots after the calls for the link or the image
pub writes-element : (options : Options) (bracket : Bracket) (target : Target) (old new : InlineState) (element : LinkElement) (index : ℕ) → bracket.slot < length old.slots.items → (close : ℕ) (text : List ℕ) → AreSlots text close old.slots.items → close < target.end
    → AreNamed (length old.texts.items) (length old.links.items) old.slots.items → CanSettle (bracket.slot + 1) old.slots.items (drop bracket.runs old.delimiters.placed.items) (drop bracket.quotes old.quotes.placed.items)
    → new.texts.items ≡ old.texts.items → new.links.items ≡ old.links.items ++ (target.link ∷ []) → link_tag element (linked_at (old.links.items ++ (target.link ∷ [])) index) ≡ tag_by bracket.is_image (shown_link target.link)
    → new.delimiters.placed.items ≡ take bracket.runs old.delimiters.placed.items → new.quotes.placed.items ≡ take bracket.quotes old.quotes.placed.items
    → ((leaf : LeafText) (pairs : List Pair) (spans : Spans) → IsEmphasis (siblings_from 0 (drop bracket.runs old.delimiters.placed.items)) pairs spans → shown_slots leaf new.texts.items new.links.items new.slots.items
    ≡ dressed_after options bracket pairs old.delimiters.placed.items old.quotes.placed.items (shown_slots leaf new.texts.items new.links.items (set old.slots.items bracket.slot (begun_as (kind.BeginLink element index) target.end (get_or old.slots.items bracket.slot no-slot)) ++ (end_slot close target.end ∷ []))))
    → old.delimiters.examined + least_examined (runs_of (siblings_from 0 (drop bracket.runs old.delimiters.placed.items))) ≤ new.delimiters.examined
    → WritesElement options bracket target old new
writes-element options bracket target old new element index there close text stand following named can texts links shows runs quotes dressed examined = record {
  forgets = record { runs = runs; quotes = quotes; examined = omega (arith, examined) };
  examined = examined;
  slots = λ leaf pairs spans d emphasis.
      let slots : List Slot = old.slots.items in
      let at : ℕ = bracket.slot in
      let same : shown_slots leaf old.texts.items new.links.items slots ≡ shown_slots leaf old.texts.items old.links.items slots =
      shown-longer leaf old.texts.items old.texts.items [] old.links.items new.links.items (target.link ∷ []) slots (sym (append-nil old.texts.items)) links named in
      let first : get_or slots at no-slot ≡ get_or slots at d = get_or_default slots at no-slot d there in
      let e = (stand at d there).before in
      let made : Slot = begun_as (kind.BeginLink element index) target.end (get_or slots at no-slot) in
      dressed leaf pairs spans emphasis
      ∙ ap (λ l. dressed_after options bracket pairs old.delimiters.placed.items old.quotes.placed.items (shown_slots leaf l new.links.items (set slots at made ++ (end_slot close target.end ∷ [])))) texts
      ∙ element-dressed leaf old.texts.items old.links.items new.links.items at slots there element index (tag_by bracket.is_image (shown_link target.link)) (ap (λ l. link_tag element (linked_at l index)) links ∙ shows) close target.end made d
      (let q : (get_or slots at d).end ≤ target.end = omega (arith, e, following) in q) same (ap (begun_as (kind.BeginLink element index) target.end) first) options bracket pairs old.delimiters.placed.items old.quotes.placed.items refl can;
}
