-- A pending text is one item of the grammar, and its slot is like it.
use Rattle.std.specs.Prelude.{◌&&◌, ◌==◌, if◌then◌else◌, Option}
use Rattle.std.proofs.Common.{◌≡◌, inl, inr, ℕ, ◌<◌, ◌≤◌, Bool, true, false, List, length, drop, refl, sym, ap, ◌∙◌, subst, arith, eqb-true, true≢false}
use Rattle.std.proofs.lemmas.Bool.{false_from_ne_true}
use Rattle.cmark_grammar.specs.Answers.{Lookup}
use Rattle.cmark_grammar.specs.InlineTokens.{begins, goes_on, item_at, token}
use Rattle.cmark_grammar.specs.Items.{Plain, Item, Token, Stands}
use Rattle.cmark_grammar.specs.LeafReading.{Between}
use Rattle.cmark_grammar.specs.LeafText.{InTurn, Leaf}
use Rattle.cmark_grammar.specs.Options.{Options}
use Rattle.cmark_grammar.specs.Readers.{Reader}
use Rattle.cmark_leaf_text.specs.Reads.{text_of, is_cell_of}
use Rattle.cmark_leaf_text.specs.declared.leaf_text.LeafText.{LeafText}
use Rattle.cmark_values.specs.declared.text.CowStr.{CowStr}
use Rattle.cmark_inline_model.specs.LikeSlots.{IsLike}
use Rattle.cmark_inline_model.specs.PlacedTokens.{StopsAt, may_open_markup, placed, placed_item, one_stretch, text_reader}
use Rattle.cmark_inline_model.specs.SlotRows.{ItemSlot}
use Rattle.cmark_inline_model.proofs.PlainTokens.{NotPlain, goes-stop, markup-not, token-at}
use Rattle.cmark_inline_model.proofs.TogetherTokens.{text-together}
use Rattle.cmark_inline_model.proofs.TokenLaws.{Onward, begins-at-onward}
use Rattle.cmark_inline.specs.CursorProgress.{HasBegun, HasReached}
use Rattle.cmark_inline.specs.Reached.{ReadsPlaces}
use Rattle.cmark_slots.specs.SlotViews.{shown_slot, shown_slots}
use Rattle.cmark_slots.specs.Slots.{PushesText}
use Rattle.cmark_inline.specs.Tokens.{begins_at, reading, whole}
use Rattle.cmark_inline.specs.declared.callback.BrokenLink.{BrokenLink}
use Rattle.cmark_references.specs.declared.link.Link.{Link}
use Rattle.cmark_slots.specs.declared.slot.SlotKind.TheVariants as kind
use Rattle.cmark_inline.specs.declared.state.InlineState.{InlineState}
use Rattle.cmark_inline.specs.LeastSteps.{Tally}
use Rattle.cmark_inline.proofs.ItemSlots.{item-like}
use Rattle.cmark_inline.proofs.PendingTexts.{text_item, text_slot}
use Rattle.cmark_inline.proofs.PlainChains.{IsHeld, begun-order, begun-token}
use Rattle.cmark_inline.proofs.ReachedItems.{SameBrackets, item-reached, same-reached}
use Rattle.cmark_inline.proofs.TokenSteps.{from-is}

-- ## Offsets of the text
module _ (o : Options) (l : Lookup) (cell : Bool) (text : List ℕ) where
  abbrev one : Reader
  one = reading o l text

  abbrev alone : Leaf
  alone = whole cell text

  turn : InTurn 0 alone.stretches (length text)
  turn = (omega arith, omega arith, omega arith)

  -- an item begins at this offset or later, and reading continues after it
  pub record IsWithin (at : ℕ) (x : Item) (resume : ℕ) : Type 0 where
    pub begins : at ≤ x.start
    pub ends : x.end ≤ resume
    pub further : at < resume
    pub within : resume ≤ length text

  pub item-within : (at : ℕ) (x : Item) (resume : ℕ) → begins_at o l cell text at ≡ Stands x resume → IsWithin at x resume
  item-within at x resume t =
      let h = subst (Onward one alone (length text) turn at) t (begins-at-onward one alone (length text) turn at) in
      let w = h.2 in
      record { begins = h.0.begins; ends = h.0.ends; further = h.1; within = (let q : resume ≤ length text = omega (arith, w) in q) }

  -- no markup opens where a text begins
  pub text-no-markup : (at start end : ℕ) → begins_at o l cell text at ≡ item_at Plain start end → may_open_markup o.email_autolinks (drop at text) ≡ false
  text-no-markup at start end t =
      false_from_ne_true (may_open_markup o.email_autolinks (drop at text)) (λ e.
      let h : NotPlain one alone (begins one alone at (drop at text)) = markup-not one alone at (drop at text) e in
      let k : NotPlain one alone (item_at Plain start end) = subst (NotPlain one alone) (sym (ap (begins one alone at) (from-is o l cell text at)) ∙ t) h in
      absurd (let z : ⊥ = cc in z))

  -- a text ends where no text continues
  pub stops-there : (at : ℕ) (t : Token) → begins_at o l cell text at ≡ t → NotPlain one alone t → StopsAt one alone at
  stops-there at t e never = λ more. ap (λ x. goes_on one alone x at more) e ∙ goes-stop one alone t at more never

  pub stops-before : (at start end : ℕ) → begins_at o l cell text at ≡ item_at Plain start end → at < start → StopsAt one alone at
  stops-before at start end t lt = λ more.
      ap (λ x. goes_on one alone x at more) t ∙ ap (λ z. if true && z then more end else at) (false_from_ne_true (start == at) (λ e. let q = eqb-true start at e in omega (arith, q, lt)))

  pub stops-markup : (at : ℕ) → may_open_markup o.email_autolinks (drop at text) ≡ true → StopsAt one alone at
  stops-markup at e = stops-there at (begins one alone at (drop at text)) (ap (begins one alone at) (from-is o l cell text at)) (markup-not one alone at (drop at text) e)

-- ## The pending text in the source
module _ (leaf : LeafText) (reader : Reader) (read : Leaf) (place : ℕ → ℕ) (r : ReadsPlaces leaf reader read place) where
  abbrev text : List ℕ
  text = text_of leaf

  abbrev cell : Bool
  cell = is_cell_of leaf

  -- a token of the text is the token at its place of the source
  pub token-placed : (at : ℕ) → at ≤ length text → may_open_markup reader.options.email_autolinks (drop at text) ≡ false → token reader read (place at) ≡ placed place (token (text_reader reader.options reader.lookup text) (one_stretch cell text) at)
  token-placed at le none = token-at reader read text place r.places at le none ∙ ap (λ c. placed place (token (text_reader reader.options reader.lookup text) (one_stretch c text) at)) r.cell

  module _ (at start to : ℕ) (h : HasBegun reader.options reader.lookup cell text at start to) (within : to ≤ length text) (stops : StopsAt (text_reader reader.options reader.lookup text) (one_stretch cell text) to) where
    none : may_open_markup reader.options.email_autolinks (drop at text) ≡ false
    none = text-no-markup reader.options reader.lookup cell text at start h.end h.token

    own_token : token (text_reader reader.options reader.lookup text) (one_stretch cell text) at ≡ item_at Plain start to
    own_token = begun-token reader.options reader.lookup cell text at start to h within stops

    some : start < to
    some = begun-order reader.options reader.lookup cell text at start to h

    before_end : at ≤ length text
    before_end = let w = (item-within reader.options reader.lookup cell text at (text_item start h.end) h.end h.token).begins in omega (arith, w, some, within)

    pub begun-placed : token reader read (place at) ≡ Stands (placed_item place (text_item start to)) (place to)
    begun-placed = token-placed at before_end none ∙ ap (placed place) own_token

    pub begun-like : (texts : List CowStr) (links : List Link) → IsLike reader.source (shown_slot leaf texts links (text_slot start to)) (ItemSlot (placed_item place (text_item start to)))
    begun-like texts links =
        item-like leaf reader read place r.places r.cell r.bytes texts links (text_slot start to) start to refl refl some within Plain kind.Text
        (text-together reader read text place r.places at none (text_item start to) to (subst (λ c. token (text_reader reader.options reader.lookup text) (one_stretch c text) at ≡ item_at Plain start to) (sym r.cell) own_token)) (λ h. absurd (true≢false (sym h))) tt

  -- ## Once it has a slot, the pass is after it
  module _ {F : Type 0} (R : F → BrokenLink → Option (CowStr × CowStr) → F → Type 0) (before : Between) (tally : Tally) (initial now : F) where
    pub flushed-reached : (at start to : ℕ) (old new : InlineState) → HasReached R leaf reader read place before tally initial at old now → IsHeld reader.options reader.lookup cell text at start to → to ≤ length text
        → StopsAt (text_reader reader.options reader.lookup text) (one_stretch cell text) to → PushesText start to old.slots.items new.slots.items → new ≡ record old { slots = new.slots } → HasReached R leaf reader read place before tally initial to new now
    flushed-reached at start to old new h (inl e) within stops pushes others =
        let texts : new.texts.items ≡ old.texts.items = ap (λ (s : InlineState). s.texts.items) others in
        let links : new.links.items ≡ old.links.items = ap (λ (s : InlineState). s.links.items) others in
        let slots : new.slots.items ≡ old.slots.items = pushes.1 (let q = e.1 in omega (arith, q)) in
        subst (λ n. HasReached R leaf reader read place before tally initial n new now) (e.0 ∙ e.1)
        (same-reached leaf reader read place before R tally initial now at old new
        (ap (λ l. shown_slots leaf new.texts.items new.links.items l) slots ∙ ap (λ t. shown_slots leaf t new.links.items old.slots.items) texts ∙ ap (λ t. shown_slots leaf old.texts.items t old.slots.items) links)
        (ap (λ (s : InlineState). s.delimiters.placed.items) others) (ap (λ (s : InlineState). s.quotes.placed.items) others) (same-brackets others) h)
      where
        same-brackets : new ≡ record old { slots = new.slots } → SameBrackets old new
        same-brackets e = record { examined = ap (λ (s : InlineState). s.delimiters.examined) e; brackets = ap (λ (s : InlineState). s.brackets) e; doubled = ap (λ (s : InlineState). s.doubled) e; expansion_left = ap (λ (s : InlineState). s.expansion_left) e; label = ap (λ (s : InlineState). s.label_close) e }
    flushed-reached at start to old new h (inr b) within stops pushes others =
        let texts : new.texts.items ≡ old.texts.items = ap (λ (s : InlineState). s.texts.items) others in
        let links : new.links.items ≡ old.links.items = ap (λ (s : InlineState). s.links.items) others in
        let some = begun-order reader.options reader.lookup cell text at start to b in
        let fits = (item-within reader.options reader.lookup cell text at (text_item start b.end) b.end b.token).begins in
        item-reached leaf reader read place before R tally initial now tally.sought at to old new h (omega (arith, fits, some))
        (record { examined = ap (λ (s : InlineState). s.delimiters.examined) others; brackets = ap (λ (s : InlineState). s.brackets) others; doubled = ap (λ (s : InlineState). s.doubled) others; expansion_left = ap (λ (s : InlineState). s.expansion_left) others; label = ap (λ (s : InlineState). s.label_close) others })
        (ap (λ t. shown_slots leaf t new.links.items old.slots.items) texts ∙ ap (λ t. shown_slots leaf old.texts.items t old.slots.items) links)
        Plain (place start) (placed_item place (text_item start to)).end (text_slot start to) (begun-placed at start to b within stops) refl (begun-like at start to b within stops new.texts.items new.links.items)
        (pushes.0 some) (ap (λ (s : InlineState). s.delimiters.placed.items) others) (ap (λ (s : InlineState). s.quotes.placed.items) others) (record { html = omega arith; closers = omega arith })
