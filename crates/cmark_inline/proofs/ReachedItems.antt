-- With one slot more, the grammar's pass has read the item that the slot represents. The opening brackets stay.
use Rattle.std.specs.Prelude.{Option, option_map, map}
use Rattle.std.proofs.Common.{◌≡◌, ℕ, ◌≤◌, Bool, true, List, [], ◌∷◌, ◌++◌, refl, sym, ap, ◌∙◌, subst, arith}
use Rattle.cmark_grammar.specs.BracketStates.{Opener, State, moved}
use Rattle.cmark_grammar.specs.InlineTokens.{token}
use Rattle.cmark_grammar.specs.Items.{ItemKind, Stands}
use Rattle.cmark_grammar.specs.LeafReading.{Between}
use Rattle.cmark_grammar.specs.LeafText.{Leaf}
use Rattle.cmark_grammar.specs.Parts.{Nil, Single}
use Rattle.cmark_grammar.specs.Readers.{Reader}
use Rattle.cmark_grammar.specs.Siblings.{item}
use Rattle.cmark_leaf_text.specs.Reads.{text_of}
use Rattle.cmark_leaf_text.specs.declared.leaf_text.LeafText.{LeafText}
use Rattle.cmark_values.specs.declared.text.CowStr.{CowStr}
use Rattle.cmark_inline_model.specs.BracketPass.{Pass, pass}
use Rattle.cmark_inline_model.specs.LikeSlots.{IsLike}
use Rattle.cmark_inline_model.specs.PartLists.{join}
use Rattle.cmark_inline_model.specs.RowParts.{BracketPlace}
use Rattle.cmark_inline_model.specs.RowPasses.{IsReached, has_own_slot}
use Rattle.cmark_inline_model.specs.SlotRows.{ItemSlot}
use Rattle.cmark_inline.specs.BracketViews.{ArePlaced, IsFresh, StandFor}
use Rattle.cmark_inline.specs.Closers.{ShowsState}
use Rattle.cmark_inline.specs.CursorProgress.{HasReached}
use Rattle.cmark_inline.specs.Decided.{EndsWithin}
use Rattle.cmark_slots.specs.MarkedSlots.{places_of}
use Rattle.cmark_inline.specs.Reached.{HasRead, bracket_place, quotes_of, runs_of}
use Rattle.cmark_slots.specs.SlotViews.{shown_slot, shown_slots}
use Rattle.cmark_slots.specs.declared.bracket.Bracket.{Bracket}
use Rattle.cmark_slots.specs.declared.bracket.Brackets.{Brackets}
use Rattle.cmark_inline.specs.declared.callback.BrokenLink.{BrokenLink}
use Rattle.cmark_slots.specs.declared.quote.PlacedQuote.{PlacedQuote}
use Rattle.cmark_slots.specs.declared.slot.Slot.{Slot}
use Rattle.cmark_inline.specs.declared.state.InlineState.{InlineState}
use Rattle.cmark_inline.specs.LeastSteps.{Tally}
use Rattle.cmark_inline.specs.declared.step.Sought.{Sought}
use Rattle.cmark_inline.proofs.LeastCounted.{TakesFor, counted-item, counted-same}
use Rattle.cmark_inline.proofs.ReachedSteps.{own-read}

-- ## Opening brackets
-- the stacks of brackets, the rest of the reference expansion limit and the count of examined runs stay as they are
pub record SameBrackets (old new : InlineState) : Type 0 where
  pub brackets : new.brackets ≡ old.brackets
  pub doubled : new.doubled ≡ old.doubled
  pub expansion_left : new.expansion_left ≡ old.expansion_left
  pub label : new.label_close ≡ old.label_close
  pub examined : new.delimiters.examined ≡ old.delimiters.examined

placed-up : (place : ℕ → ℕ) (at to : ℕ) (os : List Opener) (bs : List Bracket) → at ≤ to → ArePlaced place at os bs → ArePlaced place to os bs
placed-up place at to [] [] le h = tt
placed-up place at to [] (b ∷ bs) le h = h
placed-up place at to (o ∷ os) [] le h = h
placed-up place at to (o ∷ os) (b ∷ bs) le h = (h.0, let a = h.1 in omega (arith, a, le), h.2)

fresh-up : (place : ℕ → ℕ) (at to inactive_below : ℕ) (os : List Opener) (bs : List Bracket) → at ≤ to → ArePlaced place at os bs → IsFresh at inactive_below os bs → IsFresh to inactive_below os bs
fresh-up place at to inactive_below [] bs le p h = tt
fresh-up place at to inactive_below (o ∷ os) [] le p h = tt
fresh-up place at to inactive_below (o ∷ os) (b ∷ bs) le p h = λ e. h (let a = p.1 in omega (arith, a, e, le))

pub shows-on : (wikilinks : Bool) (text : List ℕ) (place : ℕ → ℕ) (at to : ℕ) (s t : State) (bs : List Bracket) (old new : InlineState) → at ≤ to → SameBrackets old new
    → t.openers ≡ s.openers → t.expansion_left ≡ s.expansion_left → t.label_close ≡ s.label_close → ShowsState wikilinks text place at s bs old → ShowsState wikilinks text place to t bs new
shows-on wikilinks text place at to s t bs old new le e openers left label h =
    let b = h.openers in
    let stand : StandFor wikilinks place to s.openers bs old.brackets old.doubled = record {
      placed = placed-up place at to s.openers bs le b.placed;
      standing_are = b.standing_are;
      inactive = b.inactive;
      doubled_are = b.doubled_are;
      doubled_inactive = b.doubled_inactive;
    } in
    record {
      openers = subst (λ os. StandFor wikilinks place to os bs new.brackets new.doubled) (sym openers)
          (subst (λ (x : Brackets). StandFor wikilinks place to s.openers bs x new.doubled) (sym e.brackets) (subst (λ (x : Brackets). StandFor wikilinks place to s.openers bs old.brackets x) (sym e.doubled) stand));
      fresh = subst (λ os. IsFresh to new.brackets.inactive_below os bs) (sym openers)
          (subst (λ (x : Brackets). IsFresh to x.inactive_below s.openers bs) (sym e.brackets) (fresh-up place at to old.brackets.inactive_below s.openers bs le b.placed h.fresh));
      remembers = record {
        expansion_left = left ∙ h.remembers.expansion_left ∙ sym e.expansion_left;
        label = label ∙ h.remembers.label ∙ ap (option_map place) (sym e.label);
        within = subst (EndsWithin text) (sym e.label) h.remembers.within;
      };
    }

-- ## Slots
module _ (leaf : LeafText) (reader : Reader) (read : Leaf) (place : ℕ → ℕ) (before : Between) where
  pub read-same : (p : Pass) (bs : List Bracket) (old new : InlineState) → shown_slots leaf new.texts.items new.links.items new.slots.items ≡ shown_slots leaf old.texts.items old.links.items old.slots.items
      → new.delimiters.placed.items ≡ old.delimiters.placed.items → new.quotes.placed.items ≡ old.quotes.placed.items → HasRead leaf reader read place before p bs old → HasRead leaf reader read place before p bs new
  read-same p bs old new slots runs quotes h =
      let brackets : List BracketPlace = map (bracket_place place) bs in
      let places : List PlacedQuote → List ℕ = λ l. map (λ (x : PlacedQuote). x.slot) l in
      subst (λ l. IsReached reader read before p brackets (shown_slots leaf new.texts.items new.links.items new.slots.items) (places_of new.delimiters.placed.items) (places l) (runs_of new.delimiters.placed.items) (quotes_of l)) (sym quotes)
      (subst (λ l. IsReached reader read before p brackets (shown_slots leaf new.texts.items new.links.items new.slots.items) (places_of l) (places old.quotes.placed.items) (runs_of l) (quotes_of old.quotes.placed.items)) (sym runs)
      (subst (λ l. IsReached reader read before p brackets l (places_of old.delimiters.placed.items) (places old.quotes.placed.items) (runs_of old.delimiters.placed.items) (quotes_of old.quotes.placed.items)) (sym slots) h))

  module _ {F : Type 0} (R : F → BrokenLink → Option (CowStr × CowStr) → F → Type 0) (tally : Tally) (initial now : F) where
    abbrev Reached : ℕ → InlineState → Type 0
    Reached at state = HasReached R leaf reader read place before tally initial at state now

    pub same-reached : (at : ℕ) (old new : InlineState) → shown_slots leaf new.texts.items new.links.items new.slots.items ≡ shown_slots leaf old.texts.items old.links.items old.slots.items
        → new.delimiters.placed.items ≡ old.delimiters.placed.items → new.quotes.placed.items ≡ old.quotes.placed.items → SameBrackets old new → Reached at old → Reached at new
    same-reached at old new slots runs quotes e h = record {
      p = h.p;
      bs = h.bs;
      has_read = read-same h.p h.bs old new slots runs quotes h.has_read;
      at_is = h.at_is;
      shows = shows-on reader.options.wikilinks (text_of leaf) place at at h.p.state h.p.state h.bs old new (omega arith) e refl refl refl h.shows;
      answered = h.answered;
      counted = counted-same reader h.p.here tally old.delimiters.examined new.delimiters.examined e.examined h.counted;
    }

    pub item-reached : (was : Sought) (at resume : ℕ) (old new : InlineState) → HasReached R leaf reader read place before (record tally { sought = was }) initial at old now → at ≤ resume → SameBrackets old new
        → shown_slots leaf new.texts.items new.links.items old.slots.items ≡ shown_slots leaf old.texts.items old.links.items old.slots.items
        → (kind : ItemKind) (start end : ℕ) (slot : Slot) → token reader read (place at) ≡ Stands (item kind start end) (place resume) → has_own_slot kind ≡ true
        → IsLike reader.source (shown_slot leaf new.texts.items new.links.items slot) (ItemSlot (item kind start end))
        → new.slots.items ≡ old.slots.items ++ (slot ∷ []) → new.delimiters.placed.items ≡ old.delimiters.placed.items → new.quotes.placed.items ≡ old.quotes.placed.items → TakesFor reader.source (item kind start end) was tally.sought → Reached resume new
    item-reached was at resume old new h le e same kind start end slot t own like slots runs quotes found = record {
      p = pass (moved (place resume) h.p.state) (join h.p.here (Single (item kind start end) Nil));
      bs = h.bs;
      has_read = own-read leaf reader read place before h.p h.bs old new h.has_read same kind start end (place resume) slot (ap (token reader read) h.at_is ∙ t) own like slots runs quotes;
      at_is = refl;
      shows = shows-on reader.options.wikilinks (text_of leaf) place at resume h.p.state (moved (place resume) h.p.state) h.bs old new le e refl refl refl h.shows;
      answered = h.answered;
      counted = counted-item reader h.p.here (record tally { sought = was }) tally.sought old.delimiters.examined new.delimiters.examined (item kind start end) e.examined found h.counted;
    }
