-- Slots that give the same events, whatever the kinds of their items are: a text may be plain bytes or a text of its own.
use Rattle.std.specs.Prelude.{◌≡◌, ℕ, Bool, true, false, List, [], ◌∷◌}
use Rattle.cmark_grammar.specs.InlineHtml.{takes_lines}
use Rattle.cmark_grammar.specs.InlineReading.{event_of}
use Rattle.cmark_grammar.specs.Items.{Html, Item, ItemKind}
use Rattle.cmark_grammar.specs.Tokens.{slice}
use Rattle.cmark_inline_model.specs.SlotRows.{Slot, ItemSlot, BeginSlot, EndSlot, NothingSlot}

-- HTML that is a part of the source
abbrev pub is_html : ItemKind → Bool
is_html Html = true
is_html _ = false

module _ (source : List ℕ) where
  -- an item gives the same event as another, and comes from the same bytes. If these have a line ending, both are HTML that is a part of
  -- the source, or neither is
  pub record GivesTheSame (x y : Item) : Type 0 where
    pub start : x.start ≡ y.start
    pub end : x.end ≡ y.end
    pub event : event_of source x x.kind ≡ event_of source y y.kind
    pub lines : takes_lines (slice source x.start x.end) ≡ true → is_html x.kind ≡ is_html y.kind

  abbrev pub IsLike : (one other : Slot) → Type 0
  IsLike (ItemSlot x) (ItemSlot y) = GivesTheSame x y
  IsLike (BeginSlot tag start end) other = other ≡ BeginSlot tag start end
  IsLike EndSlot other = other ≡ EndSlot
  IsLike NothingSlot other = other ≡ NothingSlot
  IsLike (ItemSlot x) _ = ⊥

  abbrev pub AreLike : (slots others : List Slot) → Type 0
  AreLike [] others = others ≡ []
  AreLike (one ∷ slots) [] = ⊥
  AreLike (one ∷ slots) (other ∷ others) = IsLike one other × AreLike slots others
