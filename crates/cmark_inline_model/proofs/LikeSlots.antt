-- Slots that give the same events, before and after quotes and marks are written into them.
use Rattle.std.proofs.Common.{◌≡◌, ℕ, zero, suc, ◌-◌, List, [], ◌∷◌, drop, set, get_or, refl, sym, ap, ◌∙◌, subst, Option, Some, None, arith, rules}
use Rattle.cmark_grammar.specs.Event.{Start, End, Ranged}
use Rattle.cmark_grammar.specs.InlineReading.{event_of, over}
use Rattle.cmark_grammar.specs.Items.{ItemKind, Item}
use Rattle.cmark_grammar.specs.Options.{Options}
use Rattle.cmark_grammar.specs.Siblings.{item}
use Rattle.cmark_grammar.specs.Spans.{span_tag}
use Rattle.cmark_grammar.specs.Tag.{Tag}
use Rattle.cmark_grammar.specs.TagEnd.{end_of}
use Rattle.cmark_inline_model.specs.LikeSlots.{GivesTheSame, IsLike, AreLike}
use Rattle.cmark_inline_model.specs.SlotRows.{Slot, ItemSlot, BeginSlot, EndSlot, NothingSlot, Mark, Stays, Begins, Ends, Blank, start_in, end_in, character_slot, quoted, used_up, spanned, marked, slot_events}

module _ (source : List ℕ) where
  same-slot : (s : Slot) → IsLike source s s
  same-slot (ItemSlot x) = record { start = refl; end = refl; event = refl; lines = λ l. refl }
  same-slot _ = refl

  starts : (s t : Slot) → IsLike source s t → start_in s ≡ start_in t
  starts s t h = grind arith

  ends : (s t : Slot) → IsLike source s t → end_in s ≡ end_in t
  ends s t h = grind arith

  like-at : (slots others : List Slot) (at : ℕ) → AreLike source slots others → IsLike source (get_or slots at NothingSlot) (get_or others at NothingSlot)
  like-at [] others at h = subst (λ l. IsLike source NothingSlot (get_or l at NothingSlot)) (sym h) refl
  like-at (s ∷ slots) [] at h = absurd h
  like-at (s ∷ slots) (t ∷ others) zero h = h.0
  like-at (s ∷ slots) (t ∷ others) (suc at) h = like-at slots others at h.1

  like-set : (slots others : List Slot) (at : ℕ) (s t : Slot) → AreLike source slots others → IsLike source s t → AreLike source (set slots at s) (set others at t)
  like-set [] others at s t h l = subst (λ k. set k at t ≡ []) (sym h) refl
  like-set (x ∷ slots) [] at s t h l = absurd h
  like-set (x ∷ slots) (y ∷ others) zero s t h l = (l, h.1)
  like-set (x ∷ slots) (y ∷ others) (suc at) s t h l = (h.0, like-set slots others at s t h.1 l)

  -- items of one kind from the same bytes
  like-items : (kind : ItemKind) (start start1 end end1 : ℕ) → start ≡ start1 → end ≡ end1 → IsLike source (ItemSlot (item kind start end)) (ItemSlot (item kind start1 end1))
  like-items kind start start1 end end1 s e = grind (arith, same-slot)

  like-begins : (tag : Tag) (start start1 end end1 : ℕ) → start ≡ start1 → end ≡ end1 → IsLike source (BeginSlot tag start end) (BeginSlot tag start1 end1)
  like-begins tag start start1 end end1 s e = ap (λ n. BeginSlot tag n end1) (sym s) ∙ ap (λ n. BeginSlot tag start n) (sym e)

  pub like-quoted : (quotes characters : List ℕ) (slots others : List Slot) → AreLike source slots others → AreLike source (quoted quotes characters slots) (quoted quotes characters others)
  like-quoted [] characters slots others h = h
  like-quoted (at ∷ quotes) characters slots others h =
      let l = like-at slots others at h in
      let s = get_or slots at NothingSlot in
      let t = get_or others at NothingSlot in
      like-quoted quotes (drop 1 characters) (set slots at (character_slot (get_or characters 0 0) s)) (set others at (character_slot (get_or characters 0 0) t))
      (like-set slots others at (character_slot (get_or characters 0 0) s) (character_slot (get_or characters 0 0) t) h (like-items _ (start_in s) (start_in t) (end_in s) (end_in t) (starts s t l) (ends s t l)))

  like-used : (count at : ℕ) (slots others : List Slot) → AreLike source slots others → AreLike source (used_up at count slots) (used_up at count others)
  like-used zero at slots others h = h
  like-used (suc count) at slots others h = like-used count (suc at) (set slots at NothingSlot) (set others at NothingSlot) (like-set slots others at NothingSlot NothingSlot h refl)

  like-spanned : (tag : Option Tag) (first last : ℕ) (slots others : List Slot) → AreLike source slots others → AreLike source (spanned tag first last slots) (spanned tag first last others)
  like-spanned (Some tag) first last slots others h = search (rules, like-at, like-set, like-begins, starts, ends)
  like-spanned None first last slots others h = search (rules, like-at, like-set, like-used, like-items, starts, ends)

  pub like-marked : (options : Options) (bytes : List ℕ) (marks : List Mark) (slots others : List Slot) (begun : List ℕ) → AreLike source slots others → AreLike source (marked options bytes marks slots begun) (marked options bytes marks others begun)
  like-marked options [] marks slots others begun h = h
  like-marked options (at ∷ bytes) [] slots others begun h = h
  like-marked options (at ∷ bytes) (Stays ∷ marks) slots others begun h = like-marked options bytes marks slots others begun h
  like-marked options (at ∷ bytes) (Begins kind ∷ marks) slots others begun h = like-marked options bytes marks slots others (at ∷ begun) h
  like-marked options (at ∷ bytes) (Ends kind ∷ marks) slots others [] h = like-marked options bytes marks slots others [] h
  like-marked options (at ∷ bytes) (Ends kind ∷ marks) slots others (first ∷ begun) h =
      like-marked options bytes marks (spanned (span_tag options kind) first at slots) (spanned (span_tag options kind) first at others) begun (like-spanned (span_tag options kind) first at slots others h)
  like-marked options (at ∷ bytes) (Blank ∷ marks) slots others begun h =
      like-marked options bytes marks (set slots at NothingSlot) (set others at NothingSlot) begun (like-set slots others at NothingSlot NothingSlot h refl)

  -- ## Their events

  over-like : (x y : Item) → GivesTheSame source x y → over source x.start x.end (event_of source x x.kind) ≡ over source y.start y.end (event_of source y y.kind)
  over-like x y h = cc

  pub like-events : (slots others : List Slot) (opened : List Ranged) → AreLike source slots others → slot_events source slots opened ≡ slot_events source others opened
  like-events [] others opened h = ap (λ l. slot_events source l opened) (sym h)
  like-events (s ∷ slots) [] opened h = absurd h
  like-events (ItemSlot x ∷ slots) (ItemSlot y ∷ others) opened h =
      ap (λ r. r ∷ slot_events source slots opened) (over-like x y h.0) ∙ ap (λ l. over source y.start y.end (event_of source y y.kind) ∷ l) (like-events slots others opened h.1)
  like-events (ItemSlot x ∷ slots) (BeginSlot tag start end ∷ others) opened h = absurd h.0
  like-events (ItemSlot x ∷ slots) (EndSlot ∷ others) opened h = absurd h.0
  like-events (ItemSlot x ∷ slots) (NothingSlot ∷ others) opened h = absurd h.0
  like-events (BeginSlot tag start end ∷ slots) (t ∷ others) opened h =
      let last = over source start end (End (end_of tag)) in
      ap (λ l. over source start end (Start tag) ∷ l) (like-events slots others (last ∷ opened) h.1) ∙ sym (ap (λ x. slot_events source (x ∷ others) opened) h.0)
  like-events (EndSlot ∷ slots) (t ∷ others) [] h = like-events slots others [] h.1 ∙ sym (ap (λ x. slot_events source (x ∷ others) []) h.0)
  like-events (EndSlot ∷ slots) (t ∷ others) (last ∷ opened) h =
      ap (λ l. last ∷ l) (like-events slots others opened h.1) ∙ sym (ap (λ x. slot_events source (x ∷ others) (last ∷ opened)) h.0)
  like-events (NothingSlot ∷ slots) (t ∷ others) opened h = like-events slots others opened h.1 ∙ sym (ap (λ x. slot_events source (x ∷ others) opened) h.0)
