-- The place of a line after closed blocks: the siblings and the blocks determine the same place.
use Rattle.std.proofs.Common.{◌≡◌, ℕ, Bool, true, false, ◌==◌, List, refl, sym, ap, ◌∙◌, Option, Some, None, arith}
use Rattle.std.specs.Prelude.{if◌then◌else◌}
use Rattle.cmark_grammar.specs.Answers.{Lookup}
use Rattle.cmark_grammar.specs.Options.{Options}
use Rattle.cmark_grammar.specs.Rows.{last_line_end, begin_of}
use Rattle.cmark_grammar.specs.Containers.{BlockQuote, Item, Footnote, ListDefinition}
use Rattle.cmark_grammar.specs.Openings.{Leaf}
use Rattle.cmark_grammar.specs.Blocks.{Blocks, Nil, BlankLine, Paragraph, SetextHeading, LeafBlock, ContainerBlock, after_leaf}
use Rattle.cmark_block_model.specs.BlocksModel.{place_after}
use Rattle.cmark_grammar.specs.Lists.{definition_delimiter}
use Rattle.cmark_grammar.specs.Places.{Place, Apart, AfterTitle, is_after_title, over_blank}
use Rattle.cmark_block_model.specs.OpenBlocks.{OpenList, Title, Siblings}
use Rattle.cmark_block_model.specs.BlockPass.{definitions_in, list_after, place_with, place_of}
use Rattle.cmark_block_model.proofs.Flags.{same-delimiter}
use Rattle.cmark_block_model.proofs.ListDelimiters.{Unmarked}
use Rattle.cmark_block_model.proofs.Replay.{Level, item_if, item_level, title_level, definition_level, paragraph_level, heading_level, leaf_level, left_by, standing, entered, blank_level, replay}

abbrev pub IsColon : Option OpenList → Type 0
IsColon None = Unit {0}
IsColon (Some o) = (o.delimiter == definition_delimiter) ≡ true

-- if a list is open the last block is not a paragraph, and only a definition list stays open before a paragraph
abbrev pub IsTidy : Option Title → Option OpenList → Type 0
IsTidy None list = Unit {0}
IsTidy (Some t) None = IsColon t.list
IsTidy (Some t) (Some o) = ⊥

colon-in : (list : Option OpenList) → IsColon (definitions_in list)
colon-in list = grind arith

over-title : (place : Place) → is_after_title (over_blank place) ≡ is_after_title place
over-title place = grind arith

leaf-title : (leaf : Leaf) → is_after_title (after_leaf leaf) ≡ false
leaf-title leaf = grind arith

-- the siblings after an item or a definition: they are tidy, and tell whether it was a definition
abbrev pub Left : Siblings → (following : Bool) → Type 0
Left s following = (parted : Bool) (end : ℕ) → IsTidy s.title (list_after s.list parted end) × (is_after_title (place_with s.title (definitions_in (list_after s.list parted end))) ≡ following)

marked-place : (o : OpenList) (z : Bool) → (o.delimiter == definition_delimiter) ≡ z → is_after_title (place_with None (definitions_in (Some o))) ≡ z
marked-place o true e = ap (λ y. is_after_title (place_with None (if y then Some o else None))) e
marked-place o false e = ap (λ y. is_after_title (place_with None (if y then Some o else None))) e

item-left : (delimiter : ℕ) (number : Option ℕ) (start : ℕ) (l : Level) (list : Option OpenList) (following : Bool) → IsTidy l.inner.title list → (delimiter == definition_delimiter) ≡ following → Left (item_level delimiter number start l list).inner following
item-left delimiter number start l list following tidy e = grind (arith, marked-place, item_if, same-delimiter)

title-left : (o : Option OpenList) (parted : Bool) (start : ℕ) (l : Level) → IsColon o → Left (title_level o parted start l).inner true
title-left None parted start l c = λ p end. (tt, refl)
title-left (Some o) parted start l c = λ p end. (tt, marked-place _ true c)

definition-left : (title : Option Title) (start : ℕ) (l : Level) → l.inner.title ≡ title → IsTidy title l.inner.list → Left (definition_level title start l).inner true
definition-left title start l is tidy = grind (arith, item-left, title-left)

module _ (text : List ℕ) (options : Options) (lookup : Lookup) where
  pub place-replay : (b : Blocks) (place : Place) (l : Level) → Unmarked b → IsTidy l.inner.title l.inner.list → is_after_title (place_of l.inner) ≡ is_after_title place
      → is_after_title (place_of (replay text options lookup b l).inner) ≡ is_after_title (place_after place b)
  place-replay Nil place l u t e = e
  place-replay (BlankLine line after) place l u t e = place-replay after (over_blank place) (blank_level l) u t (e ∙ sym (over-title place))
  place-replay (Paragraph first more after) place l u t e = place-replay after AfterTitle (paragraph_level text options lookup first more l) u (colon-in l.inner.list) refl
  place-replay (SetextHeading level first more underline after) place l u t e = place-replay after Apart (heading_level text options lookup level first more underline l) u tt refl
  place-replay (LeafBlock leaf first more after) place l u t e = place-replay after (after_leaf leaf) (leaf_level text options lookup leaf first more l) u tt (sym (leaf-title leaf))
  place-replay (ContainerBlock (BlockQuote alert) first more inside after) place l u t e =
      place-replay after Apart (left_by (BlockQuote alert) (standing (BlockQuote alert) first l).inner (last_line_end first more) (replay text options lookup inside (entered (BlockQuote alert) first l))) u.1 tt refl
  place-replay (ContainerBlock (Footnote label old size) first more inside after) place l u t e =
      place-replay after Apart (left_by (Footnote label old size) (standing (Footnote label old size) first l).inner (last_line_end first more) (replay text options lookup inside (entered (Footnote label old size) first l))) u.1 tt refl
  place-replay (ContainerBlock (Item delimiter number width task) first more inside after) place l u t e =
      let k = Item delimiter number width task in
      let i = replay text options lookup inside (entered k first l) in
      let x = item-left delimiter number (begin_of first) l l.inner.list false t u.0 i.inner.parted (last_line_end first more) in
      place-replay after Apart (left_by k (standing k first l).inner (last_line_end first more) i) u.1 x.0 x.1
  place-replay (ContainerBlock (ListDefinition width) first more inside after) place l u t e =
      let k = ListDefinition width in
      let i = replay text options lookup inside (entered k first l) in
      let x = definition-left l.inner.title (begin_of first) l refl t i.inner.parted (last_line_end first more) in
      place-replay after AfterTitle (left_by k (standing k first l).inner (last_line_end first more) i) u.1 x.0 x.1
