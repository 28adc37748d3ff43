-- The flags of the current siblings, as functions of their blocks.
use Rattle.std.proofs.Common.{◌≡◌, ℕ, Bool, true, false, ◌==◌, ◌||◌, ◌&&◌, not, List, refl, ap, ◌∙◌, sym, Option, arith, Some, None}
use Rattle.cmark_grammar.specs.Options.{Options}
use Rattle.cmark_grammar.specs.Answers.{Lookup}
use Rattle.cmark_grammar.specs.Rows.{last_line_end, begin_of, Row}
use Rattle.cmark_grammar.specs.Containers.{BlockQuote, Item, Footnote, ListDefinition}
use Rattle.cmark_grammar.specs.Blocks.{Blocks, Nil, BlankLine, Paragraph, SetextHeading, LeafBlock, ContainerBlock}
use Rattle.cmark_grammar.specs.Lists.{ends_blank, ItemWith, parted, definition_delimiter, is_title, Other}
use Rattle.cmark_grammar.specs.BlockDocument as document
use Rattle.cmark_grammar.specs.BlockDocument.{BlockDocument, BlockKind}
use Rattle.cmark_block_model.specs.Drawing.{Drawing, drawn, opened, closed_at, enclosed, retitled}
use Rattle.cmark_block_model.specs.OpenBlocks.{OpenList, no_siblings}
use Rattle.cmark_block_model.proofs.Replay.{Noted, Level, item_if, level_opened, level_drawn, marked, left_by, replay}
use Rattle.cmark_block_model.proofs.Standing.{Stand, First, Following, InList, front_of, before_of, level_of, titled, with_colon, colon}
use Rattle.cmark_block_model.specs.BlockPass.{list_closed, ended, released_from}
use Rattle.std.specs.Prelude.{if◌then◌else◌}
use Rattle.cmark_grammar.specs.Derivation.{list_kind}

pub or-false : (a : Bool) → (a || false) ≡ a
or-false true = refl
or-false false = refl

pub or-assoc : (a b c : Bool) → ((a || b) || c) ≡ (a || (b || c))
or-assoc true b c = refl
or-assoc false b c = refl

pub and-true : (a : Bool) → (a && true) ≡ a
and-true true = refl
and-true false = refl

pub and-false : (a : Bool) → (a && false) ≡ false
and-false true = refl
and-false false = refl

pub or-and : (p a c : Bool) → ((p || a) || c) ≡ (p || ((a && true) || c))
or-and p a c = or-assoc p a c ∙ ap (λ z. p || (z || c)) (sym (and-true a))

pub same-delimiter : (a b : ℕ) → (a == b) ≡ true → a ≡ b
same-delimiter a b e = grind (arith)

pub colon-same : (o : OpenList) → (o.delimiter == definition_delimiter) ≡ true → o ≡ with_colon o
colon-same o e = ap (λ m. record { delimiter = m; number = o.number; loose = o.loose; end = o.end }) (same-delimiter o.delimiter definition_delimiter e)

-- a list that an item begins, and a list that an item continues
abbrev pub fresh : (delimiter : ℕ) → Option ℕ → (start : ℕ) → OpenList
fresh delimiter number start = record { delimiter = delimiter; number = number; loose = false; end = start }

abbrev pub longer : OpenList → (blank : Bool) → OpenList
longer o blank = record o { loose = o.loose || blank }

-- after an item of this list
abbrev pub item_list : OpenList → (parted : Bool) → (line_end : ℕ) → OpenList
item_list o parted line_end = record o { loose = o.loose || parted; end = line_end }

module _ (text : List ℕ) (options : Options) (lookup : Lookup) where
  -- the level inside an item of this list, and the level after the item
  abbrev pub in_item : (kind : BlockKind) → (start : ℕ) → (marker : BlockDocument) → Drawing → Noted → Level
  in_item kind start marker d rs = level_of First (drawn marker (opened start kind d)) false false rs

  abbrev pub after_item : (kind : BlockKind) → (start line_end : ℕ) (marker : BlockDocument) (inside : Blocks) → OpenList → Drawing → (parted : Bool) → Noted → Level
  after_item kind start line_end marker inside o d p rs =
      let i = replay text options lookup inside (in_item kind start marker d rs) in
      level_of (InList (item_list o i.inner.parted line_end)) (closed_at line_end (ended i.inner i.drawing)) i.inner.blank p i.noted

  -- after a definition in which no marker is drawn
  abbrev pub in_definition : (start : ℕ) → Drawing → Noted → Level
  in_definition start d rs = level_of First (opened start document.DefinitionListDefinition d) false false rs

  abbrev pub after_definition : (start line_end : ℕ) (inside : Blocks) → OpenList → Drawing → (parted : Bool) → Noted → Level
  after_definition start line_end inside o d p rs =
      let i = replay text options lookup inside (in_definition start d rs) in
      level_of (InList (item_list o i.inner.parted line_end)) (closed_at line_end (ended i.inner i.drawing)) i.inner.blank p i.noted

  -- the flags of the blank lines after these blocks and between them, at any place, and after a paragraph
  abbrev pub KnowsBlank : Blocks → Type 0
  KnowsBlank b =
      ((s : Stand) → (d : Drawing) (blank p : Bool) (rs : Noted) → (replay text options lookup b (level_of s d blank p rs)).inner.blank ≡ ends_blank (front_of s) blank b)
      × ((o : Option OpenList) (d : Drawing) (blank p q : Bool) (rs : Noted) → (replay text options lookup b (titled o d blank p q rs)).inner.blank ≡ ends_blank false blank b)

  -- a definition after a title, after another definition, or after neither
  definition-blank : (first : Row) (more : List Row) (inside after : Blocks) (width : ℕ) → KnowsBlank inside → KnowsBlank after → KnowsBlank (ContainerBlock (ListDefinition width) first more inside after)
  definition-blank first more inside after width i a = (at, following)
    where
      one : (o1 : OpenList) (d1 : Drawing) (p1 : Bool) (rs1 : Noted) → (replay text options lookup after (after_definition (begin_of first) (last_line_end first more) inside o1 d1 p1 rs1)).inner.blank ≡ ends_blank false (ends_blank true false inside) after
      one o1 d1 p1 rs1 = a.0 (InList _) _ _ p1 _ ∙ ap (λ z. ends_blank false z after) (i.0 First _ false false rs1)

      following : (o : Option OpenList) (d : Drawing) (blank p q : Bool) (rs : Noted) → (replay text options lookup (ContainerBlock (ListDefinition width) first more inside after) (titled o d blank p q rs)).inner.blank ≡ ends_blank false (ends_blank true false inside) after
      following None d blank p q rs = one (record { delimiter = definition_delimiter; number = None; loose = blank; end = begin_of first }) (enclosed (document.DefinitionList false) document.DefinitionListTitle d) p rs
      following (Some o) d blank p q rs = one (longer o blank) (retitled document.DefinitionListTitle d) q rs

      same : (z : Bool) (o : OpenList) (d : Drawing) (blank p : Bool) (rs : Noted) → (replay text options lookup after (left_by (ListDefinition width) (item_if z definition_delimiter None (begin_of first) o (level_of (InList o) d blank p rs)).inner (last_line_end first more)
          (replay text options lookup inside (record (level_opened (begin_of first) document.DefinitionListDefinition (item_if z definition_delimiter None (begin_of first) o (level_of (InList o) d blank p rs))) { inner = no_siblings })))).inner.blank ≡ ends_blank false (ends_blank true false inside) after
      same true o d blank p rs = one (longer o blank) d p rs
      same false o d blank p rs = one (fresh definition_delimiter None (begin_of first)) (opened (begin_of first) (list_kind definition_delimiter None false) (list_closed (Some o) d)) (p || blank) rs

      at : (s : Stand) (d : Drawing) (blank p : Bool) (rs : Noted) → (replay text options lookup (ContainerBlock (ListDefinition width) first more inside after) (level_of s d blank p rs)).inner.blank ≡ ends_blank false (ends_blank true false inside) after
      at (InList o) d blank p rs = same (o.delimiter == definition_delimiter) o d blank p rs
      at _ d blank p rs = one (fresh definition_delimiter None (begin_of first)) (opened (begin_of first) (list_kind definition_delimiter None false) d) (p || blank) rs

  item-blank : (first : Row) (more : List Row) (inside after : Blocks) (delimiter : ℕ) (number : Option ℕ) (width : ℕ) (task : Option Bool) → KnowsBlank inside → KnowsBlank after → KnowsBlank (ContainerBlock (Item delimiter number width task) first more inside after)
  item-blank first more inside after delimiter number width task i a = (at, following)
    where
      one : (o1 : OpenList) (d1 : Drawing) (p1 : Bool) (rs1 : Noted) → (replay text options lookup after (after_item document.ListItem (begin_of first) (last_line_end first more) (marked task width first document.Nil) inside o1 d1 p1 rs1)).inner.blank ≡ ends_blank false (ends_blank true false inside) after
      one o1 d1 p1 rs1 = a.0 (InList _) _ _ p1 _ ∙ ap (λ z. ends_blank false z after) (i.0 First _ false false rs1)

      following : (o : Option OpenList) (d : Drawing) (blank p q : Bool) (rs : Noted) → (replay text options lookup (ContainerBlock (Item delimiter number width task) first more inside after) (titled o d blank p q rs)).inner.blank ≡ ends_blank false (ends_blank true false inside) after
      following o d blank p q rs = one (fresh delimiter number (begin_of first)) (opened (begin_of first) (list_kind delimiter number false) (released_from o d)) (p || blank) rs

      same : (z : Bool) (o : OpenList) (d : Drawing) (blank p : Bool) (rs : Noted) → (replay text options lookup after (left_by (Item delimiter number width task) (item_if z delimiter number (begin_of first) o (level_of (InList o) d blank p rs)).inner (last_line_end first more)
          (replay text options lookup inside (record (level_drawn (marked task width first document.Nil) (level_opened (begin_of first) document.ListItem (item_if z delimiter number (begin_of first) o (level_of (InList o) d blank p rs)))) { inner = no_siblings })))).inner.blank ≡ ends_blank false (ends_blank true false inside) after
      same true o d blank p rs = one (longer o blank) d p rs
      same false o d blank p rs = one (fresh delimiter number (begin_of first)) (opened (begin_of first) (list_kind delimiter number false) (list_closed (Some o) d)) (p || blank) rs

      at : (s : Stand) (d : Drawing) (blank p : Bool) (rs : Noted) → (replay text options lookup (ContainerBlock (Item delimiter number width task) first more inside after) (level_of s d blank p rs)).inner.blank ≡ ends_blank false (ends_blank true false inside) after
      at (InList o) d blank p rs = same (o.delimiter == delimiter) o d blank p rs
      at _ d blank p rs = one (fresh delimiter number (begin_of first)) (opened (begin_of first) (list_kind delimiter number false) d) (p || blank) rs

  -- a blank line comes last
  pub blank_after : (b : Blocks) → KnowsBlank b
  blank_after Nil = (λ s d blank p rs. refl, λ o d blank p q rs. refl)
  blank_after (BlankLine line after) = let a = blank_after after in (λ s d blank p rs. at a.0 s d blank p rs, λ o d blank p q rs. a.1 o d true p q rs)
    where
      at : ((s : Stand) → (d : Drawing) (blank p : Bool) (rs : Noted) → (replay text options lookup after (level_of s d blank p rs)).inner.blank ≡ ends_blank (front_of s) blank after)
          → (s : Stand) → (d : Drawing) (blank p : Bool) (rs : Noted) → (replay text options lookup (BlankLine line after) (level_of s d blank p rs)).inner.blank ≡ ends_blank (front_of s) blank (BlankLine line after)
      at a First d blank p rs = a Following d false p rs
      at a Following d blank p rs = a Following d true p rs
      at a (InList o) d blank p rs = a (InList o) d true p rs
  blank_after (Paragraph first more after) = let a = blank_after after in (λ s d blank p rs. a.1 _ _ false _ _ rs, λ o d blank p q rs. a.1 _ _ false _ _ rs)
  blank_after (SetextHeading level first more underline after) = let a = blank_after after in (λ s d blank p rs. a.0 Following _ false (p || blank) rs, λ o d blank p q rs. a.0 Following _ false (p || blank) rs)
  blank_after (LeafBlock leaf first more after) = let a = blank_after after in (λ s d blank p rs. a.0 Following _ false (p || blank) _, λ o d blank p q rs. a.0 Following _ false (p || blank) _)
  blank_after (ContainerBlock (BlockQuote alert) first more inside after) = let a = blank_after after in (λ s d blank p rs. a.0 Following _ false (p || blank) _, λ o d blank p q rs. a.0 Following _ false (p || blank) _)
  blank_after (ContainerBlock (Footnote label old size) first more inside after) =
      let i = blank_after inside in
      let a = blank_after after in
      (λ s d blank p rs. a.0 Following _ _ (p || blank) _ ∙ ap (λ z. ends_blank false z after) (i.0 First _ false false _), λ o d blank p q rs. a.0 Following _ _ (p || blank) _ ∙ ap (λ z. ends_blank false z after) (i.0 First _ false false _))
  blank_after (ContainerBlock (Item delimiter number width task) first more inside after) = item-blank first more inside after delimiter number width task (blank_after inside) (blank_after after)
  blank_after (ContainerBlock (ListDefinition width) first more inside after) = definition-blank first more inside after width (blank_after inside) (blank_after after)

  -- the flag of a paragraph, and of a title, which ignores the blank line before it if it continues a list
  abbrev pub parted_before : Option OpenList → (p q : Bool) → Bool
  parted_before None p q = p
  parted_before (Some o) p q = q

  abbrev pub title_parted : Option OpenList → (blank p q : Bool) → Blocks → Bool
  title_parted o blank p q b = if is_title b then parted_before o p q || parted (ItemWith definition_delimiter) blank b else p || parted Other blank b

  abbrev pub KnowsParted : Blocks → Type 0
  KnowsParted b =
      ((s : Stand) (d : Drawing) (blank p : Bool) (rs : Noted) → (replay text options lookup b (level_of s d blank p rs)).inner.parted ≡ (p || parted (before_of s) blank b))
      × ((o : Option OpenList) (d : Drawing) (blank p q : Bool) (rs : Noted) → (replay text options lookup b (titled (colon o) d blank p q rs)).inner.parted ≡ title_parted o blank p q b)

  definition-parted : (first : Row) (more : List Row) (inside after : Blocks) (width : ℕ) → KnowsParted after → KnowsParted (ContainerBlock (ListDefinition width) first more inside after)
  definition-parted first more inside after width a = (at, following)
    where
      one : (o1 : OpenList) (d1 : Drawing) (p1 : Bool) (rs1 : Noted) → (replay text options lookup after (after_definition (begin_of first) (last_line_end first more) inside o1 d1 p1 rs1)).inner.parted ≡ (p1 || parted (ItemWith o1.delimiter) (ends_blank true false inside) after)
      one o1 d1 p1 rs1 = a.0 (InList _) _ _ p1 _ ∙ ap (λ z. p1 || parted (ItemWith o1.delimiter) z after) ((blank_after inside).0 First _ false false rs1)

      forget : (p blank c : Bool) → (p || c) ≡ (p || ((blank && false) || c))
      forget p blank c = ap (λ z. p || (z || c)) (sym (and-false blank))

      following : (o : Option OpenList) (d : Drawing) (blank p q : Bool) (rs : Noted) → (replay text options lookup (ContainerBlock (ListDefinition width) first more inside after) (titled (colon o) d blank p q rs)).inner.parted
          ≡ (parted_before o p q || ((blank && false) || parted (ItemWith definition_delimiter) (ends_blank true false inside) after))
      following None d blank p q rs = one (record { delimiter = definition_delimiter; number = None; loose = blank; end = begin_of first }) (enclosed (document.DefinitionList false) document.DefinitionListTitle d) p rs ∙ forget p blank _
      following (Some o) d blank p q rs = one (longer (with_colon o) blank) (retitled document.DefinitionListTitle d) q rs ∙ forget q blank _

      same : (z : Bool) (o : OpenList) (d : Drawing) (blank p : Bool) (rs : Noted) → (o.delimiter == definition_delimiter) ≡ z → (replay text options lookup after (left_by (ListDefinition width) (item_if z definition_delimiter None (begin_of first) o (level_of (InList o) d blank p rs)).inner (last_line_end first more)
          (replay text options lookup inside (record (level_opened (begin_of first) document.DefinitionListDefinition (item_if z definition_delimiter None (begin_of first) o (level_of (InList o) d blank p rs))) { inner = no_siblings })))).inner.parted ≡ (p || ((blank && not z) || parted (ItemWith definition_delimiter) (ends_blank true false inside) after))
      same true o d blank p rs e = one (longer o blank) d p rs ∙ ap (λ m. p || parted (ItemWith m) (ends_blank true false inside) after) (same-delimiter o.delimiter definition_delimiter e) ∙ forget p blank _
      same false o d blank p rs e = one (fresh definition_delimiter None (begin_of first)) (opened (begin_of first) (list_kind definition_delimiter None false) (list_closed (Some o) d)) (p || blank) rs ∙ or-and p blank _

      at : (s : Stand) (d : Drawing) (blank p : Bool) (rs : Noted) → (replay text options lookup (ContainerBlock (ListDefinition width) first more inside after) (level_of s d blank p rs)).inner.parted ≡ (p || parted (before_of s) blank (ContainerBlock (ListDefinition width) first more inside after))
      at (InList o) d blank p rs = same (o.delimiter == definition_delimiter) o d blank p rs refl
      at _ d blank p rs = one (fresh definition_delimiter None (begin_of first)) (opened (begin_of first) (list_kind definition_delimiter None false) d) (p || blank) rs ∙ or-and p blank _

  item-parted : (first : Row) (more : List Row) (inside after : Blocks) (delimiter : ℕ) (number : Option ℕ) (width : ℕ) (task : Option Bool) → KnowsParted after → KnowsParted (ContainerBlock (Item delimiter number width task) first more inside after)
  item-parted first more inside after delimiter number width task a = (at, λ o d blank p q rs. one (fresh delimiter number (begin_of first)) (opened (begin_of first) (list_kind delimiter number false) (released_from (colon o) d)) (p || blank) rs ∙ or-and p blank _)
    where
      one : (o1 : OpenList) (d1 : Drawing) (p1 : Bool) (rs1 : Noted) → (replay text options lookup after (after_item document.ListItem (begin_of first) (last_line_end first more) (marked task width first document.Nil) inside o1 d1 p1 rs1)).inner.parted ≡ (p1 || parted (ItemWith o1.delimiter) (ends_blank true false inside) after)
      one o1 d1 p1 rs1 = a.0 (InList _) _ _ p1 _ ∙ ap (λ z. p1 || parted (ItemWith o1.delimiter) z after) ((blank_after inside).0 First _ false false rs1)

      same : (z : Bool) (o : OpenList) (d : Drawing) (blank p : Bool) (rs : Noted) → (o.delimiter == delimiter) ≡ z → (replay text options lookup after (left_by (Item delimiter number width task) (item_if z delimiter number (begin_of first) o (level_of (InList o) d blank p rs)).inner (last_line_end first more)
          (replay text options lookup inside (record (level_drawn (marked task width first document.Nil) (level_opened (begin_of first) document.ListItem (item_if z delimiter number (begin_of first) o (level_of (InList o) d blank p rs)))) { inner = no_siblings })))).inner.parted ≡ (p || ((blank && not z) || parted (ItemWith delimiter) (ends_blank true false inside) after))
      same true o d blank p rs e = cc (one (longer o blank) d p rs, same-delimiter o.delimiter delimiter e, and-false blank)
      same false o d blank p rs e = one (fresh delimiter number (begin_of first)) (opened (begin_of first) (list_kind delimiter number false) (list_closed (Some o) d)) (p || blank) rs ∙ or-and p blank _

      at : (s : Stand) (d : Drawing) (blank p : Bool) (rs : Noted) → (replay text options lookup (ContainerBlock (Item delimiter number width task) first more inside after) (level_of s d blank p rs)).inner.parted ≡ (p || parted (before_of s) blank (ContainerBlock (Item delimiter number width task) first more inside after))
      at (InList o) d blank p rs = same (o.delimiter == delimiter) o d blank p rs refl
      at _ d blank p rs = one (fresh delimiter number (begin_of first)) (opened (begin_of first) (list_kind delimiter number false) d) (p || blank) rs ∙ or-and p blank _

  paragraph-parted : (first : Row) (more : List Row) (after : Blocks) → KnowsParted after → KnowsParted (Paragraph first more after)
  paragraph-parted first more after a = (at, λ o d blank p q rs. a.1 None _ false (p || blank) p rs ∙ other (is_title after) blank p)
    where
      -- if no list is open that a title continues
      other : (z blank p : Bool) → (if z then (p || blank) || parted (ItemWith definition_delimiter) false after else (p || blank) || parted Other false after) ≡ (p || (if z then (blank && true) || parted (ItemWith definition_delimiter) false after else blank || parted Other false after))
      other true blank p = or-and p blank _
      other false blank p = or-assoc p blank _

      joins : (z m blank p : Bool) → m ≡ true → (if z then p || parted (ItemWith definition_delimiter) false after else (p || blank) || parted Other false after) ≡ (p || (if z then (blank && not m) || parted (ItemWith definition_delimiter) false after else blank || parted Other false after))
      joins true m blank p e = ap (λ z. p || (z || parted (ItemWith definition_delimiter) false after)) (sym (and-false blank) ∙ ap (λ z. blank && not z) (sym e))
      joins false m blank p e = or-assoc p blank _

      apart : (z m blank p : Bool) → m ≡ false → (if z then (p || blank) || parted (ItemWith definition_delimiter) false after else (p || blank) || parted Other false after) ≡ (p || (if z then (blank && not m) || parted (ItemWith definition_delimiter) false after else blank || parted Other false after))
      apart z m blank p e = other z blank p ∙ ap (λ y. p || (if z then (blank && not y) || parted (ItemWith definition_delimiter) false after else blank || parted Other false after)) (sym e)

      list : (z : Bool) (o : OpenList) (d : Drawing) (blank p : Bool) (rs : Noted) → (o.delimiter == definition_delimiter) ≡ z
          → (replay text options lookup after (titled (if z then Some o else None) d false (p || blank) p rs)).inner.parted ≡ (p || parted (ItemWith o.delimiter) blank (Paragraph first more after))
      list true o d blank p rs e = ap (λ x. (replay text options lookup after (titled (Some x) d false (p || blank) p rs)).inner.parted) (colon-same o e) ∙ a.1 (Some o) d false (p || blank) p rs ∙ joins (is_title after) (o.delimiter == definition_delimiter) blank p e
      list false o d blank p rs e = a.1 None d false (p || blank) p rs ∙ apart (is_title after) (o.delimiter == definition_delimiter) blank p e

      at : (s : Stand) (d : Drawing) (blank p : Bool) (rs : Noted) → (replay text options lookup (Paragraph first more after) (level_of s d blank p rs)).inner.parted ≡ (p || parted (before_of s) blank (Paragraph first more after))
      at (InList o) d blank p rs = list (o.delimiter == definition_delimiter) o _ blank p rs refl
      at _ d blank p rs = a.1 None _ false (p || blank) p rs ∙ other (is_title after) blank p

  -- a blank line separates two blocks
  pub parted_after : (b : Blocks) → KnowsParted b
  parted_after Nil = (λ s d blank p rs. sym (or-false p), λ o d blank p q rs. sym (or-false p))
  parted_after (BlankLine line after) = let a = parted_after after in (at a.0, λ o d blank p q rs. a.1 o d true p q rs)
    where
      at : ((s : Stand) (d : Drawing) (blank p : Bool) (rs : Noted) → (replay text options lookup after (level_of s d blank p rs)).inner.parted ≡ (p || parted (before_of s) blank after))
          → (s : Stand) (d : Drawing) (blank p : Bool) (rs : Noted) → (replay text options lookup (BlankLine line after) (level_of s d blank p rs)).inner.parted ≡ (p || parted (before_of s) blank (BlankLine line after))
      at a First d blank p rs = a Following d false p rs
      at a Following d blank p rs = a Following d true p rs
      at a (InList o) d blank p rs = a (InList o) d true p rs
  parted_after (Paragraph first more after) = paragraph-parted first more after (parted_after after)
  parted_after (SetextHeading level first more underline after) = let a = parted_after after in (λ s d blank p rs. a.0 Following _ false (p || blank) rs ∙ or-assoc p blank _, λ o d blank p q rs. a.0 Following _ false (p || blank) rs ∙ or-assoc p blank _)
  parted_after (LeafBlock leaf first more after) = let a = parted_after after in (λ s d blank p rs. a.0 Following _ false (p || blank) _ ∙ or-assoc p blank _, λ o d blank p q rs. a.0 Following _ false (p || blank) _ ∙ or-assoc p blank _)
  parted_after (ContainerBlock (BlockQuote alert) first more inside after) = let a = parted_after after in (λ s d blank p rs. a.0 Following _ false (p || blank) _ ∙ or-assoc p blank _, λ o d blank p q rs. a.0 Following _ false (p || blank) _ ∙ or-assoc p blank _)
  parted_after (ContainerBlock (Footnote label old size) first more inside after) =
      let i = blank_after inside in
      let a = parted_after after in (
        λ s d blank p rs. a.0 Following _ _ (p || blank) _ ∙ or-assoc p blank _ ∙ ap (λ z. p || (blank || parted Other z after)) (i.0 First _ false false _),
        λ o d blank p q rs. a.0 Following _ _ (p || blank) _ ∙ or-assoc p blank _ ∙ ap (λ z. p || (blank || parted Other z after)) (i.0 First _ false false _),
      )
  parted_after (ContainerBlock (Item delimiter number width task) first more inside after) = item-parted first more inside after delimiter number width task (parted_after after)
  parted_after (ContainerBlock (ListDefinition width) first more inside after) = definition-parted first more inside after width (parted_after after)
