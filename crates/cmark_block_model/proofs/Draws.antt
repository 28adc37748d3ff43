-- Closed blocks draw their document: the first blocks and then the others draw the same as all together.
use Rattle.std.proofs.Common.{◌≡◌, ℕ, Bool, true, false, ◌==◌, ◌||◌, ◌&&◌, not, List, [], ◌∷◌, ◌++◌, refl, ap, ◌∙◌, sym, Option, Some, None, arith}
use Rattle.cmark_grammar.specs.Options.{Options}
use Rattle.cmark_grammar.specs.Answers.{Lookup}
use Rattle.cmark_grammar.specs.SetextAttributes.{content_of, setext_attributes, setext_tokens}
use Rattle.cmark_grammar.specs.Rows.{Row, last_line_end, begin_of, start_of}
use Rattle.cmark_grammar.specs.Labels.{normal_form}
use Rattle.cmark_grammar.specs.Containers.{BlockQuote, Item, Footnote, ListDefinition}
use Rattle.cmark_grammar.specs.Openings.{Leaf, ThematicBreak, AtxHeading, IndentedCode, FencedCode, HtmlBlock, LinkDefinition, MetadataBlock, Table}
use Rattle.cmark_grammar.specs.Blocks.{Blocks, Nil as NoBlocks, BlankLine, Paragraph, SetextHeading, LeafBlock, ContainerBlock}
use Rattle.cmark_grammar.specs.Lists.{ends_blank, is_parted_item, loose_from, is_tight, definition_delimiter, is_title}
use Rattle.cmark_grammar.specs.Tokens.{paragraph_tokens}
use Rattle.cmark_grammar.specs.BlockDocument as document
use Rattle.cmark_grammar.specs.BlockDocument.{BlockDocument, Nil, Node, node, join, BlockKind, BlockNode}
use Rattle.cmark_block_model.specs.Drawing.{Drawing, OpenNode, drawn, opened, closed_at, closed_as, last_or, last_of, before_last, as_kind, start_in, released, enclosed, retitled}
use Rattle.cmark_block_model.specs.OpenBlocks.{OpenList, no_siblings}
use Rattle.cmark_block_model.specs.BlockPass.{list_closed, ended, ended_but, released_from}
use Rattle.cmark_block_model.proofs.PlainTokens.{join-nil, join-assoc}
use Rattle.cmark_block_model.proofs.Replay.{Noted, Level, item_if, level_opened, level_drawn, marked, left_by, leaf_drawing, leaf_noted, replay, untitled, paragraph_begun}
use Rattle.cmark_block_model.proofs.Standing.{Stand, First, Following, InList, list_of, delimiter_of, level_of, titled, with_colon}
use Rattle.cmark_block_model.proofs.Flags.{or-false, same-delimiter, fresh, longer, item_list, in_item, after_item, blank_after, parted_after, or-assoc, colon-same, in_definition, after_definition}
use Rattle.cmark_block_model.proofs.Split.{Split, end_or, lone, item_split, leaf_raw, split, title_split}
use Rattle.std.specs.Prelude.{if◌then◌else◌}
use Rattle.cmark_grammar.specs.Derivation.{list_kind}

-- the drawing of a level: if a list is open, its node is open
abbrev pub drawing_at : Stand → OpenNode → BlockDocument → List OpenNode → Drawing
drawing_at (InList o) v here up = record { here = here; up = v ∷ up }
drawing_at _ v here up = record { here = here; up = up }

-- the list closed
abbrev pub finished : Level → Drawing
finished l = ended l.inner l.drawing

-- the drawing when the level is closed, if the list is that loose from here on, and these items and this document are to come
abbrev pub completed : Stand → OpenNode → BlockDocument → List OpenNode → (loose : Bool) → Split → Drawing
completed (InList o) v here up loose s = record {
  here = join v.left (Node (node (list_kind o.delimiter o.number (not (o.loose || loose))) v.node.start (end_or o.end s.end)) (join here s.items) s.after);
  up = up;
}
completed _ v here up loose s = record { here = join here s.after; up = up }

abbrev pub loose_at : Stand → (blank : Bool) → Blocks → Bool
loose_at (InList o) blank b = loose_from o.delimiter blank b
loose_at _ blank b = false

-- closed at once
list-done : (s : Stand) (v : OpenNode) (here : BlockDocument) (up : List OpenNode) → list_closed (list_of s) (drawing_at s v here up) ≡ completed s v here up false (lone Nil)
list-done (InList o) v here up =
    ap (λ z. record { here = join v.left (Node (node (list_kind o.delimiter o.number (not z)) v.node.start o.end) here Nil); up = up }) (sym (or-false o.loose))
    ∙ ap (λ h. record { here = join v.left (Node (node (list_kind o.delimiter o.number (not (o.loose || false))) v.node.start o.end) h Nil); up = up }) (sym (join-nil here))
list-done _ v here up = ap (λ h. record { here = h; up = up }) (sym (join-nil here))

-- the same with further nodes after it
drawn-following : (s : Stand) (v : OpenNode) (here : BlockDocument) (up : List OpenNode) (d : BlockDocument) → drawn d (completed s v here up false (lone Nil)) ≡ completed s v here up false (lone d)
drawn-following (InList o) v here up d =
    ap (λ h. record { here = h; up = up }) (join-assoc v.left (Node (node (list_kind o.delimiter o.number (not (o.loose || false))) v.node.start o.end) (join here Nil) Nil) d)
drawn-following _ v here up d = ap (λ h. record { here = join h d; up = up }) (join-nil here)

drawn-twice : (a b : BlockDocument) (d : Drawing) → drawn b (drawn a d) ≡ drawn (join a b) d
drawn-twice a b d = ap (λ h. record { here = h; up = d.up }) (join-assoc d.here a b)

drawn-done : (s : Stand) (v : OpenNode) (here : BlockDocument) (up : List OpenNode) (d : BlockDocument) → drawn d (list_closed (list_of s) (drawing_at s v here up)) ≡ completed s v here up false (lone d)
drawn-done s v here up d = ap (drawn d) (list-done s v here up) ∙ drawn-following s v here up d

-- the last sibling, and those before it
last-join : (d : BlockDocument) (n : BlockNode) (i : BlockDocument) → last_of (join d (Node n i Nil)) ≡ Node n i Nil
last-join Nil n i = refl
last-join (Node m j after) n i = ap (last_or (Node m j Nil)) (last-join after n i)

before-join : (d : BlockDocument) (n : BlockNode) (i : BlockDocument) → before_last (join d (Node n i Nil)) ≡ d
before-join Nil n i = refl
before-join (Node m j Nil) n i = refl
before-join (Node m j (Node a b c)) n i = ap (Node m j) (before-join (Node a b c) n i)

-- a released node comes after the closed one
released-drawn : (kind : BlockKind) (end : ℕ) (n : BlockNode) (i here : BlockDocument) (up : List OpenNode) → released kind end (record { here = join here (Node n i Nil); up = up }) ≡ drawn (Node n i Nil) (closed_as kind end (record { here = here; up = up }))
released-drawn kind end n i here [] = refl
released-drawn kind end n i here (v ∷ up) =
    ap (λ b. record { here = join v.left (Node (node kind v.node.start end) b (last_of (join here (Node n i Nil)))); up = up }) (before-join here n i)
    ∙ ap (λ l. record { here = join v.left (Node (node kind v.node.start end) here l); up = up }) (last-join here n i)
    ∙ ap (λ h. record { here = h; up = up }) (sym (join-assoc v.left (Node (node kind v.node.start end) here Nil) (Node n i Nil)))

enclosed-drawn : (around kind : BlockKind) (n : BlockNode) (i here : BlockDocument) (up : List OpenNode)
    → enclosed around kind (record { here = join here (Node n i Nil); up = up }) ≡ record { here = Node (record n { kind = kind }) i Nil; up = record { left = here; node = node around n.start n.start } ∷ up }
enclosed-drawn around kind n i here up =
    ap (λ l. record { here = as_kind kind l; up = record { left = before_last (join here (Node n i Nil)); node = node around (start_in l) (start_in l) } ∷ up }) (last-join here n i)
    ∙ ap (λ b. record { here = Node (record n { kind = kind }) i Nil; up = record { left = b; node = node around n.start n.start } ∷ up }) (before-join here n i)

retitled-drawn : (kind : BlockKind) (n : BlockNode) (i here : BlockDocument) (up : List OpenNode) → retitled kind (record { here = join here (Node n i Nil); up = up }) ≡ record { here = join here (Node (record n { kind = kind }) i Nil); up = up }
retitled-drawn kind n i here up =
    ap (λ l. record { here = join (before_last (join here (Node n i Nil))) (as_kind kind l); up = up }) (last-join here n i)
    ∙ ap (λ b. record { here = join b (Node (record n { kind = kind }) i Nil); up = up }) (before-join here n i)

pub other-delimiter : (a b : ℕ) (z : Bool) → (a == b) ≡ z → (b == a) ≡ z
other-delimiter a b true e = grind (arith)
other-delimiter a b false e = grind (arith)

loose : (o blank p l m : Bool) → m ≡ true → (((o || blank) || p) || l) ≡ (o || (m && (blank || (p || l))))
loose true blank p l m e = refl
loose false true p l m e = sym (ap (λ z. z && true) e)
loose false false p l m e = sym (ap (λ z. z && (p || l)) e)

module _ (text : List ℕ) (options : Options) (lookup : Lookup) where
  -- the drawing of these blocks, at any place except after a paragraph
  abbrev pub Draws : Blocks → Type 0
  Draws b =
      (s : Stand) (v : OpenNode) (here : BlockDocument) (up : List OpenNode) (blank p : Bool) (rs : Noted)
      → finished (replay text options lookup b (level_of s (drawing_at s v here up) blank p rs)) ≡ completed s v here up (loose_at s blank b) (split text options lookup (delimiter_of s) b)

  -- after a block that is not an item
  following : (b : Blocks) → Draws b → (d : Drawing) (blank p : Bool) (rs : Noted) → finished (replay text options lookup b (level_of Following d blank p rs)) ≡ drawn (split text options lookup None b).after d
  following b h d blank p rs = h Following (record { left = Nil; node = node document.Paragraph 0 0 }) d.here d.up blank p rs

  inside-draws : (b : Blocks) → Draws b → (d : Drawing) (rs : Noted) → finished (replay text options lookup b (level_of First d false false rs)) ≡ drawn (split text options lookup None b).after d
  inside-draws b h d rs = h First (record { left = Nil; node = node document.Paragraph 0 0 }) d.here d.up false false rs

  loose-none : (s : Stand) (blank : Bool) (b : Blocks) → ((delimiter : ℕ) → loose_from delimiter blank b ≡ false) → loose_at s blank b ≡ false
  loose-none (InList o) blank b h = h o.delimiter
  loose-none _ blank b h = refl

  -- a block that is no item
  alone : (after : Blocks) → Draws after → (s : Stand) (v : OpenNode) (here : BlockDocument) (up : List OpenNode) (n : BlockDocument) (d : Drawing) (p : Bool) (rs : Noted) → d ≡ drawn n (list_closed (list_of s) (drawing_at s v here up))
      → (z : Bool) → z ≡ false → (blank : Bool) → finished (replay text options lookup after (level_of Following d blank p rs)) ≡ completed s v here up z (lone (join n (split text options lookup None after).after))
  alone after ih s v here up n d p rs e z f blank =
      following after ih d blank p rs ∙ ap (drawn (split text options lookup None after).after) e
      ∙ drawn-twice n (split text options lookup None after).after (list_closed (list_of s) (drawing_at s v here up))
      ∙ drawn-done s v here up (join n (split text options lookup None after).after)
      ∙ ap (λ y. completed s v here up y (lone (join n (split text options lookup None after).after))) (sym f)

  leaf-drawing : (leaf : Leaf) (first : Row) (more : List Row) (d : Drawing) → leaf_drawing text options lookup leaf first more d ≡ drawn (leaf_raw text options lookup leaf first more Nil) d
  leaf-drawing (LinkDefinition definition) first more d = ap (λ h. record { here = h; up = d.up }) (sym (join-nil d.here))
  leaf-drawing _ first more d = refl

  leaf-raw : (leaf : Leaf) (first : Row) (more : List Row) (x : BlockDocument) → join (leaf_raw text options lookup leaf first more Nil) x ≡ leaf_raw text options lookup leaf first more x
  leaf-raw ThematicBreak first more x = refl
  leaf-raw (AtxHeading level) first more x = refl
  leaf-raw IndentedCode first more x = refl
  leaf-raw (FencedCode fence) first more x = refl
  leaf-raw (HtmlBlock kind) first more x = refl
  leaf-raw (LinkDefinition definition) first more x = refl
  leaf-raw (MetadataBlock kind) first more x = refl
  leaf-raw (Table alignments) first more x = refl

  -- after an item of this list
  item-draws : (inside after : Blocks) → Draws inside → Draws after → (start line_end : ℕ) (marker : BlockDocument) (o : OpenList) (v : OpenNode) (here : BlockDocument) (up : List OpenNode) (p : Bool) (rs : Noted)
      → finished (replay text options lookup after (after_item text options lookup document.ListItem start line_end marker inside o (record { here = here; up = v ∷ up }) p rs))
      ≡ completed (InList (item_list o (is_parted_item inside) line_end)) v (join here (Node (node document.ListItem start line_end) (join marker (split text options lookup None inside).after) Nil)) up (loose_from o.delimiter (ends_blank true false inside) after) (split text options lookup (Some o.delimiter) after)
  item-draws inside after di da start line_end marker o v here up p rs =
      let i = replay text options lookup inside (in_item text options lookup document.ListItem start marker (record { here = here; up = v ∷ up }) rs) in
      let item : BlockDocument = Node (node document.ListItem start line_end) (join marker (split text options lookup None inside).after) Nil in
      ap (λ d. finished (replay text options lookup after (level_of (InList (item_list o i.inner.parted line_end)) (closed_at line_end d) i.inner.blank p i.noted))) (inside-draws inside di (drawn marker (opened start document.ListItem (record { here = here; up = v ∷ up }))) rs)
      ∙ ap (λ z. finished (replay text options lookup after (level_of (InList (item_list o z line_end)) (record { here = join here item; up = v ∷ up }) i.inner.blank p i.noted))) ((parted_after text options lookup inside).0 First (drawn marker (opened start document.ListItem (record { here = here; up = v ∷ up }))) false false rs)
      ∙ ap (λ z. finished (replay text options lookup after (level_of (InList (item_list o (is_parted_item inside) line_end)) (record { here = join here item; up = v ∷ up }) z p i.noted))) ((blank_after text options lookup inside).0 First (drawn marker (opened start document.ListItem (record { here = here; up = v ∷ up }))) false false rs)
      ∙ da (InList (item_list o (is_parted_item inside) line_end)) v (join here item) up (ends_blank true false inside) p i.noted

  -- an item that begins a list
  new-draws : (delimiter : ℕ) (number : Option ℕ) (inside after : Blocks) → Draws inside → Draws after → (start line_end : ℕ) (marker : BlockDocument) (s : Stand) (v : OpenNode) (here : BlockDocument) (up : List OpenNode) (p : Bool) (rs : Noted) (z : Bool) → z ≡ false
      → finished (replay text options lookup after (after_item text options lookup document.ListItem start line_end marker inside (fresh delimiter number start) (opened start (list_kind delimiter number false) (list_closed (list_of s) (drawing_at s v here up))) p rs))
      ≡ completed s v here up z (item_split false (list_kind delimiter number (is_tight delimiter inside after)) document.ListItem start line_end (join marker (split text options lookup None inside).after) (split text options lookup (Some delimiter) after))
  new-draws delimiter number inside after di da start line_end marker s v here up p rs z f =
      let d = list_closed (list_of s) (drawing_at s v here up) in
      let t = item_split false (list_kind delimiter number (is_tight delimiter inside after)) document.ListItem start line_end (join marker (split text options lookup None inside).after) (split text options lookup (Some delimiter) after) in
      item-draws inside after di da start line_end marker (fresh delimiter number start) (record { left = d.here; node = node (list_kind delimiter number false) start start }) Nil d.up p rs
      ∙ drawn-done s v here up t.after ∙ ap (λ y. completed s v here up y t) (sym f)

  -- after a definition of this list
  definition-draws : (inside after : Blocks) → Draws inside → Draws after → (start line_end : ℕ) (o : OpenList) (v : OpenNode) (here : BlockDocument) (up : List OpenNode) (p : Bool) (rs : Noted)
      → finished (replay text options lookup after (after_definition text options lookup start line_end inside o (record { here = here; up = v ∷ up }) p rs))
      ≡ completed (InList (item_list o (is_parted_item inside) line_end)) v (join here (Node (node document.DefinitionListDefinition start line_end) (split text options lookup None inside).after Nil)) up (loose_from o.delimiter (ends_blank true false inside) after) (split text options lookup (Some o.delimiter) after)
  definition-draws inside after di da start line_end o v here up p rs =
      let i = replay text options lookup inside (in_definition text options lookup start (record { here = here; up = v ∷ up }) rs) in
      let item : BlockDocument = Node (node document.DefinitionListDefinition start line_end) (split text options lookup None inside).after Nil in
      ap (λ d. finished (replay text options lookup after (level_of (InList (item_list o i.inner.parted line_end)) (closed_at line_end d) i.inner.blank p i.noted))) (inside-draws inside di (opened start document.DefinitionListDefinition (record { here = here; up = v ∷ up })) rs)
      ∙ ap (λ z. finished (replay text options lookup after (level_of (InList (item_list o z line_end)) (record { here = join here item; up = v ∷ up }) i.inner.blank p i.noted))) ((parted_after text options lookup inside).0 First (opened start document.DefinitionListDefinition (record { here = here; up = v ∷ up })) false false rs)
      ∙ ap (λ z. finished (replay text options lookup after (level_of (InList (item_list o (is_parted_item inside) line_end)) (record { here = join here item; up = v ∷ up }) z p i.noted))) ((blank_after text options lookup inside).0 First (opened start document.DefinitionListDefinition (record { here = here; up = v ∷ up })) false false rs)
      ∙ da (InList (item_list o (is_parted_item inside) line_end)) v (join here item) up (ends_blank true false inside) p i.noted

  -- a definition without a title begins a list
  new-definition : (inside after : Blocks) → Draws inside → Draws after → (start line_end : ℕ) (s : Stand) (v : OpenNode) (here : BlockDocument) (up : List OpenNode) (p : Bool) (rs : Noted) (z : Bool) → z ≡ false
      → finished (replay text options lookup after (after_definition text options lookup start line_end inside (fresh definition_delimiter None start) (opened start (list_kind definition_delimiter None false) (list_closed (list_of s) (drawing_at s v here up))) p rs))
      ≡ completed s v here up z (item_split false (document.DefinitionList (is_tight definition_delimiter inside after)) document.DefinitionListDefinition start line_end (split text options lookup None inside).after (split text options lookup (Some definition_delimiter) after))
  new-definition inside after di da start line_end s v here up p rs z f =
      let d = list_closed (list_of s) (drawing_at s v here up) in
      let t = item_split false (document.DefinitionList (is_tight definition_delimiter inside after)) document.DefinitionListDefinition start line_end (split text options lookup None inside).after (split text options lookup (Some definition_delimiter) after) in
      definition-draws inside after di da start line_end (fresh definition_delimiter None start) (record { left = d.here; node = node (list_kind definition_delimiter None false) start start }) Nil d.up p rs
      ∙ drawn-done s v here up t.after ∙ ap (λ y. completed s v here up y t) (sym f)

  -- the drawing of these blocks after a paragraph, if no definition list is open, and if the paragraph is in one
  abbrev pub DrawsAfter : Blocks → Type 0
  DrawsAfter b =
      (here : BlockDocument) (up : List OpenNode) (start line_end : ℕ) (tokens : BlockDocument) (blank p q : Bool) (rs : Noted)
      → finished (replay text options lookup b (titled None (record { here = join here (Node (node document.Paragraph start line_end) tokens Nil); up = up }) blank p q rs))
      ≡ record { here = join here (title_split (is_title b) false (document.DefinitionList (not (loose_from definition_delimiter blank b))) start line_end tokens (split text options lookup (Some definition_delimiter) b) (split text options lookup None b).after).after; up = up }

  abbrev pub DrawsInside : Blocks → Type 0
  DrawsInside b =
      (o : OpenList) (v : OpenNode) (here : BlockDocument) (up : List OpenNode) (start line_end : ℕ) (tokens : BlockDocument) (blank p q : Bool) (rs : Noted)
      → finished (replay text options lookup b (titled (Some (with_colon o)) (record { here = join here (Node (node document.Paragraph start line_end) tokens Nil); up = v ∷ up }) blank p q rs))
      ≡ completed (InList (with_colon o)) v here up (is_title b && loose_from definition_delimiter blank b) (title_split (is_title b) true (document.DefinitionList (not (loose_from definition_delimiter blank b))) start line_end tokens (split text options lookup (Some definition_delimiter) b) (split text options lookup None b).after)

  -- other blocks than definitions leave the paragraph as it is
  other-following : (b : Blocks) → Draws b → is_title b ≡ false → ((d : Drawing) (blank p q : Bool) (rs : Noted) → finished (replay text options lookup b (titled None d blank p q rs)) ≡ finished (replay text options lookup b (level_of Following d blank p rs))) → DrawsAfter b
  other-following b db e same here up start line_end tokens blank p q rs =
      let n : BlockDocument = Node (node document.Paragraph start line_end) tokens Nil in
      same (record { here = join here n; up = up }) blank p q rs ∙ following b db (record { here = join here n; up = up }) blank p rs
      ∙ ap (λ h. record { here = h; up = up }) (join-assoc here n (split text options lookup None b).after)
      ∙ ap (λ z. record { here = join here (title_split z false (document.DefinitionList (not (loose_from definition_delimiter blank b))) start line_end tokens (split text options lookup (Some definition_delimiter) b) (split text options lookup None b).after).after; up = up }) (sym e)

  other-inside : (b : Blocks) → Draws b → is_title b ≡ false → ((o : OpenList) (d : Drawing) (blank p q : Bool) (rs : Noted) → finished (replay text options lookup b (titled (Some o) d blank p q rs)) ≡ finished (replay text options lookup b (level_of Following (released (list_kind o.delimiter o.number (not o.loose)) o.end d) blank p rs))) → DrawsInside b
  other-inside b db e same o v here up start line_end tokens blank p q rs =
      let n = node document.Paragraph start line_end in
      same (with_colon o) (record { here = join here (Node n tokens Nil); up = v ∷ up }) blank p q rs
      ∙ alone b db (InList (with_colon o)) v here up (Node n tokens Nil) (released (list_kind definition_delimiter o.number (not o.loose)) o.end (record { here = join here (Node n tokens Nil); up = v ∷ up })) p rs (released-drawn (list_kind definition_delimiter o.number (not o.loose)) o.end n tokens here (v ∷ up)) false refl blank
      ∙ ap (λ z. completed (InList (with_colon o)) v here up (z && loose_from definition_delimiter blank b) (title_split z true (document.DefinitionList (not (loose_from definition_delimiter blank b))) start line_end tokens (split text options lookup (Some definition_delimiter) b) (split text options lookup None b).after)) (sym e)

  -- a definition makes it a title
  definition-following : (inside after : Blocks) → Draws inside → Draws after → (width : ℕ) (first : Row) (more : List Row) → DrawsAfter (ContainerBlock (ListDefinition width) first more inside after)
  definition-following inside after di da width first more here up start line_end tokens blank p q rs =
      let l = loose_from definition_delimiter (ends_blank true false inside) after in
      let t = split text options lookup (Some definition_delimiter) after in
      let o : OpenList = record { delimiter = definition_delimiter; number = None; loose = blank; end = begin_of first } in
      ap (λ d. finished (replay text options lookup after (after_definition text options lookup (begin_of first) (last_line_end first more) inside o d p rs))) (enclosed-drawn (document.DefinitionList false) document.DefinitionListTitle (node document.Paragraph start line_end) tokens here up)
      ∙ definition-draws inside after di da (begin_of first) (last_line_end first more) o (record { left = here; node = node (document.DefinitionList false) start start }) (Node (node document.DefinitionListTitle start line_end) tokens Nil) up p rs
      ∙ ap (λ z. record { here = join here (Node (node (document.DefinitionList (not z)) start (end_or (last_line_end first more) t.end)) (Node (node document.DefinitionListTitle start line_end) tokens (Node (node document.DefinitionListDefinition (begin_of first) (last_line_end first more)) (split text options lookup None inside).after t.items)) t.after); up = up }) (or-assoc blank (is_parted_item inside) l)

  definition-inside : (inside after : Blocks) → Draws inside → Draws after → (width : ℕ) (first : Row) (more : List Row) → DrawsInside (ContainerBlock (ListDefinition width) first more inside after)
  definition-inside inside after di da width first more o v here up start line_end tokens blank p q rs =
      let l = loose_from definition_delimiter (ends_blank true false inside) after in
      let t = split text options lookup (Some definition_delimiter) after in
      let title : BlockDocument = Node (node document.DefinitionListTitle start line_end) tokens Nil in
      let item : BlockDocument = Node (node document.DefinitionListDefinition (begin_of first) (last_line_end first more)) (split text options lookup None inside).after Nil in
      ap (λ d. finished (replay text options lookup after (after_definition text options lookup (begin_of first) (last_line_end first more) inside (longer (with_colon o) blank) d q rs))) (retitled-drawn document.DefinitionListTitle (node document.Paragraph start line_end) tokens here (v ∷ up))
      ∙ definition-draws inside after di da (begin_of first) (last_line_end first more) (longer (with_colon o) blank) v (join here title) up q rs
      ∙ ap (λ z. record { here = join v.left (Node (node (document.DefinitionList (not z)) v.node.start (end_or (last_line_end first more) t.end)) (join (join (join here title) item) t.items) t.after); up = up }) (loose o.loose blank (is_parted_item inside) l true refl)
      ∙ ap (λ i. record { here = join v.left (Node (node (document.DefinitionList (not (o.loose || (blank || (is_parted_item inside || l))))) v.node.start (end_or (last_line_end first more) t.end)) i t.after); up = up }) (ap (λ h. join h t.items) (join-assoc here title item) ∙ join-assoc here (join title item) t.items)

  definition-at : (inside after : Blocks) → Draws inside → Draws after → (width : ℕ) (first : Row) (more : List Row) → Draws (ContainerBlock (ListDefinition width) first more inside after)
  definition-at inside after di da width first more s v here up blank p rs = go s
    where
      same : (z : Bool) (o : OpenList) → (o.delimiter == definition_delimiter) ≡ z → finished (replay text options lookup after (left_by (ListDefinition width) (item_if z definition_delimiter None (begin_of first) o (level_of (InList o) (record { here = here; up = v ∷ up }) blank p rs)).inner (last_line_end first more)
          (replay text options lookup inside (record (level_opened (begin_of first) document.DefinitionListDefinition (item_if z definition_delimiter None (begin_of first) o (level_of (InList o) (record { here = here; up = v ∷ up }) blank p rs))) { inner = no_siblings }))))
          ≡ completed (InList o) v here up (loose_from o.delimiter blank (ContainerBlock (ListDefinition width) first more inside after)) (item_split z (document.DefinitionList (is_tight definition_delimiter inside after)) document.DefinitionListDefinition (begin_of first) (last_line_end first more) (split text options lookup None inside).after (split text options lookup (Some definition_delimiter) after))
      same true o e =
          let item : BlockDocument = Node (node document.DefinitionListDefinition (begin_of first) (last_line_end first more)) (split text options lookup None inside).after Nil in
          let t = split text options lookup (Some definition_delimiter) after in
          let l = loose_from o.delimiter (ends_blank true false inside) after in
          definition-draws inside after di da (begin_of first) (last_line_end first more) (longer o blank) v here up p rs
          ∙ ap (λ m. completed (InList (item_list (longer o blank) (is_parted_item inside) (last_line_end first more))) v (join here item) up l (split text options lookup (Some m) after)) (same-delimiter o.delimiter definition_delimiter e)
          ∙ ap (λ z. record { here = join v.left (Node (node (list_kind o.delimiter o.number (not z)) v.node.start (end_or (last_line_end first more) t.end)) (join (join here item) t.items) t.after); up = up }) (loose o.loose blank (is_parted_item inside) l (definition_delimiter == o.delimiter) (other-delimiter o.delimiter definition_delimiter true e))
          ∙ ap (λ i. record { here = join v.left (Node (node (list_kind o.delimiter o.number (not (o.loose || ((definition_delimiter == o.delimiter) && (blank || (is_parted_item inside || l)))))) v.node.start (end_or (last_line_end first more) t.end)) i t.after); up = up }) (join-assoc here item t.items)
      same false o e =
          new-definition inside after di da (begin_of first) (last_line_end first more) (InList o) v here up (p || blank) rs
          (loose_from o.delimiter blank (ContainerBlock (ListDefinition width) first more inside after))
          (ap (λ z. z && (blank || (is_parted_item inside || loose_from o.delimiter (ends_blank true false inside) after))) (other-delimiter o.delimiter definition_delimiter false e))

      go : (s : Stand) → finished (replay text options lookup (ContainerBlock (ListDefinition width) first more inside after) (level_of s (drawing_at s v here up) blank p rs)) ≡ completed s v here up (loose_at s blank (ContainerBlock (ListDefinition width) first more inside after)) (split text options lookup (delimiter_of s) (ContainerBlock (ListDefinition width) first more inside after))
      go First = new-definition inside after di da (begin_of first) (last_line_end first more) First v here up (p || blank) rs false refl
      go Following = new-definition inside after di da (begin_of first) (last_line_end first more) Following v here up (p || blank) rs false refl
      go (InList o) = same (o.delimiter == definition_delimiter) o refl

  -- a paragraph, which a definition after it may make a title
  paragraph-at : (after : Blocks) → DrawsAfter after → DrawsInside after → (first : Row) (more : List Row) → Draws (Paragraph first more after)
  paragraph-at after db di first more s v here up blank p rs = go s
    where
      start : ℕ
      start = start_of first

      line_end : ℕ
      line_end = last_line_end first more

      tokens : BlockDocument
      tokens = paragraph_tokens text first more

      cut : Bool → Bool → Split
      cut z joins = title_split z joins (document.DefinitionList (not (loose_from definition_delimiter false after))) start line_end tokens (split text options lookup (Some definition_delimiter) after) (split text options lookup None after).after

      lone-cut : (z : Bool) → lone (cut z false).after ≡ cut z false
      lone-cut true = refl
      lone-cut false = refl

      list : (z : Bool) (o : OpenList) → (o.delimiter == definition_delimiter) ≡ z
          → finished (replay text options lookup after (titled (if z then Some o else None) (drawn (Node (node document.Paragraph start line_end) tokens Nil) (ended_but (if z then Some o else None) (level_of (InList o) (record { here = here; up = v ∷ up }) blank p rs).inner (record { here = here; up = v ∷ up }))) false (p || blank) p rs))
          ≡ completed (InList o) v here up (loose_from o.delimiter blank (Paragraph first more after)) (cut (is_title after) z)
      list true o e =
          ap (λ x. finished (replay text options lookup after (titled (Some x) (record { here = join here (Node (node document.Paragraph start line_end) tokens Nil); up = v ∷ up }) false (p || blank) p rs))) (colon-same o e)
          ∙ di o v here up start line_end tokens false (p || blank) p rs
          ∙ ap (λ x. completed (InList x) v here up ((definition_delimiter == x.delimiter) && (is_title after && loose_from x.delimiter false after)) (cut (is_title after) true)) (sym (colon-same o e))
      list false o e =
          db (join v.left (Node (node (list_kind o.delimiter o.number (not o.loose)) v.node.start o.end) here Nil)) up start line_end tokens false (p || blank) p rs
          ∙ drawn-done (InList o) v here up (cut (is_title after) false).after
          ∙ ap (λ x. completed (InList o) v here up false x) (lone-cut (is_title after))
          ∙ ap (λ y. completed (InList o) v here up (y && (is_title after && loose_from o.delimiter false after)) (cut (is_title after) false)) (sym (other-delimiter o.delimiter definition_delimiter false e))

      go : (s : Stand) → finished (replay text options lookup (Paragraph first more after) (level_of s (drawing_at s v here up) blank p rs)) ≡ completed s v here up (loose_at s blank (Paragraph first more after)) (split text options lookup (delimiter_of s) (Paragraph first more after))
      go (InList o) = list (o.delimiter == definition_delimiter) o refl
      go _ = db here up start line_end tokens false (p || blank) p rs

  item-at : (inside after : Blocks) → Draws inside → Draws after → (delimiter : ℕ) (number : Option ℕ) (width : ℕ) (task : Option Bool) (first : Row) (more : List Row) → Draws (ContainerBlock (Item delimiter number width task) first more inside after)
  item-at inside after di1 da1 delimiter number width task first more s v here up blank p rs = go s di1 da1
    where
      same : Draws inside → Draws after → (z : Bool) (o : OpenList) → (o.delimiter == delimiter) ≡ z → finished (replay text options lookup after (left_by (Item delimiter number width task) (item_if z delimiter number (begin_of first) o (level_of (InList o) (record { here = here; up = v ∷ up }) blank p rs)).inner (last_line_end first more)
          (replay text options lookup inside (record (level_drawn (marked task width first Nil) (level_opened (begin_of first) document.ListItem (item_if z delimiter number (begin_of first) o (level_of (InList o) (record { here = here; up = v ∷ up }) blank p rs)))) { inner = no_siblings })))) ≡ completed (InList o) v here up (loose_from o.delimiter blank (ContainerBlock (Item delimiter number width task) first more inside after)) (item_split z (list_kind delimiter number (is_tight delimiter inside after)) document.ListItem (begin_of first) (last_line_end first more) (join (marked task width first Nil) (split text options lookup None inside).after) (split text options lookup (Some delimiter) after))
      same di da true o e =
          let item : BlockDocument = Node (node document.ListItem (begin_of first) (last_line_end first more)) (join (marked task width first Nil) (split text options lookup None inside).after) Nil in
          let t = split text options lookup (Some delimiter) after in
          let l = loose_from o.delimiter (ends_blank true false inside) after in
          item-draws inside after di da (begin_of first) (last_line_end first more) (marked task width first Nil) (longer o blank) v here up p rs
          ∙ ap (λ m. completed (InList (item_list (longer o blank) (is_parted_item inside) (last_line_end first more))) v (join here item) up l (split text options lookup (Some m) after)) (same-delimiter o.delimiter delimiter e)
          ∙ ap (λ z. record { here = join v.left (Node (node (list_kind o.delimiter o.number (not z)) v.node.start (end_or (last_line_end first more) t.end)) (join (join here item) t.items) t.after); up = up }) (loose o.loose blank (is_parted_item inside) l (delimiter == o.delimiter) (other-delimiter o.delimiter delimiter true e))
          ∙ ap (λ i. record { here = join v.left (Node (node (list_kind o.delimiter o.number (not (o.loose || ((delimiter == o.delimiter) && (blank || (is_parted_item inside || l)))))) v.node.start (end_or (last_line_end first more) t.end)) i t.after); up = up }) (join-assoc here item t.items)
      same di da false o e =
          new-draws delimiter number inside after di da (begin_of first) (last_line_end first more) (marked task width first Nil) (InList o) v here up (p || blank) rs
          (loose_from o.delimiter blank (ContainerBlock (Item delimiter number width task) first more inside after))
          (ap (λ z. z && (blank || (is_parted_item inside || loose_from o.delimiter (ends_blank true false inside) after))) (other-delimiter o.delimiter delimiter false e))

      go : (s : Stand) → Draws inside → Draws after → finished (replay text options lookup (ContainerBlock (Item delimiter number width task) first more inside after) (level_of s (drawing_at s v here up) blank p rs)) ≡ completed s v here up (loose_at s blank (ContainerBlock (Item delimiter number width task) first more inside after)) (split text options lookup (delimiter_of s) (ContainerBlock (Item delimiter number width task) first more inside after))
      go First di da = new-draws delimiter number inside after di da (begin_of first) (last_line_end first more) (marked task width first Nil) First v here up (p || blank) rs false refl
      go Following di da = new-draws delimiter number inside after di da (begin_of first) (last_line_end first more) (marked task width first Nil) Following v here up (p || blank) rs false refl
      go (InList o) di da = same di da (o.delimiter == delimiter) o refl

  heading-released : (s : Stand) (v : OpenNode) (here : BlockDocument) (up : List OpenNode) (blank p : Bool) (rs : Noted) (n : BlockNode) (i : BlockDocument)
      → untitled (level_drawn (Node n i Nil) (paragraph_begun (level_of s (drawing_at s v here up) blank p rs))) ≡ level_of Following (drawn (Node n i Nil) (list_closed (list_of s) (drawing_at s v here up))) false (p || blank) rs
  heading-released First v here up blank p rs n i = refl
  heading-released Following v here up blank p rs n i = refl
  heading-released (InList o) v here up blank p rs n i = go (o.delimiter == definition_delimiter)
    where
      go : (z : Bool) → level_of Following (released_from (if z then Some o else None) (drawn (Node n i Nil) (ended_but (if z then Some o else None) (level_of (InList o) (record { here = here; up = v ∷ up }) blank p rs).inner (record { here = here; up = v ∷ up })))) false (p || blank) rs
          ≡ level_of Following (drawn (Node n i Nil) (list_closed (Some o) (record { here = here; up = v ∷ up }))) false (p || blank) rs
      go true = ap (λ d. level_of Following d false (p || blank) rs) (released-drawn (list_kind o.delimiter o.number (not o.loose)) o.end n i here (v ∷ up))
      go false = refl

  -- the drawing of these blocks
  abbrev pub DrawsAll : Blocks → Type 0
  DrawsAll b = Draws b × DrawsAfter b × DrawsInside b

  others : (b : Blocks) → Draws b → is_title b ≡ false → ((d : Drawing) (blank p q : Bool) (rs : Noted) → finished (replay text options lookup b (titled None d blank p q rs)) ≡ finished (replay text options lookup b (level_of Following d blank p rs)))
      → ((o : OpenList) (d : Drawing) (blank p q : Bool) (rs : Noted) → finished (replay text options lookup b (titled (Some o) d blank p q rs)) ≡ finished (replay text options lookup b (level_of Following (released (list_kind o.delimiter o.number (not o.loose)) o.end d) blank p rs))) → DrawsAll b
  others b d e same0 same1 = (d, other-following b d e same0, other-inside b d e same1)

  pub draws-all : (b : Blocks) → DrawsAll b
  draws-all NoBlocks = others NoBlocks (λ s v here up blank p rs. list-done s v here up ∙ ap (λ z. completed s v here up z (lone Nil)) (sym (loose-none s blank NoBlocks (λ delimiter. refl)))) refl (λ d blank p q rs. refl) (λ o d blank p q rs. refl)
  draws-all (BlankLine line after) = let a = draws-all after in (at a.0, λ here up start line_end tokens blank p q rs. a.1 here up start line_end tokens true p q rs, λ o v here up start line_end tokens blank p q rs. a.2 o v here up start line_end tokens true p q rs)
    where
      at : Draws after → Draws (BlankLine line after)
      at a First v here up blank p rs = a Following v here up false p rs
      at a Following v here up blank p rs = a Following v here up true p rs
      at a (InList o) v here up blank p rs = a (InList o) v here up true p rs
  draws-all (Paragraph first more after) =
      let a = draws-all after in
      others (Paragraph first more after) (paragraph-at after a.1 a.2 first more) refl (λ d blank p q rs. refl) (λ o d blank p q rs. refl)
  draws-all (SetextHeading level first more underline after) =
      let a = draws-all after in
      let n = node (document.Heading level (setext_attributes options.heading_attributes (content_of (first ∷ more)))) (start_of first) underline.line_end in
      let tokens = setext_tokens text options.heading_attributes first more in
      let b = SetextHeading level first more underline after in
      others b (λ s v here up blank p rs.
      ap (λ x. finished (replay text options lookup after x)) (heading-released s v here up blank p rs n tokens)
      ∙ alone after a.0 s v here up (Node n tokens Nil) _ (p || blank) rs refl (loose_at s blank b) (loose-none s blank b (λ delimiter. refl)) false) refl (λ d blank p q rs. refl) (λ o d blank p q rs. refl)
  draws-all (LeafBlock leaf first more after) =
      let a = draws-all after in
      let b = LeafBlock leaf first more after in
      others b (λ s v here up blank p rs.
      alone after a.0 s v here up (leaf_raw text options lookup leaf first more Nil) _ (p || blank) (leaf_noted text options lookup leaf first more rs) (leaf-drawing leaf first more (list_closed (list_of s) (drawing_at s v here up)))
      (loose_at s blank b) (loose-none s blank b (λ delimiter. refl)) false
      ∙ ap (λ x. completed s v here up (loose_at s blank b) (lone x)) (leaf-raw leaf first more (split text options lookup None after).after)) refl (λ d blank p q rs. refl) (λ o d blank p q rs. refl)
  draws-all (ContainerBlock (BlockQuote alert) first more inside after) =
      let a = draws-all after in
      let i = draws-all inside in
      let b = ContainerBlock (BlockQuote alert) first more inside after in
      others b (λ s v here up blank p rs.
      alone after a.0 s v here up (Node (node (document.BlockQuote alert) (start_of first) (last_line_end first more)) (split text options lookup None inside).after Nil) _ (p || blank) _
      (ap (closed_at (last_line_end first more)) (inside-draws inside i.0 (opened (start_of first) (document.BlockQuote alert) (list_closed (list_of s) (drawing_at s v here up))) rs))
      (loose_at s blank b) (loose-none s blank b (λ delimiter. refl)) false) refl (λ d blank p q rs. refl) (λ o d blank p q rs. refl)
  draws-all (ContainerBlock (Footnote label old size) first more inside after) =
      let a = draws-all after in
      let i = draws-all inside in
      let b = ContainerBlock (Footnote label old size) first more inside after in
      others b (λ s v here up blank p rs.
      alone after a.0 s v here up (Node (node (document.FootnoteDefinition (normal_form label)) (start_of first) (last_line_end first more)) (split text options lookup None inside).after Nil) _ (p || blank) _
      (ap (closed_at (last_line_end first more)) (inside-draws inside i.0 (opened (start_of first) (document.FootnoteDefinition (normal_form label)) (list_closed (list_of s) (drawing_at s v here up))) (record rs { footnotes = rs.footnotes ++ normal_form label ∷ [] })))
      (loose_at s blank b) (loose-none s blank b (λ delimiter. refl)) _) refl (λ d blank p q rs. refl) (λ o d blank p q rs. refl)
  draws-all (ContainerBlock (Item delimiter number width task) first more inside after) =
      others (ContainerBlock (Item delimiter number width task) first more inside after) (item-at inside after (draws-all inside).0 (draws-all after).0 delimiter number width task first more) refl (λ d blank p q rs. refl) (λ o d blank p q rs. refl)
  draws-all (ContainerBlock (ListDefinition width) first more inside after) =
      let i = draws-all inside in
      let a = draws-all after in
      (definition-at inside after i.0 a.0 width first more, definition-following inside after i.0 a.0 width first more, definition-inside inside after i.0 a.0 width first more)

  pub draws : (b : Blocks) → Draws b
  draws b = (draws-all b).0
