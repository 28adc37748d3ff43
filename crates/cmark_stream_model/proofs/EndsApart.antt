-- Documents are joined at a cut unless a list continues there.
use Rattle.std.proofs.Common.{◌≡◌, ℕ, Bool, true, false, ◌==◌, ◌&&◌, ◌||◌, not, List, ◌∷◌, ◌++◌, length, refl, sym, ap, ◌∙◌, subst, arith, Option, Some, None, true≢false, rules}
use Rattle.std.specs.Prelude.{if◌then◌else◌}
use Rattle.cmark_grammar.specs.Answers.{Lookup}
use Rattle.cmark_grammar.specs.Options.{Options}
use Rattle.cmark_grammar.specs.Rows.{Row, rows_from, begin_of, start_of, last_line_end, without}
use Rattle.cmark_grammar.specs.Lines.{lines}
use Rattle.cmark_grammar.specs.Containers.{BlockQuote as BlockQuotePrefix, Item, Footnote, ListDefinition}
use Rattle.cmark_grammar.specs.Blocks.{Blocks, Nil as NoBlocks, BlankLine, Paragraph as ParagraphBlock, SetextHeading, LeafBlock, ContainerBlock, join as join_blocks}
use Rattle.cmark_block_model.specs.BlocksByLine.{blocks_by_line}
use Rattle.cmark_grammar.specs.Lists.{ListBefore, definition_delimiter, is_title, ends_blank, is_parted_item, loose_from, is_tight, tight_after, title_tight_after, goes_on}
use Rattle.cmark_grammar.specs.Tokens.{paragraph_tokens}
use Rattle.cmark_grammar.specs.BlockDocument.{BlockDocument, Heading, BlockQuote, FootnoteDefinition, ListItem, DefinitionList, DefinitionListTitle, DefinitionListDefinition, Node, node, join}
use Rattle.cmark_grammar.specs.Derivation.{list_kind, item_then, task_then, paragraph_kind, document_of}
use Rattle.cmark_block_model.specs.DocumentModel.{document}
use Rattle.cmark_grammar.specs.TaskItems.{after_box}
use Rattle.cmark_grammar.specs.SetextAttributes.{content_of, setext_attributes, setext_tokens}
use Rattle.cmark_grammar.specs.Labels.{normal_form}
use Rattle.cmark_block_model.proofs.BlocksByLine.{by_line-same}
use Rattle.cmark_stream_model.specs.Growth.{ends_whole, last_list, continues, blocks_at, IsCut, document_before, document_of_tail}
use Rattle.cmark_stream_model.proofs.GrowingLines.{blocks-grow}
use Rattle.cmark_stream_model.proofs.JoinedDocuments.{item-join, leaf-join, title-some, goes-some}
use Rattle.cmark_stream_model.proofs.Leading.{lines-untitled}

same-number : (m d : ℕ) → (m == d) ≡ true → m ≡ d
same-number m d q = grind (arith)

other-number : (m d : ℕ) → (m == d) ≡ false → (d == m) ≡ false
other-number m d q = grind (arith)

-- whether blocks begin with a definition decides whether they continue a list
title-list : (one other : Option ℕ) (a : Blocks) → is_title a ≡ true → last_list one a ≡ last_list other a
title-list one other (BlankLine line after) e = title-list one other after e
title-list one other (ContainerBlock (BlockQuotePrefix alert) first more inside after) e = absurd (true≢false (sym e))
title-list one other (ContainerBlock (Footnote label old size) first more inside after) e = absurd (true≢false (sym e))
title-list one other (ContainerBlock (Item m number width task) first more inside after) e = absurd (true≢false (sym e))
title-list one other (ContainerBlock (ListDefinition width) first more inside after) e = refl
title-list one other _ e = absurd (true≢false (sym e))

-- a list that does not continue is not made loose by the blocks after it
ended-loose : (d : ℕ) (blank : Bool) (b : Blocks) → goes_on d b ≡ false → loose_from d blank b ≡ false
ended-loose d blank NoBlocks e = refl
ended-loose d blank (BlankLine line after) e = ended-loose d true after e
ended-loose d blank (ParagraphBlock first more after) e = grind arith
ended-loose d blank (ContainerBlock (BlockQuotePrefix alert) first more inside after) e = refl
ended-loose d blank (ContainerBlock (Footnote label old size) first more inside after) e = refl
ended-loose d blank (ContainerBlock (Item m number width task) first more inside after) e = ap (λ z. z && (blank || (is_parted_item inside || loose_from d (ends_blank true false inside) after))) e
ended-loose d blank (ContainerBlock (ListDefinition width) first more inside after) e = ap (λ z. z && (blank || (is_parted_item inside || loose_from d (ends_blank true false inside) after))) e
ended-loose d blank _ e = refl

-- blocks that begin with no definition
module _ (c : Blocks) (untitled : is_title c ≡ false) where
  titled-same : (a : Blocks) → is_title (join_blocks a c) ≡ is_title a
  titled-same NoBlocks = untitled
  titled-same (BlankLine line after) = titled-same after
  titled-same (ContainerBlock (BlockQuotePrefix alert) first more inside after) = refl
  titled-same _ = refl

  goes-same : (d : ℕ) (a : Blocks) → continues (last_list (Some d) a) c ≡ false → goes_on d (join_blocks a c) ≡ goes_on d a
  goes-same d NoBlocks e = e
  goes-same d (BlankLine line after) e = goes-same d after e
  goes-same d (ParagraphBlock first more after) e = ap (λ t. (definition_delimiter == d) && t) (titled-same after)
  goes-same d (ContainerBlock (BlockQuotePrefix alert) first more inside after) e = refl
  goes-same d _ e = refl

  -- the list of a title continues after it
  after-title : (d : ℕ) (a : Blocks) → is_title a ≡ true → continues (last_list None a) c ≡ false → continues (last_list (Some d) a) c ≡ false
  after-title d a t e = ap (λ l. continues l c) (title-list (Some d) None a t) ∙ e

  loose-same : (d : ℕ) (blank : Bool) (a : Blocks) → continues (last_list (Some d) a) c ≡ false → loose_from d blank (join_blocks a c) ≡ loose_from d blank a
  loose-same d blank NoBlocks e = ended-loose d blank c e
  loose-same d blank (BlankLine line after) e = loose-same d true after e
  loose-same d blank (ParagraphBlock first more after) e =
      ap (λ t. (definition_delimiter == d) && (t && loose_from d false (join_blocks after c))) (titled-same after)
      ∙ go (is_title after) refl (λ t. loose-same d false after (after-title d after t e))
    where
      go : (t : Bool) → is_title after ≡ t → (is_title after ≡ true → loose_from d false (join_blocks after c) ≡ loose_from d false after)
          → ((definition_delimiter == d) && (t && loose_from d false (join_blocks after c))) ≡ ((definition_delimiter == d) && (t && loose_from d false after))
      go true q same = ap (λ l. (definition_delimiter == d) && (true && l)) (same q)
      go false q same = refl
  loose-same d blank (SetextHeading level first more underline after) e = refl
  loose-same d blank (LeafBlock leaf first more after) e = refl
  loose-same d blank (ContainerBlock (BlockQuotePrefix alert) first more inside after) e = refl
  loose-same d blank (ContainerBlock (Footnote label old size) first more inside after) e = refl
  loose-same d blank (ContainerBlock (Item m number width task) first more inside after) e =
      go (m == d) refl (λ q. loose-same d (ends_blank true false inside) after (subst (λ n. continues (last_list (Some n) after) c ≡ false) (same-number m d q) e))
    where
      go : (z : Bool) → (m == d) ≡ z
          → ((m == d) ≡ true → loose_from d (ends_blank true false inside) (join_blocks after c) ≡ loose_from d (ends_blank true false inside) after)
          → (z && (blank || (is_parted_item inside || loose_from d (ends_blank true false inside) (join_blocks after c)))) ≡ (z && (blank || (is_parted_item inside || loose_from d (ends_blank true false inside) after)))
      go true q same = ap (λ l. blank || (is_parted_item inside || l)) (same q)
      go false q same = refl
  loose-same d blank (ContainerBlock (ListDefinition width) first more inside after) e =
      go (definition_delimiter == d) refl (λ q. loose-same d (ends_blank true false inside) after (subst (λ n. continues (last_list (Some n) after) c ≡ false) (same-number definition_delimiter d q) e))
    where
      go : (z : Bool) → (definition_delimiter == d) ≡ z
          → ((definition_delimiter == d) ≡ true → loose_from d (ends_blank true false inside) (join_blocks after c) ≡ loose_from d (ends_blank true false inside) after)
          → (z && (blank || (is_parted_item inside || loose_from d (ends_blank true false inside) (join_blocks after c)))) ≡ (z && (blank || (is_parted_item inside || loose_from d (ends_blank true false inside) after)))
      go true q same = ap (λ l. blank || (is_parted_item inside || l)) (same q)
      go false q same = refl

  tight-same : (list : Option ListBefore) (d : ℕ) (inside a : Blocks) → continues (last_list (Some d) a) c ≡ false → tight_after list d inside (join_blocks a c) ≡ tight_after list d inside a
  tight-same None d inside a e = ap (λ l. not (is_parted_item inside || l)) (loose-same d (ends_blank true false inside) a e)
  tight-same (Some before) d inside a e = ap (λ l. if before.delimiter == d then before.tight else not (is_parted_item inside || l)) (loose-same d (ends_blank true false inside) a e)

  title-tight-same : (list : Option ListBefore) (a : Blocks) → continues (last_list (Some definition_delimiter) a) c ≡ false → title_tight_after list (join_blocks a c) ≡ title_tight_after list a
  title-tight-same None a e = ap not (loose-same definition_delimiter false a e)
  title-tight-same (Some before) a e = ap (λ l. if before.delimiter == definition_delimiter then before.tight else not l) (loose-same definition_delimiter false a e)

  -- the character of the list before the blocks
  abbrev character : Option ListBefore → Option ℕ
  character None = None
  character (Some before) = Some before.delimiter

  module _ (text : List ℕ) (options : Options) (lookup : Lookup) where
    -- a paragraph, and the blocks after it
    abbrev texted : (direct : Bool) (first : Row) (more : List Row) → (titled tight : Bool) → Blocks → BlockDocument
    texted direct first more titled tight b =
        if titled then
        item_then true (DefinitionList tight) (node DefinitionListTitle (start_of first) (last_line_end first more)) (paragraph_tokens text first more)
        (document_of text options lookup direct (Some (record { delimiter = definition_delimiter; tight = tight })) b)
        else Node (node (paragraph_kind direct) (start_of first) (last_line_end first more)) (paragraph_tokens text first more) (document_of text options lookup direct None b)

    -- an item, and the blocks after it
    abbrev itemed : (direct : Bool) (m : ℕ) (number : Option ℕ) (width : ℕ) (task : Option Bool) (first : Row) (more : List Row) (inside : Blocks) → (joins tight : Bool) → Blocks → BlockDocument
    itemed direct m number width task first more inside joins tight b =
        item_then joins (list_kind m number tight) (node ListItem (begin_of first) (last_line_end first more))
        (task_then task (begin_of (without width first)) (begin_of (without (after_box task width) first)) (document_of text options lookup tight None inside))
        (document_of text options lookup direct (Some (record { delimiter = m; tight = tight })) b)

    -- a definition, and the blocks after it
    abbrev defined : (direct : Bool) (first : Row) (more : List Row) (inside : Blocks) → (joins tight : Bool) → Blocks → BlockDocument
    defined direct first more inside joins tight b =
        item_then joins (DefinitionList tight) (node DefinitionListDefinition (begin_of first) (last_line_end first more)) (document_of text options lookup tight None inside)
        (document_of text options lookup direct (Some (record { delimiter = definition_delimiter; tight = tight })) b)

    -- if the blocks do not continue the list before them, their document does not depend on it
    list-ended : (direct : Bool) (before : ListBefore) (b : Blocks) → goes_on before.delimiter b ≡ false → document_of text options lookup direct (Some before) b ≡ document_of text options lookup direct None b
    list-ended direct before NoBlocks e = refl
    list-ended direct before (BlankLine line after) e = list-ended direct before after e
    list-ended direct before (ParagraphBlock first more after) e = grind (arith, other-number)
    list-ended direct before (ContainerBlock (BlockQuotePrefix alert) first more inside after) e = refl
    list-ended direct before (ContainerBlock (Footnote label old size) first more inside after) e = refl
    list-ended direct before (ContainerBlock (Item m number width task) first more inside after) e =
        ap (λ z. itemed direct m number width task first more inside (goes_on m after) (if z then before.tight else is_tight m inside after) after) (other-number m before.delimiter e)
    list-ended direct before (ContainerBlock (ListDefinition width) first more inside after) e =
        ap (λ z. defined direct first more inside (goes_on definition_delimiter after) (if z then before.tight else is_tight definition_delimiter inside after) after) (other-number definition_delimiter before.delimiter e)
    list-ended direct before _ e = refl

    document-ends : (direct : Bool) (list : Option ListBefore) (a : Blocks) → continues (last_list (character list) a) c ≡ false
        → document_of text options lookup direct list (join_blocks a c) ≡ join (document_of text options lookup direct list a) (document_of text options lookup direct None c)
    document-ends direct None NoBlocks e = refl
    document-ends direct (Some before) NoBlocks e = list-ended direct before c e
    document-ends direct list (BlankLine line after) e = document-ends direct list after e
    document-ends direct list (ParagraphBlock first more after) e =
        ap (λ t. texted direct first more t (title_tight_after list (join_blocks after c)) (join_blocks after c)) (titled-same after)
        ∙ go (is_title after) refl
        (λ t. document-ends direct (Some (record { delimiter = definition_delimiter; tight = title_tight_after list after })) after (after-title definition_delimiter after t e))
        (document-ends direct None after e)
      where
        tight : Bool
        tight = title_tight_after list after

        rest : Option ListBefore → Blocks → BlockDocument
        rest l b = document_of text options lookup direct l b

        go : (t : Bool) → is_title after ≡ t
            → (is_title after ≡ true → rest (Some (record { delimiter = definition_delimiter; tight = tight })) (join_blocks after c) ≡ join (rest (Some (record { delimiter = definition_delimiter; tight = tight })) after) (rest None c))
            → rest None (join_blocks after c) ≡ join (rest None after) (rest None c)
            → texted direct first more t (title_tight_after list (join_blocks after c)) (join_blocks after c) ≡ join (texted direct first more t tight after) (document_of text options lookup direct None c)
        go t q i j = grind (arith, title-tight-same, after-title, tight, item-join, title-some)
    document-ends direct list (SetextHeading level first more underline after) e =
        ap (Node (node (Heading level (setext_attributes options.heading_attributes (content_of (first ∷ more)))) (start_of first) underline.line_end) (setext_tokens text options.heading_attributes first more)) (document-ends direct None after e)
    document-ends direct list (LeafBlock leaf first more after) e = grind (arith, leaf-join, document-ends direct None after e)
    document-ends direct list (ContainerBlock (BlockQuotePrefix alert) first more inside after) e =
        ap (Node (node (BlockQuote alert) (start_of first) (last_line_end first more)) (document_of text options lookup false None inside)) (document-ends direct None after e)
    document-ends direct list (ContainerBlock (Footnote label old size) first more inside after) e =
        ap (Node (node (FootnoteDefinition (normal_form label)) (start_of first) (last_line_end first more)) (document_of text options lookup false None inside)) (document-ends direct None after e)
    document-ends direct list (ContainerBlock (Item m number width task) first more inside after) e = search (rules, goes-same, tight-same, tight, held, item-join, goes-some, document-ends direct (Some (record { delimiter = m; tight = tight })) after e)
      where
        tight : Bool
        tight = tight_after list m inside after

        held : BlockDocument
        held = task_then task (begin_of (without width first)) (begin_of (without (after_box task width) first)) (document_of text options lookup tight None inside)
    document-ends direct list (ContainerBlock (ListDefinition width) first more inside after) e =
        ap (λ z. defined direct first more inside z (tight_after list definition_delimiter inside (join_blocks after c)) (join_blocks after c)) (goes-same definition_delimiter after e)
        ∙ ap (λ t. defined direct first more inside (goes_on definition_delimiter after) t (join_blocks after c)) (tight-same list definition_delimiter inside after e)
        ∙ ap (item_then (goes_on definition_delimiter after) (DefinitionList tight) (node DefinitionListDefinition (begin_of first) (last_line_end first more)) (document_of text options lookup tight None inside)) (document-ends direct (Some (record { delimiter = definition_delimiter; tight = tight })) after e)
        ∙ item-join (goes_on definition_delimiter after) (DefinitionList tight) (node DefinitionListDefinition (begin_of first) (last_line_end first more)) (document_of text options lookup tight None inside) (document_of text options lookup direct (Some (record { delimiter = definition_delimiter; tight = tight })) after) (document_of text options lookup direct None c)
        (λ q. goes-some text options lookup direct (Some (record { delimiter = definition_delimiter; tight = tight })) definition_delimiter after q)
      where
        tight : Bool
        tight = tight_after list definition_delimiter inside after

module _ (options : Options) where
  pub ends-grow : (lookup : Lookup) (front following : List ℕ) (r : Row) (rs : List Row) → ends_whole front following ≡ true → rows_from (length front) (lines following) ≡ r ∷ rs → IsCut options front r rs → continues (last_list None (blocks_at options 0 front)) (blocks_at options (length front) following) ≡ false
      → document (front ++ following) options lookup ≡ join (document_before options lookup (front ++ following) front) (document_of_tail options lookup (front ++ following) (length front) following)
  unfolding blocks_by_line
  ends-grow lookup front following r rs whole are cut e = grind (arith, blocks-grow, by_line-same, document-ends, lines-untitled)
