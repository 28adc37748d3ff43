-- The drawn document, settled, is the document of the grammar without its definitions; the references are its definitions.
use Rattle.std.proofs.Common.{◌≡◌, ℕ, Bool, true, false, ◌==◌, List, ◌∷◌, length, refl, ap, ◌∙◌, sym, subst, Option, Some, None, [], ◌&&◌, not}
use Rattle.std.specs.Prelude.{if◌then◌else◌}
use Rattle.cmark_grammar.specs.Options.{Options}
use Rattle.cmark_grammar.specs.Answers.{Lookup}
use Rattle.cmark_grammar.specs.SetextAttributes.{content_of, setext_attributes}
use Rattle.cmark_grammar.specs.Rows.{Row, last_line_end, begin_of, start_of}
use Rattle.cmark_grammar.specs.Labels.{normal_form}
use Rattle.cmark_grammar.specs.Containers.{BlockQuote, Item, Footnote, ListDefinition}
use Rattle.cmark_grammar.specs.Openings.{Leaf, ThematicBreak, AtxHeading, IndentedCode, FencedCode, HtmlBlock, LinkDefinition, MetadataBlock, Table}
use Rattle.cmark_grammar.specs.Blocks.{Blocks, Nil as NoBlocks, BlankLine, Paragraph, SetextHeading, LeafBlock, ContainerBlock}
use Rattle.cmark_grammar.specs.Lists.{ListBefore, is_tight, tight_after, goes_on, definition_delimiter, is_title, loose_from, title_tight_after}
use Rattle.cmark_grammar.specs.Tokens.{paragraph_tokens, heading_attributes, fenced_lines, lines_before}
use Rattle.cmark_grammar.specs.Derivation.{paragraph_kind, leaf_then, item_then, document_of, list_kind}
use Rattle.cmark_grammar.specs.BlockDocument as document
use Rattle.cmark_grammar.specs.BlockDocument.{join, BlockNode, BlockDocument, Nil, Node, node, BlockKind}
use Rattle.cmark_block_model.specs.DrawnDocument.{settled, without_definitions, is_definition, node_unless, kind_within}
use Rattle.cmark_grammar.specs.Metadata.{ends_metadata}
use Rattle.cmark_block_model.proofs.PlainTokens.{IsPlain, paragraph_plain, setext_plain, heading_plain, code_plain, html_tokens_plain, table_plain}
use Rattle.cmark_block_model.proofs.Split.{Split, end_or, lone, item_split, leaf_raw, split, is_delimiter_of, title_split}
use Rattle.cmark_block_model.proofs.Draws.{other-delimiter}
use Rattle.cmark_block_model.proofs.Replay.{marked}
use Rattle.cmark_block_model.specs.Tightness.{tight_within}
use Rattle.cmark_grammar.specs.References.{reference_of_kind}
use Rattle.cmark_grammar.specs.SpanDocuments.{footnote_label}
use Rattle.cmark_block_model.proofs.TightLaws.{title_goes_on}
use Rattle.cmark_block_model.proofs.Flags.{and-true, and-false}

-- the rest of the list before: the document begins with it
pub record GoesOn (direct tight : Bool) (s : Split) (d : BlockDocument) : Type 0 where
  pub list : BlockKind
  pub start : ℕ
  pub end : ℕ
  pub items : BlockDocument
  pub after : BlockDocument
  pub silent : reference_of_kind list ≡ []
  pub unlabelled : footnote_label list ≡ []
  pub is : d ≡ Node (node list start end) items after
  pub same_items : settled tight s.items ≡ without_definitions items
  pub same_after : settled direct s.after ≡ without_definitions after
  pub ends : s.end ≡ Some end

abbrev pub Joins : (joins : Bool) → (direct tight : Bool) → Split → BlockDocument → Type 0
Joins true direct tight s d = GoesOn direct tight s d
Joins false direct tight s d = (s.items ≡ Nil) × (s.end ≡ None) × (settled direct s.after ≡ without_definitions d)

abbrev pub Settles : (direct : Bool) → Option ListBefore → (ℕ → Bool) → (Option ℕ → Split) → BlockDocument → Type 0
Settles direct None joins s d = settled direct (s None).after ≡ without_definitions d
Settles direct (Some before) joins s d = Joins (joins before.delimiter) direct before.tight (s (Some before.delimiter)) d

stands : (direct : Bool) (before : Option ListBefore) (x d : BlockDocument) → settled direct x ≡ without_definitions d → Settles direct before (λ delimiter. false) (λ delimiter. lone x) d
stands direct None x d e = e
stands direct (Some before) x d e = (refl, refl, e)

node-same : (n : BlockNode) {a b c d : BlockDocument} → a ≡ b → c ≡ d → Node n a c ≡ Node n b d
node-same n {a} {b} {c} {d} p q = ap (λ x. Node n x c) p ∙ ap (Node n b) q

paragraph-settles : (direct : Bool) (start end : ℕ) (t x d : BlockDocument) → IsPlain t → settled direct x ≡ without_definitions d → settled direct (Node (node document.Paragraph start end) t x) ≡ without_definitions (Node (node (paragraph_kind direct) start end) t d)
paragraph-settles true start end t x d h e = node-same (node document.TightParagraph start end) (h.still false ∙ sym h.whole) e
paragraph-settles false start end t x d h e = node-same (node document.Paragraph start end) (h.still false ∙ sym h.whole) e

marked-settles : (tight : Bool) (task : Option Bool) (width : ℕ) (first : Row) (x d : BlockDocument) → settled tight x ≡ without_definitions d → settled tight (join (marked task width first Nil) x) ≡ without_definitions (marked task width first d)
marked-settles tight None width first x d e = e
marked-settles tight (Some is_checked) width first x d e = node-same _ refl e

-- a list that is that tight
pub record IsList (list : BlockKind) (tight : Bool) : Type 0 where
  pub within : (z : Bool) → tight_within z list ≡ tight
  pub same : (z : Bool) → kind_within z list ≡ list
  pub read : is_definition list ≡ false
  pub silent : reference_of_kind list ≡ []
  pub unlabelled : footnote_label list ≡ []

list-is : (delimiter : ℕ) (number : Option ℕ) (tight : Bool) → IsList (list_kind delimiter number tight) tight
list-is delimiter number tight = go (delimiter == definition_delimiter)
  where
    go : (z : Bool) → IsList (if z then document.DefinitionList tight else document.BlockList number tight) tight
    go true = record { within = λ z. refl; same = λ z. refl; read = refl; silent = refl; unlabelled = refl }
    go false = record { within = λ z. refl; same = λ z. refl; read = refl; silent = refl; unlabelled = refl }

definitions-is : (tight : Bool) → IsList (document.DefinitionList tight) tight
definitions-is tight = record { within = λ z. refl; same = λ z. refl; read = refl; silent = refl; unlabelled = refl }

-- the nodes inside an item, settled
abbrev pub Opens : (tight : Bool) (kind : BlockKind) (start line_end : ℕ) (raw inside : BlockDocument) → Type 0
Opens tight kind start line_end raw inside = (x : BlockDocument) → settled tight (Node (node kind start line_end) raw x) ≡ Node (node kind start line_end) inside (settled tight x)

-- an item, a title or a definition, and the rest of its list
pub record IsWhole (direct tight : Bool) (list kind : BlockKind) (start line_end : ℕ) (inside : BlockDocument) (s : Split) (d : BlockDocument) : Type 0 where
  pub end : ℕ
  pub items : BlockDocument
  pub after : BlockDocument
  pub is : d ≡ Node (node list start end) items after
  pub same_items : Node (node kind start line_end) inside (settled tight s.items) ≡ without_definitions items
  pub same_after : settled direct s.after ≡ without_definitions after
  pub ends : end_or line_end s.end ≡ end

item-whole : (joins direct tight : Bool) (list kind : BlockKind) (start line_end : ℕ) (inside inner : BlockDocument) (s : Split) (d : BlockDocument) → is_definition kind ≡ false → inside ≡ without_definitions inner → Joins joins direct tight s d → IsWhole direct tight list kind start line_end inside s (item_then joins list (node kind start line_end) inner d)
item-whole true direct tight list kind start line_end inside inner s d k e j = record {
  end = j.end;
  items = Node (node kind start line_end) inner j.items;
  after = j.after;
  is = ap (item_then true list (node kind start line_end) inner) j.is;
  same_items = node-same (node kind start line_end) e j.same_items ∙ ap (λ z. node_unless z (node kind start line_end) (without_definitions inner) (without_definitions j.items)) (sym k);
  same_after = j.same_after;
  ends = ap (end_or line_end) j.ends;
}
item-whole false direct tight list kind start line_end inside inner s d k e j = record {
  end = line_end;
  items = Node (node kind start line_end) inner Nil;
  after = d;
  is = refl;
  same_items = node-same (node kind start line_end) e (ap (settled tight) j.0) ∙ ap (λ z. node_unless z (node kind start line_end) (without_definitions inner) Nil) (sym k);
  same_after = j.2;
  ends = ap (end_or line_end) j.1;
}

whole-settles : (direct tight : Bool) (list kind : BlockKind) (start line_end : ℕ) (raw inside : BlockDocument) (s : Split) (d : BlockDocument) → IsList list tight → Opens tight kind start line_end raw inside → IsWhole direct tight list kind start line_end inside s d → settled direct (item_split false list kind start line_end raw s).after ≡ without_definitions d
whole-settles direct tight list kind start line_end raw inside s d l o w =
    ap (λ k. Node (node k start (end_or line_end s.end)) (settled (tight_within direct list) (Node (node kind start line_end) raw s.items)) (settled direct s.after)) (l.same direct)
    ∙ ap (λ z. Node (node list start (end_or line_end s.end)) (settled z (Node (node kind start line_end) raw s.items)) (settled direct s.after)) (l.within direct)
    ∙ ap (λ e. Node (node list start e) (settled tight (Node (node kind start line_end) raw s.items)) (settled direct s.after)) w.ends
    ∙ node-same (node list start w.end) (o s.items ∙ w.same_items) w.same_after
    ∙ ap (λ z. node_unless z (node list start w.end) (without_definitions w.items) (without_definitions w.after)) (sym l.read)
    ∙ ap without_definitions (sym w.is)

-- as tight as the list before, or else as this one is
abbrev pub tight_or : Option ListBefore → (delimiter : ℕ) → (own : Bool) → Bool
tight_or None delimiter own = own
tight_or (Some before) delimiter own = if before.delimiter == delimiter then before.tight else own

joined : (joins direct own : Bool) (before : Option ListBefore) (delimiter : ℕ) (list : Bool → BlockKind) (kind : BlockKind) (start line_end : ℕ) (raw : BlockDocument) (inside inner : Bool → BlockDocument) (s : Split) (d : Bool → BlockDocument)
    → ((t : Bool) → IsList (list t) t) → is_definition kind ≡ false → ((t : Bool) → Opens t kind start line_end raw (inside t)) → ((t : Bool) → inside t ≡ without_definitions (inner t)) → ((t : Bool) → Joins joins direct t s (d t))
    → Settles direct before (λ m. delimiter == m) (λ m. item_split (is_delimiter_of m delimiter) (list own) kind start line_end raw s) (item_then joins (list (tight_or before delimiter own)) (node kind start line_end) (inner (tight_or before delimiter own)) (d (tight_or before delimiter own)))
joined joins direct own before delimiter list kind start line_end raw inside inner s d l k o e j = go before
  where
    D : Bool → BlockDocument
    D t = item_then joins (list t) (node kind start line_end) (inner t) (d t)

    whole : (t : Bool) → IsWhole direct t (list t) kind start line_end (inside t) s (D t)
    whole t = item-whole joins direct t (list t) kind start line_end (inside t) (inner t) s (d t) k (e t) (j t)

    same : (z : Bool) (b : ListBefore) → Joins z direct b.tight (item_split z (list own) kind start line_end raw s) (D (if z then b.tight else own))
    same true b =
        let w = whole b.tight in
        record { list = list b.tight; start = start; end = w.end; items = w.items; after = w.after; silent = (l b.tight).silent; unlabelled = (l b.tight).unlabelled; is = w.is; same_items = o b.tight s.items ∙ w.same_items; same_after = w.same_after; ends = ap Some w.ends }
    same false b = (refl, refl, whole-settles direct own (list own) kind start line_end raw (inside own) s (D own) (l own) (o own) (whole own))

    go : (before : Option ListBefore) → Settles direct before (λ m. delimiter == m) (λ m. item_split (is_delimiter_of m delimiter) (list own) kind start line_end raw s) (D (tight_or before delimiter own))
    go None = whole-settles direct own (list own) kind start line_end raw (inside own) s (D own) (l own) (o own) (whole own)
    go (Some b) = subst (λ z. Joins z direct b.tight (item_split (b.delimiter == delimiter) (list own) kind start line_end raw s) (D (tight_or (Some b) delimiter own))) (sym (other-delimiter b.delimiter delimiter (b.delimiter == delimiter) refl)) (same (b.delimiter == delimiter) b)

joins-same : (direct : Bool) (before : Option ListBefore) (f g : ℕ → Bool) (s : Option ℕ → Split) (d : BlockDocument) → ((m : ℕ) → f m ≡ g m) → Settles direct before f s d → Settles direct before g s d
joins-same direct None f g s d e h = h
joins-same direct (Some b) f g s d e h = subst (λ z. Joins z direct b.tight (s (Some b.delimiter)) d) (e b.delimiter) h

module _ (text : List ℕ) (options : Options) (lookup : Lookup) where
  leaf-settles : (leaf : Leaf) (first : Row) (more : List Row) (direct : Bool) (x d : BlockDocument) → settled direct x ≡ without_definitions d → settled direct (leaf_raw text options lookup leaf first more x) ≡ without_definitions (leaf_then text options lookup leaf first more d)
  leaf-settles ThematicBreak first more direct x d e = ap (Node (node document.ThematicBreak (start_of first) (last_line_end first more)) Nil) e
  leaf-settles (AtxHeading level) first more direct x d e = let h = heading_plain text options.heading_attributes level first in node-same (node (document.Heading level (heading_attributes options.heading_attributes level first)) (start_of first) (last_line_end first more)) (h.still false ∙ sym h.whole) e
  leaf-settles IndentedCode first more direct x d e = let h = code_plain text 4 (first ∷ more) in node-same _ (h.still false ∙ sym h.whole) e
  leaf-settles (FencedCode fence) first more direct x d e = let h = code_plain text fence.indented (fenced_lines fence more) in node-same _ (h.still false ∙ sym h.whole) e
  leaf-settles (HtmlBlock kind) first more direct x d e = let h = html_tokens_plain text (first ∷ more) in node-same _ (h.still false ∙ sym h.whole) e
  leaf-settles (LinkDefinition definition) first more direct x d e = e
  leaf-settles (MetadataBlock kind) first more direct x d e = let h = code_plain text 0 (lines_before (ends_metadata kind) more) in node-same _ (h.still false ∙ sym h.whole) e
  leaf-settles (Table alignments) first more direct x d e = let h = table_plain text (length alignments) first more in node-same _ (h.still false ∙ sym h.whole) e

  -- a paragraph, as a title or as itself
  title-settles : (z direct : Bool) (before : Option ListBefore) (first : Row) (more : List Row) (after : Blocks) → is_title after ≡ z
      → ((t : Bool) → Joins (goes_on definition_delimiter after) direct t (split text options lookup (Some definition_delimiter) after) (document_of text options lookup direct (Some (record { delimiter = definition_delimiter; tight = t })) after))
      → settled direct (split text options lookup None after).after ≡ without_definitions (document_of text options lookup direct None after)
      → Settles direct before (λ m. (definition_delimiter == m) && z)
      (λ m. title_split z (is_delimiter_of m definition_delimiter) (document.DefinitionList (not (loose_from definition_delimiter false after))) (start_of first) (last_line_end first more) (paragraph_tokens text first more) (split text options lookup (Some definition_delimiter) after) (split text options lookup None after).after)
      (if z then item_then true (document.DefinitionList (title_tight_after before after)) (node document.DefinitionListTitle (start_of first) (last_line_end first more)) (paragraph_tokens text first more) (document_of text options lookup direct (Some (record { delimiter = definition_delimiter; tight = title_tight_after before after })) after)
      else Node (node (paragraph_kind direct) (start_of first) (last_line_end first more)) (paragraph_tokens text first more) (document_of text options lookup direct None after))
  title-settles false direct before first more after e j n =
      joins-same direct before (λ m. false) (λ m. (definition_delimiter == m) && false) _ _ (λ m. sym (and-false (definition_delimiter == m)))
      (stands direct before _ _ (paragraph-settles direct (start_of first) (last_line_end first more) (paragraph_tokens text first more) (split text options lookup None after).after (document_of text options lookup direct None after) (paragraph_plain text first more) n))
  title-settles true direct before first more after e j n =
      joins-same direct before (λ m. definition_delimiter == m) (λ m. (definition_delimiter == m) && true) _ _ (λ m. sym (and-true (definition_delimiter == m))) (go before)
    where
      own : Bool
      own = not (loose_from definition_delimiter false after)

      h : IsPlain (paragraph_tokens text first more)
      h = paragraph_plain text first more

      D : Bool → BlockDocument
      D t = item_then true (document.DefinitionList t) (node document.DefinitionListTitle (start_of first) (last_line_end first more)) (paragraph_tokens text first more) (document_of text options lookup direct (Some (record { delimiter = definition_delimiter; tight = t })) after)

      both : Settles direct before (λ m. definition_delimiter == m) (λ m. item_split (is_delimiter_of m definition_delimiter) (document.DefinitionList own) document.DefinitionListTitle (start_of first) (last_line_end first more) (paragraph_tokens text first more) (split text options lookup (Some definition_delimiter) after)) (D (tight_or before definition_delimiter own))
      both =
          joined true direct own before definition_delimiter (λ t. document.DefinitionList t) document.DefinitionListTitle (start_of first) (last_line_end first more) (paragraph_tokens text first more) (λ t. settled false (paragraph_tokens text first more)) (λ t. paragraph_tokens text first more)
          (split text options lookup (Some definition_delimiter) after) (λ t. document_of text options lookup direct (Some (record { delimiter = definition_delimiter; tight = t })) after)
          definitions-is refl (λ t x. refl) (λ t. h.still false ∙ sym h.whole)
          (λ t. subst (λ z. Joins z direct t (split text options lookup (Some definition_delimiter) after) (document_of text options lookup direct (Some (record { delimiter = definition_delimiter; tight = t })) after)) (title_goes_on text options lookup after e) (j t))

      tight-same : (before : Option ListBefore) → tight_or before definition_delimiter own ≡ title_tight_after before after
      tight-same None = refl
      tight-same (Some b) = refl

      go : (b : Option ListBefore) → Settles direct before (λ m. definition_delimiter == m) (λ m. item_split (is_delimiter_of m definition_delimiter) (document.DefinitionList own) document.DefinitionListTitle (start_of first) (last_line_end first more) (paragraph_tokens text first more) (split text options lookup (Some definition_delimiter) after)) (D (title_tight_after before after))
      go b = subst (λ t. Settles direct before (λ m. definition_delimiter == m) (λ m. item_split (is_delimiter_of m definition_delimiter) (document.DefinitionList own) document.DefinitionListTitle (start_of first) (last_line_end first more) (paragraph_tokens text first more) (split text options lookup (Some definition_delimiter) after)) (D t)) (tight-same before) both

  item-settles : (direct : Bool) (before : Option ListBefore) (delimiter : ℕ) (number : Option ℕ) (width : ℕ) (task : Option Bool) (first : Row) (more : List Row) (inside after : Blocks)
      → ((t : Bool) → settled t (split text options lookup None inside).after ≡ without_definitions (document_of text options lookup t None inside))
      → ((t : Bool) → Joins (goes_on delimiter after) direct t (split text options lookup (Some delimiter) after) (document_of text options lookup direct (Some (record { delimiter = delimiter; tight = t })) after))
      → Settles direct before (λ m. delimiter == m) (λ m. split text options lookup m (ContainerBlock (Item delimiter number width task) first more inside after)) (document_of text options lookup direct before (ContainerBlock (Item delimiter number width task) first more inside after))
  item-settles direct before delimiter number width task first more inside after i j = subst (λ t. Settles direct before (λ m. delimiter == m) (λ m. split text options lookup m (ContainerBlock (Item delimiter number width task) first more inside after)) (D t)) (tight-same before) both
    where
      raw : BlockDocument
      raw = join (marked task width first Nil) (split text options lookup None inside).after

      D : Bool → BlockDocument
      D t = item_then (goes_on delimiter after) (list_kind delimiter number t) (node document.ListItem (begin_of first) (last_line_end first more)) (marked task width first (document_of text options lookup t None inside)) (document_of text options lookup direct (Some (record { delimiter = delimiter; tight = t })) after)

      both : Settles direct before (λ m. delimiter == m) (λ m. split text options lookup m (ContainerBlock (Item delimiter number width task) first more inside after)) (D (tight_or before delimiter (is_tight delimiter inside after)))
      both =
          joined (goes_on delimiter after) direct (is_tight delimiter inside after) before delimiter (λ t. list_kind delimiter number t) document.ListItem (begin_of first) (last_line_end first more) raw (λ t. settled t raw) (λ t. marked task width first (document_of text options lookup t None inside))
          (split text options lookup (Some delimiter) after) (λ t. document_of text options lookup direct (Some (record { delimiter = delimiter; tight = t })) after)
          (λ t. list-is delimiter number t) refl (λ t x. refl) (λ t. marked-settles t task width first (split text options lookup None inside).after (document_of text options lookup t None inside) (i t)) j

      tight-same : (before : Option ListBefore) → tight_or before delimiter (is_tight delimiter inside after) ≡ tight_after before delimiter inside after
      tight-same None = refl
      tight-same (Some b) = refl

  definition-settles : (direct : Bool) (before : Option ListBefore) (width : ℕ) (first : Row) (more : List Row) (inside after : Blocks)
      → ((t : Bool) → settled t (split text options lookup None inside).after ≡ without_definitions (document_of text options lookup t None inside))
      → ((t : Bool) → Joins (goes_on definition_delimiter after) direct t (split text options lookup (Some definition_delimiter) after) (document_of text options lookup direct (Some (record { delimiter = definition_delimiter; tight = t })) after))
      → Settles direct before (λ m. definition_delimiter == m) (λ m. split text options lookup m (ContainerBlock (ListDefinition width) first more inside after)) (document_of text options lookup direct before (ContainerBlock (ListDefinition width) first more inside after))
  definition-settles direct before width first more inside after i j = subst (λ t. Settles direct before (λ m. definition_delimiter == m) (λ m. split text options lookup m (ContainerBlock (ListDefinition width) first more inside after)) (D t)) (tight-same before) both
    where
      raw : BlockDocument
      raw = (split text options lookup None inside).after

      D : Bool → BlockDocument
      D t = item_then (goes_on definition_delimiter after) (document.DefinitionList t) (node document.DefinitionListDefinition (begin_of first) (last_line_end first more)) (document_of text options lookup t None inside) (document_of text options lookup direct (Some (record { delimiter = definition_delimiter; tight = t })) after)

      both : Settles direct before (λ m. definition_delimiter == m) (λ m. split text options lookup m (ContainerBlock (ListDefinition width) first more inside after)) (D (tight_or before definition_delimiter (is_tight definition_delimiter inside after)))
      both =
          joined (goes_on definition_delimiter after) direct (is_tight definition_delimiter inside after) before definition_delimiter (λ t. document.DefinitionList t) document.DefinitionListDefinition (begin_of first) (last_line_end first more) raw (λ t. settled t raw) (λ t. document_of text options lookup t None inside)
          (split text options lookup (Some definition_delimiter) after) (λ t. document_of text options lookup direct (Some (record { delimiter = definition_delimiter; tight = t })) after)
          definitions-is refl (λ t x. refl) i j

      tight-same : (before : Option ListBefore) → tight_or before definition_delimiter (is_tight definition_delimiter inside after) ≡ tight_after before definition_delimiter inside after
      tight-same None = refl
      tight-same (Some b) = refl

  pub settles : (b : Blocks) (direct : Bool) (before : Option ListBefore) → Settles direct before (λ delimiter. goes_on delimiter b) (λ delimiter. split text options lookup delimiter b) (document_of text options lookup direct before b)
  settles NoBlocks direct before = stands direct before Nil Nil refl
  settles (BlankLine line after) direct None = settles after direct None
  settles (BlankLine line after) direct (Some before) = settles after direct (Some before)
  settles (Paragraph first more after) direct before = title-settles (is_title after) direct before first more after refl (λ t. settles after direct (Some (record { delimiter = definition_delimiter; tight = t }))) (settles after direct None)
  settles (SetextHeading level first more underline after) direct before =
      let h = setext_plain text options.heading_attributes first more in
      stands direct before _ _ (node-same (node (document.Heading level (setext_attributes options.heading_attributes (content_of (first ∷ more)))) (start_of first) underline.line_end) (h.still false ∙ sym h.whole) (settles after direct None))
  settles (LeafBlock leaf first more after) direct before =
      stands direct before _ _ (leaf-settles leaf first more direct (split text options lookup None after).after (document_of text options lookup direct None after) (settles after direct None))
  settles (ContainerBlock (BlockQuote alert) first more inside after) direct before =
      stands direct before _ _ (node-same (node (document.BlockQuote alert) (start_of first) (last_line_end first more)) (settles inside false None) (settles after direct None))
  settles (ContainerBlock (Footnote label old size) first more inside after) direct before =
      stands direct before _ _ (node-same (node (document.FootnoteDefinition (normal_form label)) (start_of first) (last_line_end first more)) (settles inside false None) (settles after direct None))
  settles (ContainerBlock (Item delimiter number width task) first more inside after) direct before =
      item-settles direct before delimiter number width task first more inside after (λ t. settles inside t None) (λ t. settles after direct (Some (record { delimiter = delimiter; tight = t })))
  settles (ContainerBlock (ListDefinition width) first more inside after) direct before =
      definition-settles direct before width first more inside after (λ t. settles inside t None) (λ t. settles after direct (Some (record { delimiter = definition_delimiter; tight = t })))
