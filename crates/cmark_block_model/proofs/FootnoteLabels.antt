-- The labels of footnotes that closed blocks leave are those of their document.
use Rattle.std.proofs.Common.{◌≡◌, ◌==◌, ℕ, Bool, true, false, List, length, [], ◌∷◌, ◌++◌, refl, ap, ◌∙◌, sym, append_assoc, append-nil, Option, Some, None, subst}
use Rattle.cmark_grammar.specs.Options.{Options}
use Rattle.cmark_grammar.specs.Answers.{Lookup}
use Rattle.cmark_grammar.specs.Labels.{normal_form}
use Rattle.cmark_grammar.specs.Rows.{Row, last_line_end, begin_of, start_of}
use Rattle.cmark_grammar.specs.Containers.{BlockQuote, Item, Footnote, ListDefinition}
use Rattle.cmark_grammar.specs.Openings.{Leaf, AtxHeading, IndentedCode, FencedCode, HtmlBlock, MetadataBlock, Table}
use Rattle.cmark_grammar.specs.Blocks.{Blocks, Nil as NoBlocks, BlankLine, Paragraph, SetextHeading, LeafBlock, ContainerBlock}
use Rattle.cmark_grammar.specs.Lists.{ListBefore, tight_after, goes_on, definition_delimiter, is_title, title_tight_after}
use Rattle.cmark_grammar.specs.Tokens.{fenced_lines, lines_before, paragraph_tokens}
use Rattle.cmark_grammar.specs.Derivation.{paragraph_kind, leaf_then, item_then, document_of, list_kind}
use Rattle.cmark_grammar.specs.BlockDocument as document
use Rattle.cmark_grammar.specs.BlockDocument.{BlockDocument, BlockKind, Node, node}
use Rattle.cmark_grammar.specs.SpanDocuments.{footnote_label, footnote_labels}
use Rattle.cmark_grammar.specs.Metadata.{ends_metadata}
use Rattle.cmark_block_model.specs.OpenBlocks.{OpenList, Title}
use Rattle.cmark_block_model.proofs.PlainTokens.{IsPlain, paragraph_plain, setext_plain, heading_plain, code_plain, table_plain, html_tokens_plain}
use Rattle.cmark_block_model.proofs.Split.{Split, split}
use Rattle.cmark_block_model.proofs.Settles.{Joins, settles}
use Rattle.cmark_block_model.proofs.Replay.{Noted, Level, marked, standing, entered, left_by, item_if, item_level, leaf_noted, leaf_level, paragraph_level, heading_level, blank_level, replay, title_level, definition_level}
use Rattle.std.specs.Prelude.{if◌then◌else◌}
use Rattle.cmark_block_model.proofs.TightLaws.{title_goes_on}

paragraph-labels : (direct : Bool) (start end : ℕ) (t d : BlockDocument) → IsPlain t → footnote_labels (Node (node (paragraph_kind direct) start end) t d) ≡ footnote_labels d
paragraph-labels true start end t d h = ap (λ r. r ++ footnote_labels d) h.labels
paragraph-labels false start end t d h = ap (λ r. r ++ footnote_labels d) h.labels

-- a list of any kind has no footnote label
list-silent : (delimiter : ℕ) (number : Option ℕ) (tight : Bool) → footnote_label (list_kind delimiter number tight) ≡ []
list-silent delimiter number tight = go (delimiter == definition_delimiter)
  where
    go : (z : Bool) → footnote_label (if z then document.DefinitionList tight else document.BlockList number tight) ≡ []
    go true = refl
    go false = refl

item-labels : (joins direct tight : Bool) (list kind : BlockKind) (start line_end : ℕ) (inner : BlockDocument) (s : Split) (d : BlockDocument) → footnote_label list ≡ [] → footnote_label kind ≡ [] → Joins joins direct tight s d → footnote_labels (item_then joins list (node kind start line_end) inner d) ≡ (footnote_labels inner ++ footnote_labels d)
item-labels false direct tight list kind start line_end inner s d l k j =
    ap (λ a. a ++ ((footnote_label kind ++ (footnote_labels inner ++ [])) ++ footnote_labels d)) l ∙ ap (λ a. (a ++ (footnote_labels inner ++ [])) ++ footnote_labels d) k ∙ ap (λ r. r ++ footnote_labels d) (append-nil (footnote_labels inner))
item-labels true direct tight list kind start line_end inner s d l k j =
    ap (λ x. footnote_labels (item_then true list (node kind start line_end) inner x)) j.is
    ∙ ap (λ a. a ++ ((footnote_label kind ++ (footnote_labels inner ++ footnote_labels j.items)) ++ footnote_labels j.after)) l ∙ ap (λ a. (a ++ (footnote_labels inner ++ footnote_labels j.items)) ++ footnote_labels j.after) k
    ∙ append_assoc (footnote_labels inner) (footnote_labels j.items) (footnote_labels j.after) ∙ ap (λ a. footnote_labels inner ++ (a ++ (footnote_labels j.items ++ footnote_labels j.after))) (sym j.unlabelled) ∙ ap (λ x. footnote_labels inner ++ footnote_labels x) (sym j.is)

marked-labels : (task : Option Bool) (width : ℕ) (first : Row) (d : BlockDocument) → footnote_labels d ≡ footnote_labels (marked task width first d)
marked-labels None width first d = refl
marked-labels (Some is_checked) width first d = refl

item-keeps : (delimiter : ℕ) (number : Option ℕ) (start : ℕ) (l : Level) (o : Option OpenList) → (item_level delimiter number start l o).noted.footnotes ≡ l.noted.footnotes
item-keeps delimiter number start l None = refl
item-keeps delimiter number start l (Some o) = go (o.delimiter == delimiter)
  where
    go : (z : Bool) → (item_if z delimiter number start o l).noted.footnotes ≡ l.noted.footnotes
    go true = refl
    go false = refl

-- a definition of a definition list changes no label
definition-keeps : (o : Option Title) (start : ℕ) (l : Level) → (definition_level o start l).noted.footnotes ≡ l.noted.footnotes
definition-keeps None start l = item-keeps definition_delimiter None start l l.inner.list
definition-keeps (Some t) start l = go t.list
  where
    go : (o : Option OpenList) → (title_level o t.parted start l).noted.footnotes ≡ l.noted.footnotes
    go None = refl
    go (Some o) = refl

module _ (text : List ℕ) (options : Options) (lookup : Lookup) where
  leaf-labels : (leaf : Leaf) (first : Row) (more : List Row) (n : Noted) (d : BlockDocument) → ((leaf_noted text options lookup leaf first more n).footnotes ++ footnote_labels d) ≡ (n.footnotes ++ footnote_labels (leaf_then text options lookup leaf first more d))
  leaf-labels (AtxHeading level) first more n d = ap (λ r. n.footnotes ++ (r ++ footnote_labels d)) (sym (heading_plain text options.heading_attributes level first).labels)
  leaf-labels IndentedCode first more n d = ap (λ r. n.footnotes ++ (r ++ footnote_labels d)) (sym (code_plain text 4 (first ∷ more)).labels)
  leaf-labels (FencedCode fence) first more n d = ap (λ r. n.footnotes ++ (r ++ footnote_labels d)) (sym (code_plain text fence.indented (fenced_lines fence more)).labels)
  leaf-labels (HtmlBlock kind) first more n d = ap (λ r. n.footnotes ++ (r ++ footnote_labels d)) (sym (html_tokens_plain text (first ∷ more)).labels)
  leaf-labels (MetadataBlock kind) first more n d = ap (λ r. n.footnotes ++ (r ++ footnote_labels d)) (sym (code_plain text 0 (lines_before (ends_metadata kind) more)).labels)
  leaf-labels (Table alignments) first more n d = ap (λ r. n.footnotes ++ (r ++ footnote_labels d)) (sym (table_plain text (length alignments) first more).labels)
  leaf-labels _ first more n d = refl

  pub labels : (b : Blocks) (direct : Bool) (before : Option ListBefore) (l : Level) → (replay text options lookup b l).noted.footnotes ≡ (l.noted.footnotes ++ footnote_labels (document_of text options lookup direct before b))
  labels NoBlocks direct before l = sym (append-nil l.noted.footnotes)
  labels (BlankLine line after) direct before l = labels after direct before (blank_level l)
  labels (Paragraph first more after) direct before l = go (is_title after) refl (λ b. labels after direct b (paragraph_level text options lookup first more l))
    where
      tight : Bool
      tight = title_tight_after before after

      go : (z : Bool) → is_title after ≡ z → ((b : Option ListBefore) → (replay text options lookup (Paragraph first more after) l).noted.footnotes ≡ (l.noted.footnotes ++ footnote_labels (document_of text options lookup direct b after)))
          → (replay text options lookup (Paragraph first more after) l).noted.footnotes ≡ (l.noted.footnotes ++ footnote_labels (if z then item_then true (document.DefinitionList tight) (node document.DefinitionListTitle (start_of first) (last_line_end first more)) (paragraph_tokens text first more) (document_of text options lookup direct (Some (record { delimiter = definition_delimiter; tight = tight })) after)
          else Node (node (paragraph_kind direct) (start_of first) (last_line_end first more)) (paragraph_tokens text first more) (document_of text options lookup direct None after)))
      go true e h =
          let d = document_of text options lookup direct (Some (record { delimiter = definition_delimiter; tight = tight })) after in
          h (Some (record { delimiter = definition_delimiter; tight = tight }))
          ∙ ap (λ r. l.noted.footnotes ++ (r ++ footnote_labels d)) (sym (paragraph_plain text first more).labels)
          ∙ ap (λ r. l.noted.footnotes ++ r) (sym (item-labels true direct tight (document.DefinitionList tight) document.DefinitionListTitle (start_of first) (last_line_end first more) (paragraph_tokens text first more) (split text options lookup (Some definition_delimiter) after) d refl refl
          (subst (λ z. Joins z direct tight (split text options lookup (Some definition_delimiter) after) d) (title_goes_on text options lookup after e) (settles text options lookup after direct (Some (record { delimiter = definition_delimiter; tight = tight }))))))
      go false e h =
          h None ∙ ap (λ r. l.noted.footnotes ++ r) (sym (paragraph-labels direct (start_of first) (last_line_end first more) _ (document_of text options lookup direct None after) (paragraph_plain text first more)))
  labels (SetextHeading level first more underline after) direct before l =
      labels after direct None (heading_level text options lookup level first more underline l)
      ∙ ap (λ r. l.noted.footnotes ++ (r ++ footnote_labels (document_of text options lookup direct None after))) (sym (setext_plain text options.heading_attributes first more).labels)
  labels (LeafBlock leaf first more after) direct before l =
      labels after direct None (leaf_level text options lookup leaf first more l) ∙ leaf-labels leaf first more l.noted (document_of text options lookup direct None after)
  labels (ContainerBlock (BlockQuote alert) first more inside after) direct before l =
      labels after direct None (left_by (BlockQuote alert) (standing (BlockQuote alert) first l).inner (last_line_end first more) (replay text options lookup inside (entered (BlockQuote alert) first l)))
      ∙ ap (λ r. r ++ footnote_labels (document_of text options lookup direct None after)) (labels inside false None (entered (BlockQuote alert) first l))
      ∙ append_assoc l.noted.footnotes (footnote_labels (document_of text options lookup false None inside)) (footnote_labels (document_of text options lookup direct None after))
  labels (ContainerBlock (Footnote label old size) first more inside after) direct before l =
      let inner = footnote_labels (document_of text options lookup false None inside) in
      let following = footnote_labels (document_of text options lookup direct None after) in
      labels after direct None (left_by (Footnote label old size) (standing (Footnote label old size) first l).inner (last_line_end first more) (replay text options lookup inside (entered (Footnote label old size) first l)))
      ∙ ap (λ r. r ++ following) (labels inside false None (entered (Footnote label old size) first l))
      ∙ append_assoc (l.noted.footnotes ++ normal_form label ∷ []) inner following
      ∙ append_assoc l.noted.footnotes (normal_form label ∷ []) (inner ++ following)
  labels (ContainerBlock (Item delimiter number width task) first more inside after) direct before l =
      let k = Item delimiter number width task in
      let t = tight_after before delimiter inside after in
      let d = document_of text options lookup direct (Some (record { delimiter = delimiter; tight = t })) after in
      let j = document_of text options lookup t None inside in
      let i = marked task width first j in
      labels after direct (Some (record { delimiter = delimiter; tight = t })) (left_by k (standing k first l).inner (last_line_end first more) (replay text options lookup inside (entered k first l)))
      ∙ ap (λ r. r ++ footnote_labels d) (labels inside t None (entered k first l) ∙ ap (λ r. (entered k first l).noted.footnotes ++ r) (marked-labels task width first j) ∙ ap (λ r. r ++ footnote_labels i) (item-keeps delimiter number (begin_of first) l l.inner.list))
      ∙ append_assoc l.noted.footnotes (footnote_labels i) (footnote_labels d)
      ∙ ap (λ r. l.noted.footnotes ++ r) (sym (item-labels (goes_on delimiter after) direct t (list_kind delimiter number t) document.ListItem (begin_of first) (last_line_end first more) i (split text options lookup (Some delimiter) after) d (list-silent delimiter number t) refl (settles text options lookup after direct (Some (record { delimiter = delimiter; tight = t })))))
  labels (ContainerBlock (ListDefinition width) first more inside after) direct before l =
      let k = ListDefinition width in
      let t = tight_after before definition_delimiter inside after in
      let d = document_of text options lookup direct (Some (record { delimiter = definition_delimiter; tight = t })) after in
      let j = document_of text options lookup t None inside in
      labels after direct (Some (record { delimiter = definition_delimiter; tight = t })) (left_by k (standing k first l).inner (last_line_end first more) (replay text options lookup inside (entered k first l)))
      ∙ ap (λ r. r ++ footnote_labels d) (labels inside t None (entered k first l) ∙ ap (λ r. r ++ footnote_labels j) (definition-keeps l.inner.title (begin_of first) l))
      ∙ append_assoc l.noted.footnotes (footnote_labels j) (footnote_labels d)
      ∙ ap (λ r. l.noted.footnotes ++ r) (sym (item-labels (goes_on definition_delimiter after) direct t (document.DefinitionList t) document.DefinitionListDefinition (begin_of first) (last_line_end first more) j (split text options lookup (Some definition_delimiter) after) d refl refl (settles text options lookup after direct (Some (record { delimiter = definition_delimiter; tight = t })))))
