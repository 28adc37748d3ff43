-- The references of closed blocks are the definitions of their document.
use Rattle.std.proofs.Common.{◌≡◌, ◌==◌, ℕ, Bool, true, false, List, length, [], ◌∷◌, ◌++◌, refl, ap, ◌∙◌, sym, append_assoc, append-nil, Option, Some, None, subst}
use Rattle.cmark_grammar.specs.Options.{Options}
use Rattle.cmark_grammar.specs.Answers.{Lookup}
use Rattle.cmark_grammar.specs.Rows.{Row, last_line_end, begin_of, start_of}
use Rattle.cmark_grammar.specs.Containers.{BlockQuote, Item, Footnote, ListDefinition}
use Rattle.cmark_grammar.specs.Openings.{Leaf, ThematicBreak, AtxHeading, IndentedCode, FencedCode, HtmlBlock, LinkDefinition, MetadataBlock, Table}
use Rattle.cmark_grammar.specs.Blocks.{Blocks, Nil as NoBlocks, BlankLine, Paragraph, SetextHeading, LeafBlock, ContainerBlock}
use Rattle.cmark_grammar.specs.Lists.{ListBefore, tight_after, goes_on, definition_delimiter, is_title, title_tight_after}
use Rattle.cmark_grammar.specs.Tokens.{fenced_lines, lines_before, paragraph_tokens}
use Rattle.cmark_grammar.specs.Derivation.{paragraph_kind, leaf_then, item_then, document_of, reference_of, last_content_end, list_kind}
use Rattle.cmark_grammar.specs.BlockDocument as document
use Rattle.cmark_grammar.specs.BlockDocument.{BlockDocument, Node, node, BlockKind}
use Rattle.cmark_grammar.specs.References.{references, reference_of_kind}
use Rattle.cmark_grammar.specs.Metadata.{ends_metadata}
use Rattle.cmark_block_model.specs.OpenBlocks.{OpenList, Title}
use Rattle.cmark_block_model.proofs.PlainTokens.{IsPlain, paragraph_plain, setext_plain, heading_plain, code_plain, table_plain, html_tokens_plain}
use Rattle.cmark_block_model.proofs.Split.{Split, split}
use Rattle.cmark_block_model.proofs.Settles.{Joins, settles}
use Rattle.cmark_block_model.proofs.Replay.{Noted, Level, marked, standing, entered, left_by, item_if, item_level, leaf_noted, leaf_level, paragraph_level, heading_level, blank_level, replay, title_level, definition_level}
use Rattle.std.specs.Prelude.{if◌then◌else◌}
use Rattle.cmark_block_model.proofs.TightLaws.{title_goes_on}

paragraph-references : (direct : Bool) (start end : ℕ) (t d : BlockDocument) → IsPlain t → references (Node (node (paragraph_kind direct) start end) t d) ≡ references d
paragraph-references true start end t d h = ap (λ r. r ++ references d) h.defines
paragraph-references false start end t d h = ap (λ r. r ++ references d) h.defines

-- a list of any kind is not a definition
list-silent : (delimiter : ℕ) (number : Option ℕ) (tight : Bool) → reference_of_kind (list_kind delimiter number tight) ≡ []
list-silent delimiter number tight = go (delimiter == definition_delimiter)
  where
    go : (z : Bool) → reference_of_kind (if z then document.DefinitionList tight else document.BlockList number tight) ≡ []
    go true = refl
    go false = refl

item-references : (joins direct tight : Bool) (list kind : BlockKind) (start line_end : ℕ) (inner : BlockDocument) (s : Split) (d : BlockDocument) → reference_of_kind list ≡ [] → reference_of_kind kind ≡ [] → Joins joins direct tight s d → references (item_then joins list (node kind start line_end) inner d) ≡ (references inner ++ references d)
item-references false direct tight list kind start line_end inner s d l k j =
    ap (λ a. a ++ ((reference_of_kind kind ++ (references inner ++ [])) ++ references d)) l ∙ ap (λ a. (a ++ (references inner ++ [])) ++ references d) k ∙ ap (λ r. r ++ references d) (append-nil (references inner))
item-references true direct tight list kind start line_end inner s d l k j =
    ap (λ x. references (item_then true list (node kind start line_end) inner x)) j.is
    ∙ ap (λ a. a ++ ((reference_of_kind kind ++ (references inner ++ references j.items)) ++ references j.after)) l ∙ ap (λ a. (a ++ (references inner ++ references j.items)) ++ references j.after) k
    ∙ append_assoc (references inner) (references j.items) (references j.after) ∙ ap (λ a. references inner ++ (a ++ (references j.items ++ references j.after))) (sym j.silent) ∙ ap (λ x. references inner ++ references x) (sym j.is)

marked-references : (task : Option Bool) (width : ℕ) (first : Row) (d : BlockDocument) → references d ≡ references (marked task width first d)
marked-references None width first d = refl
marked-references (Some is_checked) width first d = refl

item-keeps : (delimiter : ℕ) (number : Option ℕ) (start : ℕ) (l : Level) (o : Option OpenList) → (item_level delimiter number start l o).noted.references ≡ l.noted.references
item-keeps delimiter number start l None = refl
item-keeps delimiter number start l (Some o) = go (o.delimiter == delimiter)
  where
    go : (z : Bool) → (item_if z delimiter number start o l).noted.references ≡ l.noted.references
    go true = refl
    go false = refl

-- a definition of a definition list changes no reference
definition-keeps : (o : Option Title) (start : ℕ) (l : Level) → (definition_level o start l).noted.references ≡ l.noted.references
definition-keeps None start l = item-keeps definition_delimiter None start l l.inner.list
definition-keeps (Some t) start l = go t.list
  where
    go : (o : Option OpenList) → (title_level o t.parted start l).noted.references ≡ l.noted.references
    go None = refl
    go (Some o) = refl

module _ (text : List ℕ) (options : Options) (lookup : Lookup) where
  leaf-references : (leaf : Leaf) (first : Row) (more : List Row) (n : Noted) (d : BlockDocument) → ((leaf_noted text options lookup leaf first more n).references ++ references d) ≡ (n.references ++ references (leaf_then text options lookup leaf first more d))
  leaf-references ThematicBreak first more n d = refl
  leaf-references (AtxHeading level) first more n d = ap (λ r. n.references ++ (r ++ references d)) (sym (heading_plain text options.heading_attributes level first).defines)
  leaf-references IndentedCode first more n d = ap (λ r. n.references ++ (r ++ references d)) (sym (code_plain text 4 (first ∷ more)).defines)
  leaf-references (FencedCode fence) first more n d = ap (λ r. n.references ++ (r ++ references d)) (sym (code_plain text fence.indented (fenced_lines fence more)).defines)
  leaf-references (HtmlBlock kind) first more n d = ap (λ r. n.references ++ (r ++ references d)) (sym (html_tokens_plain text (first ∷ more)).defines)
  leaf-references (LinkDefinition definition) first more n d = append_assoc n.references (reference_of lookup definition (start_of first) (last_content_end first more) ∷ []) (references d)
  leaf-references (MetadataBlock kind) first more n d = ap (λ r. n.references ++ (r ++ references d)) (sym (code_plain text 0 (lines_before (ends_metadata kind) more)).defines)
  leaf-references (Table alignments) first more n d = ap (λ r. n.references ++ (r ++ references d)) (sym (table_plain text (length alignments) first more).defines)

  pub defines : (b : Blocks) (direct : Bool) (before : Option ListBefore) (l : Level) → (replay text options lookup b l).noted.references ≡ (l.noted.references ++ references (document_of text options lookup direct before b))
  defines NoBlocks direct before l = sym (append-nil l.noted.references)
  defines (BlankLine line after) direct before l = defines after direct before (blank_level l)
  defines (Paragraph first more after) direct before l = go (is_title after) refl (λ b. defines after direct b (paragraph_level text options lookup first more l))
    where
      tight : Bool
      tight = title_tight_after before after

      go : (z : Bool) → is_title after ≡ z → ((b : Option ListBefore) → (replay text options lookup (Paragraph first more after) l).noted.references ≡ (l.noted.references ++ references (document_of text options lookup direct b after)))
          → (replay text options lookup (Paragraph first more after) l).noted.references ≡ (l.noted.references ++ references (if z then item_then true (document.DefinitionList tight) (node document.DefinitionListTitle (start_of first) (last_line_end first more)) (paragraph_tokens text first more) (document_of text options lookup direct (Some (record { delimiter = definition_delimiter; tight = tight })) after)
          else Node (node (paragraph_kind direct) (start_of first) (last_line_end first more)) (paragraph_tokens text first more) (document_of text options lookup direct None after)))
      go true e h =
          let d = document_of text options lookup direct (Some (record { delimiter = definition_delimiter; tight = tight })) after in
          h (Some (record { delimiter = definition_delimiter; tight = tight }))
          ∙ ap (λ r. l.noted.references ++ (r ++ references d)) (sym (paragraph_plain text first more).defines)
          ∙ ap (λ r. l.noted.references ++ r) (sym (item-references true direct tight (document.DefinitionList tight) document.DefinitionListTitle (start_of first) (last_line_end first more) (paragraph_tokens text first more) (split text options lookup (Some definition_delimiter) after) d refl refl
          (subst (λ z. Joins z direct tight (split text options lookup (Some definition_delimiter) after) d) (title_goes_on text options lookup after e) (settles text options lookup after direct (Some (record { delimiter = definition_delimiter; tight = tight }))))))
      go false e h =
          h None ∙ ap (λ r. l.noted.references ++ r) (sym (paragraph-references direct (start_of first) (last_line_end first more) _ (document_of text options lookup direct None after) (paragraph_plain text first more)))
  defines (SetextHeading level first more underline after) direct before l =
      defines after direct None (heading_level text options lookup level first more underline l)
      ∙ ap (λ r. l.noted.references ++ (r ++ references (document_of text options lookup direct None after))) (sym (setext_plain text options.heading_attributes first more).defines)
  defines (LeafBlock leaf first more after) direct before l =
      defines after direct None (leaf_level text options lookup leaf first more l) ∙ leaf-references leaf first more l.noted (document_of text options lookup direct None after)
  defines (ContainerBlock (BlockQuote alert) first more inside after) direct before l =
      defines after direct None (left_by (BlockQuote alert) (standing (BlockQuote alert) first l).inner (last_line_end first more) (replay text options lookup inside (entered (BlockQuote alert) first l)))
      ∙ ap (λ r. r ++ references (document_of text options lookup direct None after)) (defines inside false None (entered (BlockQuote alert) first l))
      ∙ append_assoc l.noted.references (references (document_of text options lookup false None inside)) (references (document_of text options lookup direct None after))
  defines (ContainerBlock (Footnote label old size) first more inside after) direct before l =
      defines after direct None (left_by (Footnote label old size) (standing (Footnote label old size) first l).inner (last_line_end first more) (replay text options lookup inside (entered (Footnote label old size) first l)))
      ∙ ap (λ r. r ++ references (document_of text options lookup direct None after)) (defines inside false None (entered (Footnote label old size) first l))
      ∙ append_assoc l.noted.references (references (document_of text options lookup false None inside)) (references (document_of text options lookup direct None after))
  defines (ContainerBlock (Item delimiter number width task) first more inside after) direct before l =
      let k = Item delimiter number width task in
      let t = tight_after before delimiter inside after in
      let d = document_of text options lookup direct (Some (record { delimiter = delimiter; tight = t })) after in
      let j = document_of text options lookup t None inside in
      let i = marked task width first j in
      defines after direct (Some (record { delimiter = delimiter; tight = t })) (left_by k (standing k first l).inner (last_line_end first more) (replay text options lookup inside (entered k first l)))
      ∙ ap (λ r. r ++ references d) (defines inside t None (entered k first l) ∙ ap (λ r. (entered k first l).noted.references ++ r) (marked-references task width first j) ∙ ap (λ r. r ++ references i) (item-keeps delimiter number (begin_of first) l l.inner.list))
      ∙ append_assoc l.noted.references (references i) (references d)
      ∙ ap (λ r. l.noted.references ++ r) (sym (item-references (goes_on delimiter after) direct t (list_kind delimiter number t) document.ListItem (begin_of first) (last_line_end first more) i (split text options lookup (Some delimiter) after) d (list-silent delimiter number t) refl (settles text options lookup after direct (Some (record { delimiter = delimiter; tight = t })))))
  defines (ContainerBlock (ListDefinition width) first more inside after) direct before l =
      let k = ListDefinition width in
      let t = tight_after before definition_delimiter inside after in
      let d = document_of text options lookup direct (Some (record { delimiter = definition_delimiter; tight = t })) after in
      let j = document_of text options lookup t None inside in
      defines after direct (Some (record { delimiter = definition_delimiter; tight = t })) (left_by k (standing k first l).inner (last_line_end first more) (replay text options lookup inside (entered k first l)))
      ∙ ap (λ r. r ++ references d) (defines inside t None (entered k first l) ∙ ap (λ r. r ++ references j) (definition-keeps l.inner.title (begin_of first) l))
      ∙ append_assoc l.noted.references (references j) (references d)
      ∙ ap (λ r. l.noted.references ++ r) (sym (item-references (goes_on definition_delimiter after) direct t (document.DefinitionList t) document.DefinitionListDefinition (begin_of first) (last_line_end first more) j (split text options lookup (Some definition_delimiter) after) d refl refl (settles text options lookup after direct (Some (record { delimiter = definition_delimiter; tight = t })))))
