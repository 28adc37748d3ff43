-- No item of a tree is a link reference definition. So an item that is neither an event nor an element is a paragraph of a tight list.
use Rattle.std.proofs.Common.{◌≡◌, ◌⊎◌, inl, inr, ℕ, Bool, true, false, true≢false, List, Some, None, option_map, refl, sym, ap, Option}
use Rattle.std.proofs.lemmas.Option.{same_Some}
use Rattle.std.specs.Char.{encode_utf8}
use Rattle.cmark_values.specs.declared.text.CowStr.{CowStr}
use Rattle.cmark_values.specs.Shown.{level_number, shown_block_quote_kind, shown_metadata_block_kind}
use Rattle.cmark_grammar.specs.Attributes.{no_attributes, attributes_of}
use Rattle.cmark_grammar.specs.Tokens.{slice}
use Rattle.cmark_grammar.specs.BlockDocument as document
use Rattle.cmark_grammar.specs.BlockDocument.{BlockKind, BlockNode, Paragraph, TightParagraph, Heading, ThematicBreak, IndentedCode, FencedCode, HtmlBlock, LinkDefinition, MetadataBlock, Table, TableHead, TableRow, TableCell, BlockQuote, BlockList, ListItem, TaskMarker, FootnoteDefinition, DefinitionList, DefinitionListTitle, DefinitionListDefinition, Text, OwnedText, Html}
use Rattle.cmark_grammar.specs.BlockReading as reads
use Rattle.cmark_grammar.specs.BlockReading.{is_leaf, starts_of, starts_as, read_as}
use Rattle.cmark_grammar.specs.Event.{TaskListMarker}
use Rattle.cmark_block_model.specs.DrawnDocument.{is_definition, kind_within}
use Rattle.cmark_items.specs.declared.item.Item.{Item}
use Rattle.cmark_items.specs.declared.item.ItemBody.{ItemBody}
use Rattle.cmark_items.specs.declared.item.ItemBody.TheVariants as body
use Rattle.cmark_grammar.specs.Tables.{delimiter_row}
use Rattle.cmark_items.specs.ItemNodes.{is_tight, list_number, columns_of, text_at, kind_over, shape}
use Rattle.cmark_block_walk.specs.Reads.{tag_in}
use Rattle.cmark_block_walk.proofs.Paths.{within-kind, spelt-kind}
use Rattle.cmark_block_walk.specs.Walking.{Drawn, is_list, task_body}

kind-drawn : (text : List ℕ) (texts : List CowStr) (start end : ℕ) (b : ItemBody) (kind : BlockKind) → kind_over text texts start end (shape b) ≡ Some kind → is_definition kind ≡ false
kind-drawn text texts start end (body.SynthesizeText x0) kind e = ap is_definition (sym (spelt-kind document.OwnedText (text_at texts x0.0) kind e).1)
kind-drawn text texts start end (body.TaskListMarker x0) kind e = ap is_definition (sym (same_Some (document.TaskMarker x0) kind e))
kind-drawn text texts start end (body.SynthesizeChar x0) kind e = ap is_definition (sym (same_Some (document.OwnedText (encode_utf8 x0)) kind e))
kind-drawn text texts start end body.Html kind e = ap is_definition (sym (same_Some (document.Html (slice text start end)) kind e))
kind-drawn text texts start end (body.Text x0) kind e = ap is_definition (sym (same_Some (document.Text (slice text start end)) kind e))
kind-drawn text texts start end body.Paragraph kind e = ap is_definition (sym (same_Some document.Paragraph kind e))
kind-drawn text texts start end (body.ParagraphOf x0) kind e = ap is_definition (sym (same_Some document.Paragraph kind e))
kind-drawn text texts start end body.TightParagraph kind e = ap is_definition (sym (same_Some document.TightParagraph kind e))
kind-drawn text texts start end body.Rule kind e = ap is_definition (sym (same_Some document.ThematicBreak kind e))
kind-drawn text texts start end (body.Heading x0) kind e = ap is_definition (sym (same_Some (document.Heading (level_number x0) no_attributes) kind e))
kind-drawn text texts start end (body.AttributedHeading x0 x1) kind e = ap is_definition (sym (spelt-kind (λ words. document.Heading (level_number x0) (attributes_of words)) (text_at texts x1.0) kind e).1)
kind-drawn text texts start end (body.FencedCodeBlock x0) kind e = ap is_definition (sym (spelt-kind document.FencedCode (text_at texts x0.0) kind e).1)
kind-drawn text texts start end body.IndentCodeBlock kind e = ap is_definition (sym (same_Some document.IndentedCode kind e))
kind-drawn text texts start end body.HtmlBlock kind e = ap is_definition (sym (same_Some document.HtmlBlock kind e))
kind-drawn text texts start end (body.BlockQuote x0) kind e = ap is_definition (sym (same_Some (document.BlockQuote (option_map shown_block_quote_kind x0)) kind e))
kind-drawn text texts start end (body.List x0 x1 x2) kind e = ap is_definition (sym (same_Some (document.BlockList (list_number x1 x2) (is_tight x0)) kind e))
kind-drawn text texts start end (body.ListItem x0) kind e = ap is_definition (sym (same_Some document.ListItem kind e))
kind-drawn text texts start end (body.FootnoteDefinition x0) kind e = ap is_definition (sym (spelt-kind document.FootnoteDefinition (text_at texts x0.0) kind e).1)
kind-drawn text texts start end (body.MetadataBlock x0) kind e = ap is_definition (sym (same_Some (document.MetadataBlock (shown_metadata_block_kind x0)) kind e))
kind-drawn text texts start end (body.DefinitionList x0) kind e = ap is_definition (sym (same_Some (document.DefinitionList (is_tight x0)) kind e))
kind-drawn text texts start end body.DefinitionListTitle kind e = ap is_definition (sym (same_Some document.DefinitionListTitle kind e))
kind-drawn text texts start end (body.DefinitionListTitleOf x0) kind e = ap is_definition (sym (same_Some document.DefinitionListTitle kind e))
kind-drawn text texts start end (body.DefinitionListDefinition x0) kind e = ap is_definition (sym (same_Some document.DefinitionListDefinition kind e))
kind-drawn text texts start end (body.Table x0) kind e = ap is_definition (sym (spelt-kind (λ row. document.Table (columns_of (delimiter_row row))) (text_at texts x0.0) kind e).1)
kind-drawn text texts start end body.TableHead kind e = ap is_definition (sym (same_Some document.TableHead kind e))
kind-drawn text texts start end body.TableRow kind e = ap is_definition (sym (same_Some document.TableRow kind e))
kind-drawn text texts start end body.TableCell kind e = ap is_definition (sym (same_Some document.TableCell kind e))
kind-drawn text texts start end _ kind e = absurd (let q : None ≡ Some kind = e in cc)

pub not-definition : (text : List ℕ) (texts : List CowStr) (item : Item) (node : BlockNode) → Drawn text texts item node → is_definition node.kind ≡ false
not-definition text texts item node d =
    kind-drawn text texts item.start item.end item.body node.kind (within-kind item.start item.end node (kind_over text texts item.start item.end (shape item.body)) d.shown)

-- whether the box of a task marker is checked, if a node is one
abbrev pub task_kind : BlockKind → Option Bool
task_kind (TaskMarker is_checked) = Some is_checked
task_kind _ = None

kind-task : (text : List ℕ) (texts : List CowStr) (start end : ℕ) (b : ItemBody) (kind : BlockKind) → kind_over text texts start end (shape b) ≡ Some kind → task_kind kind ≡ task_body b
kind-task text texts start end (body.SynthesizeText x0) kind e = ap task_kind (sym (spelt-kind document.OwnedText (text_at texts x0.0) kind e).1)
kind-task text texts start end (body.TaskListMarker x0) kind e = ap task_kind (sym (same_Some (document.TaskMarker x0) kind e))
kind-task text texts start end (body.SynthesizeChar x0) kind e = ap task_kind (sym (same_Some (document.OwnedText (encode_utf8 x0)) kind e))
kind-task text texts start end body.Html kind e = ap task_kind (sym (same_Some (document.Html (slice text start end)) kind e))
kind-task text texts start end (body.Text x0) kind e = ap task_kind (sym (same_Some (document.Text (slice text start end)) kind e))
kind-task text texts start end body.Paragraph kind e = ap task_kind (sym (same_Some document.Paragraph kind e))
kind-task text texts start end (body.ParagraphOf x0) kind e = ap task_kind (sym (same_Some document.Paragraph kind e))
kind-task text texts start end body.TightParagraph kind e = ap task_kind (sym (same_Some document.TightParagraph kind e))
kind-task text texts start end body.Rule kind e = ap task_kind (sym (same_Some document.ThematicBreak kind e))
kind-task text texts start end (body.Heading x0) kind e = ap task_kind (sym (same_Some (document.Heading (level_number x0) no_attributes) kind e))
kind-task text texts start end (body.AttributedHeading x0 x1) kind e = ap task_kind (sym (spelt-kind (λ words. document.Heading (level_number x0) (attributes_of words)) (text_at texts x1.0) kind e).1)
kind-task text texts start end (body.FencedCodeBlock x0) kind e = ap task_kind (sym (spelt-kind document.FencedCode (text_at texts x0.0) kind e).1)
kind-task text texts start end body.IndentCodeBlock kind e = ap task_kind (sym (same_Some document.IndentedCode kind e))
kind-task text texts start end body.HtmlBlock kind e = ap task_kind (sym (same_Some document.HtmlBlock kind e))
kind-task text texts start end (body.BlockQuote x0) kind e = ap task_kind (sym (same_Some (document.BlockQuote (option_map shown_block_quote_kind x0)) kind e))
kind-task text texts start end (body.List x0 x1 x2) kind e = ap task_kind (sym (same_Some (document.BlockList (list_number x1 x2) (is_tight x0)) kind e))
kind-task text texts start end (body.ListItem x0) kind e = ap task_kind (sym (same_Some document.ListItem kind e))
kind-task text texts start end (body.FootnoteDefinition x0) kind e = ap task_kind (sym (spelt-kind document.FootnoteDefinition (text_at texts x0.0) kind e).1)
kind-task text texts start end (body.MetadataBlock x0) kind e = ap task_kind (sym (same_Some (document.MetadataBlock (shown_metadata_block_kind x0)) kind e))
kind-task text texts start end (body.DefinitionList x0) kind e = ap task_kind (sym (same_Some (document.DefinitionList (is_tight x0)) kind e))
kind-task text texts start end body.DefinitionListTitle kind e = ap task_kind (sym (same_Some document.DefinitionListTitle kind e))
kind-task text texts start end (body.DefinitionListTitleOf x0) kind e = ap task_kind (sym (same_Some document.DefinitionListTitle kind e))
kind-task text texts start end (body.DefinitionListDefinition x0) kind e = ap task_kind (sym (same_Some document.DefinitionListDefinition kind e))
kind-task text texts start end (body.Table x0) kind e = ap task_kind (sym (spelt-kind (λ row. document.Table (columns_of (delimiter_row row))) (text_at texts x0.0) kind e).1)
kind-task text texts start end body.TableHead kind e = ap task_kind (sym (same_Some document.TableHead kind e))
kind-task text texts start end body.TableRow kind e = ap task_kind (sym (same_Some document.TableRow kind e))
kind-task text texts start end body.TableCell kind e = ap task_kind (sym (same_Some document.TableCell kind e))
kind-task text texts start end _ kind e = absurd (let q : None ≡ Some kind = e in cc)

pub task-drawn : (text : List ℕ) (texts : List CowStr) (item : Item) (node : BlockNode) → Drawn text texts item node → task_kind node.kind ≡ task_body item.body
task-drawn text texts item node d =
    kind-task text texts item.start item.end item.body node.kind (within-kind item.start item.end node (kind_over text texts item.start item.end (shape item.body)) d.shown)

-- a task marker is read as the first event of the nodes after it
pub task-read : (tight is_checked : Bool) (kind : BlockKind) → task_kind kind ≡ Some is_checked → reads.First (TaskListMarker is_checked) ≡ read_as (kind_within tight kind)
task-read tight is_checked (TaskMarker c) e = ap (λ z. reads.First (TaskListMarker z)) (sym (same_Some c is_checked e))
task-read tight is_checked _ e = absurd (let q : None ≡ Some is_checked = e in cc)

-- at a node that is not a leaf, or not an element, no paragraph, heading or title begins, but perhaps a definition list
pub no-element : (tight : Bool) (kind : BlockKind) (titled : Bool) (other : ℕ) → is_definition kind ≡ false → (is_leaf kind ≡ false) ⊎ (None ≡ tag_in (read_as (kind_within tight kind)))
    → (starts_as (starts_of (kind_within tight kind) titled) (read_as (kind_within tight kind)) other ≡ 0) ⊎ (is_list kind ≡ true)
no-element true Paragraph titled other n e = inl refl
no-element false Paragraph titled other n (inl l) = absurd (true≢false l)
no-element false Paragraph titled other n (inr t) = absurd (let q : None ≡ Some _ = t in cc)
no-element tight (Heading level attributes) titled other n (inl l) = absurd (true≢false l)
no-element tight (Heading level attributes) titled other n (inr t) = absurd (let q : None ≡ Some _ = t in cc)
no-element tight TableCell titled other n (inl l) = absurd (true≢false l)
no-element tight TableCell titled other n (inr t) = absurd (let q : None ≡ Some _ = t in cc)
no-element tight (LinkDefinition reference) titled other n e = absurd (true≢false n)
no-element tight (DefinitionList t) titled other n e = inr refl
no-element tight DefinitionListTitle titled other n (inl l) = absurd (true≢false l)
no-element tight DefinitionListTitle titled other n (inr t) = absurd (let q : None ≡ Some _ = t in cc)
no-element tight _ titled other n e = inl refl
