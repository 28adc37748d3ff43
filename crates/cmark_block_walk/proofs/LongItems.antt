-- Items whose event is no short one.
use Rattle.std.proofs.Common.{◌≡◌, inl, inr, ℕ, Bool, true, false, true≢false, List, Option, Some, None, refl, sym, ap, ◌∙◌, subst}
use Rattle.std.proofs.lemmas.Option.{same_Some}
use Rattle.std.specs.Char.{encode_utf8}
use Rattle.cmark_tree.specs.declared.tree_index.TreeIndex.{TreeIndex}
use Rattle.cmark_tree.specs.Forest.{Forest, Nil, Node}
use Rattle.cmark_tree.specs.Arena.{Entry, Placed, Stands, first}
use Rattle.cmark_tree.specs.Tree.{entry_at, focus_of}
use Rattle.cmark_tree.specs.Zip.{Zip}
use Rattle.cmark_tree.proofs.Steps.{in_right}
use Rattle.cmark_grammar.specs.Event as event
use Rattle.cmark_grammar.specs.BlockDocument as document
use Rattle.cmark_grammar.specs.BlockDocument.{BlockKind, BlockNode}
use Rattle.cmark_grammar.specs.BlockReading as reads
use Rattle.cmark_grammar.specs.BlockReading.{Reads, is_leaf, read_as}
use Rattle.cmark_block_model.specs.DrawnDocument.{kind_within}
use Rattle.cmark_items.specs.declared.item.Item.{Item}
use Rattle.cmark_items.specs.declared.item.ItemBody.{ItemBody}
use Rattle.cmark_items.specs.declared.item.ItemBody.TheVariants as body
use Rattle.cmark_items.specs.ItemNodes.{kind_over, shape, text_at}
use Rattle.cmark_text.specs.declared.short.PlainTag.{PlainTag}
use Rattle.cmark_values.specs.declared.text.CowStr.{CowStr}
use Rattle.cmark_block_walk.specs.declared.reading.Glance.{Glance}
use Rattle.cmark_block_walk.specs.declared.reading.Glance.TheVariants as glance
use Rattle.cmark_block_walk.specs.declared.walk.Walk.{Walk}
use Rattle.cmark_block_walk.specs.declared.reading.Stage.{Stage}
use Rattle.cmark_block_walk.specs.declared.reading.Stage.TheVariants as stage
use Rattle.cmark_block_walk.specs.Walking.{Drawn, IsAt, IsElement, IsLeafElement, IsLong, IsLongFrom, IsLongGlance, MayBeginWithEnd, NoEndIsNext, Outer, OwnsText, ReadsAs, StandsBelow, has_texts, is_long, is_synthesized, left_from, task_body, texts_of, tight_below}
use Rattle.cmark_block_walk.proofs.EndSteps.{NotInside, before-otherwise, listed-otherwise, no-end, owns-otherwise, task-otherwise}
use Rattle.cmark_block_walk.proofs.Paths.{spelt-kind, within-kind}
use Rattle.cmark_block_walk.proofs.WalkSteps.{left-staged}

-- an item that is neither a task marker nor a text without source is an element with a text of its own
pub long-texts : (b : ItemBody) → is_long b ≡ true → None ≡ task_body b → false ≡ is_synthesized b → has_texts b ≡ true
long-texts (body.TaskListMarker is_checked) l t s = absurd (let q : None ≡ Some is_checked = t in cc)
long-texts (body.SynthesizeText x) l t s = absurd (true≢false (sym s))
long-texts (body.SynthesizeChar x) l t s = absurd (true≢false (sym s))
long-texts _ l t s = l

-- and so is a leaf
kind-texts : (text : List ℕ) (texts : List CowStr) (start end : ℕ) (b : ItemBody) (kind : BlockKind) → kind_over text texts start end (shape b) ≡ Some kind → is_leaf kind ≡ true → is_long b ≡ true → has_texts b ≡ true
kind-texts text texts start end (body.TaskListMarker is_checked) kind e leaf l = absurd (true≢false (sym leaf ∙ ap is_leaf (sym (same_Some (document.TaskMarker is_checked) kind e))))
kind-texts text texts start end (body.SynthesizeText x) kind e leaf l = absurd (true≢false (sym leaf ∙ ap is_leaf (sym (spelt-kind document.OwnedText (text_at texts x.0) kind e).1)))
kind-texts text texts start end (body.SynthesizeChar x) kind e leaf l = absurd (true≢false (sym leaf ∙ ap is_leaf (sym (same_Some (document.OwnedText (encode_utf8 x)) kind e))))
kind-texts text texts start end _ kind e leaf l = l

-- an element that is not known to be one without a text of its own
not-plain : (g : Glance) (R : Reads) (b : ItemBody) → ((tag : PlainTag) → g ≡ glance.Around tag → ⊥) → ReadsAs g R → IsElement R → IsLongGlance g b → is_long b ≡ true
not-plain (glance.Around tag) R b n r e l = absurd (n tag refl)
not-plain (glance.Alone short) R b n r e l = absurd (subst IsElement (sym r) e)
not-plain glance.Inside R b n r e l = absurd (subst IsElement (sym r) e)
not-plain glance.Long R b n r e l = l

pub leaf-texts : (walk : Walk) (item : Item) (g : Glance) → ((tag : PlainTag) → g ≡ glance.Around tag → ⊥) → IsLeafElement walk item
    → ((z : Zip Item) (above : List Outer) (node : BlockNode) → StandsBelow walk z above → Drawn walk.text.now (texts_of walk) item node → ReadsAs g (read_as (kind_within (tight_below above) node.kind)))
    → IsLongGlance g item.body → has_texts item.body ≡ true
leaf-texts walk item g n e read l =
    kind-texts walk.text.now (texts_of walk) item.start item.end item.body e.node.kind (within-kind item.start item.end e.node (kind_over walk.text.now (texts_of walk) item.start item.end (shape item.body)) e.drawn.shown) e.leaf
    (not-plain g _ item.body n (read e.z e.above e.node e.stands e.drawn) e.element l)

-- an item of none of the kinds that are read otherwise than as the events inside them
pub record IsOther (b : ItemBody) : Type 0 where
  pub text : (x0 : _) → b ≡ body.Text x0 → ⊥
  pub html : b ≡ body.Html → ⊥
  pub rule : b ≡ body.Rule → ⊥
  pub paragraph : b ≡ body.Paragraph → ⊥
  pub paragraph_of : (x0 : _) → b ≡ body.ParagraphOf x0 → ⊥
  pub heading : (x0 : _) → b ≡ body.Heading x0 → ⊥
  pub indent_code_block : b ≡ body.IndentCodeBlock → ⊥
  pub html_block : b ≡ body.HtmlBlock → ⊥
  pub table_head : b ≡ body.TableHead → ⊥
  pub table_row : b ≡ body.TableRow → ⊥
  pub table_cell : b ≡ body.TableCell → ⊥
  pub metadata_block : (x0 : _) → b ≡ body.MetadataBlock x0 → ⊥
  pub block_quote : (x0 : _) → b ≡ body.BlockQuote x0 → ⊥
  pub list : (x0 : _) (x1 : _) (x2 : _) → b ≡ body.List x0 x1 x2 → ⊥
  pub list_item : (x0 : _) → b ≡ body.ListItem x0 → ⊥
  pub definition_list : (x0 : _) → b ≡ body.DefinitionList x0 → ⊥
  pub definition_list_title : b ≡ body.DefinitionListTitle → ⊥
  pub definition_list_title_of : (x0 : _) → b ≡ body.DefinitionListTitleOf x0 → ⊥
  pub definition_list_definition : (x0 : _) → b ≡ body.DefinitionListDefinition x0 → ⊥
  pub attributed_heading : (x0 : _) (x1 : _) → b ≡ body.AttributedHeading x0 x1 → ⊥
  pub fenced_code_block : (x0 : _) → b ≡ body.FencedCodeBlock x0 → ⊥
  pub table : (x0 : _) → b ≡ body.Table x0 → ⊥
  pub footnote_definition : (x0 : _) → b ≡ body.FootnoteDefinition x0 → ⊥
  pub synthesize_text : (x0 : _) → b ≡ body.SynthesizeText x0 → ⊥
  pub synthesize_char : (x0 : _) → b ≡ body.SynthesizeChar x0 → ⊥
  pub task_list_marker : (x0 : _) → b ≡ body.TaskListMarker x0 → ⊥

inside-drawn : (text : List ℕ) (texts : List CowStr) (start end : ℕ) (tight : Bool) (b : ItemBody) (kind : BlockKind) → kind_over text texts start end (shape b) ≡ Some kind → IsOther b → reads.Inside ≡ read_as (kind_within tight kind)
inside-drawn text texts start end tight (body.Text x0) kind e n = absurd (n.text x0 refl)
inside-drawn text texts start end tight body.Html kind e n = absurd (n.html refl)
inside-drawn text texts start end tight body.Rule kind e n = absurd (n.rule refl)
inside-drawn text texts start end tight body.Paragraph kind e n = absurd (n.paragraph refl)
inside-drawn text texts start end tight (body.ParagraphOf x0) kind e n = absurd (n.paragraph_of x0 refl)
inside-drawn text texts start end tight (body.Heading x0) kind e n = absurd (n.heading x0 refl)
inside-drawn text texts start end tight body.IndentCodeBlock kind e n = absurd (n.indent_code_block refl)
inside-drawn text texts start end tight body.HtmlBlock kind e n = absurd (n.html_block refl)
inside-drawn text texts start end tight body.TableHead kind e n = absurd (n.table_head refl)
inside-drawn text texts start end tight body.TableRow kind e n = absurd (n.table_row refl)
inside-drawn text texts start end tight body.TableCell kind e n = absurd (n.table_cell refl)
inside-drawn text texts start end tight (body.MetadataBlock x0) kind e n = absurd (n.metadata_block x0 refl)
inside-drawn text texts start end tight (body.BlockQuote x0) kind e n = absurd (n.block_quote x0 refl)
inside-drawn text texts start end tight (body.List x0 x1 x2) kind e n = absurd (n.list x0 x1 x2 refl)
inside-drawn text texts start end tight (body.ListItem x0) kind e n = absurd (n.list_item x0 refl)
inside-drawn text texts start end tight (body.DefinitionList x0) kind e n = absurd (n.definition_list x0 refl)
inside-drawn text texts start end tight body.DefinitionListTitle kind e n = absurd (n.definition_list_title refl)
inside-drawn text texts start end tight (body.DefinitionListTitleOf x0) kind e n = absurd (n.definition_list_title_of x0 refl)
inside-drawn text texts start end tight (body.DefinitionListDefinition x0) kind e n = absurd (n.definition_list_definition x0 refl)
inside-drawn text texts start end tight (body.AttributedHeading x0 x1) kind e n = absurd (n.attributed_heading x0 x1 refl)
inside-drawn text texts start end tight (body.FencedCodeBlock x0) kind e n = absurd (n.fenced_code_block x0 refl)
inside-drawn text texts start end tight (body.Table x0) kind e n = absurd (n.table x0 refl)
inside-drawn text texts start end tight (body.FootnoteDefinition x0) kind e n = absurd (n.footnote_definition x0 refl)
inside-drawn text texts start end tight (body.SynthesizeText x0) kind e n = absurd (n.synthesize_text x0 refl)
inside-drawn text texts start end tight (body.SynthesizeChar x0) kind e n = absurd (n.synthesize_char x0 refl)
inside-drawn text texts start end tight (body.TaskListMarker x0) kind e n = absurd (n.task_list_marker x0 refl)
inside-drawn text texts start end tight body.TightParagraph kind e n = ap (λ k. read_as (kind_within tight k)) (same_Some document.TightParagraph kind e)
inside-drawn text texts start end tight _ kind e n = absurd (let q : None ≡ Some kind = e in cc)

pub other-inside : (text : List ℕ) (texts : List CowStr) (item : Item) (tight : Bool) (node : BlockNode) → Drawn text texts item node → IsOther item.body → reads.Inside ≡ read_as (kind_within tight node.kind)
other-inside text texts item tight node d n = inside-drawn text texts item.start item.end tight item.body node.kind (within-kind item.start item.end node (kind_over text texts item.start item.end (shape item.body)) d.shown) n

-- ## The next event is not an end

owned : (b : ItemBody) → is_long b ≡ true → task_body b ≡ None → OwnsText b
owned (body.TaskListMarker is_checked) l t = absurd (let q : Some is_checked ≡ None = t in cc)
owned (body.SynthesizeText x) l t = inl refl
owned (body.SynthesizeChar x) l t = inl refl
owned _ l t = inr l

long-otherwise : (walk : Walk) (item : Item) → is_long item.body ≡ true → NotInside walk item
long-otherwise walk item long = go (task_body item.body) refl
  where
    go : (task : Option Bool) → task_body item.body ≡ task → NotInside walk item
    go None e = owns-otherwise walk item (owned item.body long e)
    go (Some is_checked) e = task-otherwise walk item is_checked e

entry-in : (walk : Walk) (ix : TreeIndex) (right : Forest (Placed Item)) → Stands (entry_at walk.tree) right → focus_of right ≡ Some ix → (e : Entry Item) × (entry_at walk.tree ix.ix ≡ Some e)
entry-in walk ix Nil st f = absurd (let q : None ≡ Some ix = f in cc)
entry-in walk ix (Node p f g) st fo =
    let entry : Entry Item = record { item = p.item; child = first f; next = first g } in
    (entry, subst (λ k. entry_at walk.tree k ≡ Some entry) (ap (λ k. k.ix) (same_Some (record { ix = p.ix }) ix fo)) st.0)

pub long-no-end : (walk : Walk) → IsLong walk → NoEndIsNext walk
long-no-end walk l = go walk.stage refl l.1.long
  where
    at : IsAt walk l.0
    at = l.1.at

    go : (now : Stage) → walk.stage ≡ now → IsLongFrom now walk l.0 → NoEndIsNext walk
    go stage.Before now long =
        let e = entry-in walk l.0 at.0.1.z.right (in_right walk.tree.nodes walk.tree.first at.0.1.z at.0.1.stands.below.holds.forest) (at.1 at.0.1.z at.0.1.stands.below.holds) in
        before-otherwise walk e.0.item l.0 walk.tree at.1 (λ other has. ap (λ (x : Entry Item). x.item) (same_Some e.0 other (sym e.1 ∙ has))) now (long-otherwise walk e.0.item (long e.0 e.1))
    go (stage.Marked is_checked start end) now long = λ left r m.
        no-end (left_from (stage.Marked is_checked start end) r.here r.above) (λ tag e. let q : event.TaskListMarker is_checked ≡ event.End tag = e in cc) (subst MayBeginWithEnd (left-staged walk (stage.Marked is_checked start end) left now r) m)
    go (stage.Listed is_checked start end) now long = listed-otherwise walk is_checked start end now
    go _ now long = absurd long
