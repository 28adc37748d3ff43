-- The path of a walk, read from its innermost node outwards.
use Rattle.std.proofs.Common.{◌≡◌, ◌⊎◌, inl, inr, ℕ, Bool, false, List, [], ◌∷◌, ◌++◌, Option, Some, None, option_map, length, length-append, arith, refl, sym, ap, ◌∙◌, subst}
use Rattle.cmark_tree.specs.declared.tree_index.TreeIndex.{TreeIndex}
use Rattle.cmark_tree.specs.Forest.{Forest, Node, join}
use Rattle.cmark_tree.specs.Arena.{Entry, first, Stands, Placed}
use Rattle.cmark_tree.specs.Zip.{Level, Zip, plug, siblings}
use Rattle.cmark_tree.specs.Tree.{entry_at, HasNode, spine_of}
use Rattle.cmark_tree.proofs.StandsLemmas.{Stands-inner, Stands-right}
use Rattle.cmark_tree.proofs.Entries.{node_at-within}
use Rattle.std.proofs.lemmas.List.{same_from_push}
use Rattle.std.proofs.lemmas.Option.{same_Some}
use Rattle.std.specs.Char.{encode_utf8}
use Rattle.cmark_values.specs.declared.text.CowStr.{CowStr}
use Rattle.cmark_values.specs.Shown.{level_number, shown_block_quote_kind, shown_metadata_block_kind}
use Rattle.cmark_grammar.specs.Attributes.{no_attributes, attributes_of}
use Rattle.cmark_grammar.specs.Tokens.{slice}
use Rattle.cmark_grammar.specs.BlockDocument as document
use Rattle.cmark_grammar.specs.BlockDocument.{BlockKind, BlockNode}
use Rattle.cmark_block_model.specs.Tightness.{tight_within}
use Rattle.cmark_items.specs.declared.item.Item.{Item}
use Rattle.cmark_items.specs.declared.item.ItemBody.{ItemBody}
use Rattle.cmark_items.specs.declared.list_flags.ListFlags.{ListFlags}
use Rattle.cmark_items.specs.declared.item.ItemBody.TheVariants as body
use Rattle.cmark_grammar.specs.Tables.{delimiter_row}
use Rattle.cmark_items.specs.ItemNodes.{is_tight, list_number, columns_of, text_at, ranged, kind_over, shape}
use Rattle.cmark_block_walk.specs.declared.walk.Walk.{Walk}
use Rattle.cmark_block_walk.specs.Walking.{Outer, DrawsAbove, StandsBelow, tight_below, texts_of, Drawn}

-- a node of the tree has this item
abbrev pub HasItem : Walk → ℕ → Item → Type 0
HasItem walk ix item = (e : Entry Item) × (entry_at walk.tree ix ≡ Some e) × (e.item ≡ item)

abbrev pub StandsUp : Walk → List (Level Item) → Type 0
StandsUp walk [] = Unit {0}
StandsUp walk (v ∷ up) = HasItem walk v.place.ix v.place.item × StandsUp walk up

stands-up : (walk : Walk) (up : List (Level Item)) (f : Forest (Placed Item)) → Stands (entry_at walk.tree) (plug up f) → StandsUp walk up
stands-up walk [] f st = tt
stands-up walk (v ∷ up) f st =
    let here = Stands-right (entry_at walk.tree) v.left (Node v.place f v.right) (Stands-inner (entry_at walk.tree) up (join v.left (Node v.place f v.right)) st) in
    ((record { item = v.place.item; child = first f; next = first v.right }, here.0, refl), stands-up walk up (join v.left (Node v.place f v.right)) st)

-- the path from here outwards determines whether paragraphs are tight
pub record TightFrom (walk : Walk) (rest : List TreeIndex) (above : List Outer) : Type 0 where
  pub up : List (Level Item)
  pub outer : List Outer
  pub spine : rest ≡ spine_of up
  pub draws : DrawsAbove walk.text.now (texts_of walk) up outer
  pub stands : StandsUp walk up
  pub same : tight_below above ≡ tight_below outer

pub tight-from : (walk : Walk) (rest : List TreeIndex) (z : Zip Item) (above : List Outer) → rest ≡ spine_of z.up → StandsBelow walk z above → TightFrom walk rest above
tight-from walk rest z above e b = record {
  up = z.up;
  outer = above;
  spine = e;
  draws = b.draws_above;
  stands = stands-up walk z.up (siblings z) b.holds.forest.stands;
  same = refl;
}

-- the innermost node that is left of a path
pub record Innermost (walk : Walk) (rest : List TreeIndex) (ix : TreeIndex) (above : List Outer) : Type 0 where
  pub place : Placed Item
  pub up : List (Level Item)
  pub node : Outer
  pub outer : List Outer
  pub at : place.ix ≡ ix.ix
  pub spine : rest ≡ spine_of up
  pub drawn : Drawn walk.text.now (texts_of walk) place.item node.node
  pub draws : DrawsAbove walk.text.now (texts_of walk) up outer
  pub has : HasItem walk place.ix place.item
  pub stands : StandsUp walk up
  pub same : tight_below above ≡ tight_within (tight_below outer) node.node.kind

innermost-of : (walk : Walk) (rest : List TreeIndex) (ix : TreeIndex) (above : List Outer) (up : List (Level Item)) (outer : List Outer) → rest ++ ix ∷ [] ≡ spine_of up → DrawsAbove walk.text.now (texts_of walk) up outer → StandsUp walk up → tight_below above ≡ tight_below outer → Innermost walk rest ix above
innermost-of walk [] ix above [] outer e d st s = absurd (let q : ix ∷ [] ≡ [] = e in cc)
innermost-of walk (r ∷ rest) ix above [] outer e d st s = absurd (let q : r ∷ (rest ++ ix ∷ []) ≡ [] = e in cc)
innermost-of walk rest ix above (v ∷ up) [] e d st s = absurd d
innermost-of walk rest ix above (v ∷ up) (o ∷ outer) e d st s =
    let last = same_from_push rest (spine_of up) ix (record { ix = v.place.ix }) e in
    record { place = v.place; up = up; node = o; outer = outer; at = sym (ap (λ k. k.ix) last.1); spine = last.0; drawn = d.0; draws = d.2; has = st.0; stands = st.1; same = s }

pub innermost : (walk : Walk) (whole rest : List TreeIndex) (ix : TreeIndex) (above : List Outer) → whole ≡ rest ++ ix ∷ [] → TightFrom walk whole above → Innermost walk rest ix above
innermost walk whole rest ix above e t = innermost-of walk rest ix above t.up t.outer (sym e ∙ t.spine) t.draws t.stands t.same

pub innermost-node : (walk : Walk) (rest : List TreeIndex) (ix : TreeIndex) (above : List Outer) → Innermost walk rest ix above → HasNode walk.tree ix.ix
innermost-node walk rest ix above m = subst (λ k. HasNode walk.tree k) m.at (node_at-within walk.tree.nodes m.place.ix m.has.0 m.has.1)

-- the item that is read there
innermost-item : (walk : Walk) (rest : List TreeIndex) (ix : TreeIndex) (above : List Outer) (item : Item) (m : Innermost walk rest ix above) → ((e : Entry Item) → entry_at walk.tree ix.ix ≡ Some e → item ≡ e.item) → Drawn walk.text.now (texts_of walk) item m.node.node
innermost-item walk rest ix above item m i =
    subst (λ k. Drawn walk.text.now (texts_of walk) k m.node.node) (sym (i m.has.0 (subst (λ k. entry_at walk.tree k ≡ Some m.has.0) m.at m.has.1) ∙ m.has.2)) m.drawn

-- whether the content of an item is in items or definitions of a tight list, or directly in one
abbrev pub body_within : Bool → ItemBody → Bool
body_within tight (body.List flags delimiter number) = is_tight flags
body_within tight (body.ListItem width) = tight
body_within tight (body.DefinitionList flags) = is_tight flags
body_within tight (body.DefinitionListDefinition width) = tight
body_within tight _ = false

pub within-kind : (start end : ℕ) (node : BlockNode) (kind : Option BlockKind) → option_map (ranged start end) kind ≡ Some node → kind ≡ Some node.kind
within-kind start end node None e = absurd (let q : None ≡ Some node = e in cc)
within-kind start end node (Some k) e = ap Some (ap (λ n. n.kind) (same_Some (ranged start end k) node e))

-- a fence or an owned text has a kind with some bytes
pub spelt-kind : (make : List ℕ → BlockKind) (bytes : Option (List ℕ)) (kind : BlockKind) → option_map make bytes ≡ Some kind → (b : List ℕ) × (make b ≡ kind)
spelt-kind make None kind e = absurd (let q : None ≡ Some kind = e in cc)
spelt-kind make (Some b) kind e = (b, same_Some (make b) kind e)

kind-within : (text : List ℕ) (texts : List CowStr) (start end : ℕ) (tight : Bool) (b : ItemBody) (kind : BlockKind) → kind_over text texts start end (shape b) ≡ Some kind → tight_within tight kind ≡ body_within tight b
kind-within text texts start end tight (body.SynthesizeText x0) kind e = ap (tight_within tight) (sym (spelt-kind document.OwnedText (text_at texts x0.0) kind e).1)
kind-within text texts start end tight (body.TaskListMarker x0) kind e = ap (tight_within tight) (sym (same_Some (document.TaskMarker x0) kind e))
kind-within text texts start end tight (body.SynthesizeChar x0) kind e = ap (tight_within tight) (sym (same_Some (document.OwnedText (encode_utf8 x0)) kind e))
kind-within text texts start end tight body.Html kind e = ap (tight_within tight) (sym (same_Some (document.Html (slice text start end)) kind e))
kind-within text texts start end tight (body.Text x0) kind e = ap (tight_within tight) (sym (same_Some (document.Text (slice text start end)) kind e))
kind-within text texts start end tight body.Paragraph kind e = ap (tight_within tight) (sym (same_Some document.Paragraph kind e))
kind-within text texts start end tight (body.ParagraphOf x0) kind e = ap (tight_within tight) (sym (same_Some document.Paragraph kind e))
kind-within text texts start end tight body.TightParagraph kind e = ap (tight_within tight) (sym (same_Some document.TightParagraph kind e))
kind-within text texts start end tight body.Rule kind e = ap (tight_within tight) (sym (same_Some document.ThematicBreak kind e))
kind-within text texts start end tight (body.Heading x0) kind e = ap (tight_within tight) (sym (same_Some (document.Heading (level_number x0) no_attributes) kind e))
kind-within text texts start end tight (body.AttributedHeading x0 x1) kind e = ap (tight_within tight) (sym (spelt-kind (λ words. document.Heading (level_number x0) (attributes_of words)) (text_at texts x1.0) kind e).1)
kind-within text texts start end tight (body.FencedCodeBlock x0) kind e = ap (tight_within tight) (sym (spelt-kind document.FencedCode (text_at texts x0.0) kind e).1)
kind-within text texts start end tight body.IndentCodeBlock kind e = ap (tight_within tight) (sym (same_Some document.IndentedCode kind e))
kind-within text texts start end tight body.HtmlBlock kind e = ap (tight_within tight) (sym (same_Some document.HtmlBlock kind e))
kind-within text texts start end tight (body.BlockQuote x0) kind e = ap (tight_within tight) (sym (same_Some (document.BlockQuote (option_map shown_block_quote_kind x0)) kind e))
kind-within text texts start end tight (body.List x0 x1 x2) kind e = ap (tight_within tight) (sym (same_Some (document.BlockList (list_number x1 x2) (is_tight x0)) kind e))
kind-within text texts start end tight (body.ListItem x0) kind e = ap (tight_within tight) (sym (same_Some document.ListItem kind e))
kind-within text texts start end tight (body.FootnoteDefinition x0) kind e = ap (tight_within tight) (sym (spelt-kind document.FootnoteDefinition (text_at texts x0.0) kind e).1)
kind-within text texts start end tight (body.MetadataBlock x0) kind e = ap (tight_within tight) (sym (same_Some (document.MetadataBlock (shown_metadata_block_kind x0)) kind e))
kind-within text texts start end tight (body.DefinitionList x0) kind e = ap (tight_within tight) (sym (same_Some (document.DefinitionList (is_tight x0)) kind e))
kind-within text texts start end tight body.DefinitionListTitle kind e = ap (tight_within tight) (sym (same_Some document.DefinitionListTitle kind e))
kind-within text texts start end tight (body.DefinitionListTitleOf x0) kind e = ap (tight_within tight) (sym (same_Some document.DefinitionListTitle kind e))
kind-within text texts start end tight (body.DefinitionListDefinition x0) kind e = ap (tight_within tight) (sym (same_Some document.DefinitionListDefinition kind e))
kind-within text texts start end tight (body.Table x0) kind e = ap (tight_within tight) (sym (spelt-kind (λ row. document.Table (columns_of (delimiter_row row))) (text_at texts x0.0) kind e).1)
kind-within text texts start end tight body.TableHead kind e = ap (tight_within tight) (sym (same_Some document.TableHead kind e))
kind-within text texts start end tight body.TableRow kind e = ap (tight_within tight) (sym (same_Some document.TableRow kind e))
kind-within text texts start end tight body.TableCell kind e = ap (tight_within tight) (sym (same_Some document.TableCell kind e))
kind-within text texts start end tight _ kind e = absurd (let q : None ≡ Some kind = e in cc)

pub drawn-within : (text : List ℕ) (texts : List CowStr) (item : Item) (node : BlockNode) (tight : Bool) → Drawn text texts item node → tight_within tight node.kind ≡ body_within tight item.body
drawn-within text texts item node tight d =
    kind-within text texts item.start item.end tight item.body node.kind (within-kind item.start item.end node (kind_over text texts item.start item.end (shape item.body)) d.shown)

-- the effect of the innermost node of a path
pub decided : (walk : Walk) (whole rest : List TreeIndex) (ix : TreeIndex) (above : List Outer) (item : Item) → whole ≡ rest ++ ix ∷ [] → TightFrom walk whole above → ((e : Entry Item) → entry_at walk.tree ix.ix ≡ Some e → item ≡ e.item) → (tight : Bool) × (tight_below above ≡ body_within tight item.body)
decided walk whole rest ix above item e t i =
    let m = innermost walk whole rest ix above e t in
    let d = innermost-item walk rest ix above item m i in
    (tight_below m.outer, m.same ∙ drawn-within walk.text.now (texts_of walk) item m.node.node (tight_below m.outer) d)

-- an item or a definition is in its list, whether or not that is tight
pub item-keeps : (b : ItemBody) → ((width : ℕ) × (b ≡ body.ListItem width)) ⊎ ((width : ℕ) × (b ≡ body.DefinitionListDefinition width)) → (tight : Bool) → body_within tight b ≡ tight
item-keeps b (inl i) tight = ap (body_within tight) i.1
item-keeps b (inr i) tight = ap (body_within tight) i.1

-- past an item or a definition, its own context decides
pub outwards : (walk : Walk) (whole rest : List TreeIndex) (ix : TreeIndex) (above : List Outer) (item : Item) → whole ≡ rest ++ ix ∷ [] → TightFrom walk whole above → ((e : Entry Item) → entry_at walk.tree ix.ix ≡ Some e → item ≡ e.item) → ((tight : Bool) → body_within tight item.body ≡ tight) → TightFrom walk rest above
outwards walk whole rest ix above item e t i keeps =
    let m = innermost walk whole rest ix above e t in
    let d = innermost-item walk rest ix above item m i in
    record {
      up = m.up;
      outer = m.outer;
      spine = m.spine;
      draws = m.draws;
      stands = m.stands;
      same = m.same ∙ drawn-within walk.text.now (texts_of walk) item m.node.node (tight_below m.outer) d ∙ keeps (tight_below m.outer);
    }

none-left : (walk : Walk) (above : List Outer) (up : List (Level Item)) (outer : List Outer) → [] ≡ spine_of up → DrawsAbove walk.text.now (texts_of walk) up outer → tight_below outer ≡ false
none-left walk above [] [] e d = refl
none-left walk above [] (o ∷ outer) e d = absurd d
none-left walk above (v ∷ up) outer e d = absurd (let q = ap length e ∙ length-append (spine_of up) (record { ix = v.place.ix } ∷ []) in omega (arith, q))

nothing-left : (rest : List TreeIndex) → length rest ≡ 0 → [] ≡ rest
nothing-left [] e = refl
nothing-left (r ∷ rest) e = absurd (omega (arith, e))

-- at the path's beginning nothing is tight
pub outermost : (walk : Walk) (rest : List TreeIndex) (above : List Outer) → length rest ≡ 0 → TightFrom walk rest above → tight_below above ≡ false
outermost walk rest above n t = t.same ∙ none-left walk above t.up t.outer (nothing-left rest n ∙ t.spine) t.draws

-- a node that is neither a list nor an item is not tight
pub not-within : (tight : Bool) (b : ItemBody) → ((flags : ListFlags) (delimiter number : ℕ) → b ≡ body.List flags delimiter number → ⊥) → ((flags : ListFlags) → b ≡ body.DefinitionList flags → ⊥) → ((width : ℕ) → b ≡ body.ListItem width → ⊥) → ((width : ℕ) → b ≡ body.DefinitionListDefinition width → ⊥) → body_within tight b ≡ false
not-within tight (body.List x0 x1 x2) l d i j = absurd (l x0 x1 x2 refl)
not-within tight (body.ListItem x0) l d i j = absurd (i x0 refl)
not-within tight (body.DefinitionList x0) l d i j = absurd (d x0 refl)
not-within tight (body.DefinitionListDefinition x0) l d i j = absurd (j x0 refl)
not-within tight _ l d i j = refl
