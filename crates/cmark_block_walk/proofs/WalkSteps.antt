-- One step of a walk over a document's tree.
use Rattle.std.proofs.Common.{◌≡◌, ℕ, Bool, true, false, true≢false, List, [], ◌∷◌, ◌++◌, Option, Some, None, Result, Ok, Err, IfOk, OnErr, option_map, refl, sym, ap, ◌∙◌, subst, append_assoc}
use Rattle.std.proofs.lemmas.Option.{same_Some}
use Rattle.cmark_tree.specs.declared.tree.Tree.{Tree}
use Rattle.cmark_tree.specs.declared.tree_index.TreeIndex.{TreeIndex}
use Rattle.cmark_tree.specs.Forest.{Forest, Nil, Node, join, one}
use Rattle.cmark_tree.specs.Arena.{Entry, first, Stands, Placed}
use Rattle.cmark_tree.specs.Zip.{Zip, pushed, push_to, past, Sibling, HasFocus, IsFocus}
use Rattle.cmark_tree.specs.Tree.{entry_at, Holds, HasNode, IsUnchanged, focus_of}
use Rattle.cmark_tree.proofs.Building.{Holds-unchanged}
use Rattle.cmark_tree.proofs.Steps.{in_right}
use Rattle.cmark_tree.proofs.Entries.{node_at-within}
use Rattle.cmark_values.specs.declared.text.CowStr.{CowStr}
use Rattle.cmark_text.specs.declared.event.Event.{Event as TextEvent}
use Rattle.cmark_text.specs.Shown.{shown}
use Rattle.cmark_grammar.specs.Tag as tag
use Rattle.cmark_grammar.specs.TagEnd.{end_of}
use Rattle.cmark_grammar.specs.Event as event
use Rattle.cmark_grammar.specs.BlockDocument as document
use Rattle.cmark_grammar.specs.BlockDocument.{BlockKind, BlockNode, BlockDocument}
use Rattle.cmark_grammar.specs.BlockReading as reads
use Rattle.cmark_grammar.specs.BlockReading.{Reads, read_as, over, first_event, starts_before}
use Rattle.cmark_block_model.specs.DrawnDocument.{kind_within, settled}
use Rattle.cmark_grammar.specs.SpanDocuments.{Segment, Given, Content, is_leaf, leaf_of, inside_of, node_segments, first_of_segments, with_first_segment, segments}
use Rattle.cmark_block_model.specs.Ranges.{InOrder}
use Rattle.cmark_block_model.specs.Tightness.{tight_within}
use Rattle.cmark_items.specs.declared.item.Item.{Item}
use Rattle.cmark_items.specs.declared.item.ItemBody.{ItemBody}
use Rattle.cmark_items.specs.declared.item.ItemBody.TheVariants as body
use Rattle.cmark_items.specs.ItemNodes.{ranged, kind_over, shape}
use Rattle.cmark_text.specs.Ranged.{shown_ranged}
use Rattle.cmark_text.specs.declared.ranged.Ranged.{Ranged}
use Rattle.cmark_block_walk.specs.declared.walk.Walk.{Walk}
use Rattle.cmark_block_walk.specs.declared.reading.Stage.{Stage}
use Rattle.cmark_block_walk.specs.declared.reading.Stage.TheVariants as stage
use Rattle.cmark_block_walk.specs.Reads.{tag_in}
use Rattle.cmark_block_walk.specs.Walking.{Drawn, Draws, DrawsInside, IsOneText, own_text_end, Outer, StandsBelow, StandsAt, Remains, Goes, GivesRanged, IsFirst, IsAt, IsElement, IsStaged, left_from, left_above, leaving, tight_below, text_of, texts_of, definitions_of}
use Rattle.cmark_block_walk.proofs.LeafKinds.{leaf-within, inside-leaf, inside-block, settled-leaf, only-leaves-inside}

-- the walk with its tree in another place
abbrev pub moved : Walk → Tree Item → Walk
moved walk t = record { text = walk.text; tree = t; allocations = walk.allocations; alloc = walk.alloc; stage = walk.stage }

-- the walk further on at its focus
abbrev pub staged : Walk → Stage → Walk
staged walk stage = record { text = walk.text; tree = walk.tree; allocations = walk.allocations; alloc = walk.alloc; stage = stage }

abbrev pub at_range : event.Event → Item → event.Ranged
at_range e item = record { event = e; start = item.start; end = item.end }

range-of : (start end : ℕ) (kind : Option BlockKind) (node : BlockNode) → option_map (ranged start end) kind ≡ Some node → (node.start ≡ start) × (node.end ≡ end)
range-of start end None node e = absurd (let q : None ≡ Some node = e in cc)
range-of start end (Some k) node e = let q = same_Some (ranged start end k) node e in (sym (ap (λ n. n.start) q), sym (ap (λ n. n.end) q))

pub range-of-item : (text : List ℕ) (texts : List CowStr) (item : Item) (node : BlockNode) → Drawn text texts item node → (node.start ≡ item.start) × (node.end ≡ item.end)
range-of-item text texts item node d = range-of item.start item.end (kind_over text texts item.start item.end (shape item.body)) node d.shown

pub over-range : (text : List ℕ) (texts : List CowStr) (item : Item) (node : BlockNode) (e : event.Event) → Drawn text texts item node → over node e ≡ at_range e item
over-range text texts item node e d =
    let r = range-of-item text texts item node d in
    ap (λ s. record { event = e; start = s; end = node.end }) r.0 ∙ ap (λ s. record { event = e; start = item.start; end = s }) r.1

-- before a node of the document
pub record Focus (walk : Walk) (item : Item) (ix : TreeIndex) (z : Zip Item) (here : BlockDocument) : Type 0 where
  pub place : Placed Item
  pub inner : Forest (Placed Item)
  pub later : Forest (Placed Item)
  pub node : BlockNode
  pub inside : BlockDocument
  pub after : BlockDocument
  pub right_is : z.right ≡ Node place inner later
  pub here_is : here ≡ document.Node node inside after
  pub at : place.ix ≡ ix.ix
  pub drawn_place : Drawn walk.text.now (texts_of walk) place.item node
  pub item_is : item ≡ place.item
  pub drawn : Drawn walk.text.now (texts_of walk) item node
  pub draws_inside : DrawsInside walk.text.now item.start (own_text_end item.body) (Draws walk.text.now (texts_of walk) inner inside) inside
  pub in_order : InOrder node.start inside node.end
  pub draws_after : Draws walk.text.now (texts_of walk) later after

abbrev pub IsItem : Tree Item → TreeIndex → Item → Type 0
IsItem t ix item = (e : Entry Item) → entry_at t ix.ix ≡ Some e → item ≡ e.item

focus-split : (walk : Walk) (item : Item) (ix : TreeIndex) (z : Zip Item) (right : Forest (Placed Item)) (here : BlockDocument) → z.right ≡ right → Stands (entry_at walk.tree) right → Draws walk.text.now (texts_of walk) right here → focus_of right ≡ Some ix → IsItem walk.tree ix item → Focus walk item ix z here
focus-split walk item ix z Nil here r st d f i = absurd (let q : None ≡ Some ix = f in cc)
focus-split walk item ix z (Node p f g) document.Nil r st d fo i = absurd d
focus-split walk item ix z (Node p f g) (document.Node node inside after) r st d fo i =
    let same = ap (λ k. k.ix) (same_Some (record { ix = p.ix }) ix fo) in
    let read = i (record { item = p.item; child = first f; next = first g }) (subst (λ k. entry_at walk.tree k ≡ Some (record { item = p.item; child = first f; next = first g })) same st.0) in
    record {
      place = p;
      inner = f;
      later = g;
      node = node;
      inside = inside;
      after = after;
      right_is = r;
      here_is = refl;
      at = same;
      drawn_place = d.0;
      item_is = read;
      drawn = subst (λ k. Drawn walk.text.now (texts_of walk) k node) (sym read) d.0;
      draws_inside = subst (λ k. DrawsInside walk.text.now k.start (own_text_end k.body) (Draws walk.text.now (texts_of walk) f inside) inside) (sym read) d.1;
      in_order = d.3;
      draws_after = d.2;
    }

pub focus : (walk : Walk) (item : Item) (ix : TreeIndex) (z : Zip Item) (here : BlockDocument) (above : List Outer) → StandsAt walk z here above → focus_of z.right ≡ Some ix → IsItem walk.tree ix item → Focus walk item ix z here
focus walk item ix z here above s f i = focus-split walk item ix z z.right here refl (in_right walk.tree.nodes walk.tree.first z s.below.holds.forest) s.draws f i

-- only a leaf has a text of its own
kind-below : (text : List ℕ) (texts : List CowStr) (start end : ℕ) (b : ItemBody) (kind : BlockKind) → kind_over text texts start end (shape b) ≡ Some kind → is_leaf kind ≡ false → own_text_end b ≡ None
kind-below text texts start end (body.ParagraphOf text_end) kind e n = absurd (true≢false (ap is_leaf (same_Some document.Paragraph kind e) ∙ n))
kind-below text texts start end (body.DefinitionListTitleOf text_end) kind e n = absurd (true≢false (ap is_leaf (same_Some document.DefinitionListTitle kind e) ∙ n))
kind-below text texts start end _ kind e n = refl

kind-of-node : (start end : ℕ) (kind : Option BlockKind) (node : BlockNode) → option_map (ranged start end) kind ≡ Some node → kind ≡ Some node.kind
kind-of-node start end None node e = absurd (let q : None ≡ Some node = e in cc)
kind-of-node start end (Some k) node e = ap Some (ap (λ n. n.kind) (same_Some (ranged start end k) node e))

pub block-below : (text : List ℕ) (texts : List CowStr) (item : Item) (node : BlockNode) → Drawn text texts item node → is_leaf node.kind ≡ false → own_text_end item.body ≡ None
block-below text texts item node d n = kind-below text texts item.start item.end item.body node.kind (kind-of-node item.start item.end (kind_over text texts item.start item.end (shape item.body)) node d.shown) n

-- if there is none, the content is drawn below it
pub drawn-below : (text : List ℕ) (start : ℕ) (own : Option ℕ) (below : Type 0) (inside : BlockDocument) → own ≡ None → DrawsInside text start own below inside → below
drawn-below text start None below inside n d = d
drawn-below text start (Some text_end) below inside n d = absurd (let q : Some text_end ≡ None = n in cc)

-- and else it is one text
pub one-inside : (text : List ℕ) (start : ℕ) (own : Option ℕ) (text_end : ℕ) (below : Type 0) (inside : BlockDocument) → own ≡ Some text_end → DrawsInside text start own below inside → IsOneText text start text_end inside
one-inside text start None text_end below inside e d = absurd (let q : None ≡ Some text_end = e in cc)
one-inside text start (Some end) text_end below inside e d = subst (λ k. IsOneText text start k inside) (same_Some end text_end e) d

abbrev pub as_kind : BlockKind → BlockNode → BlockNode
as_kind kind node = record node { kind = kind }

-- the reading of a node, and then of others
abbrev pub read_with : Reads → (element : ℕ) → BlockNode → (I A : List Segment) → List Segment
read_with R z node I A = with_first_segment (first_event R) z node (node_segments R node I ++ A)

read-around : (tag : _) (k : BlockKind) (node : BlockNode) (I A L : List Segment) → (node_segments (reads.Around tag) (as_kind k node) I ++ A) ++ L ≡ Given (over node (event.Start tag)) ∷ (I ++ (leaving (reads.Around tag) node ++ (A ++ L)))
read-around tag k node I A L =
    ap (λ l. Given (over node (event.Start tag)) ∷ l) (append_assoc (I ++ (Given (over node (event.End (end_of tag))) ∷ [])) A L ∙ append_assoc I (Given (over node (event.End (end_of tag))) ∷ []) (A ++ L))

pub left-around : (tag : _) (R : Reads) (z : ℕ) (k : BlockKind) (node : BlockNode) (I A L : List Segment) → reads.Around tag ≡ R
    → read_with R z (as_kind k node) I A ++ L ≡ Given (over node (event.Start tag)) ∷ (I ++ (leaving R node ++ (A ++ L)))
left-around tag R z k node I A L e = subst (λ r. read_with r z (as_kind k node) I A ++ L ≡ Given (over node (event.Start tag)) ∷ (I ++ (leaving r node ++ (A ++ L)))) e (read-around tag k node I A L)

pub left-inside : (R : Reads) (z : ℕ) (k : BlockKind) (node : BlockNode) (I A L : List Segment) → reads.Inside ≡ R → read_with R z (as_kind k node) I A ++ L ≡ I ++ (leaving R node ++ (A ++ L))
left-inside R z k node I A L e = subst (λ r. read_with r z (as_kind k node) I A ++ L ≡ I ++ (leaving r node ++ (A ++ L))) e (append_assoc I A L)

pub left-alone : (ev : event.Event) (R : Reads) (z : ℕ) (k : BlockKind) (node : BlockNode) (I A L : List Segment) → reads.Alone ev ≡ R → read_with R z (as_kind k node) I A ++ L ≡ Given (over node ev) ∷ (A ++ L)
left-alone ev R z k node I A L e = subst (λ r. read_with r z (as_kind k node) I A ++ L ≡ Given (over node ev) ∷ (A ++ L)) e refl

pub left-first : (ev : event.Event) (R : Reads) (z : ℕ) (k : BlockKind) (node : BlockNode) (I A L : List Segment) → reads.First ev ≡ R → read_with R z (as_kind k node) I A ++ L ≡ first_of_segments z (Given (over node ev)) A ++ L
left-first ev R z k node I A L e = subst (λ r. read_with r z (as_kind k node) I A ++ L ≡ first_of_segments z (Given (over node ev)) A ++ L) e refl

-- a node that is read as its start, the events inside it and its end is an element
pub around-element : (tag : tag.Tag) (R : Reads) → reads.Around tag ≡ R → IsElement R
around-element tag R e = subst IsElement e tt

module _ (walk : Walk) (item : Item) (ix : TreeIndex) (t : Tree Item) where
  abbrev pub down : (z : Zip Item) (here : BlockDocument) → Focus walk item ix z here → Zip Item
  down z here f = record { left = Nil; right = f.inner; up = record { left = z.left; place = f.place; right = f.later } ∷ z.up }

  -- into the node
  pub into : (z : Zip Item) (here : BlockDocument) (above : List Outer) → StandsAt walk z here above → IsItem walk.tree ix item → (f : Focus walk item ix z here) → is_leaf f.node.kind ≡ false → IsElement (read_as (kind_within (tight_below above) f.node.kind))
      → ((z : Zip Item) → Holds walk.tree z → HasFocus z → Holds t (pushed z)) → StandsAt (moved walk t) (down z here f) f.inside (record { node = f.node; after = f.after } ∷ above)
  into z here above s i f block element push = record {
    below = record {
      holds = subst (λ r. Holds t (push_to z.left r z.up)) f.right_is (push z s.below.holds (subst IsFocus (sym f.right_is) tt));
      draws_above = (f.drawn_place, f.draws_after, s.below.draws_above);
      elements = (element, s.below.elements);
    };
    draws = drawn-below walk.text.now item.start (own_text_end item.body) (Draws walk.text.now (texts_of walk) f.inner f.inside) f.inside (block-below walk.text.now (texts_of walk) item f.node f.drawn block) f.draws_inside;
  }

  abbrev pub beyond : (z : Zip Item) (here : BlockDocument) → Focus walk item ix z here → Zip Item
  beyond z here f = record { left = join z.left (one f.place f.inner); right = f.later; up = z.up }

  -- past the node
  pub passed : (z : Zip Item) (here : BlockDocument) (above : List Outer) → StandsAt walk z here above → (f : Focus walk item ix z here) → ((z : Zip Item) (s : Sibling z ix.ix) → Holds walk.tree z → Holds t (past z ix.ix s)) → StandsAt (moved walk t) (beyond z here f) f.after above
  passed z here above s f next = record {
    below = record {
      holds = next z (record { left = z.left; place = f.place; inside = f.inner; after = f.later; split = ap (join z.left) f.right_is; at = f.at }) s.below.holds;
      draws_above = s.below.draws_above;
      elements = s.below.elements;
    };
    draws = f.draws_after;
  }

-- the event of a step, and the events that are left
pub gives-ranged : (e : TextEvent) (start end : ℕ) (given : Ranged) (left : List Segment) (walk : Walk) → GivesRanged e start end given → IsFirst left (record { event = shown e; start = start; end = end }) walk → IsFirst left (shown_ranged given) walk
gives-ranged e start end given left walk g f = (f.0, f.1 ∙ ap (λ x. Given x ∷ f.0) (sym g), f.2)

pub goes-after : (left : List Segment) (given : event.Ranged) (walk : Walk) → IsFirst left given walk → Goes walk
goes-after left given walk g = (g.0, g.2)

-- the events that are left at a stage
pub left-staged : (walk : Walk) (now : Stage) (left : List Segment) → walk.stage ≡ now → (r : Remains walk left) → left ≡ left_from now r.here r.above
left-staged walk now left e r = r.are ∙ ap (λ (k : Stage). left_from k r.here r.above) e

-- a walk that is in no leaf
pub remains-before : (walk : Walk) (left : List Segment) (z : Zip Item) (here : BlockDocument) (above : List Outer) → walk.stage ≡ stage.Before → StandsAt walk z here above → left ≡ left_from stage.Before here above → Remains walk left
remains-before walk left z here above e s are = record {
  z = z;
  here = here;
  above = above;
  stands = s;
  staged = subst (λ (k : Stage). IsStaged k here) (sym e) tt;
  are = are ∙ ap (λ (k : Stage). left_from k here above) (sym e);
}

abbrev pub Reads-at : Walk → Item → Reads → Type 0
Reads-at walk item R = (z : Zip Item) (above : List Outer) (node : BlockNode) → StandsBelow walk z above → Drawn walk.text.now (texts_of walk) item node → R ≡ read_as (kind_within (tight_below above) node.kind)

abbrev pub IsFocusAt : Walk → TreeIndex → Type 0
IsFocusAt walk ix = (z : Zip Item) → Holds walk.tree z → focus_of z.right ≡ Some ix

-- a node that is no leaf, and whether an item is one
abbrev pub Leaf-at : Walk → Item → Bool → Type 0
Leaf-at walk item b = (text : List ℕ) (texts : List CowStr) (node : BlockNode) → Drawn text texts item node → b ≡ is_leaf node.kind

module _ (walk : Walk) (item : Item) (ix : TreeIndex) (t : Tree Item) (at : IsFocusAt walk ix) (is : IsItem walk.tree ix item) (before : walk.stage ≡ stage.Before) where
  pub at-focus : (z : Zip Item) (here : BlockDocument) (above : List Outer) → StandsAt walk z here above → Focus walk item ix z here
  at-focus z here above s = focus walk item ix z here above s (at z s.below.holds) is

  -- the parts of the events that are left at the node
  abbrev kind_at : (above : List Outer) → BlockNode → BlockKind
  kind_at above node = kind_within (tight_below above) node.kind

  abbrev pub inside_at : (above : List Outer) → BlockNode → BlockDocument → List Segment
  inside_at above node inside =
      inside_of (kind_at above node) (settled (tight_within (tight_below above) node.kind) inside) (segments (settled (tight_within (tight_below above) node.kind) inside))

  abbrev after_at : (above : List Outer) → BlockDocument → List Segment
  after_at above after = segments (settled (tight_below above) after)

  abbrev pub element_at : (above : List Outer) → BlockDocument → ℕ
  element_at above after = starts_before (settled (tight_below above) after)

  pub before-node : (left : List Segment) (r : Remains walk left) (f : Focus walk item ix r.z r.here)
      → left ≡ read_with (read_as (kind_at r.above f.node)) (element_at r.above f.after) (as_kind (kind_at r.above f.node) f.node) (inside_at r.above f.node f.inside) (after_at r.above f.after) ++ left_above r.above
  before-node left r f = left-staged walk stage.Before left before r ∙ ap (λ h. left_from stage.Before h r.above) f.here_is

  no-leaf-inside : (above : List Outer) (node : BlockNode) (inside : BlockDocument) → is_leaf node.kind ≡ false → inside_at above node inside ≡ segments (settled (tight_within (tight_below above) node.kind) inside)
  no-leaf-inside above node inside e =
      inside-block (kind_at above node) (settled (tight_within (tight_below above) node.kind) inside) (segments (settled (tight_within (tight_below above) node.kind) inside)) (leaf-within (tight_below above) node.kind ∙ e)

  pub leaf-inside : (above : List Outer) (node : BlockNode) (inside : BlockDocument) → is_leaf node.kind ≡ true → inside_at above node inside ≡ Content (leaf_of node.kind inside) ∷ []
  leaf-inside above node inside e =
      inside-leaf (kind_at above node) (settled (tight_within (tight_below above) node.kind) inside) (segments (settled (tight_within (tight_below above) node.kind) inside)) (leaf-within (tight_below above) node.kind ∙ e)
      ∙ ap (λ leaf. Content leaf ∷ []) (settled-leaf (tight_below above) node.kind (tight_within (tight_below above) node.kind) inside)

  pub enters-around-as : (tag : tag.Tag) → Reads-at walk item (reads.Around tag) → Leaf-at walk item false → ((z : Zip Item) → Holds walk.tree z → HasFocus z → Holds t (pushed z))
      → (left : List Segment) → Remains walk left → IsFirst left (at_range (event.Start tag) item) (moved walk t)
  enters-around-as tag read leaf push left r =
      let f = at-focus r.z r.here r.above r.stands in
      let at-node = read r.z r.above f.node r.stands.below f.drawn in
      let block : is_leaf f.node.kind ≡ false = sym (leaf walk.text.now (texts_of walk) f.node f.drawn) in
      let below : List Outer = record { node = f.node; after = f.after } ∷ r.above in
      let rest : List Segment = leaving (read_as (kind_at r.above f.node)) f.node ++ (after_at r.above f.after ++ left_above r.above) in (
        left_from stage.Before f.inside below,
        before-node left r f
            ∙ left-around tag (read_as (kind_at r.above f.node)) (element_at r.above f.after) (kind_at r.above f.node) f.node (inside_at r.above f.node f.inside) (after_at r.above f.after) (left_above r.above) at-node
            ∙ ap (λ I. Given (over f.node (event.Start tag)) ∷ (I ++ rest)) (no-leaf-inside r.above f.node f.inside block)
            ∙ ap (λ x. Given x ∷ left_from stage.Before f.inside below) (over-range walk.text.now (texts_of walk) item f.node (event.Start tag) f.drawn),
        remains-before (moved walk t) (left_from stage.Before f.inside below) (down walk item ix t r.z r.here f) f.inside below before (into walk item ix t r.z r.here r.above r.stands is f block (around-element tag (read_as (kind_at r.above f.node)) at-node) push) refl,
      )

  -- before the lines of a leaf
  at-lines : (left : List Segment) (r : Remains walk left) (f : Focus walk item ix r.z r.here) → is_leaf f.node.kind ≡ true → Remains (staged walk stage.Lines) (left_from stage.Lines r.here r.above)
  at-lines left r f e = record {
    z = r.z;
    here = r.here;
    above = r.above;
    stands = record { below = record { holds = r.stands.below.holds; draws_above = r.stands.below.draws_above; elements = r.stands.below.elements }; draws = r.stands.draws };
    staged = subst (λ h. IsStaged stage.Lines h) (sym f.here_is) e;
    are = refl;
  }

  pub lines-left : (left : List Segment) (r : Remains walk left) (f : Focus walk item ix r.z r.here)
      → Content (leaf_of f.node.kind f.inside) ∷ (leaving (read_as (kind_at r.above f.node)) f.node ++ (after_at r.above f.after ++ left_above r.above)) ≡ left_from stage.Lines r.here r.above
  lines-left left r f =
      ap (λ l. Content (leaf_of f.node.kind f.inside) ∷ l) (sym (append_assoc (leaving (read_as (kind_at r.above f.node)) f.node) (after_at r.above f.after) (left_above r.above)))
      ∙ ap (λ h. left_from stage.Lines h r.above) (sym f.here_is)

  pub enters-leaf-as : (tag : tag.Tag) → Reads-at walk item (reads.Around tag) → Leaf-at walk item true → (left : List Segment) → Remains walk left → IsFirst left (at_range (event.Start tag) item) (staged walk stage.Lines)
  enters-leaf-as tag read leaf left r =
      let f = at-focus r.z r.here r.above r.stands in
      let at-node = read r.z r.above f.node r.stands.below f.drawn in
      let is-leaf : is_leaf f.node.kind ≡ true = sym (leaf walk.text.now (texts_of walk) f.node f.drawn) in
      let rest : List Segment = leaving (read_as (kind_at r.above f.node)) f.node ++ (after_at r.above f.after ++ left_above r.above) in (
        left_from stage.Lines r.here r.above,
        before-node left r f
            ∙ left-around tag (read_as (kind_at r.above f.node)) (element_at r.above f.after) (kind_at r.above f.node) f.node (inside_at r.above f.node f.inside) (after_at r.above f.after) (left_above r.above) at-node
            ∙ ap (λ I. Given (over f.node (event.Start tag)) ∷ (I ++ rest)) (leaf-inside r.above f.node f.inside is-leaf)
            ∙ ap (λ l. Given (over f.node (event.Start tag)) ∷ l) (lines-left left r f)
            ∙ ap (λ x. Given x ∷ left_from stage.Lines r.here r.above) (over-range walk.text.now (texts_of walk) item f.node (event.Start tag) f.drawn),
        at-lines left r f is-leaf,
      )

  pub enters-inside : Reads-at walk item reads.Inside → (left : List Segment) → Remains walk left → Remains (staged walk stage.Lines) left
  enters-inside read left r =
      let f = at-focus r.z r.here r.above r.stands in
      let at-node = read r.z r.above f.node r.stands.below f.drawn in
      let is-leaf : is_leaf f.node.kind ≡ true = sym (leaf-within (tight_below r.above) f.node.kind) ∙ only-leaves-inside (kind_at r.above f.node) at-node in
      let rest : List Segment = leaving (read_as (kind_at r.above f.node)) f.node ++ (after_at r.above f.after ++ left_above r.above) in
      subst (Remains (staged walk stage.Lines))
      (sym
      (before-node left r f ∙ left-inside (read_as (kind_at r.above f.node)) (element_at r.above f.after) (kind_at r.above f.node) f.node (inside_at r.above f.node f.inside) (after_at r.above f.after) (left_above r.above) at-node
      ∙ ap (λ I. I ++ rest) (leaf-inside r.above f.node f.inside is-leaf) ∙ lines-left left r f))
      (at-lines left r f is-leaf)

  pub passes-alone-as : (e : event.Event) → Reads-at walk item (reads.Alone e) → ((z : Zip Item) (s : Sibling z ix.ix) → Holds walk.tree z → Holds t (past z ix.ix s))
      → (left : List Segment) → Remains walk left → IsFirst left (at_range e item) (moved walk t)
  passes-alone-as e read next left r =
      let f = at-focus r.z r.here r.above r.stands in
      let at-node = read r.z r.above f.node r.stands.below f.drawn in (
        left_from stage.Before f.after r.above,
        before-node left r f ∙ left-alone e (read_as (kind_at r.above f.node)) (element_at r.above f.after) (kind_at r.above f.node) f.node (inside_at r.above f.node f.inside) (after_at r.above f.after) (left_above r.above) at-node
            ∙ ap (λ x. Given x ∷ left_from stage.Before f.after r.above) (over-range walk.text.now (texts_of walk) item f.node e f.drawn),
        remains-before (moved walk t) (left_from stage.Before f.after r.above) (beyond walk item ix t r.z r.here f) f.after r.above before (passed walk item ix t r.z r.here r.above r.stands f next) refl,
      )

-- the requirements of the calls of a step
module _ (walk : Walk) (item : Item) (ix : TreeIndex) (at : IsFocusAt walk ix) (is : IsItem walk.tree ix item) where
  pub at-item : (z : Zip Item) (here : BlockDocument) (above : List Outer) → StandsAt walk z here above → Focus walk item ix z here
  at-item z here above s = focus walk item ix z here above s (at z s.below.holds) is

  pub is-drawn : Goes walk → (node : BlockNode) × Drawn walk.text.now (texts_of walk) item node
  is-drawn g = let f = at-item g.1.z g.1.here g.1.above g.1.stands in (f.node, f.drawn)

  pub has-focus : Goes walk → (z : Zip Item) × Holds walk.tree z × HasFocus z
  has-focus g = let f = at-item g.1.z g.1.here g.1.above g.1.stands in (g.1.z, g.1.stands.below.holds, subst IsFocus (sym f.right_is) tt)

-- the focus is a node of the tree
focus-number : (walk : Walk) (ix : TreeIndex) (right : Forest (Placed Item)) → Stands (entry_at walk.tree) right → focus_of right ≡ Some ix → HasNode walk.tree ix.ix
focus-number walk ix Nil st f = absurd (let q : None ≡ Some ix = f in cc)
focus-number walk ix (Node p inner later) st f =
    subst (λ k. HasNode walk.tree k) (ap (λ k. k.ix) (same_Some (record { ix = p.ix }) ix f)) (node_at-within walk.tree.nodes p.ix (record { item = p.item; child = first inner; next = first later }) st.0)

pub focus-node : (walk : Walk) (ix : TreeIndex) → IsAt walk ix → HasNode walk.tree ix.ix
focus-node walk ix a = focus-number walk ix a.0.1.z.right (in_right walk.tree.nodes walk.tree.first a.0.1.z a.0.1.stands.below.holds.forest) (a.1 a.0.1.z a.0.1.stands.below.holds)

pub ok-then : {A E : Type 0} (r : Result A E) (P Q : A → Type 0) → ((a : A) → P a → Q a) → IfOk r P → IfOk r Q
ok-then (Ok a) P Q h p = h a p
ok-then (Err e) P Q h p = tt

pub on-err : {A E : Type 0} (r : Result A E) (P : Type 0) → P → OnErr r P
on-err (Ok a) P p = tt
on-err (Err e) P p = p

-- a walk whose tree did not change
pub unchanged-remains : (walk : Walk) (t : Tree Item) → IsUnchanged walk.tree t → (left : List Segment) → Remains walk left → Remains (moved walk t) left
unchanged-remains walk t u left r = record {
  z = r.z;
  here = r.here;
  above = r.above;
  stands = record { below = record { holds = Holds-unchanged walk.tree t r.z u r.stands.below.holds; draws_above = r.stands.below.draws_above; elements = r.stands.below.elements }; draws = r.stands.draws };
  staged = r.staged;
  are = r.are;
}

pub tag-around : (tag : _) (R : Reads) → Some tag ≡ tag_in R → reads.Around tag ≡ R
tag-around tag (reads.Around t) e = ap reads.Around (same_Some tag t e)
tag-around tag _ e = absurd (let q : Some tag ≡ None = e in cc)

-- the facts that last while steps give nothing
pub record Lasts (old walk : Walk) : Type 0 where
  pub remains : (left : List Segment) → Remains old left → Remains walk left
  pub goes : Goes walk
  pub definitions : definitions_of walk ≡ definitions_of old
  pub text : text_of walk ≡ text_of old
