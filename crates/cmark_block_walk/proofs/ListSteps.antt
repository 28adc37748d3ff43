-- A definition list whose first title has a task marker before it, and a step into it.
use Rattle.std.proofs.Common.{◌≡◌, if◌then◌else◌, ℕ, Bool, false, true, List, ◌∷◌, ◌++◌, Option, Some, None, refl, sym, ap, ◌∙◌, subst, append_assoc}
use Rattle.std.proofs.lemmas.Option.{same_Some}
use Rattle.cmark_tree.specs.declared.tree.Tree.{Tree}
use Rattle.cmark_tree.specs.declared.tree_index.TreeIndex.{TreeIndex}
use Rattle.cmark_tree.specs.Forest.{Forest, Nil, Node}
use Rattle.cmark_tree.specs.Arena.{Entry, Placed, first, Stands}
use Rattle.cmark_tree.specs.Zip.{Zip, pushed, HasFocus}
use Rattle.cmark_tree.specs.Tree.{Holds, HasNode, entry_at, focus_of}
use Rattle.cmark_tree.proofs.Steps.{in_right}
use Rattle.cmark_values.specs.declared.text.CowStr.{CowStr}
use Rattle.cmark_grammar.specs.Event as event
use Rattle.cmark_grammar.specs.Tag as tag
use Rattle.cmark_grammar.specs.TagEnd.{end_of}
use Rattle.cmark_grammar.specs.BlockDocument as document
use Rattle.cmark_grammar.specs.BlockDocument.{BlockKind, BlockNode, BlockDocument}
use Rattle.cmark_grammar.specs.BlockReading.{read_as, over, begins_title, is_title}
use Rattle.cmark_block_model.specs.DrawnDocument.{kind_within, settled}
use Rattle.cmark_grammar.specs.LeafText.{Leaf}
use Rattle.cmark_grammar.specs.SpanDocuments.{Segment, Given, Content, is_leaf, leaf_of, first_of_segments, segments}
use Rattle.cmark_block_model.specs.Tightness.{tight_within}
use Rattle.cmark_items.specs.declared.item.Item.{Item}
use Rattle.cmark_block_walk.specs.declared.walk.Walk.{Walk}
use Rattle.cmark_block_walk.specs.declared.reading.Stage.TheVariants as stage
use Rattle.cmark_block_walk.specs.Walking.{Drawn, Outer, StandsAt, Remains, Goes, IsFirst, IsElement, IsStaged, IsTitleIn, BeginsWithList, TitleIn, content_of, is_list, left_above, left_from, leaving, texts_of, tight_below}
use Rattle.cmark_block_walk.proofs.InsideItems.{not-definition}
use Rattle.cmark_block_walk.proofs.LeafKinds.{settled-leaf}
use Rattle.cmark_block_walk.proofs.Links.{IsChild, Begins, Leads, leads-child, leads-inside, leads-nowhere, leads-to}
use Rattle.cmark_block_walk.proofs.ListKinds.{list-kind, no-title, title-kind, title-leaf}
use Rattle.cmark_block_walk.proofs.WalkSteps.{as_kind, Focus, IsFocusAt, IsItem, at-item, at_range, block-below, down, has-focus, into, left-staged, moved, over-range, remains-before, staged}

-- ## The focus

-- the item at the focus
item-at : (walk : Walk) (ix : TreeIndex) (right : Forest (Placed Item)) → Stands (entry_at walk.tree) right → focus_of right ≡ Some ix → (item : Item) × IsItem walk.tree ix item
item-at walk ix Nil st f = absurd (let q : None ≡ Some ix = f in cc)
item-at walk ix (Node p inner later) st f =
    let entry : Entry Item = record { item = p.item; child = first inner; next = first later } in
    let at : entry_at walk.tree ix.ix ≡ Some entry = subst (λ k. entry_at walk.tree k ≡ Some entry) (ap (λ k. k.ix) (same_Some (record { ix = p.ix }) ix f)) st.0 in
    (p.item, λ e has. ap (λ (x : Entry Item). x.item) (same_Some entry e (sym at ∙ has)))

module _ (walk : Walk) (ix : TreeIndex) (at : IsFocusAt walk ix) where
  pub record Here (z : Zip Item) (here : BlockDocument) : Type 0 where
    pub item : Item
    pub is : IsItem walk.tree ix item
    pub focus : Focus walk item ix z here

  pub at-here : (z : Zip Item) (here : BlockDocument) (above : List Outer) → StandsAt walk z here above → Here z here
  at-here z here above s =
      let i = item-at walk ix z.right (in_right walk.tree.nodes walk.tree.first z s.below.holds.forest) (at z s.below.holds) in
      record { item = i.0; is = i.1; focus = at-item walk i.0 ix at i.1 z here above s }

list-no-leaf : (kind : BlockKind) → is_list kind ≡ true → is_leaf kind ≡ false
list-no-leaf kind l = ap is_leaf (list-kind kind l).1

-- ## What is inside the focus

module _ (walk : Walk) (ix : TreeIndex) (at : IsFocusAt walk ix) (found : Option TreeIndex) (c : IsChild walk ix found) where
  -- a definition list has no text of its own
  leads-listed : (z : Zip Item) (here : BlockDocument) (above : List Outer) → StandsAt walk z here above → BeginsWithList here → Leads walk found (content_of here)
  leads-listed z here above s l =
      let h = at-here walk ix at z here above s in
      let f = h.focus in
      leads-inside walk ix h.item found at h.is (block-below walk.text.now (texts_of walk) h.item f.node f.drawn (list-no-leaf f.node.kind (subst BeginsWithList f.here_is l))) c z here above s

  -- nothing is
  pub nothing-inside : None ≡ found → IsTitleIn walk ix None
  nothing-inside none z here above s l tight =
      ap (λ d. begins_title (settled tight d)) (leads-nowhere walk found (content_of here) (leads-listed z here above s l) none)

  -- the first node below the focus is a node of the tree
  pub child-node : (child : TreeIndex) → found ≡ Some child → Goes walk → HasNode walk.tree child.ix
  child-node child e g = leads-child walk ix child found at c e g.1.z g.1.here g.1.above g.1.stands

  -- some nodes are, the first with this item
  module _ (child : TreeIndex) (item : Item) (is : IsItem walk.tree child item) (e : found ≡ Some child) where
    child-drawn : (z : Zip Item) (here : BlockDocument) (above : List Outer) → StandsAt walk z here above → BeginsWithList here → Begins walk item (content_of here)
    child-drawn z here above s l = leads-to walk child item found (content_of here) is (leads-listed z here above s l) e

    -- no title
    pub other-inside : ((text : List ℕ) (texts : List CowStr) (node : BlockNode) → Drawn text texts item node → false ≡ is_title node.kind) → IsTitleIn walk ix None
    other-inside other z here above s l tight =
        let b = child-drawn z here above s l in
        ap (λ d. begins_title (settled tight d)) b.nodes_are
        ∙ no-title tight b.node.kind (begins_title (settled tight b.rest)) (not-definition walk.text.now (texts_of walk) item b.node b.drawn) (sym (other walk.text.now (texts_of walk) b.node b.drawn))

    -- one
    pub title-inside : ((text : List ℕ) (texts : List CowStr) (node : BlockNode) → Drawn text texts item node → true ≡ is_title node.kind) → IsTitleIn walk ix (Some item)
    title-inside is-title z here above s l =
        let b = child-drawn z here above s l in
        subst (TitleIn walk (Some item)) (sym b.nodes_are) (b.drawn, sym (is-title walk.text.now (texts_of walk) b.node b.drawn))

-- ## Into the list

module _ (walk : Walk) (ix : TreeIndex) (at : IsFocusAt walk ix) where
  pub here-focus : Goes walk → (z : Zip Item) × Holds walk.tree z × HasFocus z
  here-focus g = let h = at-here walk ix at g.1.z g.1.here g.1.above g.1.stands in has-focus walk h.item ix at h.is g

  module _ (t : Tree Item) (push : (z : Zip Item) → Holds walk.tree z → HasFocus z → Holds t (pushed z)) (is_checked : Bool) (start end : ℕ) (now : walk.stage ≡ stage.Listed is_checked start end) where
    abbrev marker : event.Ranged
    marker = record { event = event.TaskListMarker is_checked; start = start; end = end }

    abbrev below : BlockNode → BlockDocument → List Outer → List Outer
    below node after above = record { node = node; after = after } ∷ above

    left-listed : (left : List Segment) (r : Remains walk left) (h : Here walk ix at r.z r.here) → left ≡ left_from (stage.Listed is_checked start end) (document.Node h.focus.node h.focus.inside h.focus.after) r.above
    left-listed left r h = left-staged walk (stage.Listed is_checked start end) left now r ∙ ap (λ d. left_from (stage.Listed is_checked start end) d r.above) h.focus.here_is

    listed : {left : List Segment} → (r : Remains walk left) → BeginsWithList r.here
    listed r = subst (λ k. IsStaged k r.here) now r.staged

    -- a definition list is an element
    list-element : (left : List Segment) (r : Remains walk left) (h : Here walk ix at r.z r.here) → IsElement (read_as (kind_within (tight_below r.above) h.focus.node.kind))
    list-element left r h =
        let k = list-kind h.focus.node.kind (subst BeginsWithList h.focus.here_is (listed r)) in
        subst (λ b. IsElement (read_as (kind_within (tight_below r.above) b))) (sym k.1) tt

    inside-of : (left : List Segment) (r : Remains walk left) (h : Here walk ix at r.z r.here) → StandsAt (moved walk t) (down walk h.item ix t r.z r.here h.focus) h.focus.inside (below h.focus.node h.focus.after r.above)
    inside-of left r h = into walk h.item ix t r.z r.here r.above r.stands h.is h.focus (list-no-leaf h.focus.node.kind (subst BeginsWithList h.focus.here_is (listed r))) (list-element left r h) push

    -- without a title the marker comes before all events inside
    untitled-left : (node : BlockNode) (inside after : BlockDocument) (above : List Outer) → begins_title (settled (tight_within (tight_below above) node.kind) inside) ≡ false
        → left_from (stage.Listed is_checked start end) (document.Node node inside after) above ≡ Given marker ∷ left_from stage.Before inside (below node after above)
    untitled-left node inside after above none =
        let I : List Segment = segments (settled (tight_within (tight_below above) node.kind) inside) in
        let E : List Segment = leaving (read_as (kind_within (tight_below above) node.kind)) node in
        let A : List Segment = segments (settled (tight_below above) after) in
        ap (λ b. first_of_segments (if b then 1 else 0) (Given marker) ((I ++ E) ++ A) ++ left_above above) none
        ∙ ap (λ l. Given marker ∷ l) (append_assoc (I ++ E) A (left_above above) ∙ append_assoc I E (A ++ left_above above))

    abbrev pub in_list : Walk
    in_list = staged (moved walk t) stage.Before

    pub enters-untitled : IsTitleIn walk ix None → (left : List Segment) → Remains walk left → IsFirst left marker in_list
    enters-untitled none left r =
        let h = at-here walk ix at r.z r.here r.above r.stands in
        let f = h.focus in
        let tight : Bool = tight_within (tight_below r.above) f.node.kind in
        let untitled : begins_title (settled tight f.inside) ≡ false = ap (λ d. begins_title (settled tight (content_of d))) (sym f.here_is) ∙ none r.z r.here r.above r.stands (listed r) tight in
        let s = inside-of left r h in
        let others : List Segment = left_from stage.Before f.inside (below f.node f.after r.above) in (
          others,
          left-listed left r h ∙ untitled-left f.node f.inside f.after r.above untitled,
          remains-before in_list others (down walk h.item ix t r.z r.here f) f.inside (below f.node f.after r.above) refl
              (record { below = record { holds = s.below.holds; draws_above = s.below.draws_above; elements = s.below.elements }; draws = s.draws })
              refl,
        )

    -- a title comes first, and the marker after its start
    title-around : (k : BlockKind) (node : BlockNode) (content rest : BlockDocument) (E A L : List Segment) → k ≡ document.DefinitionListTitle
        → first_of_segments (if begins_title (document.Node (as_kind k node) content rest) then 1 else 0) (Given marker) ((segments (document.Node (as_kind k node) content rest) ++ E) ++ A) ++ L
        ≡ Given (over node (event.Start tag.DefinitionListTitle)) ∷ (Given marker ∷ (Content (leaf_of k content) ∷ ((leaving (read_as k) node ++ segments rest) ++ (E ++ (A ++ L)))))
    title-around k node content rest E A L e =
        subst (λ b.
        first_of_segments (if begins_title (document.Node (as_kind b node) content rest) then 1 else 0) (Given marker) ((segments (document.Node (as_kind b node) content rest) ++ E) ++ A) ++ L
        ≡ Given (over node (event.Start tag.DefinitionListTitle)) ∷ (Given marker ∷ (Content (leaf_of b content) ∷ ((leaving (read_as b) node ++ segments rest) ++ (E ++ (A ++ L)))))) (sym e)
        (ap (λ l. Given (over node (event.Start tag.DefinitionListTitle)) ∷ (Given marker ∷ (Content (leaf_of document.DefinitionListTitle content) ∷ (Given (over node (event.End (end_of tag.DefinitionListTitle))) ∷ l))))
        (append_assoc (segments rest ++ E) A L ∙ append_assoc (segments rest) E (A ++ L)))

    titled-left : (title : Item) (node : BlockNode) (inside after : BlockDocument) (above : List Outer) → TitleIn walk (Some title) inside
        → left_from (stage.Listed is_checked start end) (document.Node node inside after) above
        ≡ Given (at_range (event.Start tag.DefinitionListTitle) title) ∷ left_from (stage.Marked is_checked start end) inside (below node after above)
    titled-left title node document.Nil after above b = absurd b
    titled-left title node (document.Node own content rest) after above b =
        let tight : Bool = tight_within (tight_below above) node.kind in
        let K : BlockKind = kind_within tight own.kind in
        let R : BlockDocument = settled tight rest in
        let E : List Segment = leaving (read_as (kind_within (tight_below above) node.kind)) node in
        let A : List Segment = segments (settled (tight_below above) after) in
        title-around K own (settled (tight_within tight own.kind) content) R E A (left_above above) (ap (kind_within tight) (title-kind own.kind b.1))
        ∙ ap (λ (leaf : Leaf). Given (over own (event.Start tag.DefinitionListTitle)) ∷ (Given marker ∷ (Content leaf ∷ ((leaving (read_as K) own ++ segments R) ++ (E ++ (A ++ left_above above))))))
        (settled-leaf tight own.kind (tight_within tight own.kind) content)
        ∙ ap (λ x. Given x ∷ left_from (stage.Marked is_checked start end) (document.Node own content rest) (below node after above)) (over-range walk.text.now (texts_of walk) title own (event.Start tag.DefinitionListTitle) b.0)

    abbrev pub in_title : Walk
    in_title = staged (moved walk t) (stage.Marked is_checked start end)

    staged-title : (title : Item) (inside : BlockDocument) → TitleIn walk (Some title) inside → IsStaged (stage.Marked is_checked start end) inside
    staged-title title document.Nil b = b
    staged-title title (document.Node own content rest) b = title-leaf own.kind b.1

    pub enters-titled : (title : Item) → IsTitleIn walk ix (Some title) → (left : List Segment) → Remains walk left → IsFirst left (at_range (event.Start tag.DefinitionListTitle) title) in_title
    enters-titled title found left r =
        let h = at-here walk ix at r.z r.here r.above r.stands in
        let f = h.focus in
        let b = subst (λ d. TitleIn walk (Some title) (content_of d)) f.here_is (found r.z r.here r.above r.stands (listed r)) in
        let p = inside-of left r h in (
          left_from (stage.Marked is_checked start end) f.inside (below f.node f.after r.above),
          left-listed left r h ∙ titled-left title f.node f.inside f.after r.above b,
          record {
            z = down walk h.item ix t r.z r.here f;
            here = f.inside;
            above = below f.node f.after r.above;
            stands = record { below = record { holds = p.below.holds; draws_above = p.below.draws_above; elements = p.below.elements }; draws = p.draws };
            staged = staged-title title f.inside b;
            are = refl;
          },
        )
