-- The nodes that a node's links lead to: those after it, and those inside it.
use Rattle.std.proofs.Common.{◌≡◌, List, Option, Some, None, refl, sym, ap, ◌∙◌, subst}
use Rattle.std.proofs.lemmas.Option.{same_Some}
use Rattle.cmark_tree.specs.declared.tree_index.TreeIndex.{TreeIndex}
use Rattle.cmark_tree.specs.Forest.{Forest, Nil, Node}
use Rattle.cmark_tree.specs.Arena.{Entry, Placed, first, Stands}
use Rattle.cmark_tree.specs.Zip.{Zip}
use Rattle.cmark_tree.specs.Tree.{HasNode, entry_at, focus_of, index_at}
use Rattle.cmark_tree.proofs.Steps.{focus_read, in_right}
use Rattle.cmark_tree.proofs.Entries.{node_at-within}
use Rattle.cmark_grammar.specs.BlockDocument as document
use Rattle.cmark_grammar.specs.BlockDocument.{BlockNode, BlockDocument}
use Rattle.cmark_items.specs.declared.item.Item.{Item}
use Rattle.cmark_block_walk.specs.declared.walk.Walk.{Walk}
use Rattle.cmark_block_walk.specs.Walking.{Drawn, Draws, Outer, StandsAt, after_first_of, content_of, own_text_end, texts_of}
use Rattle.cmark_block_walk.proofs.WalkSteps.{IsFocusAt, IsItem, drawn-below, focus}

abbrev pub IsNext : Walk → TreeIndex → Option TreeIndex → Type 0
IsNext walk ix next = (e : Entry Item) → entry_at walk.tree ix.ix ≡ Some e → next ≡ index_at e.next

abbrev pub IsChild : Walk → TreeIndex → Option TreeIndex → Type 0
IsChild walk ix child = (e : Entry Item) → entry_at walk.tree ix.ix ≡ Some e → child ≡ index_at e.child

module _ (walk : Walk) where
  -- a link leads to these nodes, or to nothing if there are none
  pub record Leads (link : Option TreeIndex) (nodes : BlockDocument) : Type 0 where
    pub forest : Forest (Placed Item)
    pub stands : Stands (entry_at walk.tree) forest
    pub draws : Draws walk.text.now (texts_of walk) forest nodes
    pub link_is : link ≡ focus_of forest

  module _ (ix : TreeIndex) where
    following-at : (next : Option TreeIndex) (right : Forest (Placed Item)) (here : BlockDocument) → Stands (entry_at walk.tree) right → Draws walk.text.now (texts_of walk) right here → focus_of right ≡ Some ix → IsNext walk ix next → Leads next (after_first_of here)
    following-at next Nil here st d f n = absurd (let q : None ≡ Some ix = f in cc)
    following-at next (Node p f g) document.Nil st d fo n = absurd d
    following-at next (Node p f g) (document.Node node inside after) st d fo n =
        let same = ap (λ k. k.ix) (same_Some (record { ix = p.ix }) ix fo) in
        let entry : Entry Item = record { item = p.item; child = first f; next = first g } in
        record {
          forest = g;
          stands = st.2;
          draws = d.2;
          link_is = n entry (subst (λ k. entry_at walk.tree k ≡ Some entry) same st.0) ∙ focus_read walk.tree.nodes g st.2;
        }

    -- to the nodes after the focus
    pub leads-following : (next : Option TreeIndex) → IsFocusAt walk ix → IsNext walk ix next → (z : Zip Item) (here : BlockDocument) (above : List Outer) → StandsAt walk z here above → Leads next (after_first_of here)
    leads-following next at n z here above s = following-at next z.right here (in_right walk.tree.nodes walk.tree.first z s.below.holds.forest) s.draws (at z s.below.holds) n

    -- to the nodes inside the focus, if it has no text of its own
    pub leads-inside : (item : Item) (child : Option TreeIndex) → IsFocusAt walk ix → IsItem walk.tree ix item → own_text_end item.body ≡ None → IsChild walk ix child
        → (z : Zip Item) (here : BlockDocument) (above : List Outer) → StandsAt walk z here above → Leads child (content_of here)
    leads-inside item child at is none c z here above s =
        let f = focus walk item ix z here above s (at z s.below.holds) is in
        let st = subst (Stands (entry_at walk.tree)) f.right_is (in_right walk.tree.nodes walk.tree.first z s.below.holds.forest) in
        let entry : Entry Item = record { item = f.place.item; child = first f.inner; next = first f.later } in
        subst (λ h. Leads child (content_of h)) (sym f.here_is)
        (record {
          forest = f.inner;
          stands = st.1;
          draws = drawn-below walk.text.now item.start (own_text_end item.body) (Draws walk.text.now (texts_of walk) f.inner f.inside) f.inside none f.draws_inside;
          link_is = c entry (subst (λ k. entry_at walk.tree k ≡ Some entry) f.at st.0) ∙ focus_read walk.tree.nodes f.inner st.1;
        })

  nowhere-at : (forest : Forest (Placed Item)) (nodes : BlockDocument) → Draws walk.text.now (texts_of walk) forest nodes → None ≡ focus_of forest → nodes ≡ document.Nil
  nowhere-at Nil document.Nil d e = refl
  nowhere-at Nil (document.Node node inside after) d e = absurd d
  nowhere-at (Node p f g) nodes d e = absurd (let q : None ≡ Some (record { ix = p.ix }) = e in cc)

  -- without a link there are no nodes
  pub leads-nowhere : (link : Option TreeIndex) (nodes : BlockDocument) → Leads link nodes → None ≡ link → nodes ≡ document.Nil
  leads-nowhere link nodes l none = nowhere-at l.forest nodes l.draws (none ∙ l.link_is)

  node-at : (to : TreeIndex) (forest : Forest (Placed Item)) → Stands (entry_at walk.tree) forest → Some to ≡ focus_of forest → HasNode walk.tree to.ix
  node-at to Nil st e = absurd (let q : Some to ≡ None = e in cc)
  node-at to (Node p f g) st e = subst (λ k. HasNode walk.tree k) (sym (ap (λ k. k.ix) (same_Some to (record { ix = p.ix }) e))) (node_at-within walk.tree.nodes p.ix (record { item = p.item; child = first f; next = first g }) st.0)

  -- a link leads to a node of the tree
  pub leads-node : (to : TreeIndex) (link : Option TreeIndex) (nodes : BlockDocument) → Leads link nodes → link ≡ Some to → HasNode walk.tree to.ix
  leads-node to link nodes l e = node-at to l.forest l.stands (sym e ∙ l.link_is)

  child-at : (ix to : TreeIndex) (child : Option TreeIndex) (right : Forest (Placed Item)) → Stands (entry_at walk.tree) right → focus_of right ≡ Some ix → IsChild walk ix child → child ≡ Some to → HasNode walk.tree to.ix
  child-at ix to child Nil st f c e = absurd (let q : None ≡ Some ix = f in cc)
  child-at ix to child (Node p f g) st fo c e =
      let same = ap (λ k. k.ix) (same_Some (record { ix = p.ix }) ix fo) in
      let entry : Entry Item = record { item = p.item; child = first f; next = first g } in
      node-at to f st.1 (sym e ∙ c entry (subst (λ k. entry_at walk.tree k ≡ Some entry) same st.0) ∙ focus_read walk.tree.nodes f st.1)

  -- the first node below the focus is a node of the tree
  pub leads-child : (ix to : TreeIndex) (child : Option TreeIndex) → IsFocusAt walk ix → IsChild walk ix child → child ≡ Some to → (z : Zip Item) (here : BlockDocument) (above : List Outer) → StandsAt walk z here above → HasNode walk.tree to.ix
  leads-child ix to child at c e z here above s = child-at ix to child z.right (in_right walk.tree.nodes walk.tree.first z s.below.holds.forest) (at z s.below.holds) c e

  -- some nodes begin with a node of this item
  pub record Begins (item : Item) (nodes : BlockDocument) : Type 0 where
    pub node : BlockNode
    pub inside : BlockDocument
    pub rest : BlockDocument
    pub nodes_are : nodes ≡ document.Node node inside rest
    pub drawn : Drawn walk.text.now (texts_of walk) item node

  begins-at : (to : TreeIndex) (item : Item) (forest : Forest (Placed Item)) (nodes : BlockDocument) → IsItem walk.tree to item → Stands (entry_at walk.tree) forest → Draws walk.text.now (texts_of walk) forest nodes → Some to ≡ focus_of forest → Begins item nodes
  begins-at to item Nil nodes is st d e = absurd (let q : Some to ≡ None = e in cc)
  begins-at to item (Node p f g) document.Nil is st d e = absurd d
  begins-at to item (Node p f g) (document.Node node inside after) is st d e =
      let same = sym (ap (λ k. k.ix) (same_Some to (record { ix = p.ix }) e)) in
      let entry : Entry Item = record { item = p.item; child = first f; next = first g } in
      let read = is entry (subst (λ k. entry_at walk.tree k ≡ Some entry) same st.0) in
      record { node = node; inside = inside; rest = after; nodes_are = refl; drawn = subst (λ k. Drawn walk.text.now (texts_of walk) k node) (sym read) d.0 }

  -- the item that a link leads to is the first node's
  pub leads-to : (to : TreeIndex) (item : Item) (link : Option TreeIndex) (nodes : BlockDocument) → IsItem walk.tree to item → Leads link nodes → link ≡ Some to → Begins item nodes
  leads-to to item link nodes is l e = begins-at to item l.forest nodes is l.stands l.draws (sym e ∙ l.link_is)
