-- The rest of a walk is the whole rest: its tree and its place determine it.
use Rattle.std.proofs.Common.{◌≡◌, ℕ, List, [], ◌∷◌, ◌++◌, Option, Some, None, length, length-append, arith, refl, sym, ap, ◌∙◌, subst}
use Rattle.std.proofs.lemmas.List.{same_from_push}
use Rattle.std.proofs.lemmas.Option.{same_Some}
use Rattle.cmark_tree.specs.declared.nodes.Nodes.{Nodes}
use Rattle.cmark_tree.specs.declared.tree_index.TreeIndex.{TreeIndex}
use Rattle.cmark_tree.specs.Forest.{Forest, Nil, Node, join}
use Rattle.cmark_tree.specs.Arena.{Entry, Placed, first, Stands}
use Rattle.cmark_tree.specs.Nodes.{node_at}
use Rattle.cmark_tree.specs.Zip.{Level, plug, siblings}
use Rattle.cmark_tree.specs.Tree.{spine_of}
use Rattle.cmark_tree.proofs.StandsLemmas.{Stands-inner, Stands-right}
use Rattle.cmark_tree.proofs.Steps.{place_above}
use Rattle.cmark_values.specs.declared.text.CowStr.{CowStr}
use Rattle.cmark_grammar.specs.BlockDocument as document
use Rattle.cmark_grammar.specs.BlockDocument.{BlockNode, BlockDocument}
use Rattle.cmark_grammar.specs.SpanDocuments.{Segment}
use Rattle.cmark_items.specs.declared.item.Item.{Item}
use Rattle.cmark_block_walk.specs.declared.walk.Walk.{Walk}
use Rattle.cmark_block_walk.specs.Walking.{Drawn, Draws, DrawsInside, DrawsAbove, Outer, Remains, left_from, own_text_end, texts_of}

longer : (xs : List TreeIndex) (x : TreeIndex) → xs ++ x ∷ [] ≡ [] → ⊥
longer xs x e = let n = length-append xs (x ∷ []) in let m = ap length e in omega (arith, n, m)

module _ {T : Type 0} where
  place-one : (p q : Placed T) → p.ix ≡ q.ix → p.item ≡ q.item → p ≡ q
  place-one p q e f = ap {A = ℕ} {B = Placed T} (λ n. record { ix = n; item = p.item }) e ∙ ap {A = T} {B = Placed T} (λ x. record { ix = q.ix; item = x }) f

  -- the links at a place determine the nodes there
  pub forest-one : (nodes : Nodes T) (f g : Forest (Placed T)) → Stands (node_at nodes) f → Stands (node_at nodes) g → first f ≡ first g → f ≡ g
  forest-one nodes Nil Nil s t e = refl
  forest-one nodes Nil (Node q j b) s t e = let h = place_above nodes q j b t in absurd (omega (arith, h, e))
  forest-one nodes (Node p i a) Nil s t e = let h = place_above nodes p i a s in absurd (omega (arith, h, e))
  forest-one nodes (Node p i a) (Node q j b) s t e =
      let same : record { item = p.item; child = first i; next = first a } ≡ record { item = q.item; child = first j; next = first b } =
      same_Some {A = Entry T} _ _ (sym s.0 ∙ ap (node_at nodes) e ∙ t.0) in
      let placed = place-one p q e (ap {A = Entry T} {B = T} (λ x. x.item) same) in
      let inside = forest-one nodes i j s.1 t.1 (ap {A = Entry T} {B = ℕ} (λ x. x.child) same) in
      let after = forest-one nodes a b s.2 t.2 (ap {A = Entry T} {B = ℕ} (λ x. x.next) same) in
      ap (λ x. Node x i a) placed ∙ ap (λ x. Node q x a) inside ∙ ap (λ x. Node q j x) after

  -- the same nodes above, with the same trees after them
  abbrev pub SamePath : List (Level T) → List (Level T) → Type 0
  SamePath [] [] = Unit {0}
  SamePath [] (w ∷ others) = ⊥
  SamePath (v ∷ up) [] = ⊥
  SamePath (v ∷ up) (w ∷ others) = (v.place ≡ w.place) × (v.right ≡ w.right) × SamePath up others

  -- the places of a path determine the nodes after its nodes
  pub path-one : (nodes : Nodes T) (up others : List (Level T)) (f g : Forest (Placed T)) → Stands (node_at nodes) (plug up f) → Stands (node_at nodes) (plug others g) → spine_of up ≡ spine_of others → SamePath up others
  path-one nodes [] [] f g s t e = tt
  path-one nodes [] (w ∷ others) f g s t e = absurd (longer (spine_of others) (record { ix = w.place.ix }) (sym e))
  path-one nodes (v ∷ up) [] f g s t e = absurd (longer (spine_of up) (record { ix = v.place.ix }) e)
  path-one nodes (v ∷ up) (w ∷ others) f g s t e =
      let last = same_from_push (spine_of up) (spine_of others) (record { ix = v.place.ix }) (record { ix = w.place.ix }) e in
      let number : v.place.ix ≡ w.place.ix = ap {A = TreeIndex} {B = ℕ} (λ x. x.ix) last.1 in
      let here = Stands-right (node_at nodes) v.left (Node v.place f v.right) (Stands-inner (node_at nodes) up (join v.left (Node v.place f v.right)) s) in
      let there = Stands-right (node_at nodes) w.left (Node w.place g w.right) (Stands-inner (node_at nodes) others (join w.left (Node w.place g w.right)) t) in
      let same : record { item = v.place.item; child = first f; next = first v.right } ≡ record { item = w.place.item; child = first g; next = first w.right } =
      same_Some {A = Entry T} _ _ (sym here.0 ∙ ap (node_at nodes) number ∙ there.0) in (
        place-one v.place w.place number (ap {A = Entry T} {B = T} (λ x. x.item) same),
        forest-one nodes v.right w.right here.2 there.2 (ap {A = Entry T} {B = ℕ} (λ x. x.next) same),
        path-one nodes up others (join v.left (Node v.place f v.right)) (join w.left (Node w.place g w.right)) s t last.0,
      )

-- the content of an item is one document, if the nodes below it are
inside-one : (text : List ℕ) (start : ℕ) (own : Option ℕ) (below other : Type 0) (i j : BlockDocument) → (below → other → i ≡ j) → DrawsInside text start own below i → DrawsInside text start own other j → i ≡ j
inside-one text start None below other i j same a b = same a b
inside-one text start (Some text_end) below other i j same a b = a.is ∙ sym b.is

module _ (text : List ℕ) (texts : List CowStr) where
  -- a forest draws one document
  draws-one : (f : Forest (Placed Item)) (d e : BlockDocument) → Draws text texts f d → Draws text texts f e → d ≡ e
  draws-one Nil document.Nil document.Nil a b = refl
  draws-one Nil document.Nil (document.Node m j b) a c = absurd c
  draws-one Nil (document.Node n i a) e b c = absurd b
  draws-one (Node p f g) document.Nil e a b = absurd a
  draws-one (Node p f g) (document.Node n i a) document.Nil b c = absurd c
  draws-one (Node p f g) (document.Node n i a) (document.Node m j b) x y =
      let node = same_Some {A = BlockNode} n m (sym x.0.shown ∙ y.0.shown) in
      let inside = inside-one text p.item.start (own_text_end p.item.body) (Draws text texts f i) (Draws text texts f j) i j (draws-one f i j) x.1 y.1 in
      let after = draws-one g a b x.2 y.2 in
      ap (λ z. document.Node z i a) node ∙ ap (λ z. document.Node m z a) inside ∙ ap (λ z. document.Node m j z) after

  outer-one : (o q : Outer) → o.node ≡ q.node → o.after ≡ q.after → o ≡ q
  outer-one o q e f = ap {A = BlockNode} {B = Outer} (λ n. record { node = n; after = o.after }) e ∙ ap {A = BlockDocument} {B = Outer} (λ d. record { node = q.node; after = d }) f

  above-one : (up others : List (Level Item)) (above outer : List Outer) → SamePath up others → DrawsAbove text texts up above → DrawsAbove text texts others outer → above ≡ outer
  above-one [] [] [] [] p a b = refl
  above-one [] [] [] (q ∷ outer) p a b = absurd b
  above-one [] [] (o ∷ above) outer p a b = absurd a
  above-one [] (w ∷ others) above outer p a b = absurd p
  above-one (v ∷ up) [] above outer p a b = absurd p
  above-one (v ∷ up) (w ∷ others) [] outer p a b = absurd a
  above-one (v ∷ up) (w ∷ others) (o ∷ above) [] p a b = absurd b
  above-one (v ∷ up) (w ∷ others) (o ∷ above) (q ∷ outer) p a b =
      let drawn = subst {A = Placed Item} (λ x. Drawn text texts x.item o.node) p.0 a.0 in
      let node = same_Some {A = BlockNode} o.node q.node (sym drawn.shown ∙ b.0.shown) in
      let after = draws-one w.right o.after q.after (subst (λ f. Draws text texts f o.after) p.1 a.1) b.1 in
      ap (λ z. z ∷ above) (outer-one o q node after) ∙ ap (λ z. q ∷ z) (above-one up others above outer p.2 a.2 b.2)

-- the rest is one list
pub one-remainder : (walk : Walk) (left others : List Segment) → Remains walk left → Remains walk others → left ≡ others
one-remainder walk left others r q =
    let nodes = walk.tree.nodes in
    let rs = r.stands.below.holds in
    let qs = q.stands.below.holds in
    let right : r.z.right ≡ q.z.right =
    forest-one nodes r.z.right q.z.right
    (Stands-right (node_at nodes) r.z.left r.z.right (Stands-inner (node_at nodes) r.z.up (siblings r.z) rs.forest.stands))
    (Stands-right (node_at nodes) q.z.left q.z.right (Stands-inner (node_at nodes) q.z.up (siblings q.z) qs.forest.stands))
    (sym rs.cur_is ∙ qs.cur_is) in
    let here : r.here ≡ q.here = draws-one walk.text.now (texts_of walk) q.z.right r.here q.here (subst (λ f. Draws walk.text.now (texts_of walk) f r.here) right r.stands.draws) q.stands.draws in
    let path = path-one nodes r.z.up q.z.up (siblings r.z) (siblings q.z) rs.forest.stands qs.forest.stands (sym rs.spine_is ∙ qs.spine_is) in
    let above : r.above ≡ q.above = above-one walk.text.now (texts_of walk) r.z.up q.z.up r.above q.above path r.stands.below.draws_above q.stands.below.draws_above in
    r.are ∙ ap (λ d. left_from walk.stage d r.above) here ∙ ap (λ o. left_from walk.stage q.here o) above ∙ sym q.are
