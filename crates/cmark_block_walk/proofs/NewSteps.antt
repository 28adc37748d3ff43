-- A walk at its first node.
use Rattle.std.proofs.Common.{◌≡◌, ◌≤◌, ℕ, false, List, [], ◌∷◌, Option, Some, None, length, refl, sym, ap, ◌∙◌, subst, append-nil, arith}
use Rattle.std.proofs.lemmas.Option.{same_Some}
use Rattle.std.specs.Str.{IsCharBoundary}
use Rattle.cmark_tree.specs.declared.tree.Tree.{Tree}
use Rattle.cmark_tree.specs.Forest as forest
use Rattle.cmark_tree.specs.Forest.{Forest, Nil, Node}
use Rattle.cmark_tree.specs.Arena.{Placed, items_of}
use Rattle.cmark_tree.specs.Zip.{Level, Zip, plug, siblings, whole, at_first}
use Rattle.cmark_tree.specs.Building.{Is, opened}
use Rattle.cmark_tree.specs.Tree.{Holds}
use Rattle.cmark_values.specs.declared.text.CowStr.{CowStr}
use Rattle.cmark_grammar.specs.BlockDocument as document
use Rattle.cmark_grammar.specs.BlockDocument.{BlockNode, BlockDocument, node}
use Rattle.cmark_block_model.specs.DrawnDocument.{settled}
use Rattle.cmark_block_model.specs.Ranges.{InOrder, AllAt}
use Rattle.cmark_grammar.specs.SpanDocuments.{segments}
use Rattle.cmark_grammar.specs.Tokens.{slice}
use Rattle.cmark_items.specs.declared.item.Item.{Item}
use Rattle.cmark_items.specs.declared.item.ItemBody.{ItemBody}
use Rattle.cmark_items.specs.declared.item.ItemBody.TheVariants as body
use Rattle.cmark_items.specs.ItemNodes.{one_text, shape, shown_inside, shown_item, shown_forest, nodes_of}
use Rattle.cmark_block_walk.specs.declared.walk.Walk.{Walk}
use Rattle.cmark_block_walk.specs.declared.reading.Stage.TheVariants as stage
use Rattle.cmark_block_walk.specs.Walking.{Draws, DrawsInside, IsOneText, Remains, own_text_end, texts_of}
use Rattle.cmark_block_walk.proofs.WalkSteps.{remains-before}

pub in-order : (from : ℕ) (d : BlockDocument) (to : ℕ) → InOrder from d to → from ≤ to
in-order from document.Nil to h = h
in-order from (document.Node node inside after) to h =
    let a = in-order node.start inside node.end h.1 in
    let b = in-order node.end after to h.2 in
    omega (arith, h.0, a, b)

-- the parts of a node of a forest
node-parts : {A : Type 0} (x y : A) (f f' g g' : Forest A) → Node x f g ≡ Node y f' g' → (x ≡ y) × (f ≡ f') × (g ≡ g')
node-parts x y f f' g g' e = (cc, cc, cc)

module _ (text : List ℕ) where
  -- the text of a node that has its own
  one-drawn : (start text_end : ℕ) (shown : Forest (Option BlockNode)) (inside : BlockDocument) (from to : ℕ) → one_text text start text_end shown ≡ nodes_of inside → InOrder from inside to → to ≤ length text → AllAt (IsCharBoundary text) inside
      → IsOneText text start text_end inside
  one-drawn start text_end Nil document.Nil from to e o l a =
      absurd (let q : Node (Some (node (document.Text (slice text start text_end)) start text_end)) forest.Nil forest.Nil ≡ forest.Nil = e in cc)
  one-drawn start text_end Nil (document.Node n inner after) from to e o l a =
      let own : BlockNode = node (document.Text (slice text start text_end)) start text_end in
      let parts = node-parts (Some own) (Some n) forest.Nil (nodes_of inner) forest.Nil (nodes_of after) e in
      let same : own ≡ n = same_Some own n parts.0 in
      let i = in-order n.start inner n.end o.1 in
      let r = in-order n.end after to o.2 in
      let starts : start ≡ n.start = ap (λ m. m.start) same in
      let ends : text_end ≡ n.end = ap (λ m. m.end) same in
      record {
        is = ap (λ m. document.Node m inner after) (sym same) ∙ ap (λ d. document.Node own d after) (no-nodes inner parts.1) ∙ ap (λ d. document.Node own document.Nil d) (no-nodes after parts.2);
        in_order = omega (arith, i, starts, ends);
        within = omega (arith, r, l, ends);
        starts = subst (IsCharBoundary text) (sym starts) a.0;
        ends = subst (IsCharBoundary text) (sym ends) a.1;
      }
    where
      no-nodes : (d : BlockDocument) → forest.Nil ≡ nodes_of d → d ≡ document.Nil
      no-nodes document.Nil e = refl
      no-nodes (document.Node m i a) e = absurd (let q : forest.Nil ≡ Node (Some m) (nodes_of i) (nodes_of a) = e in cc)
  one-drawn start text_end (Node x f g) document.Nil from to e o l a = absurd (let q : Node None f g ≡ forest.Nil = e in cc)
  one-drawn start text_end (Node x f g) (document.Node n inner after) from to e o l a =
      absurd (let q : None ≡ Some n = (node-parts None (Some n) f (nodes_of inner) g (nodes_of after) e).0 in cc)

  inside-drawn : (start : ℕ) (b : ItemBody) (shown : Forest (Option BlockNode)) (inside : BlockDocument) (from to : ℕ) (below : Type 0) → shown_inside text start (shape b) shown ≡ nodes_of inside → InOrder from inside to → to ≤ length text → AllAt (IsCharBoundary text) inside
      → (shown ≡ nodes_of inside → below) → DrawsInside text start (own_text_end b) below inside
  inside-drawn start (body.ParagraphOf text_end) shown inside from to below e o l a d = one-drawn start text_end shown inside from to e o l a
  inside-drawn start (body.DefinitionListTitleOf text_end) shown inside from to below e o l a d = one-drawn start text_end shown inside from to e o l a
  inside-drawn start _ shown inside from to below e o l a d = d e

module _ (text : List ℕ) (texts : List CowStr) where
  pub draws : (f : Forest (Placed Item)) (d : BlockDocument) (from to : ℕ) → shown_forest text texts (items_of f) ≡ nodes_of d → InOrder from d to → to ≤ length text → AllAt (IsCharBoundary text) d → Draws text texts f d
  draws Nil document.Nil from to e o l a = tt
  draws Nil (document.Node node inside after) from to e o l a = absurd (let q : forest.Nil ≡ Node (Some node) (nodes_of inside) (nodes_of after) = e in cc)
  draws (Node p f g) document.Nil from to e o l a = absurd (let q : Node (shown_item text texts p.item) (shown_inside text p.item.start (shape p.item.body) (shown_forest text texts (items_of f))) (shown_forest text texts (items_of g)) ≡ forest.Nil = e in cc)
  draws (Node p f g) (document.Node node inside after) from to e o l a =
      let parts = node-parts (shown_item text texts p.item) (Some node) (shown_inside text p.item.start (shape p.item.body) (shown_forest text texts (items_of f))) (nodes_of inside) (shown_forest text texts (items_of g)) (nodes_of after) e in
      let i = in-order node.start inside node.end o.1 in
      let r = in-order node.end after to o.2 in
      let within : node.end ≤ length text = omega (arith, r, l) in (
        record { shown = parts.0; in_order = i; within = within; starts = a.0; ends = a.1 },
        inside-drawn text p.item.start p.item.body (shown_forest text texts (items_of f)) inside node.start node.end (Draws text texts f inside) parts.1 o.1 within a.2
            (λ e. draws f inside node.start node.end e o.1 within a.2),
        draws g after node.end to parts.2 o.2 l a.3,
        o.1,
      )

no-path : {T : Type 0} (up : List (Level T)) → opened up ≡ [] → up ≡ []
no-path [] e = refl
no-path (v ∷ up) e = absurd (let q : record { left = items_of v.left; item = v.place.item } ∷ opened up ≡ [] = e in cc)

pub begins-walk : (tree : Tree Item) (walk : Walk) → walk.stage ≡ stage.Before → ((z : Zip Item) → Holds tree z → Holds walk.tree (at_first z))
    → (forest : Forest Item) (d : BlockDocument) → Is tree forest [] → shown_forest walk.text.now (texts_of walk) forest ≡ nodes_of d
    → InOrder 0 d (length walk.text.now) → AllAt (IsCharBoundary walk.text.now) d → Remains walk (segments (settled false d))
begins-walk tree walk before first forest d is e o a =
    let all : whole is.z ≡ siblings is.z = ap (λ u. plug u (siblings is.z)) (no-path is.z.up is.up_is) in
    let items : items_of (whole is.z) ≡ forest = ap items_of all ∙ is.here_is in
    remains-before walk (segments (settled false d)) (at_first is.z) d [] before
    (record {
      below = record { holds = first is.z is.holds; draws_above = tt; elements = tt };
      draws = draws walk.text.now (texts_of walk) (whole is.z) d 0 (length walk.text.now) (ap (shown_forest walk.text.now (texts_of walk)) items ∙ e) o (omega arith) a;
    })
    (sym (append-nil (segments (settled false d))))
