-- An empty paragraph that is closed with its text, both as one node.
use Rattle.std.proofs.Common.{◌≡◌, inl, inr, ℕ, Bool, true, false, true≢false, ◌==◌, ◌&&◌, List, [], ◌∷◌, map, Option, Some, None, is_some, option_map, refl, sym, ap, ◌∙◌, subst, arith}
use Rattle.std.proofs.lemmas.Option.{same_Some}
use Rattle.cmark_values.specs.declared.text.CowStr.{CowStr}
use Rattle.cmark_tree.specs.Forest as forest
use Rattle.cmark_tree.specs.Forest.{Forest, one, join as join_forests}
use Rattle.cmark_tree.specs.declared.tree.Tree.{Tree}
use Rattle.cmark_tree.specs.declared.tree_index.TreeIndex.{TreeIndex}
use Rattle.cmark_tree.specs.Arena.{Entry, items_of}
use Rattle.cmark_tree.specs.Building.{Opened, Is, closed, opened}
use Rattle.cmark_tree.specs.Tree.{Holds, entry_at, focus_of, parent_of}
use Rattle.cmark_tree.specs.Zip.{Level, Zip}
use Rattle.cmark_grammar.specs.BlockDocument.{BlockNode, BlockDocument, Paragraph, Text, Nil, Node, node, join}
use Rattle.cmark_grammar.specs.Tokens.{slice}
use Rattle.cmark_items.specs.declared.item.Item.{Item}
use Rattle.cmark_items.specs.declared.item.ItemBody.{ItemBody}
use Rattle.cmark_items.specs.declared.item.ItemBody.TheVariants as body
use Rattle.cmark_items.specs.ItemNodes.{shape, kind_of, ranged, shown_element, shown_forest, nodes_of}
use Rattle.cmark_block_model.specs.Drawing.{OpenNode, Drawing, drawn, close_at, closed_at}
use Rattle.cmark_builder.specs.declared.builder.Builder.{Builder}
use Rattle.cmark_builder.specs.Drawn.{shown_open, open_node, Draws}
use Rattle.cmark_builder.specs.Ended.{item_at, ended, is_paragraph, is_empty_paragraph}
use Rattle.cmark_builder.proofs.BuilderSteps.{focus-none, focus-some, last_or_none, parent-read}
use Rattle.cmark_builder.proofs.DrawnSteps.{nodes_of-join, shown_forest-join}

both : (a b : Bool) → (a && b) ≡ true → (a ≡ true) × (b ≡ true)
both true b e = (refl, e)
both false b e = absurd (true≢false (sym e))

paragraph-is : (b : ItemBody) → is_paragraph b ≡ true → b ≡ body.Paragraph
paragraph-is body.Paragraph e = refl
paragraph-is _ e = absurd (true≢false (sym e))

start-is : (a b : ℕ) → (a == b) ≡ true → a ≡ b
start-is a b e = grind (arith, e)

-- an open paragraph is its node
paragraph-node : (t : List CowStr) (item : Item) (n : BlockNode) → item.body ≡ body.Paragraph → shown_element t item ≡ Some n → (n.kind ≡ Paragraph) × (n.start ≡ item.start)
paragraph-node t item n is e =
    let q : Some (node Paragraph item.start item.end) ≡ Some n = ap (λ b. option_map (ranged item.start item.end) (kind_of t (shape b))) (sym is) ∙ e in
    let k = same_Some (node Paragraph item.start item.end) n q in
    (ap (λ m. m.kind) (sym k), ap (λ m. m.start) (sym k))

nothing-shown : (d : BlockDocument) → forest.Nil ≡ nodes_of d → d ≡ Nil
nothing-shown Nil e = refl
nothing-shown (Node n i a) e = absurd (let q : forest.Nil ≡ forest.Node (Some n) (nodes_of i) (nodes_of a) = e in cc)

-- ## What the call asks of the tree

-- there is a current sibling
pub some-sibling : (t : Tree Item) (start : ℕ) (here : Forest Item) (up : List (Opened Item)) (o : Option TreeIndex) → ((z : Zip Item) → Holds t z → o ≡ focus_of z.right) → is_some o ≡ true → Is t here up → false ≡ is_empty_paragraph start here up
some-sibling t start (forest.Node item inside after) up o read e is = refl
some-sibling t start forest.Nil up None read e is = absurd (true≢false (sym e))
some-sibling t start forest.Nil up (Some i) read e is = absurd (focus-some t up i (Some i) read refl is)

-- there is none, and the innermost open node is read
pub parent-tested : (t : Tree Item) (start : ℕ) (here : Forest Item) (up : List (Opened Item)) (o : Option TreeIndex) (parent : TreeIndex) (item : Item) → ((z : Zip Item) → Holds t z → o ≡ focus_of z.right) → is_some o ≡ false
    → ((z : Zip Item) → Holds t z → Some parent ≡ parent_of z.up) → ((e : Entry Item) → entry_at t parent.ix ≡ Some e → item ≡ e.item) → Is t here up → ((item.start == start) && is_paragraph item.body) ≡ is_empty_paragraph start here up
parent-tested t start (forest.Node x f g) up (Some i) parent item read e at is-item is = absurd (true≢false e)
parent-tested t start (forest.Node x f g) up None parent item read e at is-item is = elim (last_or_none (forest.Node x f g)) [
  | inl l ↦ absurd (focus-none t l.0 l.1 l.2 up None read (λ i n. let q : None ≡ Some i = n in cc) (subst (λ h. Is t h up) l.3 is))
  | inr nil ↦ absurd (let q : forest.Node x f g ≡ forest.Nil = nil in cc)
]
parent-tested t start forest.Nil [] o parent item read e at is-item is = absurd (nothing-open is.z.up is.up_is (at is.z is.holds))
  where
    nothing-open : (levels : List (Level Item)) → opened levels ≡ [] → Some parent ≡ parent_of levels → ⊥
    nothing-open [] u p = let q : Some parent ≡ None = p in cc
    nothing-open (l ∷ levels) u p = let q : record { left = items_of l.left; item = l.place.item } ∷ opened levels ≡ [] = u in cc
parent-tested t start forest.Nil (v ∷ up) o parent item read e at is-item is =
    let r = parent-read t parent forest.Nil v up at is in
    ap (λ (i : Item). (i.start == start) && is_paragraph i.body) (is-item r.0 r.1 ∙ r.2)

-- ## What was drawn

module _ (text : List ℕ) (old new : Builder) where
  pub draws-whole : (start text_end end : ℕ) (d : Drawing) →
      ((here : Forest Item) (up : List (Opened Item)) → Is old.tree here up → is_empty_paragraph start here up ≡ true) →
      ((here : Forest Item) (v : Opened Item) (up : List (Opened Item)) → Is old.tree here (v ∷ up) → Is new.tree (closed (ended end (body.ParagraphOf text_end) v) here) up) →
      new.allocations ≡ old.allocations →
      Draws text old d → Draws text new (closed_at end (drawn (Node (node (Text (slice text start text_end)) start text_end) Nil Nil) d))
  draws-whole start text_end end d empty step same draws = go draws.here draws.up draws.is (empty draws.here draws.up draws.is) draws.here_is d.up draws.up_is
    where
      t : List CowStr
      t = old.allocations.texts

      T : BlockDocument
      T = Node (node (Text (slice text start text_end)) start text_end) Nil Nil

      go : (here : Forest Item) (up : List (Opened Item)) → Is old.tree here up → is_empty_paragraph start here up ≡ true → shown_forest text t here ≡ nodes_of d.here → (levels : List OpenNode) → map (shown_open text t) up ≡ map open_node levels → Draws text new (close_at end (join d.here T) levels)
      go (forest.Node item inside after) up is a h levels u = absurd (true≢false (sym a))
      go forest.Nil [] is a h levels u = absurd (true≢false (sym a))
      go forest.Nil (v ∷ up) is a h [] u = absurd (let q : shown_open text t v ∷ map (shown_open text t) up ≡ [] = u in cc)
      go forest.Nil (v ∷ up) is a h (w ∷ levels) u =
          let q : shown_open text t v ∷ map (shown_open text t) up ≡ open_node w ∷ map open_node levels = u in
          let first : shown_open text t v ≡ open_node w = cc in
          let rest : map (shown_open text t) up ≡ map open_node levels = cc in
          let left : shown_forest text t v.left ≡ nodes_of w.left = ap (λ o. o.left) first in
          let s = both (v.item.start == start) (is_paragraph v.item.body) a in
          let begin : v.item.start ≡ start = start-is v.item.start start s.0 in
          let n = paragraph-node t v.item w.node (paragraph-is v.item.body s.1) (ap (λ o. o.item) first) in
          let item = item_at v.item.start end (body.ParagraphOf text_end) in
          record {
            here = closed (ended end (body.ParagraphOf text_end) v) forest.Nil;
            up = up;
            is = step forest.Nil v up is;
            here_is = subst (λ a. shown_forest text a.texts (join_forests v.left (one item forest.Nil)) ≡ nodes_of (join w.left (Node (node w.node.kind w.node.start end) (join d.here T) Nil))) (sym same)
                (shown_forest-join text t v.left (one item forest.Nil)
                ∙ ap (λ f. join_forests f (shown_forest text t (one item forest.Nil))) left
                ∙ ap (λ s. join_forests (nodes_of w.left) (one (Some (node Paragraph s end)) (one (Some (node (Text (slice text s text_end)) s text_end)) forest.Nil))) begin
                ∙ sym (nodes_of-join w.left (Node (node Paragraph start end) T Nil))
                ∙ ap (λ s. nodes_of (join w.left (Node (node Paragraph s end) T Nil))) (sym (n.1 ∙ begin))
                ∙ ap (λ k. nodes_of (join w.left (Node (node k w.node.start end) T Nil))) (sym n.0)
                ∙ ap (λ b. nodes_of (join w.left (Node (node w.node.kind w.node.start end) (join b T) Nil))) (sym (nothing-shown d.here h)));
            up_is = subst (λ a. map (shown_open text a.texts) up ≡ map open_node levels) (sym same) rest;
          }
