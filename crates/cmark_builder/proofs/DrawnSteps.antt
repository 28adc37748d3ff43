-- What a builder has drawn, after its calls.
use Rattle.std.proofs.Common.{◌≡◌, ◌⊎◌, inl, inr, ℕ, zero, suc, List, [], ◌∷◌, ◌++◌, map, Option, Some, None, option_map, refl, sym, ap, ◌∙◌, subst}
use Rattle.std.specs.Prelude.{slice_get}
use Rattle.std.proofs.lemmas.Option.{same_Some}
use Rattle.cmark_values.specs.declared.text.CowStr.{CowStr}
use Rattle.cmark_values.specs.Shown.{text_bytes}
use Rattle.cmark_tree.specs.Forest as forest
use Rattle.cmark_tree.specs.Forest.{Forest, one, join as join_forests}
use Rattle.cmark_tree.specs.Building.{Opened, Is, closed}
use Rattle.cmark_grammar.specs.BlockDocument.{BlockKind, BlockNode, BlockDocument, DefinitionListTitle, Nil, Node, node, join}
use Rattle.cmark_items.specs.declared.item.Item.{Item}
use Rattle.cmark_items.specs.declared.item.ItemBody.{ItemBody}
use Rattle.cmark_items.specs.declared.item.ItemBody.TheVariants as body
use Rattle.cmark_items.specs.ItemNodes.{Shape, Element, Spelt, TextSlice, HtmlSlice, ParagraphOf, TitleOf, NoNode, shape, kind_of, kind_over, ranged, text_at, one_text, shown_inside, shown_element, shown_item, shown_forest, nodes_of}
use Rattle.cmark_block_model.specs.Drawing.{OpenNode, Drawing, drawn, opened, close_as, closed_as, close_at, closed_at, last_or, last_of, before_last, as_kind, start_in, retitled, enclosed, release_as, released}
use Rattle.cmark_tree.proofs.Items.{one_inj, none_last}
use Rattle.cmark_builder.specs.declared.builder.Builder.{Builder}
use Rattle.cmark_builder.specs.Drawn.{shown_open, open_node, Draws}
use Rattle.cmark_builder.specs.Ended.{item_at, ended, titled}

pub nodes_of-join : (a b : BlockDocument) → nodes_of (join a b) ≡ join_forests (nodes_of a) (nodes_of b)
nodes_of-join Nil b = refl
nodes_of-join (Node n inside after) b = ap (forest.Node (Some n) (nodes_of inside)) (nodes_of-join after b)

module _ (text : List ℕ) (t : List CowStr) where
  pub shown_forest-join : (f g : Forest Item) → shown_forest text t (join_forests f g) ≡ join_forests (shown_forest text t f) (shown_forest text t g)
  shown_forest-join forest.Nil g = refl
  shown_forest-join (forest.Node item inside after) g = ap (forest.Node (shown_item text t item) (shown_inside text item.start (shape item.body) (shown_forest text t inside))) (shown_forest-join after g)

-- an element is an item
pub element-item : (text : List ℕ) (t : List CowStr) (item : Item) (n : BlockNode) → shown_element t item ≡ Some n → shown_item text t item ≡ Some n
element-item text t item n e = go (shape item.body) e
  where
    go : (s : Shape) → option_map (ranged item.start item.end) (kind_of t s) ≡ Some n → option_map (ranged item.start item.end) (kind_over text t item.start item.end s) ≡ Some n
    go (Element kind) e = e
    go (Spelt kind index) e = e
    go TextSlice e = absurd (let q : None ≡ Some n = e in cc)
    go HtmlSlice e = absurd (let q : None ≡ Some n = e in cc)
    go (ParagraphOf text_end) e = absurd (let q : None ≡ Some n = e in cc)
    go (TitleOf text_end) e = absurd (let q : None ≡ Some n = e in cc)
    go NoNode e = absurd (let q : None ≡ Some n = e in cc)

-- the nodes inside an element are the nodes below it
element-inside : (text : List ℕ) (t : List CowStr) (item : Item) (n : BlockNode) (below : Forest (Option BlockNode)) → shown_element t item ≡ Some n → shown_inside text item.start (shape item.body) below ≡ below
element-inside text t item n below e = go (shape item.body) e
  where
    go : (s : Shape) → option_map (ranged item.start item.end) (kind_of t s) ≡ Some n → shown_inside text item.start s below ≡ below
    go (ParagraphOf text_end) e = absurd (let q : None ≡ Some n = e in cc)
    go (TitleOf text_end) e = absurd (let q : None ≡ Some n = e in cc)
    go _ e = refl

-- so an element is shown as its node, around the nodes below it
pub element-one : (text : List ℕ) (t : List CowStr) (item : Item) (n : BlockNode) (below : Forest Item) → shown_element t item ≡ Some n → shown_forest text t (one item below) ≡ one (Some n) (shown_forest text t below)
element-one text t item n below e =
    ap (λ x. one x (shown_inside text item.start (shape item.body) (shown_forest text t below))) (element-item text t item n e)
    ∙ ap (one (Some n)) (element-inside text t item n (shown_forest text t below) e)

-- the kind of an element does not depend on its end
pub element-ended : (t : List CowStr) (item : Item) (n : BlockNode) (end : ℕ) → shown_element t item ≡ Some n → shown_element t (item_at item.start end item.body) ≡ Some (node n.kind n.start end)
element-ended t item n end e = go (kind_of t (shape item.body)) e
  where
    go : (k : Option BlockKind) → option_map (ranged item.start item.end) k ≡ Some n → option_map (ranged item.start end) k ≡ Some (node n.kind n.start end)
    go None e = absurd (let q : None ≡ Some n = e in cc)
    go (Some kind) e = ap (λ m. Some (node m.kind m.start end)) (same_Some (node kind item.start item.end) n e)

module _ (text : List ℕ) (old new : Builder) where
  -- a node was added
  pub draws-add : (item : Item) (n : BlockNode) (d : Drawing) →
      ((here : Forest Item) (up : List (Opened Item)) → Is old.tree here up → Is new.tree (join_forests here (one item forest.Nil)) up) →
      new.allocations ≡ old.allocations → shown_item text old.allocations.texts item ≡ Some n → shown_inside text item.start (shape item.body) forest.Nil ≡ forest.Nil →
      Draws text old d → Draws text new (drawn (Node n Nil Nil) d)
  draws-add item n d step same shows nothing draws = record {
    here = join_forests draws.here (one item forest.Nil);
    up = draws.up;
    is = step draws.here draws.up draws.is;
    here_is = subst (λ a. shown_forest text a.texts (join_forests draws.here (one item forest.Nil)) ≡ nodes_of (join d.here (Node n Nil Nil))) (sym same)
        (shown_forest-join text old.allocations.texts draws.here (one item forest.Nil)
        ∙ ap (λ f. join_forests f (shown_forest text old.allocations.texts (one item forest.Nil))) draws.here_is
        ∙ ap (λ x. join_forests (nodes_of d.here) (one x (shown_inside text item.start (shape item.body) forest.Nil))) shows
        ∙ ap (λ f. join_forests (nodes_of d.here) (one (Some n) f)) nothing
        ∙ sym (nodes_of-join d.here (Node n Nil Nil)));
    up_is = subst (λ a. map (shown_open text a.texts) draws.up ≡ map open_node d.up) (sym same) draws.up_is;
  }

  -- a node was opened
  pub draws-open : (start : ℕ) (body : ItemBody) (kind : BlockKind) (d : Drawing) →
      ((here : Forest Item) (up : List (Opened Item)) → Is old.tree here up → Is new.tree forest.Nil (record { left = here; item = item_at start start body } ∷ up)) →
      new.allocations ≡ old.allocations → shown_element old.allocations.texts (item_at start start body) ≡ Some (node kind start start) →
      Draws text old d → Draws text new (opened start kind d)
  draws-open start body kind d step same shows draws = record {
    here = forest.Nil;
    up = record { left = draws.here; item = item_at start start body } ∷ draws.up;
    is = step draws.here draws.up draws.is;
    here_is = refl;
    up_is = subst (λ a. map (shown_open text a.texts) (record { left = draws.here; item = item_at start start body } ∷ draws.up) ≡ map open_node (record { left = d.here; node = node kind start start } ∷ d.up)) (sym same)
        (ap (λ x. record { left = shown_forest text old.allocations.texts draws.here; item = x } ∷ map (shown_open text old.allocations.texts) draws.up) shows
        ∙ ap (λ f. record { left = f; item = Some (node kind start start) } ∷ map (shown_open text old.allocations.texts) draws.up) draws.here_is
        ∙ ap (λ u. record { left = nodes_of d.here; item = Some (node kind start start) } ∷ u) draws.up_is);
  }

  Following : Drawing → Type 0
  Following d = Draws text new d

  -- a node was closed: as another one, whose kind is known
  pub draws-close_as : (end : ℕ) (body : ItemBody) (kind : BlockKind) (d : Drawing) →
      ((here : Forest Item) (v : Opened Item) (up : List (Opened Item)) → Is old.tree here (v ∷ up) → Is new.tree (closed (ended end body v) here) up) →
      ((here : Forest Item) → Is old.tree here [] → new.tree ≡ old.tree) →
      new.allocations ≡ old.allocations → kind_of old.allocations.texts (shape body) ≡ Some kind →
      Draws text old d → Draws text new (closed_as kind end d)
  draws-close_as end body kind d step none same shows draws = go draws.here draws.up draws.is draws.here_is d.up draws.up_is
    where
      t : List CowStr
      t = old.allocations.texts

      go : (here : Forest Item) (up : List (Opened Item)) → Is old.tree here up → shown_forest text t here ≡ nodes_of d.here → (levels : List OpenNode) → map (shown_open text t) up ≡ map open_node levels → Draws text new (close_as kind end d.here levels)
      go here [] is h [] u = record {
        here = here;
        up = [];
        is = subst (λ tree. Is tree here []) (sym (none here is)) is;
        here_is = subst (λ a. shown_forest text a.texts here ≡ nodes_of d.here) (sym same) h;
        up_is = refl;
      }
      go here [] is h (v ∷ levels) u = absurd (let q : [] ≡ open_node v ∷ map open_node levels = u in cc)
      go here (v ∷ up) is h [] u = absurd (let q : shown_open text t v ∷ map (shown_open text t) up ≡ [] = u in cc)
      go here (v ∷ up) is h (w ∷ levels) u =
          let first : shown_open text t v ≡ open_node w = (let q : shown_open text t v ∷ map (shown_open text t) up ≡ open_node w ∷ map open_node levels = u in cc) in
          let rest : map (shown_open text t) up ≡ map open_node levels = (let q : shown_open text t v ∷ map (shown_open text t) up ≡ open_node w ∷ map open_node levels = u in cc) in
          let left : shown_forest text t v.left ≡ nodes_of w.left = ap (λ o. o.left) first in
          let start : v.item.start ≡ w.node.start = (opens (kind_of t (shape v.item.body)) (ap (λ o. o.item) first)) in
          let item = item_at v.item.start end body in
          let element : shown_element t item ≡ Some (node kind w.node.start end) =
          ap (option_map (ranged v.item.start end)) shows ∙ ap (λ s. Some (node kind s end)) start in
          record {
            here = closed (ended end body v) here;
            up = up;
            is = step here v up is;
            here_is = subst (λ a. shown_forest text a.texts (join_forests v.left (one item here)) ≡ nodes_of (join w.left (Node (node kind w.node.start end) d.here Nil))) (sym same)
                (shown_forest-join text t v.left (one item here)
                ∙ ap (λ f. join_forests f (shown_forest text t (one item here))) left
                ∙ ap (join_forests (nodes_of w.left)) (element-one text t item (node kind w.node.start end) here element)
                ∙ ap (λ f. join_forests (nodes_of w.left) (one (Some (node kind w.node.start end)) f)) h
                ∙ sym (nodes_of-join w.left (Node (node kind w.node.start end) d.here Nil)));
            up_is = subst (λ a. map (shown_open text a.texts) up ≡ map open_node levels) (sym same) rest;
          }
        where
          opens : (k : Option BlockKind) → option_map (ranged v.item.start v.item.end) k ≡ Some w.node → v.item.start ≡ w.node.start
          opens None e = absurd (let q : None ≡ Some w.node = e in cc)
          opens (Some k) e = ap (λ m. m.start) (same_Some (node k v.item.start v.item.end) w.node e)

  -- a node was closed
  pub draws-close : (end : ℕ) (d : Drawing) →
      ((here : Forest Item) (v : Opened Item) (up : List (Opened Item)) → Is old.tree here (v ∷ up) → Is new.tree (closed (ended end v.item.body v) here) up) →
      ((here : Forest Item) → Is old.tree here [] → new.tree ≡ old.tree) →
      new.allocations ≡ old.allocations →
      Draws text old d → Draws text new (closed_at end d)
  draws-close end d step none same draws = go draws.here draws.up draws.is draws.here_is d.up draws.up_is
    where
      t : List CowStr
      t = old.allocations.texts

      go : (here : Forest Item) (up : List (Opened Item)) → Is old.tree here up → shown_forest text t here ≡ nodes_of d.here → (levels : List OpenNode) → map (shown_open text t) up ≡ map open_node levels → Draws text new (close_at end d.here levels)
      go here [] is h [] u = record {
        here = here;
        up = [];
        is = subst (λ tree. Is tree here []) (sym (none here is)) is;
        here_is = subst (λ a. shown_forest text a.texts here ≡ nodes_of d.here) (sym same) h;
        up_is = refl;
      }
      go here [] is h (v ∷ levels) u = absurd (let q : [] ≡ open_node v ∷ map open_node levels = u in cc)
      go here (v ∷ up) is h [] u = absurd (let q : shown_open text t v ∷ map (shown_open text t) up ≡ [] = u in cc)
      go here (v ∷ up) is h (w ∷ levels) u =
          let first : shown_open text t v ≡ open_node w = (let q : shown_open text t v ∷ map (shown_open text t) up ≡ open_node w ∷ map open_node levels = u in cc) in
          let rest : map (shown_open text t) up ≡ map open_node levels = (let q : shown_open text t v ∷ map (shown_open text t) up ≡ open_node w ∷ map open_node levels = u in cc) in
          let left : shown_forest text t v.left ≡ nodes_of w.left = ap (λ o. o.left) first in
          let item = item_at v.item.start end v.item.body in
          let n = node w.node.kind w.node.start end in
          let element : shown_element t item ≡ Some n = element-ended t v.item w.node end (ap (λ o. o.item) first) in
          record {
            here = closed (ended end v.item.body v) here;
            up = up;
            is = step here v up is;
            here_is = subst (λ a. shown_forest text a.texts (join_forests v.left (one item here)) ≡ nodes_of (join w.left (Node n d.here Nil))) (sym same)
                (shown_forest-join text t v.left (one item here)
                ∙ ap (λ f. join_forests f (shown_forest text t (one item here))) left
                ∙ ap (join_forests (nodes_of w.left)) (element-one text t item n here element)
                ∙ ap (λ f. join_forests (nodes_of w.left) (one (Some n) f)) h
                ∙ sym (nodes_of-join w.left (Node n d.here Nil)));
            up_is = subst (λ a. map (shown_open text a.texts) up ≡ map open_node levels) (sym same) rest;
          }

-- a document is the nodes before its last sibling, and then that sibling
pub document-last : (d : BlockDocument) → ((n : BlockNode) × (inner : BlockDocument) × (last_of d ≡ Node n inner Nil) × (d ≡ join (before_last d) (Node n inner Nil))) ⊎ (d ≡ Nil)
document-last Nil = inr refl
document-last (Node node inside Nil) = inl (node, inside, refl, refl)
document-last (Node node inside (Node m i a)) = elim (document-last (Node m i a)) [
  | inl l ↦ inl (l.0, l.1, ap (last_or (Node node inside Nil)) l.2, ap (Node node inside) l.3)
  | inr nil ↦ absurd (let q : Node m i a ≡ Nil = nil in cc)
]

-- the last sibling that a forest shows
pub record LastShown (text : List ℕ) (t : List CowStr) (here : Forest Item) (d : BlockDocument) : Type 0 where
  pub before : Forest Item
  pub item : Item
  pub inside : Forest Item
  pub here_is : here ≡ join_forests before (one item inside)
  pub node : BlockNode
  pub inner : BlockDocument
  pub last_is : last_of d ≡ Node node inner Nil
  pub before_is : shown_forest text t before ≡ nodes_of (before_last d)
  pub item_is : shown_item text t item ≡ Some node
  pub inside_is : shown_inside text item.start (shape item.body) (shown_forest text t inside) ≡ nodes_of inner

forest-last : (f : Forest Item) → ((before : Forest Item) × (x : Item) × (inside : Forest Item) × (f ≡ join_forests before (one x inside))) ⊎ (f ≡ forest.Nil)
forest-last forest.Nil = inr refl
forest-last (forest.Node x inside after) = elim (forest-last after) [
  | inl l ↦ inl (forest.Node x inside l.0, l.1, l.2, ap (forest.Node x inside) l.3)
  | inr nil ↦ inl (forest.Nil, x, inside, ap (forest.Node x inside) nil)
]

pub last-shown : (text : List ℕ) (t : List CowStr) (here : Forest Item) (d : BlockDocument) → shown_forest text t here ≡ nodes_of d → LastShown text t here d ⊎ ((here ≡ forest.Nil) × (d ≡ Nil))
last-shown text t here d e = elim (forest-last here) [
  | inl f ↦ elim (document-last d) [
    | inl l ↦ (
        let same = one_inj (shown_forest text t f.0) (nodes_of (before_last d)) (shown_item text t f.1) (Some l.0) (shown_inside text f.1.start (shape f.1.body) (shown_forest text t f.2)) (nodes_of l.1)
        (sym (shown_forest-join text t f.0 (one f.1 f.2)) ∙ ap (shown_forest text t) (sym f.3) ∙ e ∙ ap nodes_of l.3 ∙ nodes_of-join (before_last d) (Node l.0 l.1 Nil)) in
        inl (record { before = f.0; item = f.1; inside = f.2; here_is = f.3; node = l.0; inner = l.1; last_is = l.2; before_is = same.0; item_is = same.1; inside_is = same.2 }))
    | inr nil ↦ absurd (none_last (shown_forest text t f.0) (shown_item text t f.1) (shown_inside text f.1.start (shape f.1.body) (shown_forest text t f.2)) (sym (ap nodes_of nil) ∙ sym e ∙ ap (shown_forest text t) f.3 ∙ shown_forest-join text t f.0 (one f.1 f.2)))
  ]
  | inr nil ↦ elim (document-last d) [
    | inl l ↦ absurd (none_last (nodes_of (before_last d)) (Some l.0) (nodes_of l.1) (ap (shown_forest text t) (sym nil) ∙ e ∙ ap nodes_of l.3 ∙ nodes_of-join (before_last d) (Node l.0 l.1 Nil)))
    | inr empty ↦ inr (nil, empty)
  ]
]

-- a node's range is its item's
pub item-range : (text : List ℕ) (t : List CowStr) (item : Item) (n : BlockNode) → shown_item text t item ≡ Some n → (item.start ≡ n.start) × (item.end ≡ n.end)
item-range text t item n e = go (kind_over text t item.start item.end (shape item.body)) e
  where
    go : (k : Option BlockKind) → option_map (ranged item.start item.end) k ≡ Some n → (item.start ≡ n.start) × (item.end ≡ n.end)
    go None e = absurd (let q : None ≡ Some n = e in cc)
    go (Some k) e = (ap (λ m. m.start) (same_Some (node k item.start item.end) n e), ap (λ m. m.end) (same_Some (node k item.start item.end) n e))

-- a title as a node: the nodes inside a paragraph stay
abbrev titled_shape : Shape → Shape
titled_shape (ParagraphOf text_end) = TitleOf text_end
titled_shape (TitleOf text_end) = TitleOf text_end
titled_shape _ = Element DefinitionListTitle

shape-titled : (b : ItemBody) → shape (titled b) ≡ titled_shape (shape b)
shape-titled body.Paragraph = refl
shape-titled _ = refl

module _ (text : List ℕ) (t : List CowStr) where
  titled-kind : (start end : ℕ) (s : Shape) → kind_over text t start end (titled_shape s) ≡ Some DefinitionListTitle
  titled-kind start end NoNode = refl
  titled-kind start end _ = refl

  titled-inside : (start : ℕ) (s : Shape) (below : Forest (Option BlockNode)) → shown_inside text start (titled_shape s) below ≡ shown_inside text start s below
  titled-inside start NoNode below = refl
  titled-inside start _ below = refl

  -- an item that becomes a title has the same range, and the same nodes inside
  titled-one : (item : Item) (n : BlockNode) (inside : Forest Item) (inner : BlockDocument) → shown_item text t item ≡ Some n → shown_inside text item.start (shape item.body) (shown_forest text t inside) ≡ nodes_of inner
      → shown_forest text t (one (item_at item.start item.end (titled item.body)) inside) ≡ one (Some (record n { kind = DefinitionListTitle })) (nodes_of inner)
  titled-one item n inside inner is within =
      let r = item-range text t item n is in
      ap (λ s. one (option_map (ranged item.start item.end) (kind_over text t item.start item.end s)) (shown_inside text item.start s (shown_forest text t inside))) (shape-titled item.body)
      ∙ ap (λ k. one (option_map (ranged item.start item.end) k) (shown_inside text item.start (titled_shape (shape item.body)) (shown_forest text t inside))) (titled-kind item.start item.end (shape item.body))
      ∙ ap (one (Some (node DefinitionListTitle item.start item.end))) (titled-inside item.start (shape item.body) (shown_forest text t inside) ∙ within)
      ∙ ap (λ s. one (Some (node DefinitionListTitle s item.end)) (nodes_of inner)) r.0
      ∙ ap (λ e. one (Some (node DefinitionListTitle n.start e)) (nodes_of inner)) r.1

module _ (text : List ℕ) (old new : Builder) where
  -- the last sibling became a title
  pub draws-titled : (d : Drawing) →
      ((here : Forest Item) (item : Item) (inside : Forest Item) (up : List (Opened Item)) → Is old.tree (join_forests here (one item inside)) up → Is new.tree (join_forests here (one (item_at item.start item.end (titled item.body)) inside)) up) →
      ((up : List (Opened Item)) → Is old.tree forest.Nil up → new.tree ≡ old.tree) →
      new.allocations ≡ old.allocations → Draws text old d → Draws text new (retitled DefinitionListTitle d)
  draws-titled d step none same draws = elim (last-shown text old.allocations.texts draws.here d.here draws.here_is) [
    | inl l ↦ (
        let t = old.allocations.texts in record {
          here = join_forests l.before (one (item_at l.item.start l.item.end (titled l.item.body)) l.inside);
          up = draws.up;
          is = step l.before l.item l.inside draws.up (subst (λ h. Is old.tree h draws.up) l.here_is draws.is);
          here_is = subst (λ a. shown_forest text a.texts (join_forests l.before (one (item_at l.item.start l.item.end (titled l.item.body)) l.inside)) ≡ nodes_of (join (before_last d.here) (as_kind DefinitionListTitle (last_of d.here)))) (sym same)
              (shown_forest-join text t l.before (one (item_at l.item.start l.item.end (titled l.item.body)) l.inside)
              ∙ ap (λ f. join_forests f (shown_forest text t (one (item_at l.item.start l.item.end (titled l.item.body)) l.inside))) l.before_is
              ∙ ap (join_forests (nodes_of (before_last d.here))) (titled-one text t l.item l.node l.inside l.inner l.item_is l.inside_is)
              ∙ sym (nodes_of-join (before_last d.here) (Node (record l.node { kind = DefinitionListTitle }) l.inner Nil))
              ∙ ap (λ k. nodes_of (join (before_last d.here) (as_kind DefinitionListTitle k))) (sym l.last_is));
          up_is = subst (λ a. map (shown_open text a.texts) draws.up ≡ map open_node d.up) (sym same) draws.up_is;
        })
    | inr nil ↦ record {
      here = forest.Nil;
      up = draws.up;
      is = subst (λ tree. Is tree forest.Nil draws.up) (sym (none draws.up (subst (λ h. Is old.tree h draws.up) nil.0 draws.is))) (subst (λ h. Is old.tree h draws.up) nil.0 draws.is);
      here_is = ap (λ k. nodes_of (join (before_last k) (as_kind DefinitionListTitle (last_of k)))) (sym nil.1);
      up_is = subst (λ a. map (shown_open text a.texts) draws.up ≡ map open_node d.up) (sym same) draws.up_is;
    }
  ]

  -- the last sibling became a title, in a new node
  pub draws-enclosed : (around : ItemBody) (kind_around : BlockKind) (d : Drawing) →
      ((here : Forest Item) (item : Item) (inside : Forest Item) (up : List (Opened Item)) → Is old.tree (join_forests here (one item inside)) up
      → Is new.tree (one (item_at item.start item.end (titled item.body)) inside) (record { left = here; item = item_at item.start item.start around } ∷ up)) →
      ((up : List (Opened Item)) → Is old.tree forest.Nil up → Is new.tree forest.Nil (record { left = forest.Nil; item = item_at 0 0 around } ∷ up)) →
      new.allocations ≡ old.allocations → kind_of old.allocations.texts (shape around) ≡ Some kind_around →
      Draws text old d → Draws text new (enclosed kind_around DefinitionListTitle d)
  draws-enclosed around kind_around d step none same shows_around draws = elim (last-shown text old.allocations.texts draws.here d.here draws.here_is) [
    | inl l ↦ (
        let t = old.allocations.texts in
        let start : l.item.start ≡ l.node.start = (item-range text t l.item l.node l.item_is).0 in record {
          here = one (item_at l.item.start l.item.end (titled l.item.body)) l.inside;
          up = record { left = l.before; item = item_at l.item.start l.item.start around } ∷ draws.up;
          is = step l.before l.item l.inside draws.up (subst (λ h. Is old.tree h draws.up) l.here_is draws.is);
          here_is = subst (λ a. shown_forest text a.texts (one (item_at l.item.start l.item.end (titled l.item.body)) l.inside) ≡ nodes_of (as_kind DefinitionListTitle (last_of d.here))) (sym same)
              (titled-one text t l.item l.node l.inside l.inner l.item_is l.inside_is
              ∙ ap (λ k. nodes_of (as_kind DefinitionListTitle k)) (sym l.last_is));
          up_is = subst (λ a. map (shown_open text a.texts) (record { left = l.before; item = item_at l.item.start l.item.start around } ∷ draws.up) ≡ map open_node (enclosed kind_around DefinitionListTitle d).up) (sym same)
              (ap (λ x. record { left = shown_forest text t l.before; item = x } ∷ map (shown_open text t) draws.up) (ap (option_map (ranged l.item.start l.item.start)) shows_around ∙ ap (λ s. Some (node kind_around s s)) start)
              ∙ ap (λ f. record { left = f; item = Some (node kind_around l.node.start l.node.start) } ∷ map (shown_open text t) draws.up) l.before_is
              ∙ ap (λ u. record { left = nodes_of (before_last d.here); item = Some (node kind_around l.node.start l.node.start) } ∷ u) draws.up_is
              ∙ ap (λ k. record { left = nodes_of (before_last d.here); item = Some (node kind_around (start_in k) (start_in k)) } ∷ map open_node d.up) (sym l.last_is));
        })
    | inr nil ↦ (
        let t = old.allocations.texts in record {
          here = forest.Nil;
          up = record { left = forest.Nil; item = item_at 0 0 around } ∷ draws.up;
          is = none draws.up (subst (λ h. Is old.tree h draws.up) nil.0 draws.is);
          here_is = ap (λ k. nodes_of (as_kind DefinitionListTitle (last_of k))) (sym nil.1);
          up_is = subst (λ a. map (shown_open text a.texts) (record { left = forest.Nil; item = item_at 0 0 around } ∷ draws.up) ≡ map open_node (enclosed kind_around DefinitionListTitle d).up) (sym same)
              (ap (λ x. record { left = forest.Nil; item = x } ∷ map (shown_open text t) draws.up) (ap (option_map (ranged 0 0)) shows_around)
              ∙ ap (λ u. record { left = forest.Nil; item = Some (node kind_around 0 0) } ∷ u) draws.up_is
              ∙ ap (λ k. record { left = nodes_of (before_last k); item = Some (node kind_around (start_in (last_of k)) (start_in (last_of k))) } ∷ map open_node d.up) (sym nil.1));
        })
  ]

  -- a node was closed, and its last child moved after it
  pub draws-released : (end : ℕ) (body : ItemBody) (kind : BlockKind) (d : Drawing) →
      ((here : Forest Item) (item : Item) (inside : Forest Item) (v : Opened Item) (up : List (Opened Item)) → Is old.tree (join_forests here (one item inside)) (v ∷ up) → Is new.tree (join_forests (closed (ended end body v) here) (one item inside)) up) →
      ((v : Opened Item) (up : List (Opened Item)) → Is old.tree forest.Nil (v ∷ up) → Is new.tree (closed (ended end body v) forest.Nil) up) →
      ((here : Forest Item) → Is old.tree here [] → new.tree ≡ old.tree) →
      new.allocations ≡ old.allocations → kind_of old.allocations.texts (shape body) ≡ Some kind →
      Draws text old d → Draws text new (released kind end d)
  draws-released end body kind d step childless none same shows draws = go draws.up draws.is d.up draws.up_is
    where
      t : List CowStr
      t = old.allocations.texts

      go : (up : List (Opened Item)) → Is old.tree draws.here up → (levels : List OpenNode) → map (shown_open text t) up ≡ map open_node levels → Draws text new (release_as kind end d.here levels)
      go [] is [] u = record {
        here = draws.here;
        up = [];
        is = subst (λ tree. Is tree draws.here []) (sym (none draws.here is)) is;
        here_is = subst (λ a. shown_forest text a.texts draws.here ≡ nodes_of d.here) (sym same) draws.here_is;
        up_is = refl;
      }
      go [] is (v ∷ levels) u = absurd (let q : [] ≡ open_node v ∷ map open_node levels = u in cc)
      go (v ∷ up) is [] u = absurd (let q : shown_open text t v ∷ map (shown_open text t) up ≡ [] = u in cc)
      go (v ∷ up) is (w ∷ levels) u =
          let first : shown_open text t v ≡ open_node w = (let q : shown_open text t v ∷ map (shown_open text t) up ≡ open_node w ∷ map open_node levels = u in cc) in
          let rest : map (shown_open text t) up ≡ map open_node levels = (let q : shown_open text t v ∷ map (shown_open text t) up ≡ open_node w ∷ map open_node levels = u in cc) in
          let left : shown_forest text t v.left ≡ nodes_of w.left = ap (λ o. o.left) first in
          let start : v.item.start ≡ w.node.start = opens (kind_of t (shape v.item.body)) (ap (λ o. o.item) first) in
          let item = item_at v.item.start end body in
          let element : shown_element t item ≡ Some (node kind w.node.start end) = ap (option_map (ranged v.item.start end)) shows ∙ ap (λ s. Some (node kind s end)) start in
          let n = node kind w.node.start end in
          let around : (f : Forest Item) (g : BlockDocument) → shown_forest text t f ≡ nodes_of g → shown_forest text t (join_forests v.left (one item f)) ≡ nodes_of (join w.left (Node n g Nil)) = (λ f g e.
          shown_forest-join text t v.left (one item f)
          ∙ ap (λ k. join_forests k (shown_forest text t (one item f))) left
          ∙ ap (join_forests (nodes_of w.left)) (element-one text t item n f element)
          ∙ ap (λ k. join_forests (nodes_of w.left) (one (Some n) k)) e
          ∙ sym (nodes_of-join w.left (Node n g Nil))) in
          elim (last-shown text t draws.here d.here draws.here_is) [
            | inl l ↦ record {
              here = join_forests (closed (ended end body v) l.before) (one l.item l.inside);
              up = up;
              is = step l.before l.item l.inside v up (subst (λ h. Is old.tree h (v ∷ up)) l.here_is is);
              here_is = subst (λ a. shown_forest text a.texts (join_forests (closed (ended end body v) l.before) (one l.item l.inside)) ≡ nodes_of (join w.left (Node n (before_last d.here) (last_of d.here)))) (sym same)
                  (shown_forest-join text t (closed (ended end body v) l.before) (one l.item l.inside)
                  ∙ ap (λ k. join_forests k (shown_forest text t (one l.item l.inside))) (around l.before (before_last d.here) l.before_is)
                  ∙ ap (λ x. join_forests (nodes_of (join w.left (Node n (before_last d.here) Nil))) (one x (shown_inside text l.item.start (shape l.item.body) (shown_forest text t l.inside)))) l.item_is
                  ∙ ap (λ k. join_forests (nodes_of (join w.left (Node n (before_last d.here) Nil))) (one (Some l.node) k)) l.inside_is
                  ∙ sym (nodes_of-join (join w.left (Node n (before_last d.here) Nil)) (Node l.node l.inner Nil))
                  ∙ ap nodes_of (rejoin w.left n (before_last d.here) (Node l.node l.inner Nil))
                  ∙ ap (λ k. nodes_of (join w.left (Node n (before_last d.here) k))) (sym l.last_is));
              up_is = subst (λ a. map (shown_open text a.texts) up ≡ map open_node levels) (sym same) rest;
            }
            | inr nil ↦ record {
              here = closed (ended end body v) forest.Nil;
              up = up;
              is = childless v up (subst (λ h. Is old.tree h (v ∷ up)) nil.0 is);
              here_is = subst (λ a. shown_forest text a.texts (closed (ended end body v) forest.Nil) ≡ nodes_of (join w.left (Node n (before_last d.here) (last_of d.here)))) (sym same)
                  (around forest.Nil Nil refl ∙ ap (λ k. nodes_of (join w.left (Node n (before_last k) (last_of k)))) (sym nil.1));
              up_is = subst (λ a. map (shown_open text a.texts) up ≡ map open_node levels) (sym same) rest;
            }
          ]
        where
          rejoin : (a : BlockDocument) (m : BlockNode) (b c : BlockDocument) → join (join a (Node m b Nil)) c ≡ join a (Node m b c)
          rejoin Nil m b c = refl
          rejoin (Node k i o) m b c = ap (Node k i) (rejoin o m b c)

          opens : (k : Option BlockKind) → option_map (ranged v.item.start v.item.end) k ≡ Some w.node → v.item.start ≡ w.node.start
          opens None e = absurd (let q : None ≡ Some w.node = e in cc)
          opens (Some k) e = ap (λ m. m.start) (same_Some (node k v.item.start v.item.end) w.node e)

-- another text in the tables
text_at-more : (t : List CowStr) (more : CowStr) (index : ℕ) (bytes : List ℕ) → text_at t index ≡ Some bytes → text_at (t ++ more ∷ []) index ≡ Some bytes
text_at-more t more index bytes e = go t index e
  where
    go : (texts : List CowStr) (i : ℕ) → option_map text_bytes (slice_get texts i) ≡ Some bytes → option_map text_bytes (slice_get (texts ++ more ∷ []) i) ≡ Some bytes
    go [] i e = absurd (let q : None ≡ Some bytes = e in cc)
    go (x ∷ xs) zero e = e
    go (x ∷ xs) (suc i) e = go xs i e

module _ (text : List ℕ) (t : List CowStr) (more : CowStr) where
  spelt-more : (kind : List ℕ → BlockKind) (index start end : ℕ) (n : BlockNode) → option_map (ranged start end) (option_map kind (text_at t index)) ≡ Some n → option_map (ranged start end) (option_map kind (text_at (t ++ more ∷ []) index)) ≡ Some n
  spelt-more kind index start end n e = go (text_at t index) refl e
    where
      go : (o : Option (List ℕ)) → text_at t index ≡ o → option_map (ranged start end) (option_map kind o) ≡ Some n → option_map (ranged start end) (option_map kind (text_at (t ++ more ∷ []) index)) ≡ Some n
      go None i e = absurd (let q : None ≡ Some n = e in cc)
      go (Some bytes) i e = ap (λ o. option_map (ranged start end) (option_map kind o)) (text_at-more t more index bytes i) ∙ e

  -- an item that is a node remains that node
  item-more : (item : Item) (n : BlockNode) → shown_item text t item ≡ Some n → shown_item text (t ++ more ∷ []) item ≡ Some n
  item-more item n e = go (shape item.body) e
    where
      go : (s : Shape) → option_map (ranged item.start item.end) (kind_over text t item.start item.end s) ≡ Some n → option_map (ranged item.start item.end) (kind_over text (t ++ more ∷ []) item.start item.end s) ≡ Some n
      go (Element kind) e = e
      go (Spelt kind index) e = spelt-more kind index item.start item.end n e
      go TextSlice e = e
      go HtmlSlice e = e
      go (ParagraphOf text_end) e = e
      go (TitleOf text_end) e = e
      go NoNode e = e

  element-more : (item : Item) (n : BlockNode) → shown_element t item ≡ Some n → shown_element (t ++ more ∷ []) item ≡ Some n
  element-more item n e = go (shape item.body) e
    where
      go : (s : Shape) → option_map (ranged item.start item.end) (kind_of t s) ≡ Some n → option_map (ranged item.start item.end) (kind_of (t ++ more ∷ []) s) ≡ Some n
      go (Element kind) e = e
      go (Spelt kind index) e = spelt-more kind index item.start item.end n e
      go TextSlice e = e
      go HtmlSlice e = e
      go (ParagraphOf text_end) e = e
      go (TitleOf text_end) e = e
      go NoNode e = e

  -- and so do the nodes inside
  text-more : (start text_end : ℕ) (inside : Forest Item) (i : BlockDocument) → one_text text start text_end (shown_forest text t inside) ≡ nodes_of i → one_text text start text_end (shown_forest text (t ++ more ∷ []) inside) ≡ nodes_of i
  text-more start text_end forest.Nil i e = e
  text-more start text_end (forest.Node item inside after) Nil e = absurd (let q : one_text text start text_end (shown_forest text t (forest.Node item inside after)) ≡ forest.Nil = e in cc)
  text-more start text_end (forest.Node item inside after) (Node n i a) e =
      absurd (let q : forest.Node None (shown_inside text item.start (shape item.body) (shown_forest text t inside)) (shown_forest text t after) ≡ forest.Node (Some n) (nodes_of i) (nodes_of a) = e in let none : None ≡ Some n = cc in cc)

  inside-more : (start : ℕ) (s : Shape) (inside : Forest Item) (i : BlockDocument) → ((d : BlockDocument) → shown_forest text t inside ≡ nodes_of d → shown_forest text (t ++ more ∷ []) inside ≡ nodes_of d)
      → shown_inside text start s (shown_forest text t inside) ≡ nodes_of i → shown_inside text start s (shown_forest text (t ++ more ∷ []) inside) ≡ nodes_of i
  inside-more start (ParagraphOf text_end) inside i below e = text-more start text_end inside i e
  inside-more start (TitleOf text_end) inside i below e = text-more start text_end inside i e
  inside-more start _ inside i below e = below i e

  forest-more : (f : Forest Item) (document : BlockDocument) → shown_forest text t f ≡ nodes_of document → shown_forest text (t ++ more ∷ []) f ≡ nodes_of document
  forest-more forest.Nil Nil e = refl
  forest-more forest.Nil (Node n inside after) e = absurd (let q : forest.Nil ≡ forest.Node (Some n) (nodes_of inside) (nodes_of after) = e in cc)
  forest-more (forest.Node item inside after) Nil e = absurd (let q : forest.Node (shown_item text t item) (shown_inside text item.start (shape item.body) (shown_forest text t inside)) (shown_forest text t after) ≡ forest.Nil = e in cc)
  forest-more (forest.Node item inside after) (Node n i a) e =
      let q : forest.Node (shown_item text t item) (shown_inside text item.start (shape item.body) (shown_forest text t inside)) (shown_forest text t after) ≡ forest.Node (Some n) (nodes_of i) (nodes_of a) = e in
      let here : shown_item text t item ≡ Some n = cc in
      let down : shown_inside text item.start (shape item.body) (shown_forest text t inside) ≡ nodes_of i = cc in
      let on : shown_forest text t after ≡ nodes_of a = cc in
      ap (λ x. forest.Node x (shown_inside text item.start (shape item.body) (shown_forest text (t ++ more ∷ []) inside)) (shown_forest text (t ++ more ∷ []) after)) (item-more item n here)
      ∙ ap (λ f. forest.Node (Some n) f (shown_forest text (t ++ more ∷ []) after)) (inside-more item.start (shape item.body) inside i (forest-more inside) down)
      ∙ ap (forest.Node (Some n) (nodes_of i)) (forest-more after a on)

  up-more : (up : List (Opened Item)) (levels : List OpenNode) → map (shown_open text t) up ≡ map open_node levels → map (shown_open text (t ++ more ∷ [])) up ≡ map open_node levels
  up-more [] levels e = e
  up-more (v ∷ up) [] e = absurd (let q : shown_open text t v ∷ map (shown_open text t) up ≡ [] = e in cc)
  up-more (v ∷ up) (w ∷ levels) e =
      let first : shown_open text t v ≡ open_node w = (let q : shown_open text t v ∷ map (shown_open text t) up ≡ open_node w ∷ map open_node levels = e in cc) in
      let rest : map (shown_open text t) up ≡ map open_node levels = (let q : shown_open text t v ∷ map (shown_open text t) up ≡ open_node w ∷ map open_node levels = e in cc) in
      ap (λ f. record { left = f; item = shown_element (t ++ more ∷ []) v.item } ∷ map (shown_open text (t ++ more ∷ [])) up) (forest-more v.left w.left (ap (λ o. o.left) first))
      ∙ ap (λ x. record { left = nodes_of w.left; item = x } ∷ map (shown_open text (t ++ more ∷ [])) up) (element-more v.item w.node (ap (λ o. o.item) first))
      ∙ ap (λ u. open_node w ∷ u) (up-more up levels rest)

-- a text was kept
pub draws-text : (text : List ℕ) (old new : Builder) (more : CowStr) (d : Drawing) → new.tree ≡ old.tree → new.allocations.texts ≡ old.allocations.texts ++ more ∷ [] → Draws text old d → Draws text new d
draws-text text old new more d same kept draws = record {
  here = draws.here;
  up = draws.up;
  is = subst (λ tree. Is tree draws.here draws.up) (sym same) draws.is;
  here_is = subst (λ t. shown_forest text t draws.here ≡ nodes_of d.here) (sym kept) (forest-more text old.allocations.texts more draws.here d.here draws.here_is);
  up_is = subst (λ t. map (shown_open text t) draws.up ≡ map open_node d.up) (sym kept) (up-more text old.allocations.texts more draws.up d.up draws.up_is);
}

-- the definitions of links are not part of the drawing
pub draws-same : (text : List ℕ) (old new : Builder) (d : Drawing) → new.tree ≡ old.tree → new.allocations.texts ≡ old.allocations.texts → Draws text old d → Draws text new d
draws-same text old new d same kept draws = record {
  here = draws.here;
  up = draws.up;
  is = subst (λ tree. Is tree draws.here draws.up) (sym same) draws.is;
  here_is = subst (λ t. shown_forest text t draws.here ≡ nodes_of d.here) (sym kept) draws.here_is;
  up_is = subst (λ t. map (shown_open text t) draws.up ≡ map open_node d.up) (sym kept) draws.up_is;
}
