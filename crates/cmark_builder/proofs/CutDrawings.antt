-- What a builder has drawn, after its siblings were cut off.
use Rattle.std.proofs.Common.{◌≡◌, ℕ, Bool, true, false, List, [], ◌∷◌, map, Option, Some, None, refl, sym, ap, ◌∙◌, subst}
use Rattle.std.specs.Prelude.{if◌then◌else◌, nat_lt}
use Rattle.cmark_values.specs.declared.text.CowStr.{CowStr}
use Rattle.cmark_tree.specs.Forest as forest
use Rattle.cmark_tree.specs.Forest.{Forest}
use Rattle.cmark_tree.specs.Building.{Opened, Is}
use Rattle.cmark_tree.specs.Cut.{ending_before, reaching_start}
use Rattle.cmark_grammar.specs.BlockDocument.{BlockNode, BlockDocument, Nil, Node, join}
use Rattle.cmark_grammar.specs.SetextAttributes.{texts_before}
use Rattle.cmark_grammar.specs.Tokens.{stretch_then}
use Rattle.cmark_items.specs.declared.item.Item.{Item}
use Rattle.cmark_items.specs.Spans.{spans}
use Rattle.cmark_items.specs.ItemNodes.{shape, shown_inside, shown_item, shown_forest, nodes_of}
use Rattle.cmark_block_model.specs.Drawing.{OpenNode, Drawing, drawn, cut_at, texts_cut}
use Rattle.cmark_builder.specs.declared.builder.Builder.{Builder}
use Rattle.cmark_builder.specs.Drawn.{shown_open, open_node, Draws}
use Rattle.cmark_builder.proofs.DrawnSteps.{item-range}

-- the nodes up to the first that does not end before a place, and the start of that one
abbrev pub ended_before : (place : ℕ) → BlockDocument → BlockDocument
ended_before place Nil = Nil
ended_before place (Node n inside after) = if nat_lt n.end place then Node n inside (ended_before place after) else Nil

abbrev pub start_reaching : (place : ℕ) → BlockDocument → Option ℕ
start_reaching place Nil = None
start_reaching place (Node n inside after) = if nat_lt n.end place then start_reaching place after else Some n.start

-- the drawing after the cut, if a node is open
abbrev pub left_at : (place : ℕ) → (here : BlockDocument) → List OpenNode → Drawing
left_at place here [] = record { here = here; up = [] }
left_at place here (v ∷ up) = record { here = ended_before place here; up = v ∷ up }

abbrev pub start_at : (place : ℕ) → (here : BlockDocument) → List OpenNode → Option ℕ
start_at place here [] = None
start_at place here (v ∷ up) = start_reaching place here

-- the texts up to a place are the nodes before it, and the part before it of the next node
before-none : (text : List ℕ) (place : ℕ) (d : BlockDocument) → start_reaching place d ≡ None → texts_before text place d ≡ ended_before place d
before-none text place Nil e = refl
before-none text place (Node n inside after) e = go (nat_lt n.end place) e (before-none text place after)
  where
    go : (z : Bool) → (if z then start_reaching place after else Some n.start) ≡ None → (start_reaching place after ≡ None → texts_before text place after ≡ ended_before place after)
        → (if z then Node n inside (texts_before text place after) else stretch_then text n.start place Nil) ≡ (if z then Node n inside (ended_before place after) else Nil)
    go true e ih = ap (Node n inside) (ih e)
    go false e ih = absurd (let q : Some n.start ≡ None = e in cc)

before-some : (text : List ℕ) (place start : ℕ) (d : BlockDocument) → start_reaching place d ≡ Some start → join (ended_before place d) (stretch_then text start place Nil) ≡ texts_before text place d
before-some text place start Nil e = absurd (let q : None ≡ Some start = e in cc)
before-some text place start (Node n inside after) e = go (nat_lt n.end place) e (before-some text place start after)
  where
    go : (z : Bool) → (if z then start_reaching place after else Some n.start) ≡ Some start → (start_reaching place after ≡ Some start → join (ended_before place after) (stretch_then text start place Nil) ≡ texts_before text place after)
        → join (if z then Node n inside (ended_before place after) else Nil) (stretch_then text start place Nil) ≡ (if z then Node n inside (texts_before text place after) else stretch_then text n.start place Nil)
    go true e ih = ap (Node n inside) (ih e)
    go false e ih = let same : start ≡ n.start = (let q : Some n.start ≡ Some start = e in cc) in ap (λ s. stretch_then text s place Nil) same

pub cut-none : (text : List ℕ) (place : ℕ) (d : Drawing) → start_at place d.here d.up ≡ None → left_at place d.here d.up ≡ texts_cut text place d
cut-none text place d e = go d.up e
  where
    go : (up : List OpenNode) → start_at place d.here up ≡ None → left_at place d.here up ≡ cut_at text place d.here up
    go [] e = refl
    go (v ∷ up) e = ap (λ h. record { here = h; up = v ∷ up }) (sym (before-none text place d.here e))

pub cut-some : (text : List ℕ) (place start : ℕ) (d : Drawing) → start_at place d.here d.up ≡ Some start → drawn (stretch_then text start place Nil) (left_at place d.here d.up) ≡ texts_cut text place d
cut-some text place start d e = go d.up e
  where
    go : (up : List OpenNode) → start_at place d.here up ≡ Some start → drawn (stretch_then text start place Nil) (left_at place d.here up) ≡ cut_at text place d.here up
    go [] e = absurd (let q : None ≡ Some start = e in cc)
    go (v ∷ up) e = ap (λ h. record { here = h; up = v ∷ up }) (before-some text place start d.here e)

module _ (text : List ℕ) (t : List CowStr) (place : ℕ) where
  -- the items of a node, in the form of the grammar
  record Same (item : Item) (inside after : Forest Item) (n : BlockNode) (i a : BlockDocument) : Type 0 where
    item_is : shown_item text t item ≡ Some n
    inside_is : shown_inside text item.start (shape item.body) (shown_forest text t inside) ≡ nodes_of i
    after_is : shown_forest text t after ≡ nodes_of a

  same-node : (item : Item) (inside after : Forest Item) (n : BlockNode) (i a : BlockDocument) → shown_forest text t (forest.Node item inside after) ≡ nodes_of (Node n i a) → Same item inside after n i a
  same-node item inside after n i a e =
      let q : forest.Node (shown_item text t item) (shown_inside text item.start (shape item.body) (shown_forest text t inside)) (shown_forest text t after) ≡ forest.Node (Some n) (nodes_of i) (nodes_of a) = e in record { item_is = cc; inside_is = cc; after_is = cc }

  -- the remaining items are shown as the remaining nodes
  shown-before : (here : Forest Item) (d : BlockDocument) → shown_forest text t here ≡ nodes_of d → shown_forest text t (ending_before spans place here) ≡ nodes_of (ended_before place d)
  shown-before forest.Nil Nil e = refl
  shown-before forest.Nil (Node n i a) e = absurd (let q : forest.Nil ≡ nodes_of (Node n i a) = e in cc)
  shown-before (forest.Node item inside after) Nil e = absurd (let q : shown_forest text t (forest.Node item inside after) ≡ forest.Nil = e in cc)
  shown-before (forest.Node item inside after) (Node n i a) e =
      let s = same-node item inside after n i a e in
      go (nat_lt item.end place) s (shown-before after a s.after_is)
      ∙ ap (λ x. nodes_of (if nat_lt x place then Node n i (ended_before place a) else Nil)) (item-range text t item n s.item_is).1
    where
      go : (z : Bool) → Same item inside after n i a → shown_forest text t (ending_before spans place after) ≡ nodes_of (ended_before place a)
          → shown_forest text t (if z then forest.Node item inside (ending_before spans place after) else forest.Nil) ≡ nodes_of (if z then Node n i (ended_before place a) else Nil)
      go true s ih =
          ap (λ x. forest.Node x (shown_inside text item.start (shape item.body) (shown_forest text t inside)) (shown_forest text t (ending_before spans place after))) s.item_is
          ∙ ap (λ x. forest.Node (Some n) x (shown_forest text t (ending_before spans place after))) s.inside_is
          ∙ ap (forest.Node (Some n) (nodes_of i)) ih
      go false s ih = refl

  shown-start : (here : Forest Item) (d : BlockDocument) → shown_forest text t here ≡ nodes_of d → reaching_start spans place here ≡ start_reaching place d
  shown-start forest.Nil Nil e = refl
  shown-start forest.Nil (Node n i a) e = absurd (let q : forest.Nil ≡ nodes_of (Node n i a) = e in cc)
  shown-start (forest.Node item inside after) Nil e = absurd (let q : shown_forest text t (forest.Node item inside after) ≡ forest.Nil = e in cc)
  shown-start (forest.Node item inside after) (Node n i a) e =
      let s = same-node item inside after n i a e in
      let r = item-range text t item n s.item_is in
      go (nat_lt item.end place) r.0 (shown-start after a s.after_is)
      ∙ ap (λ x. if nat_lt x place then start_reaching place a else Some n.start) r.1
    where
      go : (z : Bool) → item.start ≡ n.start → reaching_start spans place after ≡ start_reaching place a
          → (if z then reaching_start spans place after else Some item.start) ≡ (if z then start_reaching place a else Some n.start)
      go true s ih = ih
      go false s ih = ap Some s

module _ (text : List ℕ) (old new : Builder) (place : ℕ) (answer : Option ℕ) where
  -- the siblings at hand were cut off
  pub draws-cut : (d : Drawing) →
      ((here : Forest Item) (v : Opened Item) (up : List (Opened Item)) → Is old.tree here (v ∷ up) → Is new.tree (ending_before spans place here) (v ∷ up)) →
      ((here : Forest Item) → Is old.tree here [] → (new.tree ≡ old.tree) × (answer ≡ None)) →
      new.allocations ≡ old.allocations → Draws text old d → Draws text new (left_at place d.here d.up)
  draws-cut d step none same draws = go draws.here draws.up draws.is draws.here_is d.up draws.up_is
    where
      t : List CowStr
      t = old.allocations.texts

      go : (here : Forest Item) (up : List (Opened Item)) → Is old.tree here up → shown_forest text t here ≡ nodes_of d.here → (levels : List OpenNode) → map (shown_open text t) up ≡ map open_node levels → Draws text new (left_at place d.here levels)
      go here [] is h [] u = record {
        here = here;
        up = [];
        is = subst (λ tree. Is tree here []) (sym (none here is).0) is;
        here_is = subst (λ a. shown_forest text a.texts here ≡ nodes_of d.here) (sym same) h;
        up_is = refl;
      }
      go here [] is h (v ∷ levels) u = absurd (let q : [] ≡ open_node v ∷ map open_node levels = u in cc)
      go here (v ∷ up) is h [] u = absurd (let q : shown_open text t v ∷ map (shown_open text t) up ≡ [] = u in cc)
      go here (v ∷ up) is h (w ∷ levels) u = record {
        here = ending_before spans place here;
        up = v ∷ up;
        is = step here v up is;
        here_is = subst (λ a. shown_forest text a.texts (ending_before spans place here) ≡ nodes_of (ended_before place d.here)) (sym same) (shown-before text t place here d.here h);
        up_is = subst (λ a. map (shown_open text a.texts) (v ∷ up) ≡ map open_node (w ∷ levels)) (sym same) u;
      }

  -- and that is the start of the first of them
  pub draws-start : (d : Drawing) →
      ((here : Forest Item) (v : Opened Item) (up : List (Opened Item)) → Is old.tree here (v ∷ up) → answer ≡ reaching_start spans place here) →
      ((here : Forest Item) → Is old.tree here [] → (new.tree ≡ old.tree) × (answer ≡ None)) →
      Draws text old d → answer ≡ start_at place d.here d.up
  draws-start d start none draws = go draws.here draws.up draws.is draws.here_is d.up draws.up_is
    where
      t : List CowStr
      t = old.allocations.texts

      go : (here : Forest Item) (up : List (Opened Item)) → Is old.tree here up → shown_forest text t here ≡ nodes_of d.here → (levels : List OpenNode) → map (shown_open text t) up ≡ map open_node levels → answer ≡ start_at place d.here levels
      go here [] is h [] u = (none here is).1
      go here [] is h (v ∷ levels) u = absurd (let q : [] ≡ open_node v ∷ map open_node levels = u in cc)
      go here (v ∷ up) is h [] u = absurd (let q : shown_open text t v ∷ map (shown_open text t) up ≡ [] = u in cc)
      go here (v ∷ up) is h (w ∷ levels) u = start here v up is ∙ shown-start text t place here d.here h
