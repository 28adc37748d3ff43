-- A tree whose end grows, after its calls.
use Rattle.std.proofs.Common.{◌≡◌, ◌⊎◌, inl, inr, List, [], ◌∷◌, Option, Some, None, Result, Ok, Err, OnErr, refl, sym, ap, ◌∙◌, subst, arith}
use Rattle.std.proofs.Math.Logic.{∥∥₁_prop, ∥∥₁_elim, ∥∥₁_map}
use Rattle.std.specs.Result.{OnOk}
use Rattle.cmark_tree.specs.declared.tree.Tree.{Tree}
use Rattle.cmark_tree.specs.declared.tree_index.TreeIndex.{TreeIndex}
use Rattle.cmark_tree.specs.Forest.{Forest, Nil, Node, join, one}
use Rattle.cmark_tree.specs.Zip.{Level, Zip, nothing, plug, siblings, IsLast}
use Rattle.cmark_tree.specs.Tree.{Holds, HasNode, parent_of, focus_of}
use Rattle.cmark_tree.specs.Building.{Opened, opened, Is, IsPlaced, closed}
use Rattle.cmark_tree.specs.Arena.{Entry, first, Stands, items_of, Placed}
use Rattle.cmark_tree.specs.Tree.{entry_at}
use Rattle.cmark_tree.proofs.Entries.{HasNumber-prop}
use Rattle.cmark_tree.proofs.StandsLemmas.{Stands-inner, Stands-right}
use Rattle.cmark_tree.proofs.Steps.{parent_number, in_right, first_number, place_above}
use Rattle.cmark_tree.proofs.Building.{items_of-join}
use Rattle.cmark_tree.proofs.Moving.{last_at, none_at}
use Rattle.cmark_tree.proofs.Items.{Is-item_parent}
use Rattle.cmark_tree.specs.Lending.{with_item_at}
use Rattle.std.proofs.lemmas.Option.{same_Some}

module _ {T : Type 0} where
  pub at-place : (t : Tree T) (here : Forest T) (up : List (Opened T)) → Is t here up → IsPlaced t
  at-place t here up is = ∣ (here, up, is) ∣₁

  pub empty-placed : (t : Tree T) → Holds t nothing → IsPlaced t
  empty-placed t holds = at-place t Nil [] (record { z = nothing; holds = holds; last = refl; at_end = tt; here_is = refl; up_is = refl })

  pub placed-either : (t : Tree T) (a b : Forest T) (up : List (Opened T)) → Is t a up ⊎ Is t b up → IsPlaced t
  placed-either t a b up e = elim e [ inl is ↦ ∣ (a, up, is) ∣₁ | inr is ↦ ∣ (b, up, is) ∣₁ ]

  -- what is known of one way to see an old tree places a new one
  pub placed-by : {A : Type 0} → (new : Tree T) → ∥ A ∥₁ → (A → IsPlaced new) → IsPlaced new
  placed-by new some step = ∥∥₁_elim some ∥∥₁_prop step

  -- the number that `peek_up` returns is a node's
  pub parent-node : (t : Tree T) (i : TreeIndex) → IsPlaced t → (o : Option TreeIndex) → ((z : Zip T) → Holds t z → o ≡ parent_of z.up) → o ≡ Some i → HasNode t i.ix
  parent-node t i placed o read some = ∥∥₁_elim placed (HasNumber-prop _ _) (λ p. let is = p.2 in parent_number t.nodes is.z.up _ i is.holds.forest.stands (sym (read is.z is.holds) ∙ some))

  opened-some : (levels : List (Level T)) (i : TreeIndex) → parent_of levels ≡ Some i → (v : Opened T) × (up : List (Opened T)) × (opened levels ≡ v ∷ up)
  opened-some [] i e = absurd (let q : None ≡ Some i = e in cc)
  opened-some (l ∷ levels) i e = (_, _, refl)

  -- if `peek_up` returns a number, a node is open
  pub parent-open : (t : Tree T) (i : TreeIndex) → IsPlaced t → (o : Option TreeIndex) → ((z : Zip T) → Holds t z → o ≡ parent_of z.up) → o ≡ Some i → ∥ ((here : Forest T) × (v : Opened T) × (up : List (Opened T)) × Is t here (v ∷ up)) ∥₁
  parent-open t i placed o read some = ∥∥₁_map placed (λ p.
      let is = p.2 in
      let split = opened-some is.z.up i (sym (read is.z is.holds) ∙ some) in
      (p.0, split.0, split.1, subst (Is t p.0) (sym is.up_is ∙ split.2) is))

  -- the node of that number is the innermost open node
  pub parent-read : (t : Tree T) (i : TreeIndex) (here : Forest T) (v : Opened T) (up : List (Opened T)) → ((z : Zip T) → Holds t z → Some i ≡ parent_of z.up) → Is t here (v ∷ up) → (e : Entry T) × (entry_at t i.ix ≡ Some e) × (e.item ≡ v.item)
  parent-read t i here v up parent is = go is.z.up (siblings is.z) is.holds.forest.stands (parent is.z is.holds) is.up_is
    where
      go : (levels : List (Level T)) (f : Forest (Placed T)) → Stands (entry_at t) (plug levels f) → Some i ≡ parent_of levels → opened levels ≡ v ∷ up → (e : Entry T) × (entry_at t i.ix ≡ Some e) × (e.item ≡ v.item)
      go [] f st p o = absurd (let q : [] ≡ v ∷ up = o in cc)
      go (l ∷ levels) f st p o =
          let here = Stands-right (entry_at t) l.left (Node l.place f l.right) (Stands-inner (entry_at t) levels (join l.left (Node l.place f l.right)) st) in
          let top : record { left = items_of l.left; item = l.place.item } ≡ v = (let q : record { left = items_of l.left; item = l.place.item } ∷ opened levels ≡ v ∷ up = o in cc) in (
            record { item = l.place.item; child = first f; next = first l.right },
            subst (λ k. entry_at t k.ix ≡ Some (record { item = l.place.item; child = first f; next = first l.right })) (sym (same_Some i (record { ix = l.place.ix }) p)) here.0,
            ap (λ w. w.item) top,
          )

  -- the innermost open node gets another item, and is closed
  module _ (t new : Tree T) (i : TreeIndex) (x : T) (change : T → T)
      (value : (e : Entry T) → entry_at t i.ix ≡ Some e → x ≡ e.item)
      (close : (here : Forest T) (v : Opened T) (up : List (Opened T)) → Is (with_item_at t i.ix (change x)) here (v ∷ up) → Is new (closed v here) up) where
    pub closes-with : ((z : Zip T) → Holds t z → Some i ≡ parent_of z.up) → (here : Forest T) (v : Opened T) (up : List (Opened T)) → Is t here (v ∷ up) → Is new (closed (record v { item = change v.item }) here) up
    closes-with parent here v up is =
        let read = parent-read t i here v up parent is in
        let same : x ≡ v.item = value read.0 read.1 ∙ read.2 in
        subst (λ k. Is new (closed (record v { item = change k }) here) up) same (close here (record v { item = change x }) up (Is-item_parent t here v up i (change x) parent is))

    pub closes-placed : IsPlaced t → (o : Option TreeIndex) → ((z : Zip T) → Holds t z → o ≡ parent_of z.up) → o ≡ Some i → IsPlaced new
    closes-placed placed o read some = placed-by new (parent-open t i placed o read some) (λ p.
        at-place new _ _ (closes-with (λ z h. sym some ∙ read z h) p.0 p.1 p.2 p.3))

  -- the number that `cur` returns is a node's
  pub focus-node : (t : Tree T) (i : TreeIndex) → IsPlaced t → (o : Option TreeIndex) → ((z : Zip T) → Holds t z → o ≡ focus_of z.right) → o ≡ Some i → HasNode t i.ix
  focus-node t i placed o read some = ∥∥₁_elim placed (HasNumber-prop _ _) (λ p.
      let is = p.2 in go is.z.right (in_right t.nodes t.first is.z is.holds.forest) (sym (read is.z is.holds) ∙ some))
    where
      go : (f : Forest (Placed T)) → Stands (entry_at t) f → focus_of f ≡ Some i → HasNode t i.ix
      go Nil st e = absurd (let q : None ≡ Some i = e in cc)
      go (Node p inside after) st e =
          subst (HasNode t) (ap (λ k. k.ix) (same_Some (record { ix = p.ix }) i e)) (first_number t.nodes (Node p inside after) st (place_above t.nodes p inside after st))

  -- if `cur` returns a number, there is a last sibling
  pub focus-open : (t : Tree T) (i : TreeIndex) → IsPlaced t → (o : Option TreeIndex) → ((z : Zip T) → Holds t z → o ≡ focus_of z.right) → o ≡ Some i → ∥ ((here : Forest T) × (x : T) × (inside : Forest T) × (up : List (Opened T)) × Is t (join here (one x inside)) up) ∥₁
  focus-open t i placed o read some = ∥∥₁_map placed (λ p.
      let is = p.2 in go p.0 p.1 is is.z.left is.z.right is.last is.here_is (sym (read is.z is.holds) ∙ some))
    where
      go : (now : Forest T) (up : List (Opened T)) → Is t now up → (left right : Forest (Placed T)) → IsLast left right → items_of (join left right) ≡ now → focus_of right ≡ Some i → (here : Forest T) × (x : T) × (inside : Forest T) × (up : List (Opened T)) × Is t (join here (one x inside)) up
      go now up is left Nil last e f = absurd (let q : None ≡ Some i = f in cc)
      go now up is left (Node p inside (Node q b c)) last e f = absurd (let k : Node q b c ≡ Nil = last in cc)
      go now up is left (Node p inside Nil) last e f = (items_of left, p.item, items_of inside, up, subst (λ h. Is t h up) (sym e ∙ items_of-join left (Node p inside Nil)) is)

  -- and that number reads it
  pub focus-read : (t : Tree T) (i : TreeIndex) (here : Forest T) (x : T) (inside : Forest T) (up : List (Opened T)) → ((z : Zip T) → Holds t z → Some i ≡ focus_of z.right) → Is t (join here (one x inside)) up → (e : Entry T) × (entry_at t i.ix ≡ Some e) × (e.item ≡ x)
  focus-read t i here x inside up focus is =
      let l = last_at t here x inside up is in
      let same : i.ix ≡ l.place.ix = ap (λ k. k.ix) (same_Some i (record { ix = l.place.ix }) (focus (record { left = l.left; right = one l.place l.below; up = l.above }) l.holds)) in
      let st = in_right t.nodes t.first (record { left = l.left; right = one l.place l.below; up = l.above }) l.holds.forest in
      (record { item = l.place.item; child = first l.below; next = 0 }, ap (entry_at t) same ∙ st.0, l.item_is)

  -- if it returns `None`, there is no sibling
  pub focus-none : (t : Tree T) (here : Forest T) (x : T) (inside : Forest T) (up : List (Opened T)) (o : Option TreeIndex) → ((z : Zip T) → Holds t z → o ≡ focus_of z.right) → ((i : TreeIndex) → o ≡ Some i → ⊥) → Is t (join here (one x inside)) up → ⊥
  focus-none t here x inside up o read none is =
      let l = last_at t here x inside up is in none (record { ix = l.place.ix }) (read (record { left = l.left; right = one l.place l.below; up = l.above }) l.holds)

  pub focus-some : (t : Tree T) (up : List (Opened T)) (i : TreeIndex) (o : Option TreeIndex) → ((z : Zip T) → Holds t z → o ≡ focus_of z.right) → o ≡ Some i → Is t Nil up → ⊥
  focus-some t up i o read some is = go is.z.right (sym (read is.z is.holds) ∙ some) is.holds.cur_is (in_right t.nodes t.first is.z is.holds.forest)
    where
      go : (f : Forest (Placed T)) → focus_of f ≡ Some i → t.cur ≡ first f → Stands (entry_at t) f → ⊥
      go Nil e c st = let q : None ≡ Some i = e in cc
      go (Node p a b) e c st = omega (arith, none_at t up is, c, place_above t.nodes p a b st)

  pub last_or_none : (f : Forest T) → ((before : Forest T) × (x : T) × (inside : Forest T) × (f ≡ join before (one x inside))) ⊎ (f ≡ Nil)
  last_or_none Nil = inr refl
  last_or_none (Node x inside after) = elim (last_or_none after) [
    | inl l ↦ inl (Node x inside l.0, l.1, l.2, ap (Node x inside) l.3)
    | inr nil ↦ inl (Nil, x, inside, ap (Node x inside) nil)
  ]

  -- there is no sibling at hand, or a last one
  pub split-last : (t new : Tree T) (v : Opened T) (up : List (Opened T)) (here : Forest T) → ((before : Forest T) (x : T) (inside : Forest T) → Is t (join before (one x inside)) (v ∷ up) → IsPlaced new) → (Is t Nil (v ∷ up) → IsPlaced new) → Is t here (v ∷ up) → IsPlaced new
  split-last t new v up here some none is = go here refl
    where
      go : (f : Forest T) → f ≡ here → IsPlaced new
      go f e = elim (last_or_none f) [
        | inl l ↦ some l.0 l.1 l.2 (subst (λ h. Is t h (v ∷ up)) (sym e ∙ l.3) is)
        | inr nil ↦ none (subst (λ h. Is t h (v ∷ up)) (sym e ∙ nil) is)
      ]

-- a property of the result in both cases
pub either-way : {A E : Type 0} (r : Result A E) (P : Type 0) → OnOk r P → OnErr r P → P
either-way (Ok x) P p q = p
either-way (Err e) P p q = q
