-- A node around the last sibling, which moves to a new number.
use Rattle.std.proofs.Common.{◌≡◌, ◌≢◌, ℕ, zero, suc, ◌+◌, ◌<◌, List, ◌∷◌, Some, refl, sym, ap, ◌∙◌, subst, arith, rules}
use Rattle.cmark_tree.specs.declared.nodes.Nodes.{Nodes}
use Rattle.cmark_tree.specs.declared.tree.Tree.{Tree}
use Rattle.cmark_tree.specs.Forest.{Forest, Nil, Node, join, one}
use Rattle.cmark_tree.specs.Arena.{Placed, first, Stands, IsForest, hit, times, items_of}
use Rattle.cmark_tree.specs.Nodes.{node_at, HasNumber, IsMoved, IsChanged, with_child}
use Rattle.cmark_tree.specs.Zip.{Level, Zip, plug, IsLast, pushed}
use Rattle.cmark_tree.specs.Tree.{Holds}
use Rattle.cmark_tree.specs.Building.{Opened, opened, IsAtEnd, Is}
use Rattle.cmark_tree.proofs.Times.{hit-same, times-join, outside, times-plug, first-join, first-plug}
use Rattle.cmark_tree.proofs.StandsLemmas.{Stands-same, Stands-absent, Stands-right, Stands-inner, Stands-rejoin, Stands-replug}
use Rattle.cmark_tree.proofs.Entries.{node_at-past}
use Rattle.cmark_tree.proofs.Steps.{has_number, one_more, place_above, in_right}
use Rattle.cmark_tree.proofs.Items.{one_inj, none_last}
use Rattle.cmark_tree.proofs.Building.{items_of-join}

pub above_zero : (n : ℕ) → (n ≡ 0 → ⊥) → 0 < n
above_zero zero some = absurd (some refl)
above_zero (suc n) some = omega arith

module _ {T : Type 0} where
  -- a node at a place, around one that has moved
  abbrev pub around_moved : (n : ℕ) → T → Placed T → Forest (Placed T) → Forest (Placed T)
  around_moved n x p inside = one (record { ix = p.ix; item = x }) (one (record { ix = n; item = p.item }) inside)

  -- The last of some siblings moves into a node that takes its place.
  module _ (old mid new : Nodes T) (start ix n : ℕ) (x : T) (left : Forest (Placed T)) (p : Placed T) (inside : Forest (Placed T)) (up : List (Level T)) where
    abbrev enclosed_here : Forest (Placed T)
    enclosed_here = around_moved n x p inside

    pub enclosed_forest : IsMoved old mid ix n x → IsChanged mid new ix (with_child n) → ix ≡ p.ix → IsForest (node_at old) start (plug up (join left (Node p inside Nil))) → IsForest (node_at new) start (plug up (join left (around_moved n x p inside)))
    enclosed_forest m c at h = record {
      stands = Stands-replug (node_at old) (node_at new) up F G h.stands (λ i lt. other i (omega (arith, lt))) same_first
          (Stands-rejoin (node_at old) (node_at new) left (Node p inside Nil) enclosed_here (Stands-inner (node_at old) up F h.stands) (λ i lt. other i (omega (arith, lt))) refl (
            subst (λ k. node_at new k ≡ Some (record { item = x; child = n; next = 0 })) at (c.written (record { item = x; child = 0; next = 0 }) m.left),
            (
              c.others n new_other ∙ m.moved ∙ ap (node_at old) at ∙ node.0,
              Stands-same (node_at old) (node_at new) inside (λ i lt. other i (omega (arith, lt))) node.1,
              tt,
            ),
            tt,
          ));
      once = one_more (plug up F) (plug up G) n h.once absent (λ i. omega (arith, count i, times-plug i up G, times-join i left enclosed_here));
      start_is = h.start_is ∙ first-plug up F G (sym same_first);
    }
      where
        F : Forest (Placed T)
        F = join left (Node p inside Nil)

        G : Forest (Placed T)
        G = join left enclosed_here

        same_first : first G ≡ first F
        same_first = first-join left enclosed_here (Node p inside Nil) refl

        node : Stands (node_at old) (Node p inside Nil)
        node = Stands-right (node_at old) left (Node p inside Nil) (Stands-inner (node_at old) up F h.stands)

        count : (i : ℕ) → times i (plug up F) ≡ (times i left + (hit p.ix i + (times i inside + 0))) + outside i up
        count i = omega (arith, times-plug i up F, times-join i left (Node p inside Nil))

        absent : times n (plug up F) ≡ 0
        absent = Stands-absent (node_at old) (plug up F) n h.stands (node_at-past old n (omega (arith, m.place)))

        has : HasNumber old ix
        has = has_number old (plug up F) ix h.stands (omega (arith, count ix, hit-same p.ix ix (sym at)))

        new_other : n ≢ ix
        new_other e = omega (arith, e, has.1, m.place)

        other : (i : ℕ) → 0 < (times i left + times i inside) + outside i up → node_at new i ≡ node_at old i
        other i lt = grind (arith, outside, count, hit-same, absent)

  -- the focus is the last sibling: its place in the tree, and its content
  pub record LastAt (t : Tree T) (here : Forest T) (x : T) (inside : Forest T) (up : List (Opened T)) : Type 0 where
    pub left : Forest (Placed T)
    pub place : Placed T
    pub below : Forest (Placed T)
    pub above : List (Level T)
    pub holds : Holds t (record { left = left; right = Node place below Nil; up = above })
    pub at_end : IsAtEnd above
    pub left_is : items_of left ≡ here
    pub item_is : place.item ≡ x
    pub below_is : items_of below ≡ inside
    pub up_is : opened above ≡ up

  pub last_at : (t : Tree T) (here : Forest T) (x : T) (inside : Forest T) (up : List (Opened T)) → Is t (join here (one x inside)) up → LastAt t here x inside up
  last_at t here x inside up is = go is.z.left is.z.right is.last is.holds is.here_is
    where
      go : (left right : Forest (Placed T)) → IsLast left right → Holds t (record { left = left; right = right; up = is.z.up }) → items_of (join left right) ≡ join here (one x inside) → LastAt t here x inside up
      go left Nil last h e = absurd (none_last here x inside (ap (λ l. items_of (join l Nil)) (sym last) ∙ e))
      go left (Node p i (Node q b c)) last h e = absurd (let k : Node q b c ≡ Nil = last in cc)
      go left (Node p i Nil) last h e =
          let same = one_inj (items_of left) here p.item x (items_of i) inside (sym (items_of-join left (Node p i Nil)) ∙ e) in
          record {
            left = left;
            place = p;
            below = i;
            above = is.z.up;
            holds = h;
            at_end = is.at_end;
            left_is = same.0;
            item_is = same.1;
            below_is = same.2;
            up_is = is.up_is;
          }

  -- with a focus, there is a last sibling
  pub last_some : (t : Tree T) (here : Forest T) (up : List (Opened T)) → Is t here up → 0 < t.cur → (h : Forest T) × (x : T) × (i : Forest T) × LastAt t h x i up
  last_some t here up is lt = go is.z.left is.z.right is.last is.holds
    where
      go : (left right : Forest (Placed T)) → IsLast left right → Holds t (record { left = left; right = right; up = is.z.up }) → (h : Forest T) × (x : T) × (i : Forest T) × LastAt t h x i up
      go left Nil last h = absurd (omega (arith, lt, h.cur_is))
      go left (Node p i (Node q b c)) last h = absurd (let k : Node q b c ≡ Nil = last in cc)
      go left (Node p i Nil) last h = (
        items_of left,
        p.item,
        items_of i,
        record {
          left = left;
          place = p;
          below = i;
          above = is.z.up;
          holds = h;
          at_end = is.at_end;
          left_is = refl;
          item_is = refl;
          below_is = refl;
          up_is = is.up_is;
        },
      )

  -- a last sibling is a focus
  pub last_above : (t : Tree T) (here : Forest T) (x : T) (inside : Forest T) (up : List (Opened T)) → LastAt t here x inside up → 0 < t.cur
  last_above t here x inside up l =
      omega (arith, l.holds.cur_is, place_above t.nodes l.place l.below Nil (in_right t.nodes t.first (record { left = l.left; right = Node l.place l.below Nil; up = l.above }) l.holds.forest))

  -- with no sibling there is no focus
  pub none_at : (t : Tree T) (up : List (Opened T)) → Is t Nil up → t.cur ≡ 0
  none_at t up is = go is.z.right is.holds.cur_is is.here_is
    where
      go : (right : Forest (Placed T)) → t.cur ≡ first right → items_of (join is.z.left right) ≡ Nil → t.cur ≡ 0
      go Nil c e = c
      go (Node p i a) c e = absurd (not_nil (items_of is.z.left) p.item (items_of i) (items_of a) (sym (items_of-join is.z.left (Node p i a)) ∙ e))
        where
          not_nil : (f : Forest T) (y : T) (j k : Forest T) → join f (Node y j k) ≡ Nil → ⊥
          not_nil Nil y j k e = let q : Node y j k ≡ Nil = e in cc
          not_nil (Node b c d) y j k e = let q : Node b c (join d (Node y j k)) ≡ Nil = e in cc

  -- the focus is a node
  pub last_number : (t : Tree T) (here : Forest T) (x : T) (inside : Forest T) (up : List (Opened T)) → LastAt t here x inside up → HasNumber t.nodes t.cur
  last_number t here x inside up l =
      has_number t.nodes (Node l.place l.below Nil) t.cur (in_right t.nodes t.first (record { left = l.left; right = Node l.place l.below Nil; up = l.above }) l.holds.forest) (omega (arith, hit-same l.place.ix t.cur (sym l.holds.cur_is)))

  -- the node around the last sibling, before the path goes down into it
  module _ (t : Tree T) (mid new : Nodes T) (n : ℕ) (w : T) (m : IsMoved t.nodes mid t.cur n w) (c : IsChanged mid new t.cur (with_child n)) (here : Forest T) (x : T) (inside : Forest T) (up : List (Opened T)) (l : LastAt t here x inside up) where
    abbrev pub enclosed_zip : Zip T
    enclosed_zip = record { left = l.left; right = around_moved n w l.place l.below; up = l.above }

    pub Holds-enclosed : Holds (record t { nodes = new }) enclosed_zip
    Holds-enclosed = search (rules, enclosed_forest)

    pub Is-enclosed : Is (record t { nodes = new }) (join here (one w (one x inside))) up
    Is-enclosed = grind (arith, Holds-enclosed, items_of-join)

    pub Is-inside : (down : Tree T) → Holds down (pushed enclosed_zip) → Is down (one x inside) (record { left = here; item = w } ∷ up)
    Is-inside down h = grind arith
