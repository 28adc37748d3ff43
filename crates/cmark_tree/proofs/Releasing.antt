-- The last sibling is moved out of the node around it.
use Rattle.std.proofs.Common.{◌≡◌, ◌≢◌, ℕ, zero, suc, ◌+◌, ◌-◌, ◌<◌, ◌≤◌, List, [], ◌∷◌, ◌++◌, length, take, Some, refl, sym, ap, ◌∙◌, subst, arith, length-append}
use Rattle.std.proofs.Math.Seq.{take-append_seam}
use Rattle.std.proofs.lemmas.Option.{same_Some}
use Rattle.cmark_tree.specs.declared.nodes.Nodes.{Nodes}
use Rattle.cmark_tree.specs.declared.tree.Tree.{Tree}
use Rattle.cmark_tree.specs.declared.tree_index.TreeIndex.{TreeIndex}
use Rattle.cmark_tree.specs.Forest.{Forest, Nil, Node, join, one}
use Rattle.cmark_tree.specs.Arena.{Entry, Placed, first, Stands, IsForest, In, hit, times, items_of}
use Rattle.cmark_tree.specs.Nodes.{node_at, node_count, HasNumber, IsChanged, with_next, with_child}
use Rattle.cmark_tree.specs.Zip.{Level, Zip, plug}
use Rattle.cmark_tree.specs.Tree.{Holds, spine_of, parent_of}
use Rattle.cmark_tree.specs.Truncated.{IsChildren}
use Rattle.cmark_tree.specs.Truncating.{last_place}
use Rattle.cmark_tree.specs.Building.{Opened, opened, IsAtEnd, Is, closed}
use Rattle.cmark_tree.proofs.Times.{hit-same, times-join, outside, times-plug, join-nil, join_assoc, first-join, first-plug}
use Rattle.cmark_tree.proofs.StandsLemmas.{Stands-same, Stands-right, Stands-inner, Stands-rejoin, Stands-replug}
use Rattle.cmark_tree.proofs.Entries.{node_at-within}
use Rattle.cmark_tree.proofs.Steps.{has_number}
use Rattle.cmark_tree.proofs.Surgery.{size-count}
use Rattle.cmark_tree.proofs.Cutting.{breadth, breadth-size, breadth-join, last_place-snoc, children, end_none, end_after}
use Rattle.cmark_tree.proofs.Building.{items_of-join}
use Rattle.cmark_tree.proofs.Moving.{LastAt, above_zero}

module _ {T : Type 0} where
  -- `steps` siblings were passed on the way to this one
  pub record Passed (done : Forest (Placed T)) (p : Placed T) (inside after : Forest (Placed T)) (before at steps : ℕ) : Type 0 where
    pub gone : Forest (Placed T)
    pub left : Forest (Placed T)
    pub split : done ≡ join gone left
    pub before_is : before ≡ last_place gone
    pub at_is : at ≡ first (join left (Node p inside after))
    pub steps_is : steps ≡ breadth gone

  module _ (nodes : Nodes T) (head : ℕ) (done : Forest (Placed T)) (p : Placed T) (inside after : Forest (Placed T)) (h : IsChildren nodes (join done (Node p inside after)) head) where
    pub passed_none : Passed done p inside after 0 head 0
    passed_none = record { gone = Nil; left = done; split = refl; before_is = refl; at_is = h.head_is; steps_is = refl }

    stands_left : (gone left : Forest (Placed T)) → done ≡ join gone left → Stands (node_at nodes) (join left (Node p inside after))
    stands_left gone left split =
        Stands-right (node_at nodes) gone (join left (Node p inside after)) (subst (Stands (node_at nodes)) (ap (λ f. join f (Node p inside after)) split ∙ join_assoc gone left (Node p inside after)) h.stands)

    -- the number that the search has reached is a node's
    pub passed_number : (before at steps : ℕ) → Passed done p inside after before at steps → HasNumber nodes at
    passed_number before at steps c = go (join c.left (Node p inside after)) c.at_is (stands_left c.gone c.left c.split) (some c.left)
      where
        some : (f : Forest (Placed T)) → (join f (Node p inside after) ≡ Nil) → ⊥
        some Nil e = let k : Node p inside after ≡ Nil = e in cc
        some (Node q i a) e = let k : Node q i (join a (Node p inside after)) ≡ Nil = e in cc

        go : (f : Forest (Placed T)) → at ≡ first f → Stands (node_at nodes) f → ((f ≡ Nil) → ⊥) → HasNumber nodes at
        go Nil e st none = absurd (none refl)
        go (Node q i a) e st none = subst (HasNumber nodes) (sym e) (node_at-within nodes q.ix (record { item = q.item; child = first i; next = first a }) st.0)

    -- at that sibling: the one before it was passed last
    pub passed_all : (before at steps : ℕ) → at ≡ p.ix → Passed done p inside after before at steps → last_place done ≡ before
    passed_all before at steps is c = go c.left c.split c.at_is
      where
        go : (left : Forest (Placed T)) → done ≡ join c.gone left → at ≡ first (join left (Node p inside after)) → last_place done ≡ before
        go Nil split e = ap last_place (split ∙ join-nil c.gone) ∙ sym c.before_is
        go (Node q i a) split e =
            let o = h.once p.ix in
            absurd (omega (arith, o, times-join p.ix done (Node p inside after), ap (times p.ix) split, times-join p.ix c.gone (Node q i a), hit-same q.ix p.ix (sym e ∙ is), hit-same p.ix p.ix refl))

    -- past another sibling
    pub passed_more : (before at steps next : ℕ) → at ≢ p.ix → ((e : Entry T) → node_at nodes at ≡ Some e → next ≡ e.next) → Passed done p inside after before at steps → Passed done p inside after at next (suc steps)
    passed_more before at steps next other read c = go c.left c.split c.at_is
      where
        go : (left : Forest (Placed T)) → done ≡ join c.gone left → at ≡ first (join left (Node p inside after)) → Passed done p inside after at next (suc steps)
        go Nil split e = absurd (other e)
        go (Node q i a) split e = record {
          gone = join c.gone (one q i);
          left = a;
          split = split ∙ sym (join_assoc c.gone (one q i) a);
          before_is = e ∙ sym (last_place-snoc c.gone q i);
          at_is = read (record { item = q.item; child = first i; next = first (join a (Node p inside after)) }) (ap (node_at nodes) e ∙ (stands_left c.gone (Node q i a) split).0);
          steps_is = omega (arith, c.steps_is, breadth-join c.gone (one q i));
        }

    -- the number of siblings before it is less than the number of nodes
    pub passed_few : (before at steps : ℕ) → node_count nodes ≤ steps → Passed done p inside after before at steps → ⊥
    passed_few before at steps le c =
        let f = join done (Node p inside after) in
        let b : breadth done ≡ breadth (join c.gone c.left) = ap breadth c.split in
        omega (arith, le, c.steps_is, b, breadth-join c.gone c.left, breadth-join done (Node p inside after), breadth-size f, size-count nodes f h.stands h.once)

  -- The last of some siblings, which was cut off from the others, is put after the node around them.
  module _ (old mid new : Nodes T) (start parent : ℕ) (done : Forest (Placed T)) (p : Placed T) (inside : Forest (Placed T)) (v : Level T) (up : List (Level T)) where
    pub released_forest : IsForest (node_at old) start (plug (v ∷ up) (join done (Node p inside Nil))) → IsForest (node_at mid) start (plug (v ∷ up) done) → ((i : ℕ) → In i (Node p inside Nil) → node_at mid i ≡ node_at old i) → IsChanged mid new parent (with_next p.ix) → parent ≡ v.place.ix → v.right ≡ Nil
        → IsForest (node_at new) start (plug up (join (join v.left (one v.place done)) (one p inside)))
    released_forest h cut same c above end = subst (λ f. IsForest (node_at new) start (plug up f)) (sym (join_assoc v.left (one v.place done) (one p inside))) (record {
      stands = Stands-replug (node_at mid) (node_at new) up F G cut.stands (λ i lt. other i (omega (arith, lt))) same_first
          (Stands-rejoin (node_at mid) (node_at new) v.left (Node v.place done v.right) (Node v.place done (one p inside)) (Stands-inner (node_at mid) up F cut.stands) (λ i lt. other i (omega (arith, lt))) refl (
            subst (λ k. node_at new k ≡ Some (record { item = v.place.item; child = first done; next = p.ix })) above
                (c.written (record { item = v.place.item; child = first done; next = first v.right }) (ap (node_at mid) above ∙ node.0)),
            Stands-same (node_at mid) (node_at new) done (λ i lt. other i (omega (arith, lt))) node.1,
            Stands-same (node_at old) (node_at new) (one p inside) (λ i lt. c.others i (apart i lt) ∙ same i lt) last,
          ));
      once = λ i. (let o = h.once i in omega (arith, o, count i, ap (times i) end, times-plug i up G, times-join i v.left (Node v.place done (one p inside))));
      start_is = cut.start_is ∙ first-plug up F G (sym same_first);
    })
      where
        F : Forest (Placed T)
        F = join v.left (Node v.place done v.right)

        G : Forest (Placed T)
        G = join v.left (Node v.place done (one p inside))

        same_first : first G ≡ first F
        same_first = first-join v.left (Node v.place done (one p inside)) (Node v.place done v.right) refl

        node : Stands (node_at mid) (Node v.place done v.right)
        node = Stands-right (node_at mid) v.left (Node v.place done v.right) (Stands-inner (node_at mid) up F cut.stands)

        last : Stands (node_at old) (one p inside)
        last = Stands-right (node_at old) done (one p inside) (Stands-inner (node_at old) (v ∷ up) (join done (one p inside)) h.stands)

        count : (i : ℕ) → times i (plug (v ∷ up) (join done (one p inside))) ≡ ((times i done + (hit p.ix i + (times i inside + 0))) + (times i v.left + (hit v.place.ix i + times i v.right))) + outside i up
        count i = omega (arith, times-plug i (v ∷ up) (join done (one p inside)), times-join i done (one p inside))

        apart : (i : ℕ) → In i (one p inside) → i ≢ parent
        apart i lt e = grind (arith, count, hit-same)

        other : (i : ℕ) → 0 < (times i v.left + times i done) + outside i up → node_at new i ≡ node_at mid i
        other i lt = grind (arith, outside, count, hit-same)

  -- the siblings before the last are cut off from it: the parent's link, or that of the one before it, is written
  pub cut_alone : (old mid : Nodes T) (start : ℕ) (parent : TreeIndex) (done : Forest (Placed T)) (p : Placed T) (inside : Forest (Placed T)) (v : Level T) (up : List (Level T)) → IsForest (node_at old) start (plug (v ∷ up) (join done (one p inside))) → parent.ix ≡ v.place.ix → IsChanged old mid parent.ix (with_child 0) → (i : ℕ) → In i (one p inside) → node_at mid i ≡ node_at old i
  cut_alone old mid start parent done p inside v up h above c i lt = c.others i (λ e. (
      let lt' : In parent.ix (one p inside) = subst (λ k. In k (one p inside)) e lt in
      let o = h.once parent.ix in
      omega (arith, lt', o, times-plug parent.ix (v ∷ up) (join done (one p inside)), times-join parent.ix done (one p inside), hit-same v.place.ix parent.ix (sym above))))

  last_in : (done : Forest (Placed T)) (k : ℕ) → last_place done ≡ k → 0 < k → In k done
  last_in Nil k e lt = absurd (omega (arith, e, lt))
  last_in (Node q i Nil) k e lt = omega (arith, hit-same q.ix k e)
  last_in (Node q i (Node r j a)) k e lt = omega (arith, last_in (Node r j a) k e lt)

  pub cut_after : (old mid : Nodes T) (start before : ℕ) (done : Forest (Placed T)) (p : Placed T) (inside : Forest (Placed T)) (levels : List (Level T)) → IsForest (node_at old) start (plug levels (join done (one p inside))) → last_place done ≡ before → 0 < before → IsChanged old mid before (with_next 0) → (i : ℕ) → In i (one p inside) → node_at mid i ≡ node_at old i
  cut_after old mid start before done p inside levels h is some c i lt = c.others i (λ e. (
      let lt' : In before (one p inside) = subst (λ k. In k (one p inside)) e lt in
      let o = h.once before in
      omega (arith, lt', o, times-plug before levels (join done (one p inside)), times-join before done (one p inside), last_in done before is some)))

  -- the path without its innermost node
  pub spine_popped : (v : Level T) (up : List (Level T)) (spine : List TreeIndex) → spine ≡ spine_of (v ∷ up) → take (length spine - 1) spine ≡ spine_of up
  spine_popped v up spine e =
      ap (λ s. take (length s - 1) s) e
      ∙ ap (λ k. take k (spine_of up ++ record { ix = v.place.ix } ∷ [])) (let l = length-append (spine_of up) (record { ix = v.place.ix } ∷ []) in let q : length (spine_of up ++ record { ix = v.place.ix } ∷ []) - 1 ≡ length (spine_of up) = omega (arith, l) in q)
      ∙ take-append_seam (spine_of up) (record { ix = v.place.ix } ∷ [])

  -- the last sibling and those before it are the children of that parent
  pub children_of : (t : Tree T) (parent : TreeIndex) (head : ℕ) → ((z : Zip T) → Holds t z → Some parent ≡ parent_of z.up) → ((e : Entry T) → node_at t.nodes parent.ix ≡ Some e → head ≡ e.child) → (here : Forest T) (x : T) (inside : Forest T) (up : List (Opened T)) → (l : LastAt t here x inside up) → IsChildren t.nodes (join l.left (one l.place l.below)) head
  children_of t parent head parent_is head_is here x inside up l = children t.nodes t.first (join l.left (one l.place l.below)) l.above parent head l.holds.forest (sym (parent_is (record { left = l.left; right = one l.place l.below; up = l.above }) l.holds)) head_is

  -- a tree whose last sibling was cut off and put after the innermost open node
  module _ (t now : Tree T) (mid : Nodes T) (parent : TreeIndex) (head before : ℕ)
      (parent_is : (z : Zip T) → Holds t z → Some parent ≡ parent_of z.up) (head_is : (e : Entry T) → node_at t.nodes parent.ix ≡ Some e → head ≡ e.child)
      (finds : (done : Forest (Placed T)) (p : Placed T) (inside after : Forest (Placed T)) → IsChildren t.nodes (join done (Node p inside after)) head → p.ix ≡ t.cur → last_place done ≡ before) where
    among : (here : Forest T) (x : T) (inside : Forest T) (up : List (Opened T)) → (l : LastAt t here x inside up) → IsChildren t.nodes (join l.left (one l.place l.below)) head
    among here x inside up l = children_of t parent head parent_is head_is here x inside up l

    pub Is-released : (before ≡ 0 → IsChanged t.nodes mid parent.ix (with_child 0)) → ((before ≡ 0 → ⊥) → IsChanged t.nodes mid before (with_next 0)) → IsChanged mid now.nodes parent.ix (with_next t.cur)
        → now.first ≡ t.first → now.cur ≡ t.cur → now.spine.items ≡ take (length t.spine.items - 1) t.spine.items
        → (here : Forest T) (x : T) (inside : Forest T) (v : Opened T) (up : List (Opened T)) → LastAt t here x inside (v ∷ up) → Is now (join (closed v here) (one x inside)) up
    Is-released none some c first_is cur_is spine_is here x inside v up l = go l.above l.holds l.at_end l.up_is (parent_is (record { left = l.left; right = one l.place l.below; up = l.above }) l.holds)
      where
        last : last_place l.left ≡ before
        last = finds l.left l.place l.below Nil (among here x inside (v ∷ up) l) (sym l.holds.cur_is)

        cut : (o : Level T) (levels : List (Level T)) → IsForest (node_at t.nodes) t.first (plug (o ∷ levels) (join l.left (one l.place l.below))) → parent.ix ≡ o.place.ix → (k : ℕ) → before ≡ k → IsForest (node_at mid) t.first (plug (o ∷ levels) l.left) × ((i : ℕ) → In i (one l.place l.below) → node_at mid i ≡ node_at t.nodes i)
        cut o levels h above zero e = (
          end_none t.nodes mid t.first parent l.left (one l.place l.below) (o ∷ levels) h (ap (λ k. Some (record { ix = k })) (sym above)) (last ∙ e) (none e),
          cut_alone t.nodes mid t.first parent l.left l.place l.below o levels h above (none e),
        )
        cut o levels h above (suc k) e =
            let lt : 0 < before = omega (arith, e) in
            let ne : (before ≡ 0 → ⊥) = (λ z. omega (arith, z, lt)) in (
              end_after t.nodes mid t.first before l.left (one l.place l.below) (o ∷ levels) h ne last (some ne),
              cut_after t.nodes mid t.first before l.left l.place l.below (o ∷ levels) h last lt (some ne),
            )

        go : (levels : List (Level T)) → Holds t (record { left = l.left; right = one l.place l.below; up = levels }) → IsAtEnd levels → opened levels ≡ v ∷ up → Some parent ≡ parent_of levels → Is now (join (closed v here) (one x inside)) up
        go [] h e u s = absurd (let q : [] ≡ v ∷ up = u in cc)
        go (o ∷ levels) h e u s =
            let top : record { left = items_of o.left; item = o.place.item } ≡ v = (let q : record { left = items_of o.left; item = o.place.item } ∷ opened levels ≡ v ∷ up = u in cc) in
            let rest : opened levels ≡ up = (let q : record { left = items_of o.left; item = o.place.item } ∷ opened levels ≡ v ∷ up = u in cc) in
            let above : parent.ix ≡ o.place.ix = ap (λ k. k.ix) (same_Some parent (record { ix = o.place.ix }) s) in
            let parts = cut o levels h.forest above before refl in
            record {
              z = record { left = join o.left (one o.place l.left); right = one l.place l.below; up = levels };
              holds = record {
                forest = subst (λ k. IsForest (node_at now.nodes) k (plug levels (join (join o.left (one o.place l.left)) (one l.place l.below)))) (sym first_is)
                    (released_forest t.nodes mid now.nodes t.first parent.ix l.left l.place l.below o levels h.forest parts.0 parts.1 (subst (λ k. IsChanged mid now.nodes parent.ix (with_next k)) h.cur_is c) above e.0);
                spine_is = spine_is ∙ spine_popped o levels t.spine.items h.spine_is;
                cur_is = cur_is ∙ h.cur_is;
              };
              last = refl;
              at_end = e.1;
              here_is = items_of-join (join o.left (one o.place l.left)) (one l.place l.below)
                  ∙ ap (λ f. join f (one l.place.item (items_of l.below))) (items_of-join o.left (one o.place l.left) ∙ ap (λ f. join (items_of o.left) (one o.place.item f)) l.left_is ∙ ap (λ k. closed k here) top)
                  ∙ ap (λ y. join (closed v here) (one y (items_of l.below))) l.item_is
                  ∙ ap (λ i. join (closed v here) (one x i)) l.below_is;
              up_is = rest;
            }

  -- the one before it is a node, if there is one
  pub before_number : (nodes : Nodes T) (head before : ℕ) (done : Forest (Placed T)) (p : Placed T) (inside : Forest (Placed T)) → IsChildren nodes (join done (one p inside)) head → last_place done ≡ before → (before ≡ 0 → ⊥) → HasNumber nodes before
  before_number nodes head before done p inside h last ne =
      has_number nodes (join done (one p inside)) before h.stands (omega (arith, times-join before done (one p inside), last_in done before last (above_zero before ne)))

  -- the number of nodes is unchanged
  pub ended_count : (old mid : Nodes T) (parent before : ℕ) → (before ≡ 0 → IsChanged old mid parent (with_child 0)) → ((before ≡ 0 → ⊥) → IsChanged old mid before (with_next 0)) → node_count mid ≡ node_count old
  ended_count old mid parent zero none some = (none refl).count
  ended_count old mid parent (suc k) none some = (some (λ e. omega (arith, e))).count
