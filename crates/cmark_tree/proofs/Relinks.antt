-- A node with other siblings after it, other children or another item: the links afterwards form the changed forest.
use Rattle.std.proofs.Common.{◌≡◌, ◌≢◌, ◌⊎◌, inl, inr, ℕ, zero, suc, ◌+◌, ◌<◌, ◌≤◌, cond, nat_eq, List, [], ◌∷◌, Option, Some, refl, sym, ap, ◌∙◌, subst, arith, rules}
use Rattle.std.proofs.lemmas.Bool.{eq-eqb, eqb-true}
use Rattle.cmark_tree.specs.Forest.{Forest, Nil, Node, join}
use Rattle.cmark_tree.specs.Arena.{Entry, Placed, first, Stands, pick, times, In, IsOnce, IsForest, relink_next, relink_child, replace_item}
use Rattle.cmark_tree.specs.Nodes.{with_next, with_child, with_other_item}
use Rattle.cmark_tree.specs.Zip.{Level, Zip, plug, whole, siblings, next_relinked, child_relinked, item_replaced, replace_in_path}
use Rattle.cmark_tree.proofs.Times.{hit-same, times-join, outside, times-plug, first-join, first-plug}
use Rattle.cmark_tree.proofs.StandsLemmas.{Stands-same, Stands-right, Stands-inner, Stands-rejoin, Stands-replug, node_cases}

pub pick-same : {A : Type 0} → (a b : ℕ) (x y : A) → a ≡ b → pick a b x y ≡ x
unfolding pick
pick-same a b x y e = ap (λ t. cond t x y) (eq-eqb a b e)

pub pick-other : {A : Type 0} → (a b : ℕ) (x y : A) → a ≢ b → pick a b x y ≡ y
unfolding pick
pick-other a b x y ne = grind (arith, nat_eq, cond, eqb-true)

pub same_or_not : (a b : ℕ) → (a ≡ b) ⊎ (a ≢ b)
same_or_not zero zero = inl refl
same_or_not zero (suc b) = inr (λ e. omega (arith, e))
same_or_not (suc a) zero = inr (λ e. omega (arith, e))
same_or_not (suc a) (suc b) = elim (same_or_not a b) [ inl e ↦ inl (ap suc e) | inr ne ↦ inr (λ e. ne (omega (arith, e))) ]

module _ {T : Type 0} where
  pub first-relink_next : (ix : ℕ) (g f : Forest (Placed T)) → first (relink_next ix g f) ≡ first f
  first-relink_next ix g Nil = refl
  first-relink_next ix g (Node p inside after) = refl

  pub first-relink_child : (ix : ℕ) (g f : Forest (Placed T)) → first (relink_child ix g f) ≡ first f
  first-relink_child ix g Nil = refl
  first-relink_child ix g (Node p inside after) = refl

  pub first-replace_item : (ix : ℕ) (w : T) (f : Forest (Placed T)) → first (replace_item ix w f) ≡ first f
  first-replace_item ix w Nil = refl
  first-replace_item ix w (Node p inside after) = refl

  -- one node is changed, and the others are as before
  pub record IsRewritten (at at' : ℕ → Option (Entry T)) (ix : ℕ) (change : Entry T → Entry T) : Type 0 where
    pub written : (e : Entry T) → at ix ≡ Some e → at' ix ≡ Some (change e)
    pub others : (i : ℕ) → i ≢ ix → at' i ≡ at i

  -- a node's own read, with the links that it has afterwards
  read_next : (at at' : ℕ → Option (Entry T)) (ix to : ℕ) (p : Placed T) (inside after inside' g : Forest (Placed T)) → IsRewritten at at' ix (with_next to) → first g ≡ to → p.ix ≡ ix → first inside' ≡ first inside → at p.ix ≡ Some (record { item = p.item; child = first inside; next = first after }) → at' p.ix ≡ Some (record { item = p.item; child = first inside'; next = first g })
  read_next at at' ix to p inside after inside' g r leads e c h = grind arith

  read_child : (at at' : ℕ → Option (Entry T)) (ix to : ℕ) (p : Placed T) (inside after after' g : Forest (Placed T)) → IsRewritten at at' ix (with_child to) → first g ≡ to → p.ix ≡ ix → first after' ≡ first after → at p.ix ≡ Some (record { item = p.item; child = first inside; next = first after }) → at' p.ix ≡ Some (record { item = p.item; child = first g; next = first after' })
  read_child at at' ix to p inside after after' g r leads e c h = grind arith

  read_other : (at at' : ℕ → Option (Entry T)) (p : Placed T) (inside after inside' after' : Forest (Placed T)) → at' p.ix ≡ at p.ix → first inside' ≡ first inside → first after' ≡ first after → at p.ix ≡ Some (record { item = p.item; child = first inside; next = first after }) → at' p.ix ≡ Some (record { item = p.item; child = first inside'; next = first after' })
  read_other at at' p inside after inside' after' same c n h = cc

  pub Stands-relink_next : (at at' : ℕ → Option (Entry T)) (ix to : ℕ) (g f : Forest (Placed T)) → IsRewritten at at' ix (with_next to) → first g ≡ to → Stands at' g → Stands at f → Stands at' (relink_next ix g f)
  Stands-relink_next at at' ix to g Nil r leads s h = tt
  Stands-relink_next at at' ix to g (Node p inside after) r leads s h =
      let i = Stands-relink_next at at' ix to g inside r leads s h.1 in
      let a = Stands-relink_next at at' ix to g after r leads s h.2 in
      let I = relink_next ix g inside in
      let A = relink_next ix g after in
      elim (same_or_not p.ix ix) [
        | inl e ↦ subst (λ k. Stands at' (Node p I k)) (sym (pick-same p.ix ix g A e)) (read_next at at' ix to p inside after I g r leads e (first-relink_next ix g inside) h.0, i, s)
        | inr ne ↦ subst (λ k. Stands at' (Node p I k)) (sym (pick-other p.ix ix g A ne)) (read_other at at' p inside after I A (r.others p.ix ne) (first-relink_next ix g inside) (first-relink_next ix g after) h.0, i, a)
      ]

  pub Stands-relink_child : (at at' : ℕ → Option (Entry T)) (ix to : ℕ) (g f : Forest (Placed T)) → IsRewritten at at' ix (with_child to) → first g ≡ to → Stands at' g → Stands at f → Stands at' (relink_child ix g f)
  Stands-relink_child at at' ix to g Nil r leads s h = tt
  Stands-relink_child at at' ix to g (Node p inside after) r leads s h =
      let i = Stands-relink_child at at' ix to g inside r leads s h.1 in
      let a = Stands-relink_child at at' ix to g after r leads s h.2 in
      let I = relink_child ix g inside in
      let A = relink_child ix g after in
      elim (same_or_not p.ix ix) [
        | inl e ↦ subst (λ k. Stands at' (Node p k A)) (sym (pick-same p.ix ix g I e)) (read_child at at' ix to p inside after A g r leads e (first-relink_child ix g after) h.0, s, a)
        | inr ne ↦ subst (λ k. Stands at' (Node p k A)) (sym (pick-other p.ix ix g I ne)) (read_other at at' p inside after I A (r.others p.ix ne) (first-relink_child ix g inside) (first-relink_child ix g after) h.0, i, a)
      ]

  pub Stands-replace_item : (at at' : ℕ → Option (Entry T)) (ix : ℕ) (w : T) (f : Forest (Placed T)) → IsRewritten at at' ix (with_other_item w) → Stands at f → Stands at' (replace_item ix w f)
  Stands-replace_item at at' ix w Nil r h = tt
  Stands-replace_item at at' ix w (Node p inside after) r h =
      let i = Stands-replace_item at at' ix w inside r h.1 in
      let a = Stands-replace_item at at' ix w after r h.2 in
      let I = replace_item ix w inside in
      let A = replace_item ix w after in
      let links : at' p.ix ≡ Some (record { item = pick p.ix ix w p.item; child = first inside; next = first after }) =
      elim (same_or_not p.ix ix) [
        | inl e ↦ ap at' e ∙ r.written (record { item = p.item; child = first inside; next = first after }) (sym (ap at e) ∙ h.0) ∙ ap (λ x. Some (record { item = x; child = first inside; next = first after })) (sym (pick-same p.ix ix w p.item e))
        | inr ne ↦ r.others p.ix ne ∙ h.0 ∙ ap (λ x. Some (record { item = x; child = first inside; next = first after })) (sym (pick-other p.ix ix w p.item ne))
      ] in (
        links
            ∙ ap (λ n. Some (record { item = pick p.ix ix w p.item; child = first inside; next = n })) (sym (first-replace_item ix w after))
            ∙ ap (λ n. Some (record { item = pick p.ix ix w p.item; child = n; next = first A })) (sym (first-replace_item ix w inside)),
        i,
        a,
      )

  -- a place that is not in a forest
  pub relink_next-absent : (ix : ℕ) (g f : Forest (Placed T)) → times ix f ≡ 0 → relink_next ix g f ≡ f
  relink_next-absent ix g Nil z = refl
  relink_next-absent ix g (Node p inside after) z = search (rules, hit-same, pick-other, relink_next-absent ix g inside (omega (arith, z)), relink_next-absent ix g after (omega (arith, z)))

  pub relink_child-absent : (ix : ℕ) (g f : Forest (Placed T)) → times ix f ≡ 0 → relink_child ix g f ≡ f
  relink_child-absent ix g Nil z = refl
  relink_child-absent ix g (Node p inside after) z = search (rules, hit-same, pick-other, relink_child-absent ix g inside (omega (arith, z)), relink_child-absent ix g after (omega (arith, z)))

  pub replace_item-absent : (ix : ℕ) (w : T) (f : Forest (Placed T)) → times ix f ≡ 0 → replace_item ix w f ≡ f
  replace_item-absent ix w Nil z = refl
  replace_item-absent ix w (Node p inside after) z = search (rules, hit-same, pick-other, replace_item-absent ix w inside (omega (arith, z)), replace_item-absent ix w after (omega (arith, z)))

  -- the written node comes before the node that it is linked to
  pub times-relink_next : (ix : ℕ) (g f : Forest (Placed T)) → In ix f → 1 + times ix g ≤ times ix (relink_next ix g f)
  times-relink_next ix g Nil lt = absurd (omega (arith, lt))
  times-relink_next ix g (Node p inside after) lt =
      let A = relink_next ix g after in
      elim (same_or_not p.ix ix) [
        | inl e ↦ (let k = ap (times ix) (pick-same p.ix ix g A e) in omega (arith, hit-same p.ix ix e, k))
        | inr ne ↦ (let k = ap (times ix) (pick-other p.ix ix g A ne) in elim (node_cases p inside after ix lt) [
          | inl e ↦ absurd (ne e)
          | inr (inl l) ↦ omega (arith, times-relink_next ix g inside l, k)
          | inr (inr l) ↦ omega (arith, times-relink_next ix g after l, k)
        ])
      ]

  pub times-relink_child : (ix : ℕ) (g f : Forest (Placed T)) → In ix f → 1 + times ix g ≤ times ix (relink_child ix g f)
  times-relink_child ix g Nil lt = absurd (omega (arith, lt))
  times-relink_child ix g (Node p inside after) lt =
      let I = relink_child ix g inside in
      elim (same_or_not p.ix ix) [
        | inl e ↦ (let k = ap (times ix) (pick-same p.ix ix g I e) in omega (arith, hit-same p.ix ix e, k))
        | inr ne ↦ (let k = ap (times ix) (pick-other p.ix ix g I ne) in elim (node_cases p inside after ix lt) [
          | inl e ↦ absurd (ne e)
          | inr (inl l) ↦ omega (arith, times-relink_child ix g inside l, k)
          | inr (inr l) ↦ omega (arith, times-relink_child ix g after l, k)
        ])
      ]

  pub times-replace_item : (i ix : ℕ) (w : T) (f : Forest (Placed T)) → times i (replace_item ix w f) ≡ times i f
  times-replace_item i ix w Nil = refl
  times-replace_item i ix w (Node p inside after) =
      omega (arith, times-replace_item i ix w inside, times-replace_item i ix w after)

  -- a forest in which one part replaces another
  pub put : (at at' : ℕ → Option (Entry T)) (start : ℕ) (left : Forest (Placed T)) (up : List (Level T)) (f g : Forest (Placed T)) → IsForest at start (plug up (join left f)) → IsOnce (plug up (join left g)) → ((i : ℕ) → 0 < times i left + outside i up → at' i ≡ at i) → first g ≡ first f → Stands at' g → IsForest at' start (plug up (join left g))
  put at at' start left up f g h once same e s = record {
    stands = Stands-replug at at' up (join left f) (join left g) h.stands (λ i lt. same i (omega (arith, lt))) (first-join left g f e)
        (Stands-rejoin at at' left f g (Stands-inner at up (join left f) h.stands) (λ i lt. same i (omega (arith, lt))) e s);
    once = once;
    start_is = h.start_is ∙ sym (first-plug up (join left g) (join left f) (first-join left g f e));
  }

  -- a place of `f` is not outside of it
  beside : (start : ℕ) (at : ℕ → Option (Entry T)) (left : Forest (Placed T)) (up : List (Level T)) (f : Forest (Placed T)) (i ix : ℕ) → IsOnce (plug up (join left f)) → In ix f → 0 < times i left + outside i up → i ≢ ix
  beside start at left up f i ix once inside lt e =
      let o = once ix in
      let lt' : 0 < times ix left + outside ix up = subst (λ k. 0 < times k left + outside k up) e lt in
      omega (arith, o, times-plug ix up (join left f), times-join ix left f, inside, lt')

  pub relinked_next : (at at' : ℕ → Option (Entry T)) (start ix to : ℕ) (g : Forest (Placed T)) (z : Zip T) → IsForest at start (whole z) → In ix z.right → Stands at g → first g ≡ to → IsOnce (whole (next_relinked ix g z)) → IsRewritten at at' ix (with_next to) → IsForest at' start (whole (next_relinked ix g z))
  relinked_next at at' start ix to g z h below s leads once r =
      put at at' start z.left z.up z.right (relink_next ix g z.right) h once (λ i lt. r.others i (beside start at z.left z.up z.right i ix h.once below lt)) (first-relink_next ix g z.right)
      (Stands-relink_next at at' ix to g z.right r leads (Stands-same at at' g (λ i lt. r.others i (λ e. apart (subst (λ k. In k g) e lt))) s) (Stands-right at z.left z.right (Stands-inner at z.up (siblings z) h.stands)))
    where
      apart : In ix g → ⊥
      apart lt =
          let o = once ix in
          omega (arith, o, lt, times-plug ix z.up (join z.left (relink_next ix g z.right)), times-join ix z.left (relink_next ix g z.right), times-relink_next ix g z.right below)

  pub relinked_child : (at at' : ℕ → Option (Entry T)) (start ix to : ℕ) (g : Forest (Placed T)) (z : Zip T) → IsForest at start (whole z) → In ix z.right → Stands at g → first g ≡ to → IsOnce (whole (child_relinked ix g z)) → IsRewritten at at' ix (with_child to) → IsForest at' start (whole (child_relinked ix g z))
  relinked_child at at' start ix to g z h below s leads once r =
      put at at' start z.left z.up z.right (relink_child ix g z.right) h once (λ i lt. r.others i (beside start at z.left z.up z.right i ix h.once below lt)) (first-relink_child ix g z.right)
      (Stands-relink_child at at' ix to g z.right r leads (Stands-same at at' g (λ i lt. r.others i (λ e. apart (subst (λ k. In k g) e lt))) s) (Stands-right at z.left z.right (Stands-inner at z.up (siblings z) h.stands)))
    where
      apart : In ix g → ⊥
      apart lt =
          let o = once ix in
          omega (arith, o, lt, times-plug ix z.up (join z.left (relink_child ix g z.right)), times-join ix z.left (relink_child ix g z.right), times-relink_child ix g z.right below)

  replace_item-join : (ix : ℕ) (w : T) (f g : Forest (Placed T)) → join (replace_item ix w f) (replace_item ix w g) ≡ replace_item ix w (join f g)
  replace_item-join ix w Nil g = refl
  replace_item-join ix w (Node p inside after) g = ap (Node (record p { item = pick p.ix ix w p.item }) (replace_item ix w inside)) (replace_item-join ix w after g)

  replace_item-plug : (ix : ℕ) (w : T) (up : List (Level T)) (f : Forest (Placed T)) → plug (replace_in_path ix w up) (replace_item ix w f) ≡ replace_item ix w (plug up f)
  replace_item-plug ix w [] f = refl
  replace_item-plug ix w (v ∷ up) f = ap (plug (replace_in_path ix w up)) (replace_item-join ix w v.left (Node v.place f v.right)) ∙ replace_item-plug ix w up (join v.left (Node v.place f v.right))

  pub whole-item_replaced : (ix : ℕ) (w : T) (z : Zip T) → whole (item_replaced ix w z) ≡ replace_item ix w (whole z)
  whole-item_replaced ix w z = ap (plug (replace_in_path ix w z.up)) (replace_item-join ix w z.left z.right) ∙ replace_item-plug ix w z.up (siblings z)

  pub replaced_item : (at at' : ℕ → Option (Entry T)) (start ix : ℕ) (w : T) (z : Zip T) → IsForest at start (whole z) → IsRewritten at at' ix (with_other_item w) → IsForest at' start (whole (item_replaced ix w z))
  replaced_item at at' start ix w z h r = grind (arith, whole-item_replaced, Stands-replace_item, times-replace_item, first-replace_item)
