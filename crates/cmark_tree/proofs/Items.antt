-- The tree as a builder sees it after the item of an open node or of the last sibling is written.
use Rattle.std.proofs.Common.{◌≡◌, ◌≢◌, ◌⊎◌, inl, inr, ℕ, zero, suc, ◌+◌, ◌<◌, ◌≤◌, List, [], ◌∷◌, ◌++◌, length, Some, None, refl, sym, ap, ◌∙◌, subst, arith}
use Rattle.std.specs.Prelude.{slice_get}
use Rattle.std.proofs.lemmas.Option.{same_Some}
use Rattle.cmark_tree.specs.declared.tree.Tree.{Tree}
use Rattle.cmark_tree.specs.declared.tree_index.TreeIndex.{TreeIndex}
use Rattle.cmark_tree.specs.Forest.{Forest, Nil, Node, join, one}
use Rattle.cmark_tree.specs.Arena.{Placed, first, items_of, times, pick, In, replace_item}
use Rattle.cmark_tree.specs.Nodes.{HasNumber, with_other_item}
use Rattle.cmark_tree.specs.Lending.{with_item_at, with_stored_item}
use Rattle.cmark_tree.specs.Zip.{Level, Zip, whole, siblings, IsLast, item_replaced, replace_in_path}
use Rattle.cmark_tree.specs.Tree.{Holds, entry_at, spine_of, parent_of, focus_of}
use Rattle.cmark_tree.specs.Building.{Opened, opened, IsAtEnd, Is, item_at_depth}
use Rattle.cmark_tree.proofs.Times.{hit-same, times-join, outside, times-plug}
use Rattle.cmark_tree.proofs.Relinks.{pick-same, pick-other, replace_item-absent, first-replace_item, replaced_item}
use Rattle.cmark_tree.proofs.Entries.{item_changes, slice_get-end}
use Rattle.cmark_tree.proofs.Steps.{rewritten, has_number, length-spine_of}
use Rattle.cmark_tree.proofs.Building.{items_of-join}

snoc_cases : {A : Type 0} → (xs : List A) (y : A) (k : ℕ) (o : A) → slice_get (xs ++ y ∷ []) k ≡ Some o → ((k ≡ length xs) × (y ≡ o)) ⊎ (slice_get xs k ≡ Some o)
snoc_cases [] y zero o e = inl (refl, same_Some y o e)
snoc_cases [] y (suc k) o e = absurd (let q : None ≡ Some o = e in cc)
snoc_cases (x ∷ xs) y zero o e = inr e
snoc_cases (x ∷ xs) y (suc k) o e = elim (snoc_cases xs y k o e) [ inl l ↦ inl (ap suc l.0, l.1) | inr r ↦ inr r ]

module _ {T : Type 0} where
  spine_of-replaced : (ix : ℕ) (w : T) (up : List (Level T)) → spine_of (replace_in_path ix w up) ≡ spine_of up
  spine_of-replaced ix w [] = refl
  spine_of-replaced ix w (v ∷ up) = ap (λ s. s ++ record { ix = v.place.ix } ∷ []) (spine_of-replaced ix w up)

  -- the tree after a write through `item_mut`
  pub Holds-item : (t : Tree T) (ix : ℕ) (w : T) (z : Zip T) → HasNumber t.nodes ix → Holds t z → Holds (with_item_at t ix w) (item_replaced ix w z)
  Holds-item t ix w z has h = record {
    forest = replaced_item (entry_at t) (entry_at (with_item_at t ix w)) t.first ix w z h.forest (rewritten t.nodes (with_stored_item t.nodes ix w) ix (with_other_item w) (item_changes t.nodes ix w has));
    spine_is = h.spine_is ∙ sym (spine_of-replaced ix w z.up);
    cur_is = h.cur_is ∙ sym (first-replace_item ix w z.right);
  }

  pub replace_in_path-absent : (ix : ℕ) (w : T) (up : List (Level T)) → outside ix up ≡ 0 → replace_in_path ix w up ≡ up
  replace_in_path-absent ix w [] none = refl
  replace_in_path-absent ix w (v ∷ up) none =
      let ne : v.place.ix ≢ ix = (λ e. omega (arith, none, hit-same v.place.ix ix e)) in
      ap (λ l. record { left = l; place = record v.place { item = pick v.place.ix ix w v.place.item }; right = replace_item ix w v.right } ∷ replace_in_path ix w up) (replace_item-absent ix w v.left (omega (arith, none)))
      ∙ ap (λ x. record { left = v.left; place = record v.place { item = x }; right = replace_item ix w v.right } ∷ replace_in_path ix w up) (pick-other v.place.ix ix w v.place.item ne)
      ∙ ap (λ r. record { left = v.left; place = v.place; right = r } ∷ replace_in_path ix w up) (replace_item-absent ix w v.right (omega (arith, none)))
      ∙ ap (λ u. v ∷ u) (replace_in_path-absent ix w up (omega (arith, none)))

  -- a number of the path belongs to the innermost node or to one above it
  spine_cases : (up : List (Level T)) (v : Level T) (k : ℕ) (i : TreeIndex) → slice_get (spine_of (v ∷ up)) k ≡ Some i → ((k ≡ length up) × (v.place.ix ≡ i.ix)) ⊎ (slice_get (spine_of up) k ≡ Some i)
  spine_cases up v k i e = elim (snoc_cases (spine_of up) (record { ix = v.place.ix }) k i e) [
    | inl l ↦ inl (l.0 ∙ length-spine_of up, ap (λ j. j.ix) l.1)
    | inr r ↦ inr r
  ]

  -- a number of the path occurs outside the current siblings
  pub spine_outside : (up : List (Level T)) (k : ℕ) (i : TreeIndex) → slice_get (spine_of up) k ≡ Some i → 0 < outside i.ix up
  spine_outside [] k i e = absurd (let q : None ≡ Some i = e in cc)
  spine_outside (v ∷ up) k i e = elim (spine_cases up v k i e) [
    | inl l ↦ omega (arith, hit-same v.place.ix i.ix l.1)
    | inr r ↦ omega (arith, spine_outside up k i r)
  ]

  pub spine_depth : (up : List (Level T)) (k : ℕ) (i : TreeIndex) → slice_get (spine_of up) k ≡ Some i → k < length up
  spine_depth [] k i e = absurd (let q : None ≡ Some i = e in cc)
  spine_depth (v ∷ up) k i e = elim (spine_cases up v k i e) [
    | inl l ↦ omega (arith, l.0)
    | inr r ↦ omega (arith, spine_depth up k i r)
  ]

  length-opened : (up : List (Level T)) → length (opened up) ≡ length up
  length-opened [] = refl
  length-opened (v ∷ up) = ap suc (length-opened up)

  none_deeper : (d : ℕ) (w : T) (up : List (Opened T)) → length up ≤ d → item_at_depth d w up ≡ up
  none_deeper d w [] le = refl
  none_deeper d w (v ∷ up) le =
      ap (λ x. record { left = v.left; item = x } ∷ item_at_depth d w up) (pick-other (length up) d w v.item (λ e. omega (arith, le, e)))
      ∙ ap (λ u. v ∷ u) (none_deeper d w up (omega (arith, le)))

  -- the item of the open node with `k` nodes around it
  opened-item : (up : List (Level T)) (k : ℕ) (i : TreeIndex) (w : T) → slice_get (spine_of up) k ≡ Some i → outside i.ix up ≤ 1 → opened (replace_in_path i.ix w up) ≡ item_at_depth k w (opened up)
  opened-item [] k i w e once = refl
  opened-item (v ∷ up) k i w e once = elim (spine_cases up v k i e) [
    | inl l ↦ (
        let hit1 = hit-same v.place.ix i.ix l.1 in
        ap (λ f. record { left = items_of f; item = pick v.place.ix i.ix w v.place.item } ∷ opened (replace_in_path i.ix w up)) (replace_item-absent i.ix w v.left (omega (arith, once, hit1)))
        ∙ ap (λ x. record { left = items_of v.left; item = x } ∷ opened (replace_in_path i.ix w up)) (pick-same v.place.ix i.ix w v.place.item l.1 ∙ sym (pick-same (length (opened up)) k w v.place.item (length-opened up ∙ sym l.0)))
        ∙ ap (λ u. record { left = items_of v.left; item = pick (length (opened up)) k w v.place.item } ∷ u) (ap opened (replace_in_path-absent i.ix w up (omega (arith, once, hit1))) ∙ sym (none_deeper k w (opened up) (omega (arith, length-opened up, l.0)))))
    | inr r ↦ (
        let out = spine_outside up k i r in
        let ne : v.place.ix ≢ i.ix = (λ q. omega (arith, once, out, hit-same v.place.ix i.ix q)) in
        let deep : length (opened up) ≢ k = (λ q. omega (arith, q, length-opened up, spine_depth up k i r)) in
        ap (λ f. record { left = items_of f; item = pick v.place.ix i.ix w v.place.item } ∷ opened (replace_in_path i.ix w up)) (replace_item-absent i.ix w v.left (omega (arith, once, out)))
        ∙ ap (λ x. record { left = items_of v.left; item = x } ∷ opened (replace_in_path i.ix w up)) (pick-other v.place.ix i.ix w v.place.item ne ∙ sym (pick-other (length (opened up)) k w v.place.item deep))
        ∙ ap (λ u. record { left = items_of v.left; item = pick (length (opened up)) k w v.place.item } ∷ u) (opened-item up k i w r (omega (arith, once))))
  ]

  replaced_at_end : (ix : ℕ) (w : T) (up : List (Level T)) → IsAtEnd up → IsAtEnd (replace_in_path ix w up)
  replaced_at_end ix w [] h = tt
  replaced_at_end ix w (v ∷ up) h = (ap (replace_item ix w) h.0, replaced_at_end ix w up h.1)

  replaced_last : (ix : ℕ) (w : T) (left right : Forest (Placed T)) → IsLast left right → IsLast (replace_item ix w left) (replace_item ix w right)
  replaced_last ix w left Nil h = ap (replace_item ix w) h
  replaced_last ix w left (Node p inside after) h = ap (replace_item ix w) h

  -- the item of an open node is written: the node with `k` nodes around it
  pub Is-item_above : (t : Tree T) (here : Forest T) (up : List (Opened T)) (k : ℕ) (i : TreeIndex) (w : T) → slice_get t.spine.items k ≡ Some i → Is t here up → Is (with_item_at t i.ix w) here (item_at_depth k w up)
  Is-item_above t here up k i w e is = record {
    z = item_replaced i.ix w is.z;
    holds = Holds-item t i.ix w is.z has is.holds;
    last = replaced_last i.ix w is.z.left is.z.right is.last;
    at_end = replaced_at_end i.ix w is.z.up is.at_end;
    here_is = ap items_of (ap (λ l. join l (replace_item i.ix w is.z.right)) (replace_item-absent i.ix w is.z.left (omega (arith, count, out))) ∙ ap (join is.z.left) (replace_item-absent i.ix w is.z.right (omega (arith, count, out)))) ∙ is.here_is;
    up_is = opened-item is.z.up k i w e' (omega (arith, count)) ∙ ap (item_at_depth k w) is.up_is;
  }
    where
      e' : slice_get (spine_of is.z.up) k ≡ Some i
      e' = subst (λ s. slice_get s k ≡ Some i) is.holds.spine_is e

      out : 0 < outside i.ix is.z.up
      out = spine_outside is.z.up k i e'

      count : (times i.ix is.z.left + times i.ix is.z.right) + outside i.ix is.z.up ≤ 1
      count = let o = is.holds.forest.once i.ix in omega (arith, o, times-plug i.ix is.z.up (siblings is.z), times-join i.ix is.z.left is.z.right)

      has : HasNumber t.nodes i.ix
      has = has_number t.nodes (whole is.z) i.ix is.holds.forest.stands (omega (arith, out, times-plug i.ix is.z.up (siblings is.z)))

  -- forests with the same last tree
  pub one_inj : (f g : Forest T) (x y : T) (i j : Forest T) → join f (one x i) ≡ join g (one y j) → (f ≡ g) × (x ≡ y) × (i ≡ j)
  one_inj Nil Nil x y i j e = (refl, (let q : Node x i Nil ≡ Node y j Nil = e in cc), (let q : Node x i Nil ≡ Node y j Nil = e in cc))
  one_inj Nil (Node q a b) x y i j e = absurd (let c : Nil ≡ join b (one y j) = (let k : Node x i Nil ≡ Node q a (join b (one y j)) = e in cc) in not_nil b y j c)
    where
      not_nil : (b : Forest T) (y : T) (j : Forest T) → Nil ≡ join b (one y j) → ⊥
      not_nil Nil y j c = let k : Nil ≡ Node y j Nil = c in cc
      not_nil (Node p a b) y j c = let k : Nil ≡ Node p a (join b (one y j)) = c in cc
  one_inj (Node p a b) Nil x y i j e = absurd (let c : join b (one x i) ≡ Nil = (let k : Node p a (join b (one x i)) ≡ Node y j Nil = e in cc) in not_nil b x i c)
    where
      not_nil : (b : Forest T) (y : T) (j : Forest T) → join b (one y j) ≡ Nil → ⊥
      not_nil Nil y j c = let k : Node y j Nil ≡ Nil = c in cc
      not_nil (Node p a b) y j c = let k : Node p a (join b (one y j)) ≡ Nil = c in cc
  one_inj (Node p a b) (Node q c d) x y i j e =
      let pq : p ≡ q = (let k : Node p a (join b (one x i)) ≡ Node q c (join d (one y j)) = e in cc) in
      let ac : a ≡ c = (let k : Node p a (join b (one x i)) ≡ Node q c (join d (one y j)) = e in cc) in
      let bd : join b (one x i) ≡ join d (one y j) = (let k : Node p a (join b (one x i)) ≡ Node q c (join d (one y j)) = e in cc) in
      let r = one_inj b d x y i j bd in
      (ap (λ m. Node m a b) pq ∙ ap (λ m. Node q m b) ac ∙ ap (Node q c) r.0, r.1, r.2)

  pub none_last : (f : Forest T) (x : T) (i : Forest T) → Nil ≡ join f (one x i) → ⊥
  none_last Nil x i e = let k : Nil ≡ Node x i Nil = e in cc
  none_last (Node p a b) x i e = let k : Nil ≡ Node p a (join b (one x i)) = e in cc

  -- with a last sibling there is a focus
  last_in : (cur : ℕ) (left right : Forest (Placed T)) (here : Forest T) (x : T) (inside : Forest T) → IsLast left right → cur ≡ first right → items_of (join left right) ≡ join here (one x inside) → In cur right
  last_in cur left Nil here x inside last at e = absurd (none_last here x inside (ap (λ l. items_of (join l Nil)) (sym last) ∙ e))
  last_in cur left (Node p i a) here x inside last at e = omega (arith, hit-same p.ix cur (sym at))

  last_item : (cur : ℕ) (w : T) (left right : Forest (Placed T)) (here : Forest T) (x : T) (inside : Forest T) → IsLast left right → cur ≡ first right → times cur left + times cur right ≤ 1 → items_of (join left right) ≡ join here (one x inside) → items_of (join (replace_item cur w left) (replace_item cur w right)) ≡ join here (one w inside)
  last_item cur w left Nil here x inside last at once e = absurd (none_last here x inside (ap (λ l. items_of (join l Nil)) (sym last) ∙ e))
  last_item cur w left (Node p i (Node q b c)) here x inside last at once e = absurd (let k : Node q b c ≡ Nil = last in cc)
  last_item cur w left (Node p i Nil) here x inside last at once e =
      let hit1 = hit-same p.ix cur (sym at) in
      let same = one_inj (items_of left) here p.item x (items_of i) inside (sym (items_of-join left (Node p i Nil)) ∙ e) in
      ap (λ l. items_of (join l (Node (record p { item = pick p.ix cur w p.item }) (replace_item cur w i) Nil))) (replace_item-absent cur w left (omega (arith, once, hit1)))
      ∙ ap (λ k. items_of (join left (Node (record p { item = pick p.ix cur w p.item }) k Nil))) (replace_item-absent cur w i (omega (arith, once, hit1)))
      ∙ ap (λ y. items_of (join left (Node (record p { item = y }) i Nil))) (pick-same p.ix cur w p.item (sym at))
      ∙ items_of-join left (Node (record p { item = w }) i Nil)
      ∙ ap (λ l. join l (one w (items_of i))) same.0 ∙ ap (λ k. join here (one w k)) same.2

  -- the item of the last sibling is written
  pub Is-item_here : (t : Tree T) (here : Forest T) (x : T) (inside : Forest T) (up : List (Opened T)) (w : T) → Is t (join here (one x inside)) up → Is (with_item_at t t.cur w) (join here (one w inside)) up
  Is-item_here t here x inside up w is = record {
    z = item_replaced t.cur w is.z;
    holds = Holds-item t t.cur w is.z (has_number t.nodes (whole is.z) t.cur is.holds.forest.stands (omega (arith, there, count))) is.holds;
    last = replaced_last t.cur w is.z.left is.z.right is.last;
    at_end = replaced_at_end t.cur w is.z.up is.at_end;
    here_is = last_item t.cur w is.z.left is.z.right here x inside is.last is.holds.cur_is (let o = is.holds.forest.once t.cur in omega (arith, o, count)) is.here_is;
    up_is = ap opened (replace_in_path-absent t.cur w is.z.up (let o = is.holds.forest.once t.cur in omega (arith, o, count, there))) ∙ is.up_is;
  }
    where
      there : In t.cur is.z.right
      there = last_in t.cur is.z.left is.z.right here x inside is.last is.holds.cur_is is.here_is

      count : times t.cur (whole is.z) ≡ (times t.cur is.z.left + times t.cur is.z.right) + outside t.cur is.z.up
      count = omega (arith, times-plug t.cur is.z.up (siblings is.z), times-join t.cur is.z.left is.z.right)

  -- the item of the parent is written, through the number of `peek_up`
  pub Is-item_parent : (t : Tree T) (here : Forest T) (v : Opened T) (up : List (Opened T)) (i : TreeIndex) (w : T) → ((z : Zip T) → Holds t z → Some i ≡ parent_of z.up) → Is t here (v ∷ up) → Is (with_item_at t i.ix w) here (record v { item = w } ∷ up)
  Is-item_parent t here v up i w parent is =
      subst (Is (with_item_at t i.ix w) here) (ap (λ x. record v { item = x } ∷ item_at_depth (length up) w up) (pick-same (length up) (length up) w v.item refl) ∙ ap (λ u. record v { item = w } ∷ u) (none_deeper (length up) w up (omega arith)))
      (Is-item_above t here (v ∷ up) (length up) i w (go is.z.up is.holds.spine_is (parent is.z is.holds) is.up_is) is)
    where
      go : (levels : List (Level T)) → t.spine.items ≡ spine_of levels → Some i ≡ parent_of levels → opened levels ≡ v ∷ up → slice_get t.spine.items (length up) ≡ Some i
      go [] s p o = absurd (let q : [] ≡ v ∷ up = o in cc)
      go (l ∷ levels) s p o =
          let rest : opened levels ≡ up = (let q : record { left = items_of l.left; item = l.place.item } ∷ opened levels ≡ v ∷ up = o in cc) in
          let depth : length (spine_of levels) ≡ length up = length-spine_of levels ∙ sym (length-opened levels) ∙ ap length rest in
          ap (λ s. slice_get s (length up)) s ∙ subst (λ k. slice_get (spine_of levels ++ record { ix = l.place.ix } ∷ []) k ≡ Some (record { ix = l.place.ix })) depth (slice_get-end (spine_of levels) (record { ix = l.place.ix })) ∙ sym p

  -- the item of the focus is written, through the number of `cur`
  pub Is-item_focus : (t : Tree T) (here : Forest T) (x : T) (inside : Forest T) (up : List (Opened T)) (i : TreeIndex) (w : T) → ((z : Zip T) → Holds t z → Some i ≡ focus_of z.right) → Is t (join here (one x inside)) up → Is (with_item_at t i.ix w) (join here (one w inside)) up
  Is-item_focus t here x inside up i w focus is =
      subst (λ k. Is (with_item_at t k w) (join here (one w inside)) up) (is.holds.cur_is ∙ go is.z.right (focus is.z is.holds)) (Is-item_here t here x inside up w is)
    where
      go : (right : Forest (Placed T)) → Some i ≡ focus_of right → first right ≡ i.ix
      go Nil e = absurd (let q : Some i ≡ None = e in cc)
      go (Node p a b) e = ap (λ k. k.ix) (sym (same_Some i (record { ix = p.ix }) e))
