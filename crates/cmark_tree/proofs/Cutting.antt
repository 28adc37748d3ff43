-- The loop that finds where siblings are cut, and the siblings that end there.
use Rattle.std.proofs.Common.{◌≡◌, ◌⊎◌, inl, inr, ℕ, suc, ◌+◌, ◌<◌, ◌≤◌, Bool, true, false, if◌then◌else◌, List, [], ◌∷◌, Some, None, refl, sym, ap, ◌∙◌, subst, arith, zero}
use Rattle.std.proofs.lemmas.Bool.{lt-ltb}
use Rattle.std.proofs.lemmas.Option.{same_Some}
use Rattle.cmark_tree.specs.declared.nodes.Nodes.{Nodes}
use Rattle.cmark_tree.specs.declared.tree_index.TreeIndex.{TreeIndex}
use Rattle.cmark_tree.specs.Forest.{Forest, Nil, Node, join, one, size}
use Rattle.cmark_tree.specs.Arena.{Entry, Placed, first, Stands, times, IsForest, replace_item}
use Rattle.cmark_tree.specs.Nodes.{node_at, node_count, HasNumber, IsChanged, with_next, with_child, with_other_item}
use Rattle.cmark_tree.specs.Zip.{Level, Zip, plug, whole, item_replaced}
use Rattle.cmark_tree.specs.Tree.{parent_of}
use Rattle.cmark_tree.specs.Truncating.{Spans, IsCut, AllEndBefore, FirstReaches, last_place, but_last, last_tree, truncated, shortened, kept, NoEscapedAtZero}
use Rattle.cmark_tree.specs.Truncated.{IsChildren, IsShortened}
use Rattle.cmark_tree.proofs.Times.{hit-same, outside, times-plug, join-nil, join_assoc}
use Rattle.cmark_tree.proofs.Relinks.{pick-same, replace_item-absent, replaced_item}
use Rattle.cmark_tree.proofs.Items.{replace_in_path-absent}
use Rattle.cmark_tree.proofs.StandsLemmas.{Stands-right, Stands-inner}
use Rattle.cmark_tree.proofs.Entries.{node_at-within}
use Rattle.cmark_tree.proofs.Steps.{first_none, rewritten}
use Rattle.cmark_tree.proofs.Surgery.{size-count, times-at, dropped_after, dropped_inside}
use Rattle.cmark_tree.proofs.Truncating.{lt_false}

zero_or : (n : ℕ) → (n ≡ 0) ⊎ (0 < n)
zero_or zero = inl refl
zero_or (suc n) = inr (omega arith)

module _ {T : Type 0} where
  -- the number of trees
  abbrev pub breadth : Forest (Placed T) → ℕ
  breadth Nil = 0
  breadth (Node p inside after) = suc (breadth after)

  pub breadth-size : (f : Forest (Placed T)) → breadth f ≤ size f
  breadth-size Nil = omega arith
  breadth-size (Node p inside after) = omega (arith, breadth-size after)

  pub breadth-join : (f g : Forest (Placed T)) → breadth (join f g) ≡ breadth f + breadth g
  breadth-join Nil g = omega arith
  breadth-join (Node p inside after) g = omega (arith, breadth-join after g)

  pub last_place-snoc : (f : Forest (Placed T)) (p : Placed T) (i : Forest (Placed T)) → last_place (join f (one p i)) ≡ p.ix
  last_place-snoc Nil p i = refl
  last_place-snoc (Node q j Nil) p i = refl
  last_place-snoc (Node q j (Node r k a)) p i = last_place-snoc (Node r k a) p i

  -- siblings as those before the last, and the last
  pub join_last : (f : Forest (Placed T)) → join (but_last f) (last_tree f) ≡ f
  join_last Nil = refl
  join_last (Node p i Nil) = refl
  join_last (Node p i (Node q j a)) = ap (Node p i) (join_last (Node q j a))

  pub first-last_tree : (f : Forest (Placed T)) → first (last_tree f) ≡ last_place f
  first-last_tree Nil = refl
  first-last_tree (Node p i Nil) = refl
  first-last_tree (Node p i (Node q j a)) = first-last_tree (Node q j a)

  module _ (s : Spans T) (to : ℕ) where
    -- the first `steps` siblings end before the place
    pub record SoFar (f : Forest (Placed T)) (last at steps : ℕ) : Type 0 where
      pub done : Forest (Placed T)
      pub rest : Forest (Placed T)
      pub split : f ≡ join done rest
      pub before : AllEndBefore s to done
      pub last_is : last ≡ last_place done
      pub at_is : at ≡ first rest
      pub steps_is : steps ≡ breadth done

    rest_stands : (nodes : Nodes T) (f : Forest (Placed T)) (head last at steps : ℕ) → IsChildren nodes f head → (c : SoFar f last at steps) → Stands (node_at nodes) c.rest
    rest_stands nodes f head last at steps h c = Stands-right (node_at nodes) c.done c.rest (subst (Stands (node_at nodes)) c.split h.stands)

    -- at a sibling
    pub record AtSibling (nodes : Nodes T) (f : Forest (Placed T)) (last at steps : ℕ) : Type 0 where
      pub done : Forest (Placed T)
      pub place : Placed T
      pub inside : Forest (Placed T)
      pub after : Forest (Placed T)
      pub split : f ≡ join done (Node place inside after)
      pub before : AllEndBefore s to done
      pub last_is : last ≡ last_place done
      pub at_is : at ≡ place.ix
      pub steps_is : steps ≡ breadth done
      pub read : node_at nodes at ≡ Some (record { item = place.item; child = first inside; next = first after })

    pub sofar_sibling : (nodes : Nodes T) (f : Forest (Placed T)) (head last at steps : ℕ) → IsChildren nodes f head → (at ≡ 0 → ⊥) → SoFar f last at steps → AtSibling nodes f last at steps
    sofar_sibling nodes f head last at steps h some c = go c.rest c.split c.at_is (rest_stands nodes f head last at steps h c)
      where
        go : (rest : Forest (Placed T)) → f ≡ join c.done rest → at ≡ first rest → Stands (node_at nodes) rest → AtSibling nodes f last at steps
        go Nil split e st = absurd (some e)
        go (Node p i a) split e st = record {
          done = c.done;
          place = p;
          inside = i;
          after = a;
          split = split;
          before = c.before;
          last_is = c.last_is;
          at_is = e;
          steps_is = c.steps_is;
          read = ap (node_at nodes) e ∙ st.0;
        }

    pub sibling_number : (nodes : Nodes T) (f : Forest (Placed T)) (last at steps : ℕ) → AtSibling nodes f last at steps → HasNumber nodes at
    sibling_number nodes f last at steps a = node_at-within nodes at (record { item = a.place.item; child = first a.inside; next = first a.after }) a.read

    snoc_before : (f : Forest (Placed T)) (p : Placed T) (i : Forest (Placed T)) → AllEndBefore s to f → s.end p.item < to → AllEndBefore s to (join f (one p i))
    snoc_before Nil p i all lt = (lt, tt)
    snoc_before (Node q j a) p i all lt = (all.0, snoc_before a p i all.1 lt)

    -- one sibling more
    pub sofar_step : (nodes : Nodes T) (f : Forest (Placed T)) (last at steps next : ℕ) (item : T) → AtSibling nodes f last at steps → ((e : Entry T) → node_at nodes at ≡ Some e → item ≡ e.item) → ((e : Entry T) → node_at nodes at ≡ Some e → next ≡ e.next) → s.end item < to → SoFar f at next (suc steps)
    sofar_step nodes f last at steps next item a items nexts lt = record {
      done = join a.done (one a.place a.inside);
      rest = a.after;
      split = a.split ∙ sym (join_assoc a.done (one a.place a.inside) a.after);
      before = snoc_before a.done a.place a.inside a.before (subst (λ x. s.end x < to) (items (record { item = a.place.item; child = first a.inside; next = first a.after }) a.read) lt);
      last_is = a.at_is ∙ sym (last_place-snoc a.done a.place a.inside);
      at_is = nexts (record { item = a.place.item; child = first a.inside; next = first a.after }) a.read;
      steps_is = omega (arith, a.steps_is, breadth-join a.done (one a.place a.inside));
    }

    -- at the end of the siblings
    pub cut_none : (nodes : Nodes T) (f : Forest (Placed T)) (head last at steps : ℕ) → IsChildren nodes f head → at ≡ 0 → SoFar f last at steps → IsCut s to f last at
    cut_none nodes f head last at steps h none c =
        let nil = first_none nodes c.rest (rest_stands nodes f head last at steps h c) (sym c.at_is ∙ none) in
        record { done = c.done; rest = c.rest; split = c.split; before = c.before; kept_is = c.last_is; at_is = c.at_is; reaches = subst (FirstReaches s to) (sym nil) tt }

    -- at a sibling that does not end before the place
    pub cut_here : (nodes : Nodes T) (f : Forest (Placed T)) (last at steps : ℕ) (item : T) → AtSibling nodes f last at steps → ((e : Entry T) → node_at nodes at ≡ Some e → item ≡ e.item) → to ≤ s.end item → IsCut s to f last at
    cut_here nodes f last at steps item a items le = record {
      done = a.done;
      rest = Node a.place a.inside a.after;
      split = a.split;
      before = a.before;
      kept_is = a.last_is;
      at_is = a.at_is;
      reaches = subst (λ x. to ≤ s.end x) (items (record { item = a.place.item; child = first a.inside; next = first a.after }) a.read) le;
    }

    -- after a number of siblings equal to the number of nodes
    pub cut_all : (nodes : Nodes T) (f : Forest (Placed T)) (head last at steps : ℕ) → IsChildren nodes f head → node_count nodes ≤ steps → SoFar f last at steps → IsCut s to f last at
    cut_all nodes f head last at steps h le c = record { done = c.done; rest = c.rest; split = c.split; before = c.before; kept_is = c.last_is; at_is = c.at_is; reaches = go c.rest c.split }
      where
        go : (rest : Forest (Placed T)) → f ≡ join c.done rest → FirstReaches s to rest
        go Nil split = tt
        go (Node p i a) split =
            let b : breadth f ≡ breadth (join c.done (Node p i a)) = ap breadth split in
            absurd (omega (arith, le, c.steps_is, b, breadth-join c.done (Node p i a), breadth-size f, size-count nodes f h.stands h.once))

  -- the last of some siblings
  pub record LastView (f : Forest (Placed T)) : Type 0 where
    pub place : Placed T
    pub inside : Forest (Placed T)
    pub parts : f ≡ join (but_last f) (one place inside)
    pub last_is : last_place f ≡ place.ix

  pub last_view : (f : Forest (Placed T)) → (f ≡ Nil) ⊎ LastView f
  last_view Nil = inl refl
  last_view (Node p i Nil) = inr (record { place = p; inside = i; parts = refl; last_is = refl })
  last_view (Node p i (Node q j a)) = elim (last_view (Node q j a)) [
    | inl e ↦ absurd (let c : Node q j a ≡ Nil = e in cc)
    | inr v ↦ inr (record { place = v.place; inside = v.inside; parts = ap (Node p i) v.parts; last_is = v.last_is })
  ]

  -- siblings before and from the last
  pub last_joined : (f rest : Forest (Placed T)) (v : LastView f) → join f rest ≡ join (but_last f) (Node v.place v.inside rest)
  last_joined f rest v = ap (λ k. join k rest) v.parts ∙ join_assoc (but_last f) (one v.place v.inside) rest

  pub last_above : (nodes : Nodes T) (up : List (Level T)) (f rest : Forest (Placed T)) → Stands (node_at nodes) (plug up (join f rest)) → (v : LastView f) → HasNumber nodes (last_place f)
  last_above nodes up f rest h v =
      let st : Stands (node_at nodes) (join (but_last f) (Node v.place v.inside rest)) = subst (Stands (node_at nodes)) (last_joined f rest v) (Stands-inner (node_at nodes) up (join f rest) h) in
      subst (HasNumber nodes) (sym v.last_is) (node_at-within nodes v.place.ix (record { item = v.place.item; child = first v.inside; next = first rest }) (Stands-right (node_at nodes) (but_last f) (Node v.place v.inside rest) st).0)

  -- the children of the parent dropped
  pub end_none : (old new : Nodes T) (start : ℕ) (parent : TreeIndex) (done rest : Forest (Placed T)) (up : List (Level T)) → IsForest (node_at old) start (plug up (join done rest)) → parent_of up ≡ Some parent → last_place done ≡ 0 → IsChanged old new parent.ix (with_child 0) → IsForest (node_at new) start (plug up done)
  end_none old new start parent done rest [] h e last c = absurd (let q : None ≡ Some parent = e in cc)
  end_none old new start parent done rest (v ∷ up) h e last c = elim (last_view done) [
    | inl nil ↦ subst (λ d. IsForest (node_at new) start (plug (v ∷ up) d)) (sym nil) (dropped_inside old new start parent.ix v.left v.place (join done rest) v.right up h (ap (λ k. k.ix) (same_Some (record { ix = v.place.ix }) parent e)) c)
    | inr w ↦ absurd (omega (arith, last, (last_above old (v ∷ up) done rest h.stands w).0))
  ]

  -- the siblings after the last dropped
  pub end_after : (old new : Nodes T) (start last : ℕ) (done rest : Forest (Placed T)) (up : List (Level T)) → IsForest (node_at old) start (plug up (join done rest)) → (last ≡ 0 → ⊥) → last_place done ≡ last → IsChanged old new last (with_next 0) → IsForest (node_at new) start (plug up done)
  end_after old new start last done rest up h some e c = elim (last_view done) [
    | inl nil ↦ absurd (some (sym e ∙ ap last_place nil))
    | inr w ↦ subst (λ d. IsForest (node_at new) start (plug up d)) (sym w.parts)
        (dropped_after old new start last (but_last done) w.place w.inside rest up (subst (λ d. IsForest (node_at old) start (plug up d)) (last_joined done rest w) h) (sym w.last_is ∙ e) c)
  ]

  pub last_number : (nodes : Nodes T) (start last : ℕ) (done rest : Forest (Placed T)) (up : List (Level T)) → IsForest (node_at nodes) start (plug up (join done rest)) → (last ≡ 0 → ⊥) → last_place done ≡ last → HasNumber nodes last
  last_number nodes start last done rest up h some e = elim (last_view done) [
    | inl nil ↦ absurd (some (sym e ∙ ap last_place nil))
    | inr w ↦ subst (HasNumber nodes) e (last_above nodes up done rest h.stands w)
  ]

  -- an item is written at a sibling
  pub item_written : (old new : Nodes T) (start : ℕ) (left : Forest (Placed T)) (p : Placed T) (inside after : Forest (Placed T)) (up : List (Level T)) (w : T) → IsForest (node_at old) start (plug up (join left (Node p inside after))) → IsChanged old new p.ix (with_other_item w) → IsForest (node_at new) start (plug up (join left (Node (record p { item = w }) inside after)))
  item_written old new start left p inside after up w h c =
      subst (IsForest (node_at new) start) same (replaced_item (node_at old) (node_at new) start p.ix w z h (rewritten old new p.ix (with_other_item w) c))
    where
      z : Zip T
      z = record { left = left; right = Node p inside after; up = up }

      once : (times p.ix left + (1 + (times p.ix inside + times p.ix after))) + outside p.ix up ≤ 1
      once = let o = h.once p.ix in omega (arith, o, times-at p.ix left p inside after up, hit-same p.ix p.ix refl)

      same : whole (item_replaced p.ix w z) ≡ plug up (join left (Node (record p { item = w }) inside after))
      same =
          ap (λ u. plug u (join (replace_item p.ix w left) (replace_item p.ix w (Node p inside after)))) (replace_in_path-absent p.ix w up (omega (arith, once)))
          ∙ ap (λ l. plug up (join l (replace_item p.ix w (Node p inside after)))) (replace_item-absent p.ix w left (omega (arith, once)))
          ∙ ap (λ x. plug up (join left (Node (record p { item = x }) (replace_item p.ix w inside) (replace_item p.ix w after)))) (pick-same p.ix p.ix w p.item refl)
          ∙ ap (λ k. plug up (join left (Node (record p { item = w }) k (replace_item p.ix w after)))) (replace_item-absent p.ix w inside (omega (arith, once)))
          ∙ ap (λ k. plug up (join left (Node (record p { item = w }) inside k))) (replace_item-absent p.ix w after (omega (arith, once)))

  module _ (s : Spans T) (to : ℕ) where
    -- the rest of cut siblings: no other sibling, the rest of the next one, or nothing of it
    pub truncated-all : (done : Forest (Placed T)) → AllEndBefore s to done → truncated s to done ≡ done
    truncated-all Nil all = refl
    truncated-all (Node p i a) all = rw (lt-ltb (s.end p.item) to all.0) (ap (Node p i) (truncated-all a all.1))

    pub truncated-at : (done : Forest (Placed T)) (p : Placed T) (i a : Forest (Placed T)) → AllEndBefore s to done → to ≤ s.end p.item → truncated s to (join done (Node p i a)) ≡ join done (kept s p i (shortened s to p.item))
    truncated-at Nil p i a all le = rw (lt_false (s.end p.item) to le) refl
    truncated-at (Node q j b) p i a all le = rw (lt-ltb (s.end q.item) to all.0) (ap (Node q j) (truncated-at b p i a all.1 le))

    no_escaped : (done : Forest (Placed T)) (p : Placed T) (i a : Forest (Placed T)) → NoEscapedAtZero s (join done (Node p i a)) → s.start p.item ≡ 0 → s.escaped p.item ≡ true → ⊥
    no_escaped Nil p i a h = h.0
    no_escaped (Node q j b) p i a h = no_escaped b p i a h.1

    -- an escaped sibling that begins at the place does not begin at 0
    pub escaped_above : (f done : Forest (Placed T)) (p : Placed T) (i a : Forest (Placed T)) → f ≡ join done (Node p i a) → NoEscapedAtZero s f → s.start p.item ≡ to → s.escaped p.item ≡ true → 0 < to
    escaped_above f done p i a split none e esc = elim (zero_or to) [
      | inl z ↦ absurd (no_escaped done p i a (subst (NoEscapedAtZero s) split none) (e ∙ z) esc)
      | inr lt ↦ lt
    ]

    -- the sibling that does not end before the place
    pub record CutNode (f : Forest (Placed T)) (last at : ℕ) : Type 0 where
      pub done : Forest (Placed T)
      pub place : Placed T
      pub inside : Forest (Placed T)
      pub after : Forest (Placed T)
      pub split : f ≡ join done (Node place inside after)
      pub last_is : last_place done ≡ last
      pub at_is : place.ix ≡ at
      pub left : truncated s to f ≡ join done (kept s place inside (shortened s to place.item))

    pub cut_node : (f : Forest (Placed T)) (last at : ℕ) → IsCut s to f last at → (at ≡ 0 → ⊥) → CutNode f last at
    cut_node f last at c some = go c.rest c.split c.at_is c.reaches
      where
        go : (rest : Forest (Placed T)) → f ≡ join c.done rest → at ≡ first rest → FirstReaches s to rest → CutNode f last at
        go Nil split e reaches = absurd (some e)
        go (Node p i a) split e reaches = record {
          done = c.done;
          place = p;
          inside = i;
          after = a;
          split = split;
          last_is = sym c.kept_is;
          at_is = sym e;
          left = ap (truncated s to) split ∙ truncated-at c.done p i a c.before reaches;
        }

    pub cut_forest : (nodes : Nodes T) (start last at : ℕ) (f : Forest (Placed T)) (up : List (Level T)) → IsForest (node_at nodes) start (plug up f) → (n : CutNode f last at) → IsForest (node_at nodes) start (plug up (join n.done (Node n.place n.inside n.after)))
    cut_forest nodes start last at f up h n = subst (λ k. IsForest (node_at nodes) start (plug up k)) n.split h

    pub cut_read : (nodes : Nodes T) (start last at : ℕ) (f : Forest (Placed T)) (up : List (Level T)) → IsForest (node_at nodes) start (plug up f) → (n : CutNode f last at) → node_at nodes at ≡ Some (record { item = n.place.item; child = first n.inside; next = first n.after })
    cut_read nodes start last at f up h n =
        subst (λ k. node_at nodes k ≡ Some (record { item = n.place.item; child = first n.inside; next = first n.after })) n.at_is
        (Stands-right (node_at nodes) n.done (Node n.place n.inside n.after) (Stands-inner (node_at nodes) up (join n.done (Node n.place n.inside n.after)) (cut_forest nodes start last at f up h n).stands)).0

    pub cut_escaped : (nodes : Nodes T) (start last at : ℕ) (f : Forest (Placed T)) (up : List (Level T)) → IsForest (node_at nodes) start (plug up f) → (n : CutNode f last at) → NoEscapedAtZero s f → (e : Entry T) → node_at nodes at ≡ Some e → s.start e.item ≡ to → s.escaped e.item ≡ true → 0 < to
    cut_escaped nodes start last at f up h n none e is begins escaped =
        let same : n.place.item ≡ e.item = ap (λ x. x.item) (same_Some (record { item = n.place.item; child = first n.inside; next = first n.after }) e (sym (cut_read nodes start last at f up h n) ∙ is)) in
        escaped_above f n.done n.place n.inside n.after n.split none (ap s.start same ∙ begins) (ap s.escaped same ∙ escaped)

    -- with nothing to cut
    pub truncated-none : (nodes : Nodes T) (start last at : ℕ) (f : Forest (Placed T)) (up : List (Level T)) → IsForest (node_at nodes) start (plug up f) → (c : IsCut s to f last at) → at ≡ 0 → truncated s to f ≡ c.done
    truncated-none nodes start last at f up h c none =
        let st = Stands-right (node_at nodes) c.done c.rest (subst (Stands (node_at nodes)) c.split (Stands-inner (node_at nodes) up f h.stands)) in
        let nil = first_none nodes c.rest st (sym c.at_is ∙ none) in
        ap (truncated s to) (c.split ∙ ap (join c.done) nil ∙ join-nil c.done) ∙ truncated-all c.done c.before

    written : (old new : Nodes T) (start last at : ℕ) (f : Forest (Placed T)) (up : List (Level T)) (left : Bool) → IsForest (node_at old) start (plug up f) → (n : CutNode f last at) → (r : IsShortened s to old new at n.place.item left) → IsForest (node_at new) start (plug up (join n.done (Node (record n.place { item = r.item }) n.inside n.after)))
    written old new start last at f up left h n r =
        item_written old new start n.done n.place n.inside n.after up r.item (cut_forest old start last at f up h n) (subst (λ k. IsChanged old new k (with_other_item r.item)) (sym n.at_is) r.changed)

    -- if a part of the next sibling is left
    pub shortened_left : (old new : Nodes T) (start last at : ℕ) (f : Forest (Placed T)) (up : List (Level T)) (left : Bool) → IsForest (node_at old) start (plug up f) → (n : CutNode f last at) → (r : IsShortened s to old new at n.place.item left) → left ≡ true → IsForest (node_at new) start (plug up (join (join n.done (one (record n.place { item = r.item }) n.inside)) n.after)) × (last_place (join n.done (one (record n.place { item = r.item }) n.inside)) ≡ at) × (truncated s to f ≡ join n.done (one (record n.place { item = r.item }) n.inside))
    shortened_left old new start last at f up left h n r is_left = (
      subst (λ k. IsForest (node_at new) start (plug up k)) (sym (join_assoc n.done (one (record n.place { item = r.item }) n.inside) n.after)) (written old new start last at f up left h n r),
      last_place-snoc n.done (record n.place { item = r.item }) n.inside ∙ n.at_is,
      n.left ∙ ap (λ o. join n.done (kept s n.place n.inside o)) (r.is ∙ ap (λ b. if b then Some r.item else None) is_left),
    )

    -- if nothing of it is left
    pub shortened_away : (old new : Nodes T) (start last at : ℕ) (f : Forest (Placed T)) (up : List (Level T)) (left : Bool) → IsForest (node_at old) start (plug up f) → (n : CutNode f last at) → (r : IsShortened s to old new at n.place.item left) → left ≡ false → IsForest (node_at new) start (plug up (join n.done (Node (record n.place { item = r.item }) n.inside n.after))) × (truncated s to f ≡ n.done)
    shortened_away old new start last at f up left h n r is_gone = (
      written old new start last at f up left h n r,
      n.left ∙ ap (λ o. join n.done (kept s n.place n.inside o)) (r.is ∙ ap (λ b. if b then Some r.item else None) is_gone) ∙ join-nil n.done,
    )

  -- the current siblings are the parent's children
  pub children : (nodes : Nodes T) (start : ℕ) (f : Forest (Placed T)) (up : List (Level T)) (parent : TreeIndex) (head : ℕ) → IsForest (node_at nodes) start (plug up f) → parent_of up ≡ Some parent → ((e : Entry T) → node_at nodes parent.ix ≡ Some e → head ≡ e.child) → IsChildren nodes f head
  children nodes start f [] parent head h e read = absurd (let q : None ≡ Some parent = e in cc)
  children nodes start f (v ∷ up) parent head h e read = record {
    stands = node.1;
    once = λ i. (let o = h.once i in omega (arith, o, times-plug i (v ∷ up) f));
    head_is = read (record { item = v.place.item; child = first f; next = first v.right }) (ap (λ k. node_at nodes k.ix) (sym (same_Some (record { ix = v.place.ix }) parent e)) ∙ node.0);
  }
    where
      node : Stands (node_at nodes) (Node v.place f v.right)
      node = Stands-right (node_at nodes) v.left (Node v.place f v.right) (Stands-inner (node_at nodes) up (join v.left (Node v.place f v.right)) h.stands)
