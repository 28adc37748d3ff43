-- One call of a tree is one step of its forest with its path.
use Rattle.std.proofs.Common.{◌≡◌, ℕ, zero, suc, ◌+◌, ◌<◌, ◌≤◌, List, [], ◌∷◌, ◌++◌, length, Option, Some, None, refl, sym, ap, ◌∙◌, subst, arith, length-append}
use Rattle.cmark_tree.specs.declared.nodes.Nodes.{Nodes}
use Rattle.cmark_tree.specs.declared.tree_index.TreeIndex.{TreeIndex}
use Rattle.cmark_tree.specs.Forest.{Forest, Nil, Node, join, one}
use Rattle.cmark_tree.specs.Arena.{Entry, Placed, first, Stands, hit, pick, times, In, IsOnce, IsForest}
use Rattle.cmark_tree.specs.Nodes.{node_at, node_count, HasNumber, IsGrown, IsChanged, with_next, with_child}
use Rattle.cmark_tree.specs.Zip.{Level, Zip, plug, whole, siblings, IsLast, IsFocus, push_to, Sibling, past, next_relinked, child_relinked}
use Rattle.cmark_tree.specs.Tree.{spine_of, parent_of, focus_of, index_at}
use Rattle.cmark_tree.proofs.Times.{hit-le, hit-same, hit-other, times-join, outside, times-plug, join_assoc}
use Rattle.cmark_tree.proofs.StandsLemmas.{Stands-same, Stands-in, Stands-absent, Stands-right, Stands-inner}
use Rattle.cmark_tree.proofs.Relinks.{pick-same, same_or_not, IsRewritten, relinked_next, relinked_child, relink_next-absent, relink_child-absent}
use Rattle.std.proofs.lemmas.Option.{same_Some}
use Rattle.cmark_tree.proofs.Entries.{node_at-past, node_at-within}

pub index_at-some : (i : ℕ) → 0 < i → index_at i ≡ Some (record { ix = i })
index_at-some zero lt = absurd (omega (arith, lt))
index_at-some (suc i) lt = refl

module _ {T : Type 0} where
  pub rewritten : (old new : Nodes T) (ix : ℕ) (change : Entry T → Entry T) → IsChanged old new ix change → IsRewritten (node_at old) (node_at new) ix change
  rewritten old new ix change c = record { written = c.written; others = c.others }

  -- a place of the forest is a node's number
  pub has_number : (nodes : Nodes T) (f : Forest (Placed T)) (i : ℕ) → Stands (node_at nodes) f → In i f → HasNumber nodes i
  has_number nodes f i h lt = let r = Stands-in (node_at nodes) f i h lt in node_at-within nodes i r.0 r.1

  pub in_siblings : (nodes : Nodes T) (start : ℕ) (z : Zip T) → IsForest (node_at nodes) start (whole z) → Stands (node_at nodes) (siblings z)
  in_siblings nodes start z h = Stands-inner (node_at nodes) z.up (siblings z) h.stands

  pub in_right : (nodes : Nodes T) (start : ℕ) (z : Zip T) → IsForest (node_at nodes) start (whole z) → Stands (node_at nodes) z.right
  in_right nodes start z h = Stands-right (node_at nodes) z.left z.right (in_siblings nodes start z h)

  -- a place of a forest is not 0
  pub place_above : (nodes : Nodes T) (p : Placed T) (inside after : Forest (Placed T)) → Stands (node_at nodes) (Node p inside after) → 0 < p.ix
  place_above nodes p inside after h = (node_at-within nodes p.ix (record { item = p.item; child = first inside; next = first after }) h.0).0

  -- the number of a new node
  pub grown_absent : (old new : Nodes T) (n : ℕ) (x : T) (f : Forest (Placed T)) → IsGrown old new n x → Stands (node_at old) f → times n f ≡ 0
  grown_absent old new n x f g h = Stands-absent (node_at old) f n h (node_at-past old n (omega (arith, g.place)))

  -- a new node that no link leads to
  pub grown_stands : (old new : Nodes T) (n : ℕ) (x : T) (f : Forest (Placed T)) → IsGrown old new n x → Stands (node_at old) f → Stands (node_at new) f
  grown_stands old new n x f g h =
      Stands-same (node_at old) (node_at new) f (λ i lt. g.others i (λ e. (let z = grown_absent old new n x f g h in let lt' : In n f = subst (λ k. In k f) e lt in omega (arith, z, lt')))) h

  pub grown_forest : (old new : Nodes T) (n : ℕ) (x : T) (start : ℕ) (f : Forest (Placed T)) → IsGrown old new n x → IsForest (node_at old) start f → IsForest (node_at new) start f
  grown_forest old new n x start f g h = record { stands = grown_stands old new n x f g h.stands; once = h.once; start_is = h.start_is }

  abbrev pub new_one : ℕ → T → Forest (Placed T)
  new_one n x = one (record { ix = n; item = x }) Nil

  new_stands : (old mid : Nodes T) (n : ℕ) (x : T) → IsGrown old mid n x → Stands (node_at mid) (new_one n x)
  new_stands old mid n x g = (g.written, tt, tt)

  -- another place, which was not there before
  pub one_more : (f f' : Forest (Placed T)) (n : ℕ) → IsOnce f → times n f ≡ 0 → ((i : ℕ) → times i f' ≡ hit n i + times i f) → IsOnce f'
  one_more f f' n once none more i = grind (arith, same_or_not, hit-le, hit-other)

  pub append_after : (old mid new : Nodes T) (start cur n : ℕ) (x : T) (left right : Forest (Placed T)) (up : List (Level T)) → IsGrown old mid n x → IsChanged mid new cur (with_next n) → IsForest (node_at old) start (plug up (join left right)) → IsLast left right → cur ≡ first right → 0 < cur → IsForest (node_at new) start (plug up (join (join left right) (new_one n x)))
  append_after old mid new start cur n x left Nil up g c h last at lt = absurd (omega (arith, at, lt))
  append_after old mid new start cur n x left (Node p inside (Node q i a)) up g c h last at lt = absurd (let e : Node q i a ≡ Nil = last in cc)
  append_after old mid new start cur n x left (Node p inside Nil) up g c h last at lt =
      subst (IsForest (node_at new) start) same (relinked_next (node_at mid) (node_at new) start cur n G z (grown_forest old mid n x start (whole z) g h) below (new_stands old mid n x g) refl (subst IsOnce (sym same) once) (rewritten mid new cur (with_next n) c))
    where
      G : Forest (Placed T)
      G = new_one n x

      z : Zip T
      z = record { left = left; right = Node p inside Nil; up = up }

      count : (i : ℕ) → times i (whole z) ≡ (times i left + (hit p.ix i + (times i inside + 0))) + outside i up
      count i = omega (arith, times-plug i up (join left (Node p inside Nil)), times-join i left (Node p inside Nil))

      below : In cur (Node p inside Nil)
      below = omega (arith, hit-same p.ix cur (sym at))

      absent : times cur inside ≡ 0
      absent = let o = h.once cur in omega (arith, o, count cur, hit-same p.ix cur (sym at))

      same : whole (next_relinked cur G z) ≡ plug up (join (join left (Node p inside Nil)) G)
      same = ap (plug up) (ap (join left) (ap (λ k. Node p k (pick p.ix cur G Nil)) (relink_next-absent cur G inside absent) ∙ ap (Node p inside) (pick-same p.ix cur G Nil (sym at))) ∙ sym (join_assoc left (Node p inside Nil) G))

      once : IsOnce (plug up (join (join left (Node p inside Nil)) G))
      once = one_more (whole z) (plug up (join (join left (Node p inside Nil)) G)) n h.once (grown_absent old mid n x (whole z) g h.stands) (λ i.
          omega (arith, count i, times-plug i up (join (join left (Node p inside Nil)) G), times-join i (join left (Node p inside Nil)) G, times-join i left (Node p inside Nil)))

  pub append_inside : (old mid new : Nodes T) (start ix n : ℕ) (x : T) (v : Level T) (up : List (Level T)) → IsGrown old mid n x → IsChanged mid new ix (with_child n) → IsForest (node_at old) start (plug (v ∷ up) Nil) → ix ≡ v.place.ix → IsForest (node_at new) start (plug (v ∷ up) (new_one n x))
  append_inside old mid new start ix n x v up g c h at =
      subst (IsForest (node_at new) start) same (relinked_child (node_at mid) (node_at new) start ix n G z (grown_forest old mid n x start (whole z) g h) below (new_stands old mid n x g) refl (subst IsOnce (sym same) once) (rewritten mid new ix (with_child n) c))
    where
      G : Forest (Placed T)
      G = new_one n x

      z : Zip T
      z = record { left = v.left; right = Node v.place Nil v.right; up = up }

      count : (f : Forest (Placed T)) (i : ℕ) → times i (plug up (join v.left (Node v.place f v.right))) ≡ (times i v.left + (hit v.place.ix i + (times i f + times i v.right))) + outside i up
      count f i = omega (arith, times-plug i up (join v.left (Node v.place f v.right)), times-join i v.left (Node v.place f v.right))

      below : In ix (Node v.place Nil v.right)
      below = omega (arith, hit-same v.place.ix ix (sym at))

      absent : times ix v.right ≡ 0
      absent = let o = h.once ix in omega (arith, o, count Nil ix, hit-same v.place.ix ix (sym at))

      same : whole (child_relinked ix G z) ≡ plug (v ∷ up) G
      same = ap (plug up) (ap (join v.left) (ap (λ k. Node v.place (pick v.place.ix ix G Nil) k) (relink_child-absent ix G v.right absent) ∙ ap (λ k. Node v.place k v.right) (pick-same v.place.ix ix G Nil (sym at))))

      once : IsOnce (plug (v ∷ up) G)
      once = one_more (plug (v ∷ up) Nil) (plug (v ∷ up) G) n h.once (grown_absent old mid n x (plug (v ∷ up) Nil) g h.stands) (λ i.
          omega (arith, count Nil i, count G i))

  pub append_first : (old new : Nodes T) (n : ℕ) (x : T) → IsGrown old new n x → IsForest (node_at new) n (new_one n x)
  append_first old new n x g = record { stands = new_stands old new n x g; once = λ i. omega (arith, hit-le n i); start_is = refl }

  -- a forest whose first link is 0 is empty
  pub first_none : (nodes : Nodes T) (f : Forest (Placed T)) → Stands (node_at nodes) f → first f ≡ 0 → f ≡ Nil
  first_none nodes Nil h e = refl
  first_none nodes (Node p inside after) h e = absurd (omega (arith, e, place_above nodes p inside after h))

  -- the number that the first link has
  pub focus_read : (nodes : Nodes T) (f : Forest (Placed T)) → Stands (node_at nodes) f → index_at (first f) ≡ focus_of f
  focus_read nodes Nil h = refl
  focus_read nodes (Node p inside after) h = index_at-some p.ix (place_above nodes p inside after h)

  -- a sibling's next
  pub sibling_next : (nodes : Nodes T) (left : Forest (Placed T)) (p : Placed T) (inside after : Forest (Placed T)) → Stands (node_at nodes) (join left (Node p inside after)) → node_at nodes p.ix ≡ Some (record { item = p.item; child = first inside; next = first after })
  sibling_next nodes left p inside after h = (Stands-right (node_at nodes) left (Node p inside after) h).0

  pub length-spine_of : (up : List (Level T)) → length (spine_of up) ≡ length up
  length-spine_of [] = refl
  length-spine_of (v ∷ up) = let l = length-append (spine_of up) (record { ix = v.place.ix } ∷ []) in omega (arith, l, length-spine_of up)

  -- a current sibling is a node
  pub sibling_in : (nodes : Nodes T) (start : ℕ) (z : Zip T) (ix : ℕ) → Sibling z ix → IsForest (node_at nodes) start (whole z) → HasNumber nodes ix
  sibling_in nodes start z ix s h =
      let st : Stands (node_at nodes) (join s.left (Node s.place s.inside s.after)) = subst (Stands (node_at nodes)) s.split (in_siblings nodes start z h) in
      subst (HasNumber nodes) s.at (node_at-within nodes s.place.ix _ (sibling_next nodes s.left s.place s.inside s.after st))

  -- past a sibling the siblings are the same
  pub join_past : (z : Zip T) (ix : ℕ) (s : Sibling z ix) → siblings z ≡ siblings (past z ix s)
  join_past z ix s = s.split ∙ sym (join_assoc s.left (one s.place s.inside) s.after)

  pub sibling_read : (nodes : Nodes T) (start : ℕ) (z : Zip T) (ix : ℕ) (s : Sibling z ix) → IsForest (node_at nodes) start (whole z) → node_at nodes ix ≡ Some (record { item = s.place.item; child = first s.inside; next = first s.after })
  sibling_read nodes start z ix s h =
      let st : Stands (node_at nodes) (join s.left (Node s.place s.inside s.after)) = subst (Stands (node_at nodes)) s.split (in_siblings nodes start z h) in
      subst (λ i. node_at nodes i ≡ Some (record { item = s.place.item; child = first s.inside; next = first s.after })) s.at (sibling_next nodes s.left s.place s.inside s.after st)

  pub after_stands : (nodes : Nodes T) (start : ℕ) (z : Zip T) (ix : ℕ) (s : Sibling z ix) → IsForest (node_at nodes) start (whole z) → Stands (node_at nodes) s.after
  after_stands nodes start z ix s h =
      (Stands-right (node_at nodes) s.left (Node s.place s.inside s.after) (subst (Stands (node_at nodes)) s.split (in_siblings nodes start z h))).2

  -- the focus is a node
  pub first_number : (nodes : Nodes T) (f : Forest (Placed T)) → Stands (node_at nodes) f → 0 < first f → HasNumber nodes (first f)
  first_number nodes Nil h lt = absurd (omega (arith, lt))
  first_number nodes (Node p inside after) h lt = node_at-within nodes p.ix (record { item = p.item; child = first inside; next = first after }) h.0

  pub first_within : (nodes : Nodes T) (f : Forest (Placed T)) → Stands (node_at nodes) f → first f ≤ node_count nodes
  first_within nodes Nil h = omega arith
  first_within nodes (Node p inside after) h = (node_at-within nodes p.ix (record { item = p.item; child = first inside; next = first after }) h.0).1

  pub focus_above : (nodes : Nodes T) (f : Forest (Placed T)) → Stands (node_at nodes) f → IsFocus f → 0 < first f
  focus_above nodes Nil h focus = absurd focus
  focus_above nodes (Node p inside after) h focus = place_above nodes p inside after h

  -- the parent is a node
  pub parent_number : (nodes : Nodes T) (up : List (Level T)) (f : Forest (Placed T)) (i : TreeIndex) → Stands (node_at nodes) (plug up f) → parent_of up ≡ Some i → HasNumber nodes i.ix
  parent_number nodes [] f i h e = absurd (let q : None ≡ Some i = e in cc)
  parent_number nodes (v ∷ up) f i h e =
      let st = Stands-right (node_at nodes) v.left (Node v.place f v.right) (Stands-inner (node_at nodes) up (join v.left (Node v.place f v.right)) h) in
      subst (λ k. HasNumber nodes k.ix) (same_Some (record { ix = v.place.ix }) i e) (node_at-within nodes v.place.ix (record { item = v.place.item; child = first f; next = first v.right }) st.0)

  pub no_parent : (up : List (Level T)) (o : Option TreeIndex) → o ≡ parent_of up → ((i : TreeIndex) → o ≡ Some i → ⊥) → up ≡ []
  no_parent [] o e none = refl
  no_parent (v ∷ up) o e none = absurd (none (record { ix = v.place.ix }) e)

  -- down into the focus
  pub push_down : (nodes : Nodes T) (start cur child : ℕ) (left right : Forest (Placed T)) (up : List (Level T)) → IsForest (node_at nodes) start (plug up (join left right)) → IsFocus right → cur ≡ first right → ((e : Entry T) → node_at nodes cur ≡ Some e → child ≡ e.child) → IsForest (node_at nodes) start (whole (push_to left right up)) × (spine_of up ++ record { ix = cur } ∷ [] ≡ spine_of (push_to left right up).up) × (child ≡ first (push_to left right up).right)
  push_down nodes start cur child left Nil up h focus at read = absurd focus
  push_down nodes start cur child left (Node p inside after) up h focus at read = (
    h,
    ap (λ k. spine_of up ++ record { ix = k } ∷ []) at,
    read (record { item = p.item; child = first inside; next = first after }) (ap (node_at nodes) at ∙ (Stands-right (node_at nodes) left (Node p inside after) (Stands-inner (node_at nodes) up (join left (Node p inside after)) h.stands)).0),
  )

  -- with no focus, below the parent
  pub append_below : (old mid new : Nodes T) (start n : ℕ) (x : T) (i : TreeIndex) (left right : Forest (Placed T)) (up : List (Level T)) → IsGrown old mid n x → IsChanged mid new i.ix (with_child n) → IsForest (node_at old) start (plug up (join left right)) → IsLast left right → 0 ≡ first right → parent_of up ≡ Some i → IsForest (node_at new) start (plug up (join (join left right) (new_one n x)))
  append_below old mid new start n x i left right [] g c h last at e = absurd (let q : None ≡ Some i = e in cc)
  append_below old mid new start n x i left (Node p inside after) (v ∷ up) g c h last at e =
      absurd (omega (arith, at, place_above old p inside after (Stands-right (node_at old) left (Node p inside after) (Stands-inner (node_at old) (v ∷ up) (join left (Node p inside after)) h.stands))))
  append_below old mid new start n x i (Node p inside after) Nil (v ∷ up) g c h last at e = absurd (let q : Node p inside after ≡ Nil = last in cc)
  append_below old mid new start n x i Nil Nil (v ∷ up) g c h last at e =
      append_inside old mid new start i.ix n x v up g c h (ap (λ k. k.ix) (sym (same_Some (record { ix = v.place.ix }) i e)))

  -- with no focus and no parent
  pub append_alone : (old new : Nodes T) (start n : ℕ) (x : T) (left right : Forest (Placed T)) (up : List (Level T)) → IsGrown old new n x → IsForest (node_at old) start (plug up (join left right)) → IsLast left right → 0 ≡ first right → up ≡ [] → IsForest (node_at new) n (plug up (join (join left right) (new_one n x)))
  append_alone old new start n x left right (v ∷ up) g h last at e = absurd (let q : v ∷ up ≡ [] = e in cc)
  append_alone old new start n x left (Node p inside after) [] g h last at e =
      absurd (omega (arith, at, place_above old p inside after (Stands-right (node_at old) left (Node p inside after) h.stands)))
  append_alone old new start n x (Node p inside after) Nil [] g h last at e = absurd (let q : Node p inside after ≡ Nil = last in cc)
  append_alone old new start n x Nil Nil [] g h last at e = append_first old new n x g
