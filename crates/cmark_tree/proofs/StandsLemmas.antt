-- The nodes at the places of a forest: frame, parts, and a part that replaces another.
use Rattle.std.proofs.Common.{◌≡◌, ℕ, ◌<◌, List, [], ◌∷◌, Option, Some, None, refl, sym, ap, ◌∙◌, arith, ◌⊎◌, inl, inr}
use Rattle.cmark_tree.specs.Forest.{Forest, Nil, Node, join}
use Rattle.cmark_tree.specs.Arena.{Entry, Placed, first, Stands, times, In}
use Rattle.cmark_tree.specs.Zip.{Level, plug}
use Rattle.cmark_tree.proofs.Times.{hit-same, hit-in, outside, first-join}

module _ {T : Type 0} where
  -- the node at that place of the forest
  abbrev pub entry_of_node : Placed T → Forest (Placed T) → Forest (Placed T) → Entry T
  entry_of_node p inside after = record { item = p.item; child = first inside; next = first after }

  -- two readings agree on the places of the forest
  abbrev pub SameOn : (ℕ → Option (Entry T)) → (ℕ → Option (Entry T)) → Forest (Placed T) → Type 0
  SameOn at at' f = (i : ℕ) → In i f → at' i ≡ at i

  pub Stands-same : (at at' : ℕ → Option (Entry T)) (f : Forest (Placed T)) → SameOn at at' f → Stands at f → Stands at' f
  Stands-same at at' Nil same h = tt
  Stands-same at at' (Node p inside after) same h = (
    same p.ix (omega (arith, hit-same p.ix p.ix refl)) ∙ h.0,
    Stands-same at at' inside (λ i lt. same i (omega (arith, lt))) h.1,
    Stands-same at at' after (λ i lt. same i (omega (arith, lt))) h.2,
  )

  -- a place of a forest is its first one, or inside it or after it
  pub node_cases : (p : Placed T) (inside after : Forest (Placed T)) (i : ℕ) → In i (Node p inside after) → (p.ix ≡ i) ⊎ (In i inside ⊎ In i after)
  node_cases p inside after i lt = grind (arith, hit-in)

  -- a place of the forest is a node's
  pub Stands-in : (at : ℕ → Option (Entry T)) (f : Forest (Placed T)) (i : ℕ) → Stands at f → In i f → (e : Entry T) × (at i ≡ Some e)
  Stands-in at Nil i h lt = absurd (omega (arith, lt))
  Stands-in at (Node p inside after) i h lt =
      elim (node_cases p inside after i lt) [
        | inl e ↦ (entry_of_node p inside after, ap at (sym e) ∙ h.0)
        | inr (inl l) ↦ Stands-in at inside i h.1 l
        | inr (inr l) ↦ Stands-in at after i h.2 l
      ]

  -- no node, no place
  pub Stands-absent : (at : ℕ → Option (Entry T)) (f : Forest (Placed T)) (i : ℕ) → Stands at f → at i ≡ None → times i f ≡ 0
  Stands-absent at f i h none = grind (arith, Stands-in)

  pub Stands-right : (at : ℕ → Option (Entry T)) (l f : Forest (Placed T)) → Stands at (join l f) → Stands at f
  Stands-right at Nil f h = h
  Stands-right at (Node p inside after) f h = Stands-right at after f h.2

  pub Stands-inner : (at : ℕ → Option (Entry T)) (up : List (Level T)) (f : Forest (Placed T)) → Stands at (plug up f) → Stands at f
  Stands-inner at [] f h = h
  Stands-inner at (v ∷ up) f h =
      (Stands-right at v.left (Node v.place f v.right) (Stands-inner at up (join v.left (Node v.place f v.right)) h)).1

  -- other siblings after the same ones
  pub Stands-rejoin : (at at' : ℕ → Option (Entry T)) (l f g : Forest (Placed T)) → Stands at (join l f) → SameOn at at' l → first g ≡ first f → Stands at' g → Stands at' (join l g)
  Stands-rejoin at at' Nil f g h same e s = s
  Stands-rejoin at at' (Node p inside after) f g h same e s = (
    same p.ix (omega (arith, hit-same p.ix p.ix refl)) ∙ h.0 ∙ ap (λ n. Some (record { item = p.item; child = first inside; next = n })) (sym (first-join after g f e)),
    Stands-same at at' inside (λ i lt. same i (omega (arith, lt))) h.1,
    Stands-rejoin at at' after f g h.2 (λ i lt. same i (omega (arith, lt))) e s,
  )

  -- other siblings below the same path
  pub Stands-replug : (at at' : ℕ → Option (Entry T)) (up : List (Level T)) (f g : Forest (Placed T)) → Stands at (plug up f) → ((i : ℕ) → 0 < outside i up → at' i ≡ at i) → first g ≡ first f → Stands at' g → Stands at' (plug up g)
  Stands-replug at at' [] f g h same e s = s
  Stands-replug at at' (v ∷ up) f g h same e s =
      let F = join v.left (Node v.place f v.right) in
      let G = join v.left (Node v.place g v.right) in
      let inner = Stands-inner at up F h in
      let node = Stands-right at v.left (Node v.place f v.right) inner in
      Stands-replug at at' up F G h (λ i lt. same i (omega (arith, lt))) (first-join v.left (Node v.place g v.right) (Node v.place f v.right) refl)
      (Stands-rejoin at at' v.left (Node v.place f v.right) (Node v.place g v.right) inner (λ i lt. same i (omega (arith, lt))) refl (
        same v.place.ix (omega (arith, hit-same v.place.ix v.place.ix refl)) ∙ node.0 ∙ ap (λ n. Some (record { item = v.place.item; child = n; next = first v.right })) (sym e),
        s,
        Stands-same at at' v.right (λ i lt. same i (omega (arith, lt))) node.2,
      ))
