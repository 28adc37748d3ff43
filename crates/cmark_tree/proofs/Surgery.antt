-- Links set from any node after a path: other siblings after it, or other children.
use Rattle.std.proofs.Common.{◌≡◌, inl, inr, ℕ, zero, suc, ◌+◌, ◌<◌, ◌≤◌, List, refl, sym, ap, ◌∙◌, subst, arith}
use Rattle.cmark_tree.specs.declared.nodes.Nodes.{Nodes}
use Rattle.cmark_tree.specs.Forest.{Forest, Nil, Node, join, one, size}
use Rattle.cmark_tree.specs.Arena.{Placed, first, Stands, hit, pick, times, IsOnce, IsForest, relink_next, relink_child}
use Rattle.cmark_tree.specs.Nodes.{node_at, node_count, IsChanged, with_next, with_child}
use Rattle.cmark_tree.specs.Zip.{Level, Zip, plug, whole, next_relinked, child_relinked}
use Rattle.cmark_tree.proofs.Times.{hit-same, times-join, outside, times-plug}
use Rattle.cmark_tree.proofs.Relinks.{pick-same, same_or_not, relinked_next, relinked_child, relink_next-absent, relink_child-absent}
use Rattle.cmark_tree.proofs.Steps.{rewritten, has_number}

-- the number of times that a place occurs among the numbers 1 to n
hits : ℕ → ℕ → ℕ
hits zero k = 0
hits (suc n) k = hit k (suc n) + hits n k

hits-one : (n k : ℕ) → 0 < k → k ≤ n → 1 ≤ hits n k
unfolding hits
hits-one zero k lt le = absurd (omega (arith, lt, le))
hits-one (suc n) k lt le = elim (same_or_not k (suc n)) [
  | inl e ↦ omega (arith, hit-same k (suc n) e)
  | inr ne ↦ omega (arith, hits-one n k lt (omega (arith, le, ne)))
]

module _ {T : Type 0} where
  -- the number of times that a place occurs, part by part
  pub times-at : (i : ℕ) (left : Forest (Placed T)) (p : Placed T) (inside after : Forest (Placed T)) (up : List (Level T)) → times i (plug up (join left (Node p inside after))) ≡ (times i left + (hit p.ix i + (times i inside + times i after))) + outside i up
  times-at i left p inside after up = omega (arith, times-plug i up (join left (Node p inside after)), times-join i left (Node p inside after))

  -- a node's next link as a step on the siblings
  pub relink_next-here : (ix : ℕ) (g : Forest (Placed T)) (p : Placed T) (inside after : Forest (Placed T)) → p.ix ≡ ix → times ix inside ≡ 0 → relink_next ix g (Node p inside after) ≡ Node p inside g
  relink_next-here ix g p inside after e none =
      ap (λ k. Node p k (pick p.ix ix g (relink_next ix g after))) (relink_next-absent ix g inside none)
      ∙ ap (Node p inside) (pick-same p.ix ix g (relink_next ix g after) e)

  pub relink_child-here : (ix : ℕ) (g : Forest (Placed T)) (p : Placed T) (inside after : Forest (Placed T)) → p.ix ≡ ix → times ix after ≡ 0 → relink_child ix g (Node p inside after) ≡ Node p g after
  relink_child-here ix g p inside after e none =
      ap (λ k. Node p (pick p.ix ix g (relink_child ix g inside)) k) (relink_child-absent ix g after none)
      ∙ ap (λ k. Node p k after) (pick-same p.ix ix g (relink_child ix g inside) e)

  -- other siblings after a node
  pub linked_after : (old new : Nodes T) (start ix to : ℕ) (left : Forest (Placed T)) (p : Placed T) (inside after g : Forest (Placed T)) (up : List (Level T)) → IsForest (node_at old) start (plug up (join left (Node p inside after))) → p.ix ≡ ix → Stands (node_at old) g → first g ≡ to → IsOnce (plug up (join left (Node p inside g))) → IsChanged old new ix (with_next to) → IsForest (node_at new) start (plug up (join left (Node p inside g)))
  linked_after old new start ix to left p inside after g up h e s leads once c =
      subst (IsForest (node_at new) start) same (relinked_next (node_at old) (node_at new) start ix to g z h (omega (arith, hit1)) s leads (subst IsOnce (sym same) once) (rewritten old new ix (with_next to) c))
    where
      z : Zip T
      z = record { left = left; right = Node p inside after; up = up }

      hit1 : hit p.ix ix ≡ 1
      hit1 = hit-same p.ix ix e

      same : whole (next_relinked ix g z) ≡ plug up (join left (Node p inside g))
      same = ap (λ k. plug up (join left k)) (relink_next-here ix g p inside after e (let o = h.once ix in omega (arith, o, times-at ix left p inside after up, hit1)))

  -- other children of a node
  pub linked_inside : (old new : Nodes T) (start ix to : ℕ) (left : Forest (Placed T)) (p : Placed T) (inside after g : Forest (Placed T)) (up : List (Level T)) → IsForest (node_at old) start (plug up (join left (Node p inside after))) → p.ix ≡ ix → Stands (node_at old) g → first g ≡ to → IsOnce (plug up (join left (Node p g after))) → IsChanged old new ix (with_child to) → IsForest (node_at new) start (plug up (join left (Node p g after)))
  linked_inside old new start ix to left p inside after g up h e s leads once c =
      subst (IsForest (node_at new) start) same (relinked_child (node_at old) (node_at new) start ix to g z h (omega (arith, hit1)) s leads (subst IsOnce (sym same) once) (rewritten old new ix (with_child to) c))
    where
      z : Zip T
      z = record { left = left; right = Node p inside after; up = up }

      hit1 : hit p.ix ix ≡ 1
      hit1 = hit-same p.ix ix e

      same : whole (child_relinked ix g z) ≡ plug up (join left (Node p g after))
      same = ap (λ k. plug up (join left k)) (relink_child-here ix g p inside after e (let o = h.once ix in omega (arith, o, times-at ix left p inside after up, hit1)))

  -- the siblings after a node dropped
  pub dropped_after : (old new : Nodes T) (start ix : ℕ) (left : Forest (Placed T)) (p : Placed T) (inside after : Forest (Placed T)) (up : List (Level T)) → IsForest (node_at old) start (plug up (join left (Node p inside after))) → p.ix ≡ ix → IsChanged old new ix (with_next 0) → IsForest (node_at new) start (plug up (join left (Node p inside Nil)))
  dropped_after old new start ix left p inside after up h e c =
      linked_after old new start ix 0 left p inside after Nil up h e tt refl (λ i. (let o = h.once i in omega (arith, o, times-at i left p inside after up, times-at i left p inside Nil up))) c

  -- the children of a node dropped
  pub dropped_inside : (old new : Nodes T) (start ix : ℕ) (left : Forest (Placed T)) (p : Placed T) (inside after : Forest (Placed T)) (up : List (Level T)) → IsForest (node_at old) start (plug up (join left (Node p inside after))) → p.ix ≡ ix → IsChanged old new ix (with_child 0) → IsForest (node_at new) start (plug up (join left (Node p Nil after)))
  dropped_inside old new start ix left p inside after up h e c =
      linked_inside old new start ix 0 left p inside after Nil up h e tt refl (λ i. (let o = h.once i in omega (arith, o, times-at i left p inside after up, times-at i left p Nil after up))) c

  total : ℕ → Forest (Placed T) → ℕ
  total zero f = 0
  total (suc n) f = times (suc n) f + total n f

  total-once : (n : ℕ) (f : Forest (Placed T)) → IsOnce f → total n f ≤ n
  unfolding total
  total-once zero f once = omega arith
  total-once (suc n) f once = let o = once (suc n) in omega (arith, o, total-once n f once)

  total-node : (n : ℕ) (p : Placed T) (inside after : Forest (Placed T)) → total n (Node p inside after) ≡ hits n p.ix + (total n inside + total n after)
  unfolding total hits
  total-node zero p inside after = refl
  total-node (suc n) p inside after = omega (arith, total-node n p inside after)

  size-total : (nodes : Nodes T) (f : Forest (Placed T)) → Stands (node_at nodes) f → size f ≤ total (node_count nodes) f
  size-total nodes Nil h = omega arith
  size-total nodes (Node p inside after) h =
      let n = has_number nodes (Node p inside after) p.ix h (omega (arith, hit-same p.ix p.ix refl)) in
      omega (arith, size-total nodes inside h.1, size-total nodes after h.2, total-node (node_count nodes) p inside after, hits-one (node_count nodes) p.ix n.0 n.1)

  -- a forest has no more nodes than were made
  pub size-count : (nodes : Nodes T) (f : Forest (Placed T)) → Stands (node_at nodes) f → IsOnce f → size f ≤ node_count nodes
  size-count nodes f h once = omega (arith, size-total nodes f h, total-once (node_count nodes) f once)

-- A run of siblings is put into the node before it. The last of the run gets no next sibling; the node's next sibling is the one after the
-- run, and its children are the run. The siblings between the run and that next sibling are removed, and so are the node's former children.
module _ {T : Type 0} (a b c d : Nodes T) (start : ℕ) (left : Forest (Placed T)) (o : Placed T) (oi m : Forest (Placed T)) (y : Placed T) (yi skipped right : Forest (Placed T)) (up : List (Level T))
    (h : IsForest (node_at a) start (plug up (join left (Node o oi (join m (Node y yi (join skipped right)))))))
    (cut : IsChanged a b y.ix (with_next 0)) (past : IsChanged b c o.ix (with_next (first right))) (into : IsChanged c d o.ix (with_child (first (join m (one y yi))))) where
  run : Forest (Placed T)
  run = join m (one y yi)

  -- the number of times that a place occurs before the writes
  count : (i : ℕ) → ((times i left + (hit o.ix i + (times i oi + (times i m + (hit y.ix i + (times i yi + (times i skipped + times i right))))))) + outside i up) ≤ 1
  count i =
      let n = h.once i in
      omega (arith, n, times-at i left o oi (join m (Node y yi (join skipped right))) up, times-join i m (Node y yi (join skipped right)), times-join i skipped right)
