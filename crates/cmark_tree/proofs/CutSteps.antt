-- Siblings that are cut off.
use Rattle.std.proofs.Common.{◌≡◌, ℕ, ◌<◌, List, [], ◌∷◌, Option, Some, None, refl, sym, ap, ◌∙◌, subst, arith}
use Rattle.std.specs.Prelude.{if◌then◌else◌}
use Rattle.std.proofs.lemmas.Bool.{lt-ltb}
use Rattle.cmark_tree.specs.declared.nodes.Nodes.{Nodes}
use Rattle.cmark_tree.specs.declared.tree.Tree.{Tree}
use Rattle.cmark_tree.specs.declared.tree_index.TreeIndex.{TreeIndex}
use Rattle.cmark_tree.specs.Forest.{Forest, Nil, Node, join}
use Rattle.cmark_tree.specs.Arena.{Entry, Placed, first, items_of, Stands}
use Rattle.cmark_tree.specs.Building.{Opened, opened, Is}
use Rattle.cmark_tree.specs.Cut.{ending_before, reaching_start}
use Rattle.cmark_tree.specs.Nodes.{node_at, HasNumber}
use Rattle.cmark_tree.specs.Tree.{Holds, parent_of}
use Rattle.cmark_tree.specs.Truncating.{Spans, AllEndBefore, FirstReaches, but_last, last_tree, at_last}
use Rattle.cmark_tree.specs.Zip.{Level, siblings, plug, IsLast}
use Rattle.cmark_tree.proofs.Cutting.{join_last}
use Rattle.cmark_tree.proofs.Entries.{node_at-within}
use Rattle.cmark_tree.proofs.StandsLemmas.{Stands-right, Stands-inner}
use Rattle.cmark_tree.proofs.Truncating.{lt_false}

module _ {T : Type 0} (s : Spans T) (to : ℕ) where
  left-alone : (rest : Forest (Placed T)) → FirstReaches s to rest → ending_before s to (items_of rest) ≡ Nil
  left-alone Nil r = refl
  left-alone (Node p inside after) r = ap (λ z. if z then Node p.item (items_of inside) (ending_before s to (items_of after)) else Nil) (lt_false (s.end p.item) to r)

  pub left-items : (done rest : Forest (Placed T)) → AllEndBefore s to done → FirstReaches s to rest → ending_before s to (items_of (join done rest)) ≡ items_of done
  left-items Nil rest before r = left-alone rest r
  left-items (Node p inside after) rest before r = cc (lt-ltb (s.end p.item) to before.0, left-items after rest before.1 r)

  -- the start of the first of these
  abbrev pub start_of : Forest (Placed T) → Option ℕ
  start_of Nil = None
  start_of (Node p inside after) = Some (s.start p.item)

  start-alone : (rest : Forest (Placed T)) → FirstReaches s to rest → reaching_start s to (items_of rest) ≡ start_of rest
  start-alone Nil r = refl
  start-alone (Node p inside after) r = ap (λ z. if z then reaching_start s to (items_of after) else Some (s.start p.item)) (lt_false (s.end p.item) to r)

  pub start-items : (done rest : Forest (Placed T)) → AllEndBefore s to done → FirstReaches s to rest → reaching_start s to (items_of (join done rest)) ≡ start_of rest
  start-items Nil rest before r = start-alone rest r
  start-items (Node p inside after) rest before r = cc (lt-ltb (s.end p.item) to before.0, start-items after rest before.1 r)

  last-one : (p : Placed T) (i a : Forest (Placed T)) → (q : Placed T) × (j : Forest (Placed T)) × (last_tree (Node p i a) ≡ Node q j Nil)
  last-one p i Nil = (p, i, refl)
  last-one p i (Node q j b) = last-one q j b

  at_last-last : (f : Forest (Placed T)) → IsLast (but_last f) (last_tree f)
  at_last-last Nil = refl
  at_last-last (Node p i a) = let v = last-one p i a in subst (IsLast (but_last (Node p i a))) (sym v.2) refl

  -- the siblings were cut off
  pub cut-is : (old new : Tree T) (here : Forest T) (v : Opened T) (up : List (Opened T)) (is : Is old here (v ∷ up)) (done rest : Forest (Placed T)) → siblings is.z ≡ join done rest → AllEndBefore s to done → FirstReaches s to rest
      → Holds new (at_last done is.z.up) → Is new (ending_before s to here) (v ∷ up)
  cut-is old new here v up is done rest split before reaches holds = grind (arith, at_last-last, join_last, left-items)

  -- the start of the first sibling that was cut off
  pub cut-start : (nodes : Nodes T) (here : Forest T) (f done rest : Forest (Placed T)) → items_of f ≡ here → f ≡ join done rest → AllEndBefore s to done → FirstReaches s to rest → reaching_start s to here ≡ start_of rest
  cut-start nodes here f done rest is split before reaches = ap (reaching_start s to) (sym is ∙ ap items_of split) ∙ start-items done rest before reaches

  -- the first sibling that was cut off is unchanged
  pub rest-stands : (nodes : Nodes T) (up : List (Level T)) (f done rest : Forest (Placed T)) → Stands (node_at nodes) (plug up f) → f ≡ join done rest → Stands (node_at nodes) rest
  rest-stands nodes up f done rest st split = Stands-right (node_at nodes) done rest (subst (Stands (node_at nodes)) split (Stands-inner (node_at nodes) up f st))

  pub rest-number : (nodes : Nodes T) (rest : Forest (Placed T)) (at : ℕ) → Stands (node_at nodes) rest → at ≡ first rest → (at ≡ 0 → ⊥) → HasNumber nodes at
  rest-number nodes Nil at st e some = absurd (some e)
  rest-number nodes (Node p i a) at st e some = node_at-within nodes at (record { item = p.item; child = first i; next = first a }) (ap (node_at nodes) e ∙ st.0)

  pub rest-start : (nodes : Nodes T) (rest : Forest (Placed T)) (at : ℕ) (answer : Option ℕ) → Stands (node_at nodes) rest → at ≡ first rest → (at ≡ 0 → answer ≡ None)
      → ((at ≡ 0 → ⊥) → (e : Entry T) → node_at nodes at ≡ Some e → answer ≡ Some (s.start e.item)) → answer ≡ start_of rest
  rest-start nodes Nil at answer st e none some = none e
  rest-start nodes (Node p i a) at answer st e none some =
      let read = ap (node_at nodes) e ∙ st.0 in
      let n = node_at-within nodes at (record { item = p.item; child = first i; next = first a }) read in
      some (λ z. absurd (let l : 0 < at = n.0 in omega (arith, z, l))) (record { item = p.item; child = first i; next = first a }) read

-- if a path has a parent, a node is open
opened-some : {T : Type 0} (levels : List (Level T)) (i : TreeIndex) → parent_of levels ≡ Some i → (v : Opened T) × (up : List (Opened T)) × (opened levels ≡ v ∷ up)
opened-some [] i e = absurd (let q : None ≡ Some i = e in cc)
opened-some (l ∷ levels) i e = (_, _, refl)

pub parent-open : {T : Type 0} (t : Tree T) (here : Forest T) (open_ones : List (Opened T)) (i : TreeIndex) (is : Is t here open_ones) → parent_of is.z.up ≡ Some i → (v : Opened T) × (up : List (Opened T)) × Is t here (v ∷ up)
parent-open t here open_ones i is e = let o = opened-some is.z.up i e in (o.0, o.1, subst (Is t here) (sym is.up_is ∙ o.2) is)

pub none-open : {T : Type 0} (t : Tree T) (here : Forest T) (i : TreeIndex) (is : Is t here []) → parent_of is.z.up ≡ Some i → ⊥
none-open t here i is e = let o = opened-some is.z.up i e in (let q : [] ≡ o.0 ∷ o.1 = sym is.up_is ∙ o.2 in cc)
