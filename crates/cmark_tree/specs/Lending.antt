-- The final value of a tree after a `&mut` to the item of a node is returned.
use Rattle.std.specs.Prelude.{ℕ, ◌-◌, ◌≤◌}
use Rattle.std.proofs.Common.{sym, ◌∙◌, subst, length-set}
use Rattle.std.specs.Vec.{with_item}
use Rattle.std.specs.Borrow.{Lends, Fml, MutBor, RattleType}
use Rattle.cmark_tree.specs.declared.nodes.Nodes.{Nodes}
use Rattle.cmark_tree.specs.declared.tree.Tree.{Tree}
use Rattle.cmark_tree.specs.contracts.nodes.Nodes.{the_row as nodes_row}
use Rattle.cmark_tree.specs.contracts.tree.Tree.{the_row as tree_row}

module _ {T : Type 0} where
  abbrev pub with_stored_item : Nodes T → ℕ → T → Nodes T
  with_stored_item nodes ix w =
      let same = length-set nodes.items.items (ix - 1) w in
      record nodes { items = with_item nodes.items (ix - 1) w; even = (nodes.even.0 ∙ sym same, (subst (λ n. n ≤ nodes.room) (sym same) nodes.even.1.0, nodes.even.1.1)) }

  -- the tree with another item at this node
  abbrev pub with_item_at : Tree T → ℕ → T → Tree T
  with_item_at t ix w = record t { nodes = with_stored_item t.nodes ix w }

module _ (T : RattleType) where
  -- once the borrow r ends, the node has the last item written through r
  abbrev pub LendsStoredItem : MutBor (Nodes T.Denot) → ℕ → MutBor T.Denot → Fml
  LendsStoredItem s ix r = Lends (nodes_row T) T s r (with_stored_item s.now ix)

  abbrev pub LendsItemAt : MutBor (Tree T.Denot) → ℕ → MutBor T.Denot → Fml
  LendsItemAt s ix r = Lends (tree_row T) T s r (with_item_at s.now ix)
