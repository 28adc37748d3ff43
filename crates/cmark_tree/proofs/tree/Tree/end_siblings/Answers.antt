use Rattle.std.proofs.Common.{sym, ◌∙◌, subst}
use Rattle.std.proofs.Math.Logic.{∥∥₁_elim}
use Rattle.cmark_tree.specs.Zip.{plug}
use Rattle.cmark_tree.specs.Forest.{join}
use Rattle.cmark_tree.specs.Arena.{IsForest}
use Rattle.cmark_tree.specs.Nodes.{node_at}
use Rattle.cmark_tree.specs.Tree.{Holds}
use Rattle.cmark_tree.specs.Truncating.{at_last}
use Rattle.cmark_tree.proofs.Steps.{parent_number}
use Rattle.cmark_tree.proofs.Cutting.{end_none, end_after, last_number, join_last, first-last_tree}
use Rattle.cmark_tree.proofs.Entries.{HasNumber-prop}
use Rattle.cmark_tree.proofs.tree.Tree.end_siblings.Goals as goal
use Rattle.cmark_tree.proofs.tree.Tree.end_siblings.Goals.{then-last-eq0, else-last-eq0}

pub set_child-requires-clause-number : goal.set_child-requires-clause-number
set_child-requires-clause-number g c = ∥∥₁_elim c.requires (HasNumber-prop _ _) (λ r.
    let r = r in
    parent_number c.args.self.now.nodes r.2 (join r.0 r.1) c.args.parent r.3.stands r.4)

pub set_next-requires-clause-number : goal.set_next-requires-clause-number
set_next-requires-clause-number g c = ∥∥₁_elim c.requires (HasNumber-prop _ _) (λ r.
    let r = r in
    last_number c.args.self.now.nodes c.args.self.now.first c.args.last r.0 r.1 r.2 r.3 c.if-last-eq0.false r.5)

pub returns : goal.returns
returns g c done rest up h spine parent last = elim c.if-last-eq0.branch [
  | then-last-eq0 w ↦ subst (λ t. Holds (record { nodes = t.nodes; spine = t.spine; first = t.first; cur = c.args.last }) (at_last done up)) (sym w.self-is) (record {
    forest = subst (λ f. IsForest (node_at w.set_child.new.self) c.args.self.now.first (plug up f)) (sym (join_last done)) (end_none c.args.self.now.nodes w.set_child.new.self c.args.self.now.first c.args.parent done rest up h parent (last ∙ w.if-last-eq0.true) w.set_child.ensures);
    spine_is = spine;
    cur_is = sym (first-last_tree done ∙ last);
  })
  | else-last-eq0 w ↦ subst (λ t. Holds (record { nodes = t.nodes; spine = t.spine; first = t.first; cur = c.args.last }) (at_last done up)) (sym w.self-is) (record {
    forest = subst (λ f. IsForest (node_at w.set_next.new.self) c.args.self.now.first (plug up f)) (sym (join_last done)) (end_after c.args.self.now.nodes w.set_next.new.self c.args.self.now.first c.args.last done rest up h w.if-last-eq0.false last w.set_next.ensures);
    spine_is = spine;
    cur_is = sym (first-last_tree done ∙ last);
  })
]
