use Rattle.std.proofs.Common.{[], ◌∷◌, ◌++◌, sym, ap, ◌∙◌, subst}
use Rattle.std.proofs.Math.Logic.{∥∥₁_elim}
use Rattle.cmark_tree.specs.Nodes.{HasNumber}
use Rattle.cmark_tree.proofs.Steps.{in_right, first_number, focus_above, push_down}
use Rattle.cmark_tree.proofs.Entries.{HasNumber-prop}
use Rattle.cmark_tree.proofs.tree.Tree.push.Goals as goal

pub child-self-requires : goal.child-self-requires
child-self-requires g c = ∥∥₁_elim c.requires (HasNumber-prop _ _) (λ r.
    let z = r.0 in
    let h = r.1 in
    let st = in_right c.args.self.now.nodes c.args.self.now.first z h.forest in
    subst (HasNumber c.args.self.now.nodes) (sym h.cur_is) (first_number c.args.self.now.nodes z.right st (focus_above c.args.self.now.nodes z.right st r.2)))

pub returns-clause-ok : goal.returns-clause-ok
returns-clause-ok g c z h focus =
    let down = push_down c.args.self.now.nodes c.args.self.now.first c.args.self.now.cur c.child-self.result z.left z.right z.up h.forest focus h.cur_is c.child-self.ensures in
    record {
      forest = down.0;
      spine_is = c.in_ok-lengthen.ensures.ok ∙ ap (λ s. s ++ record { ix = c.args.self.now.cur } ∷ []) h.spine_is ∙ down.1;
      cur_is = down.2;
    }
