use Rattle.std.proofs.Common.{◌<◌, refl, sym, ◌∙◌, subst, arith}
use Rattle.std.proofs.Math.Logic.{∥∥₁_elim}
use Rattle.cmark_tree.specs.Zip.{appended, siblings, whole}
use Rattle.cmark_tree.specs.Nodes.{HasNumber}
use Rattle.cmark_tree.specs.Tree.{Holds}
use Rattle.cmark_tree.proofs.Steps.{in_right, grown_forest, append_after, append_below, append_alone, first_number, parent_number, no_parent}
use Rattle.cmark_tree.proofs.Entries.{HasNumber-prop}
use Rattle.cmark_tree.proofs.tree.Tree.append.Goals as goal
use Rattle.cmark_tree.proofs.tree.Tree.append.Goals.{then-self-ne0, else-self-ne0+in-Some, else-self-ne0+in_default}

pub set_next-requires-clause-number : goal.set_next-requires-clause-number
set_next-requires-clause-number g c = ∥∥₁_elim c.requires (HasNumber-prop _ _) (λ r.
    let z = r.0 in
    let h = r.1 in
    let st = in_right c.args.self.now.nodes c.args.self.now.first z h.forest in
    let some : 0 < c.args.self.now.cur = omega (arith, c.if-self-ne0.true) in
    let n = subst (HasNumber c.args.self.now.nodes) (sym h.cur_is) (first_number c.args.self.now.nodes z.right st (subst (λ k. 0 < k) h.cur_is some)) in
    let grown = c.in_ok-ix.ensures.ok in
    (n.0, omega (arith, n.1, grown.count)))

pub set_child-requires-clause-number : goal.set_child-requires-clause-number
set_child-requires-clause-number g c = ∥∥₁_elim c.requires (HasNumber-prop _ _) (λ r.
    let z = r.0 in
    let h = r.1 in
    let grown = c.in_ok-ix.ensures.ok in
    let forest = grown_forest c.args.self.now.nodes c.push.new.self c.in_ok-ix.ix c.args.item c.args.self.now.first (whole z) grown h.forest in
    let mid = c.peek_up.ensures z (record { forest = forest; spine_is = h.spine_is; cur_is = h.cur_is }) in
    parent_number c.push.new.self z.up (siblings z) c.in-Some.parent forest.stands (sym mid ∙ c.in-Some.is))

pub set_next-requires-clause-to : goal.set_next-requires-clause-to
set_next-requires-clause-to g c = omega (arith, c.in_ok-ix.ensures.ok.place, c.in_ok-ix.ensures.ok.count)

pub set_child-requires-clause-to : goal.set_child-requires-clause-to
set_child-requires-clause-to g c = omega (arith, c.in_ok-ix.ensures.ok.place, c.in_ok-ix.ensures.ok.count)

pub returns-clause-ok : goal.returns-clause-ok
returns-clause-ok g c z h last =
    let grown = c.in_ok-ix.ensures.ok in
    let forest = grown_forest c.args.self.now.nodes c.push.new.self c.in_ok-ix.ix c.args.item c.args.self.now.first (whole z) grown h.forest in
    elim c.if-self-ne0.branch [
      | then-self-ne0 w ↦
          let some : 0 < c.args.self.now.cur = omega (arith, w.if-self-ne0.true) in
          subst (λ t. Holds (record { nodes = t.nodes; spine = t.spine; first = t.first; cur = c.in_ok-ix.ix }) (appended c.in_ok-ix.ix c.args.item z)) (sym w.self-is) (record {
            forest = append_after c.args.self.now.nodes c.push.new.self w.set_next.new.self c.args.self.now.first c.args.self.now.cur c.in_ok-ix.ix c.args.item z.left z.right z.up grown w.set_next.ensures h.forest last h.cur_is some;
            spine_is = h.spine_is;
            cur_is = refl;
          })
      | else-self-ne0+in-Some w ↦
          let mid = w.peek_up.ensures z (record { forest = forest; spine_is = h.spine_is; cur_is = h.cur_is }) in
          subst (λ t. Holds (record { nodes = t.nodes; spine = t.spine; first = t.first; cur = c.in_ok-ix.ix }) (appended c.in_ok-ix.ix c.args.item z)) (sym w.self-is) (record {
            forest = append_below c.args.self.now.nodes c.push.new.self w.set_child.new.self c.args.self.now.first c.in_ok-ix.ix c.args.item w.in-Some.parent z.left z.right z.up grown w.set_child.ensures h.forest last (sym w.if-self-ne0.false ∙ h.cur_is) (sym mid ∙ w.in-Some.is);
            spine_is = h.spine_is;
            cur_is = refl;
          })
      | else-self-ne0+in_default w ↦
          let mid = w.peek_up.ensures z (record { forest = forest; spine_is = h.spine_is; cur_is = h.cur_is }) in
          subst (λ t. Holds (record { nodes = t.nodes; spine = t.spine; first = t.first; cur = c.in_ok-ix.ix }) (appended c.in_ok-ix.ix c.args.item z)) (sym w.self-is) (record {
            forest = append_alone c.args.self.now.nodes c.push.new.self c.args.self.now.first c.in_ok-ix.ix c.args.item z.left z.right z.up grown h.forest last (sym w.if-self-ne0.false ∙ h.cur_is) (no_parent z.up w.peek_up.result mid w.in_default.not-Some);
            spine_is = h.spine_is;
            cur_is = refl;
          })
    ]
