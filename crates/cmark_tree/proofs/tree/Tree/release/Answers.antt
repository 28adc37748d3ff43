use Rattle.std.proofs.Common.{◌≡◌, ◌-◌, ◌∙◌, Some, take, refl, sym, ap, arith}
use Rattle.std.specs.Coded.{le_prop}
use Rattle.std.proofs.Math.Logic.{∥∥₁_elim, ∥∥₁_map}
use Rattle.cmark_tree.specs.Forest.{Nil}
use Rattle.cmark_tree.specs.Tree.{Holds, parent_of}
use Rattle.cmark_tree.specs.Zip.{Zip, siblings}
use Rattle.cmark_tree.proofs.Moving.{above_zero, last_at, last_some, last_above, last_number, none_at}
use Rattle.cmark_tree.proofs.Releasing.{children_of, Is-released, before_number, ended_count}
use Rattle.cmark_tree.proofs.Steps.{parent_number}
use Rattle.cmark_tree.proofs.Entries.{HasNumber-prop}
use Rattle.cmark_tree.proofs.tree.Tree.release.Goals as goal

pub returns-then-self-eq0-clause-released : goal.returns-then-self-eq0-clause-released
returns-then-self-eq0-clause-released g c here x inside v up is =
    absurd (omega (arith, c.if-self-eq0.true, last_above c.args.self.now here x inside _ (last_at c.args.self.now here x inside _ is)))

pub child-requires : goal.child-requires
child-requires g c = ∥∥₁_elim c.requires (HasNumber-prop _ _) (λ r.
    let is = r.2 in
    parent_number c.args.self.now.nodes is.z.up (siblings is.z) c.in-Some.parent is.holds.forest.stands (sym (c.peek_up.ensures is.z is.holds) ∙ c.in-Some.is))

pub sibling_before-before-requires : goal.sibling_before-before-requires
sibling_before-before-requires g c = ∥∥₁_map c.requires (λ r.
    let l = last_some c.args.self.now r.0 r.1 r.2 (above_zero c.args.self.now.cur c.if-self-eq0.false) in
    let parent : (z : Zip g.row.T.Denot) → Holds c.args.self.now z → Some c.in-Some.parent ≡ parent_of z.up = (λ z h. sym c.in-Some.is ∙ c.peek_up.ensures z h) in (
      l.3.left,
      l.3.place,
      l.3.below,
      Nil,
      children_of c.args.self.now c.in-Some.parent c.child.result parent c.child.ensures l.0 l.1 l.2 r.1 l.3,
      sym l.3.holds.cur_is,
    ))

pub end_children-requires-clause-parent : goal.end_children-requires-clause-parent
end_children-requires-clause-parent g c = ∥∥₁_elim c.requires (HasNumber-prop _ _) (λ r.
    let is = r.2 in
    parent_number c.args.self.now.nodes is.z.up (siblings is.z) c.in-Some.parent is.holds.forest.stands (sym (c.peek_up.ensures is.z is.holds) ∙ c.in-Some.is))

pub end_children-requires-clause-last : goal.end_children-requires-clause-last
end_children-requires-clause-last g c ne = ∥∥₁_elim c.requires (HasNumber-prop _ _) (λ r.
    let l = last_some c.args.self.now r.0 r.1 r.2 (above_zero c.args.self.now.cur c.if-self-eq0.false) in
    let parent : (z : Zip g.row.T.Denot) → Holds c.args.self.now z → Some c.in-Some.parent ≡ parent_of z.up = (λ z h. sym c.in-Some.is ∙ c.peek_up.ensures z h) in
    let among = children_of c.args.self.now c.in-Some.parent c.child.result parent c.child.ensures l.0 l.1 l.2 r.1 l.3 in
    before_number c.args.self.now.nodes c.child.result c.sibling_before-before.result l.3.left l.3.place l.3.below among (c.sibling_before-before.ensures l.3.left l.3.place l.3.below Nil among (sym l.3.holds.cur_is)) ne)

pub set_next-requires-clause-number : goal.set_next-requires-clause-number
set_next-requires-clause-number g c = ∥∥₁_elim c.requires (HasNumber-prop _ _) (λ r.
    let is = r.2 in
    let n = parent_number c.args.self.now.nodes is.z.up (siblings is.z) c.in-Some.parent is.holds.forest.stands (sym (c.peek_up.ensures is.z is.holds) ∙ c.in-Some.is) in
    (n.0, omega (arith, n.1, ended_count c.args.self.now.nodes c.end_children.new.self c.in-Some.parent.ix c.sibling_before-before.result c.end_children.ensures.none c.end_children.ensures.some)))

pub set_next-requires-clause-to : goal.set_next-requires-clause-to
set_next-requires-clause-to g c = ∥∥₁_elim c.requires le_prop (λ r.
    let l = last_some c.args.self.now r.0 r.1 r.2 (above_zero c.args.self.now.cur c.if-self-eq0.false) in
    let n = last_number c.args.self.now l.0 l.1 l.2 r.1 l.3 in
    omega (arith, n.1, ended_count c.args.self.now.nodes c.end_children.new.self c.in-Some.parent.ix c.sibling_before-before.result c.end_children.ensures.none c.end_children.ensures.some))

pub returns-clause-released : goal.returns-clause-released
returns-clause-released g c here x inside v up is =
    let parent : (z : Zip g.row.T.Denot) → Holds c.args.self.now z → Some c.in-Some.parent ≡ parent_of z.up = (λ z h. sym c.in-Some.is ∙ c.peek_up.ensures z h) in
    Is-released c.args.self.now _ c.end_children.new.self c.in-Some.parent c.child.result c.sibling_before-before.result parent c.child.ensures c.sibling_before-before.ensures
    c.end_children.ensures.none c.end_children.ensures.some c.set_next.ensures refl refl
    (c.pop.ensures.rest ∙ ap (λ k. take (k - 1) c.args.self.now.spine.items) c.args.self.now.spine.ok.0) here x inside v up (last_at c.args.self.now here x inside _ is)

pub returns-clause-none : goal.returns-clause-none
returns-clause-none g c v up is = absurd (c.if-self-eq0.false (none_at c.args.self.now _ is))
