use Rattle.std.proofs.Common.{inr, arith}
use Rattle.std.proofs.Math.Logic.{∥∥₁_elim, ∥∥₁_map}
use Rattle.std.proofs.lemmas.Result.{on_ok_weaker, on_err_weaker}
use Rattle.cmark_tree.proofs.Building.{Is-unchanged}
use Rattle.cmark_tree.proofs.Moving.{above_zero, last_at, last_some, last_above, last_number, none_at, enclosed_zip, Holds-enclosed, Is-enclosed, Is-inside}
use Rattle.cmark_tree.proofs.Entries.{HasNumber-prop}
use Rattle.cmark_tree.proofs.tree.Tree.enclose.Goals as goal

pub returns-then-self-eq0-clause-ok : goal.returns-then-self-eq0-clause-ok
returns-then-self-eq0-clause-ok g c here x inside up is =
    absurd (omega (arith, c.if-self-eq0.true, last_above c.args.self.now here x inside up (last_at c.args.self.now here x inside up is)))

pub move_to_new-requires : goal.move_to_new-requires
move_to_new-requires g c = ∥∥₁_elim c.requires (HasNumber-prop _ _) (λ r.
    let l = last_some c.args.self.now r.0 r.1 r.2 (above_zero c.args.self.now.cur c.if-self-eq0.false) in
    last_number c.args.self.now l.0 l.1 l.2 r.1 l.3)

pub set_child-requires-clause-number : goal.set_child-requires-clause-number
set_child-requires-clause-number g c = ∥∥₁_elim c.requires (HasNumber-prop _ _) (λ r.
    let l = last_some c.args.self.now r.0 r.1 r.2 (above_zero c.args.self.now.cur c.if-self-eq0.false) in
    let n = last_number c.args.self.now l.0 l.1 l.2 r.1 l.3 in
    (n.0, omega (arith, n.1, c.in_ok-inner.ensures.ok.count)))

pub set_child-requires-clause-to : goal.set_child-requires-clause-to
set_child-requires-clause-to g c = omega (arith, c.in_ok-inner.ensures.ok.place, c.in_ok-inner.ensures.ok.count)

pub push-requires : goal.push-requires
push-requires g c = ∥∥₁_map c.requires (λ r.
    let l = last_some c.args.self.now r.0 r.1 r.2 (above_zero c.args.self.now.cur c.if-self-eq0.false) in (
      enclosed_zip c.args.self.now c.move_to_new.new.self c.set_child.new.self c.in_ok-inner.inner c.args.item c.in_ok-inner.ensures.ok c.set_child.ensures l.0 l.1 l.2 r.1 l.3,
      Holds-enclosed c.args.self.now c.move_to_new.new.self c.set_child.new.self c.in_ok-inner.inner c.args.item c.in_ok-inner.ensures.ok c.set_child.ensures l.0 l.1 l.2 r.1 l.3,
      tt,
    ))

pub returns-clause-ok : goal.returns-clause-ok
returns-clause-ok g c = on_ok_weaker c.push.result (λ down here x inside up is.
    let l = last_at c.args.self.now here x inside up is in
    Is-inside c.args.self.now c.move_to_new.new.self c.set_child.new.self c.in_ok-inner.inner c.args.item c.in_ok-inner.ensures.ok c.set_child.ensures here x inside up l c.push.new.self
    (down (enclosed_zip c.args.self.now c.move_to_new.new.self c.set_child.new.self c.in_ok-inner.inner c.args.item c.in_ok-inner.ensures.ok c.set_child.ensures here x inside up l)
    (Holds-enclosed c.args.self.now c.move_to_new.new.self c.set_child.new.self c.in_ok-inner.inner c.args.item c.in_ok-inner.ensures.ok c.set_child.ensures here x inside up l) tt)) c.push.ensures.ok

pub returns-clause-none : goal.returns-clause-none
returns-clause-none g c up is = absurd (c.if-self-eq0.false (none_at c.args.self.now up is))

pub returns-clause-err : goal.returns-clause-err
returns-clause-err g c = on_err_weaker c.push.result (λ same here x inside up is.
    inr (Is-unchanged _ c.push.new.self _ up same
    (Is-enclosed c.args.self.now c.move_to_new.new.self c.set_child.new.self c.in_ok-inner.inner c.args.item c.in_ok-inner.ensures.ok c.set_child.ensures here x inside up (last_at c.args.self.now here x inside up is)))) c.push.ensures.err
