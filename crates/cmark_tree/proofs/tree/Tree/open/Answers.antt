use Rattle.std.proofs.Common.{inr}
use Rattle.std.proofs.Math.Logic.{∥∥₁_map}
use Rattle.cmark_tree.specs.Zip.{appended}
use Rattle.cmark_tree.proofs.Building.{Is-append, Is-open, Is-unchanged}
use Rattle.cmark_tree.proofs.Entries.{on_err}
use Rattle.cmark_tree.proofs.tree.Tree.open.Goals as goal

pub append-requires : goal.append-requires
append-requires g c = ∥∥₁_map c.requires (λ r.
    let is = r.2 in (is.z, is.holds, is.last))

pub push-requires : goal.push-requires
push-requires g c = ∥∥₁_map c.requires (λ r.
    let is = r.2 in
    (appended c.in_ok-append.field-0.ix c.args.item is.z, c.in_ok-append.ensures.ok is.z is.holds is.last, tt))

pub returns-clause-ok : goal.returns-clause-ok
returns-clause-ok g c here up is =
    Is-open c.args.self.now c.append.new.self c.push.new.self c.in_ok-append.field-0.ix c.args.item here up c.in_ok-append.ensures.ok c.in_ok-push.ensures.ok is

pub returns-in_err-push-clause-err : goal.returns-in_err-push-clause-err
returns-in_err-push-clause-err g c = on_err c.from_residual-in_err-push.result _ (λ here up is.
    inr (Is-unchanged c.append.new.self c.push.new.self _ up c.in_err-push.ensures.err
    (Is-append c.args.self.now c.append.new.self c.in_ok-append.field-0.ix c.args.item here up c.in_ok-append.ensures.ok is)))
