use Rattle.std.proofs.Math.Logic.{∥∥₁_map}
use Rattle.cmark_tree.proofs.Building.{Is-append}
use Rattle.cmark_tree.proofs.tree.Tree.add.Goals as goal

pub append-requires : goal.append-requires
append-requires g c = ∥∥₁_map c.requires (λ r.
    let is = r.2 in (is.z, is.holds, is.last))

pub returns-clause-ok : goal.returns-clause-ok
returns-clause-ok g c here up is = Is-append c.args.self.now c.append.new.self c.in_ok-ix.ix.ix c.args.item here up c.in_ok-ix.ensures.ok is
