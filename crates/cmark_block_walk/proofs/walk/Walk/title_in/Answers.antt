use Rattle.std.proofs.Common.{sym, subst, ◌∙◌}
use Rattle.cmark_block_walk.specs.Walking.{IsTitleIn}
use Rattle.cmark_block_walk.proofs.ListSteps.{child-node, nothing-inside, other-inside, title-inside}
use Rattle.cmark_block_walk.proofs.WalkSteps.{focus-node}
use Rattle.cmark_block_walk.proofs.walk.Walk.title_in.Goals as goal

pub child-requires : goal.child-requires
child-requires c = focus-node c.args.self.now c.args.ix c.requires

pub returns-in_err-child : goal.returns-in_err-child
returns-in_err-child c =
    subst (IsTitleIn c.args.self.now c.args.ix) (sym c.from_residual.ensures) (nothing-inside c.args.self.now c.args.ix c.requires.1 c.child.result c.child.ensures (sym c.in_err-child.was))

pub item-item-requires : goal.item-item-requires
item-item-requires c = child-node c.args.self.now c.args.ix c.requires.1 c.child.result c.child.ensures c.in_ok-child.child c.in_ok-child.was c.requires.0

pub returns-then-is_title : goal.returns-then-is_title
returns-then-is_title c =
    title-inside c.args.self.now c.args.ix c.requires.1 c.child.result c.child.ensures c.in_ok-child.child c.item-item.result.now c.item-item.ensures c.in_ok-child.was
    (λ text texts node d. sym c.if-is_title.true ∙ c.is_title.ensures text texts node d)

pub returns-else-is_title : goal.returns-else-is_title
returns-else-is_title c =
    other-inside c.args.self.now c.args.ix c.requires.1 c.child.result c.child.ensures c.in_ok-child.child c.item-item.result.now c.item-item.ensures c.in_ok-child.was
    (λ text texts node d. sym c.if-is_title.false ∙ c.is_title.ensures text texts node d)
