use Rattle.std.proofs.Common.{sym, subst, ◌∙◌}
use Rattle.cmark_block_walk.specs.Walking.{IsListAfter}
use Rattle.cmark_block_walk.proofs.MarkerSteps.{later-node, list-following, no-list-following, other-than-list}
use Rattle.cmark_block_walk.proofs.WalkSteps.{focus-node}
use Rattle.cmark_block_walk.proofs.walk.Walk.definitions_after.Goals as goal

pub next-requires : goal.next-requires
next-requires c = focus-node c.args.self.now c.args.ix c.requires

pub returns-in_err-next : goal.returns-in_err-next
returns-in_err-next c =
    subst (IsListAfter c.args.self.now c.args.ix) (sym c.from_residual.ensures) (no-list-following c.args.self.now c.args.ix c.next.result c.requires.1 c.next.ensures (sym c.in_err-next.was))

pub item-item-requires : goal.item-item-requires
item-item-requires c = later-node c.args.self.now c.args.ix c.in_ok-next.next c.next.result c.requires.1 c.next.ensures c.in_ok-next.was c.requires.0

pub returns-then-is_list : goal.returns-then-is_list
returns-then-is_list c =
    list-following c.args.self.now c.args.ix c.in_ok-next.next c.item-item.result.now c.item-item.ensures c.next.result c.requires.1 c.next.ensures c.in_ok-next.was
    (λ text texts node d. sym c.if-is_list.true ∙ c.is_list.ensures text texts node d)

pub returns-else-is_list : goal.returns-else-is_list
returns-else-is_list c =
    other-than-list c.args.self.now c.args.ix c.in_ok-next.next c.item-item.result.now c.item-item.ensures c.next.result c.requires.1 c.next.ensures c.in_ok-next.was
    (λ text texts node d. sym c.if-is_list.false ∙ c.is_list.ensures text texts node d)
