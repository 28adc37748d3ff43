use Rattle.std.proofs.Common.{inl, inr, sym, subst, ap, ◌∙◌, option_map}
use Rattle.cmark_text.specs.Shown.{shown_end}
use Rattle.cmark_block_walk.specs.Walking.{IsLeafAfter}
use Rattle.cmark_block_walk.proofs.LeaveSteps.{ends-element, no-end-no-tag}
use Rattle.cmark_block_walk.proofs.MarkerSteps.{none-following, later-node, other-following, leaf-following}
use Rattle.cmark_block_walk.proofs.WalkSteps.{focus-node}
use Rattle.cmark_block_walk.proofs.walk.Walk.leaf_following.Goals as goal

pub next-requires : goal.next-requires
next-requires c = focus-node c.args.self.now c.args.ix c.requires

pub returns-in_err-next : goal.returns-in_err-next
returns-in_err-next c =
    subst (IsLeafAfter c.args.self.now c.args.ix) (sym c.from_residual.ensures) (none-following c.args.self.now c.args.ix c.next.result c.requires.1 c.next.ensures (sym c.in_err-next.was))

pub item-item-requires : goal.item-item-requires
item-item-requires c = later-node c.args.self.now c.args.ix c.in_ok-next.next c.next.result c.requires.1 c.next.ensures c.in_ok-next.was c.requires.0

pub returns-then-not-is_leaf : goal.returns-then-not-is_leaf
returns-then-not-is_leaf c =
    other-following c.args.self.now c.args.ix c.in_ok-next.next c.item-item.result.now c.item-item.ensures c.next.result c.requires.1 c.next.ensures c.in_ok-next.was
    (λ z above node b d. inl (sym (c.is_leaf.ensures _ _ node d) ∙ c.if-not-is_leaf.true))

pub returns-in-Some : goal.returns-in-Some
returns-in-Some c =
    leaf-following c.args.self.now c.args.ix c.in_ok-next.next c.item-item.result.now c.item-item.ensures c.next.result c.requires.1 c.next.ensures c.in_ok-next.was
    (λ text texts node d. sym c.if-not-is_leaf.false ∙ c.is_leaf.ensures text texts node d)
    (λ z above node b d. ends-element _ _ (ap (option_map shown_end) (sym c.in-Some.is) ∙ c.end.ensures z above node b d))

pub returns-in-None : goal.returns-in-None
returns-in-None c =
    other-following c.args.self.now c.args.ix c.in_ok-next.next c.item-item.result.now c.item-item.ensures c.next.result c.requires.1 c.next.ensures c.in_ok-next.was
    (λ z above node b d. inr (no-end-no-tag _ (ap (option_map shown_end) (sym c.in-None.is) ∙ c.end.ensures z above node b d)))
