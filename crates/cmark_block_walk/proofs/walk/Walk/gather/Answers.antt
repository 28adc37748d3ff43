use Rattle.std.proofs.Common.{◌≡◌, ◌++◌, [], ◌∷◌, sym, ◌∙◌, subst}
use Rattle.cmark_block_walk.proofs.EndSteps.{has-own-text, has-text}
use Rattle.cmark_block_walk.proofs.WalkSteps.{focus-node, on-err}
use Rattle.cmark_block_walk.proofs.LineSteps.{Gathered, begins-lines, gathers-line, line-node, lines-done, own-line}
use Rattle.cmark_block_walk.proofs.walk.Walk.gather.Goals as goal

pub item-leaf-requires : goal.item-leaf-requires
item-leaf-requires c = focus-node c.args.self.now c.args.ix c.requires

-- a text of its own is the only line
pub returns-in-Some-clause-lines : goal.returns-in-Some-clause-lines
returns-in-Some-clause-lines c =
    own-line c.args.self.now c.item-leaf.result.now c.args.ix c.in-Some.text_end c.push.new.self.items c.requires.1 c.item-leaf.ensures (sym c.own_text_end.ensures ∙ c.in-Some.is)
    (subst (λ ls. c.push.new.self.items ≡ ls ++ (record { start = c.item-leaf.result.now.start; content_end = c.in-Some.text_end; line_end = c.in-Some.text_end } ∷ [])) c.clear.ensures.items c.in_ok-push.ensures.items)

pub returns-in_err-push-clause-text : goal.returns-in_err-push-clause-text
returns-in_err-push-clause-text c =
    on-err c.from_residual.result _ (has-own-text c.args.self.now c.item-leaf.result.now c.args.ix c.in-Some.text_end c.requires.1 c.item-leaf.ensures (sym c.own_text_end.ensures ∙ c.in-Some.is))

-- if it has no text of its own, the nodes inside are the lines
pub child-requires : goal.child-requires
child-requires c = focus-node c.args.self.now c.args.ix c.requires

pub returns-in_default-child-clause-lines : goal.returns-in_default-child-clause-lines
returns-in_default-child-clause-lines c =
    let none = sym c.own_text_end.ensures ∙ c.in_default.is in
    lines-done c.args.self.now c.item-leaf.result.now c.args.ix c.clear.new.self.items c.child.result c.requires.1 c.item-leaf.ensures none
    (begins-lines c.args.self.now c.item-leaf.result.now c.args.ix c.child.result c.clear.new.self.items c.requires.1 c.item-leaf.ensures none c.child.ensures c.clear.ensures.items) c.in_default-child.is

pub loop-init : goal.loop-init
loop-init c =
    subst (Gathered c.args.self.now c.clear.new.self.items) c.in-Some-child.is
    (begins-lines c.args.self.now c.item-leaf.result.now c.args.ix c.child.result c.clear.new.self.items c.requires.1 c.item-leaf.ensures (sym c.own_text_end.ensures ∙ c.in_default.is) c.child.ensures c.clear.ensures.items)

pub item-item-requires : goal.item-item-requires
item-item-requires c = line-node c.args.self.now c.loop.lines.items c.in-Some-next.line c.loop.next c.requires.0 c.loop.invariant c.in-Some-next.is

pub next-next-requires : goal.next-next-requires
next-next-requires c = line-node c.args.self.now c.loop.lines.items c.in-Some-next.line c.loop.next c.requires.0 c.loop.invariant c.in-Some-next.is

pub loop-preserved : goal.loop-preserved
loop-preserved c =
    gathers-line c.args.self.now c.loop.lines.items c.push-in-loop.new.self.items c.in-Some-next.line c.item-item.result.now c.loop.next c.next-next.result c.loop.invariant c.in-Some-next.is c.item-item.ensures c.next-next.ensures c.in_ok-push-2.ensures.items

pub returns-in_default-next-clause-lines : goal.returns-in_default-next-clause-lines
returns-in_default-next-clause-lines c =
    lines-done c.args.self.now c.item-leaf.result.now c.args.ix c.loop.lines.items c.loop.next c.requires.1 c.item-leaf.ensures (sym c.own_text_end.ensures ∙ c.in_default.is) c.loop.invariant c.in_default-next.is

pub returns-in_err-push-2-clause-text : goal.returns-in_err-push-2-clause-text
returns-in_err-push-2-clause-text c =
    on-err c.from_residual-in_err-push-2.result _
    (has-text c.args.self.now c.item-leaf.result.now c.args.ix c.child.result c.in-Some-child.first c.requires.1 c.item-leaf.ensures (sym c.own_text_end.ensures ∙ c.in_default.is) c.child.ensures c.in-Some-child.is)

pub returns-clause-text : goal.returns-clause-text
returns-clause-text c =
    has-text c.args.self.now c.item-leaf.result.now c.args.ix c.child.result c.in-Some-child.first c.requires.1 c.item-leaf.ensures (sym c.own_text_end.ensures ∙ c.in_default.is) c.child.ensures c.in-Some-child.is
