use Rattle.std.proofs.Common.{◌%◌, nat_eq, sym, ap, ◌∙◌}
use Rattle.cmark_block_walk.proofs.Paths.{tight-from, innermost, item-keeps, innermost-node, decided, outwards, outermost, body_within, not-within}
use Rattle.cmark_block_walk.proofs.walk.Walk.is_tight.Goals as goal

pub loop-ix-init : goal.loop-ix-init
loop-ix-init c = λ z above b. tight-from c.args.self.now c.walk_spine-parents.result.rest.now z above (c.walk_spine-parents.ensures z b.holds) b

pub item-requires : goal.item-requires
item-requires c =
    let b = c.requires in
    innermost-node c.args.self.now c.next_back.new.self.rest.now c.in-Some.ix.now b.1
    (innermost c.args.self.now c.loop-ix.parents.rest.now c.next_back.new.self.rest.now c.in-Some.ix.now b.1 c.in-Some.ensures.steps (c.loop-ix.invariant b.0 b.1 b.2))

pub returns-in-List : goal.returns-in-List
returns-in-List c = λ z above b.
    let d = decided c.args.self.now c.loop-ix.parents.rest.now c.next_back.new.self.rest.now c.in-Some.ix.now above c.item.result.now c.in-Some.ensures.steps (c.loop-ix.invariant z above b) c.item.ensures in
    ap (λ n. nat_eq (n % 2) 1) (c.bits.ensures tt) ∙ sym (d.1 ∙ ap (body_within d.0) c.in-List.is)

pub returns-in-DefinitionList : goal.returns-in-DefinitionList
returns-in-DefinitionList c = λ z above b.
    let d = decided c.args.self.now c.loop-ix.parents.rest.now c.next_back.new.self.rest.now c.in-Some.ix.now above c.item.result.now c.in-Some.ensures.steps (c.loop-ix.invariant z above b) c.item.ensures in
    ap (λ n. nat_eq (n % 2) 1) (c.bits-in-DefinitionList.ensures tt) ∙ sym (d.1 ∙ ap (body_within d.0) c.in-DefinitionList.is)

pub loop-ix-preserved : goal.loop-ix-preserved
loop-ix-preserved c = λ z above b.
    outwards c.args.self.now c.loop-ix.parents.rest.now c.next_back.new.self.rest.now c.in-Some.ix.now above c.item.result.now c.in-Some.ensures.steps (c.loop-ix.invariant z above b) c.item.ensures
    (item-keeps c.item.result.now.body c.in-ListItem.is)

pub returns-in_default-body : goal.returns-in_default-body
returns-in_default-body c = λ z above b.
    let d = decided c.args.self.now c.loop-ix.parents.rest.now c.next_back.new.self.rest.now c.in-Some.ix.now above c.item.result.now c.in-Some.ensures.steps (c.loop-ix.invariant z above b) c.item.ensures in
    sym (d.1 ∙ not-within d.0 c.item.result.now.body c.in_default-body.not-List c.in_default-body.not-DefinitionList c.in_default-body.not-ListItem c.in_default-body.not-DefinitionListDefinition)

pub returns : goal.returns
returns c = λ z above b. sym (outermost c.args.self.now c.loop-ix.parents.rest.now above c.in_default.ensures.steps.0 (c.loop-ix.invariant z above b))
