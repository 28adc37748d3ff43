use Rattle.std.proofs.Common.{sym, ◌∙◌}
use Rattle.cmark_items.specs.declared.item.Item.{Item}
use Rattle.cmark_builder.proofs.BuilderSteps.{parent-node, closes-with, closes-placed}
use Rattle.cmark_builder.proofs.builder.Builder.close_as.Goals as goal

pub item_mut-item-requires : goal.item_mut-item-requires
item_mut-item-requires c = parent-node c.args.self.now.tree c.in-Some.parent c.args.self.now.placed c.peek_up.result c.peek_up.ensures c.in-Some.is

pub invariant_of-self : goal.invariant_of-self
invariant_of-self c = record {
  placed = closes-placed c.args.self.now.tree c.close.new.self c.in-Some.parent c.item_mut-item.result.now (λ (i : Item). record i { end = c.args.end; body = c.args.body })
      c.item_mut-item.ensures.value c.close.ensures c.args.self.now.placed c.peek_up.result c.peek_up.ensures c.in-Some.is;
}

pub returns-in-Some-clause-closed : goal.returns-in-Some-clause-closed
returns-in-Some-clause-closed c =
    closes-with c.args.self.now.tree c.close.new.self c.in-Some.parent c.item_mut-item.result.now (λ (i : Item). record i { end = c.args.end; body = c.args.body })
    c.item_mut-item.ensures.value c.close.ensures (λ z h. sym c.in-Some.is ∙ c.peek_up.ensures z h)
