use Rattle.std.proofs.Common.{sym, ◌∙◌}
use Rattle.cmark_items.specs.declared.item.Item.{Item}
use Rattle.cmark_items.specs.declared.item.ItemBody.TheVariants as body
use Rattle.cmark_builder.proofs.BuilderSteps.{parent-node, closes-with, closes-placed}
use Rattle.cmark_builder.proofs.WholeParagraphs.{parent-tested, some-sibling}
use Rattle.cmark_builder.proofs.builder.Builder.close_whole.Goals as goal

pub returns-then-is_some-clause-answer : goal.returns-then-is_some-clause-answer
returns-then-is_some-clause-answer c here up is = some-sibling c.args.self.now.tree c.args.start here up c.cur.result c.cur.ensures (sym c.is_some.ensures ∙ c.if-is_some.true) is

pub item-requires : goal.item-requires
item-requires c = parent-node c.args.self.now.tree c.in-Some.parent c.args.self.now.placed c.peek_up.result c.peek_up.ensures c.in-Some.is

pub returns-then-not-is_paragraph_from-clause-answer : goal.returns-then-not-is_paragraph_from-clause-answer
returns-then-not-is_paragraph_from-clause-answer c here up is =
    sym c.if-not-is_paragraph_from.true ∙ c.is_paragraph_from.ensures
    ∙ parent-tested c.args.self.now.tree c.args.start here up c.cur.result c.in-Some.parent c.item.result.now c.cur.ensures (sym c.is_some.ensures ∙ c.if-is_some.false)
    (λ z h. sym c.in-Some.is ∙ c.peek_up.ensures z h) c.item.ensures is

pub item_mut-item-requires : goal.item_mut-item-requires
item_mut-item-requires c = parent-node c.args.self.now.tree c.in-Some.parent c.args.self.now.placed c.peek_up.result c.peek_up.ensures c.in-Some.is

pub returns-clause-answer : goal.returns-clause-answer
returns-clause-answer c here up is =
    sym c.if-not-is_paragraph_from.false ∙ c.is_paragraph_from.ensures
    ∙ parent-tested c.args.self.now.tree c.args.start here up c.cur.result c.in-Some.parent c.item.result.now c.cur.ensures (sym c.is_some.ensures ∙ c.if-is_some.false)
    (λ z h. sym c.in-Some.is ∙ c.peek_up.ensures z h) c.item.ensures is

pub invariant_of-self : goal.invariant_of-self
invariant_of-self c = record {
  placed = closes-placed c.args.self.now.tree c.close.new.self c.in-Some.parent c.item_mut-item.result.now (λ (i : Item). record i { end = c.args.end; body = body.ParagraphOf c.args.text_end })
      c.item_mut-item.ensures.value c.close.ensures c.args.self.now.placed c.peek_up.result c.peek_up.ensures c.in-Some.is;
}

pub returns-clause-closed : goal.returns-clause-closed
returns-clause-closed c whole =
    closes-with c.args.self.now.tree c.close.new.self c.in-Some.parent c.item_mut-item.result.now (λ (i : Item). record i { end = c.args.end; body = body.ParagraphOf c.args.text_end })
    c.item_mut-item.ensures.value c.close.ensures (λ z h. sym c.in-Some.is ∙ c.peek_up.ensures z h)
