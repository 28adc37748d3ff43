use Rattle.std.proofs.Common.{◌≡◌, true, sym, ◌∙◌}
use Rattle.cmark_block_walk.specs.Walking.{is_long}
use Rattle.cmark_block_walk.proofs.LongItems.{long-texts}
use Rattle.cmark_block_walk.proofs.MarkerSteps.{item-has}
use Rattle.cmark_block_walk.proofs.WalkSteps.{focus-node}
use Rattle.cmark_block_walk.proofs.walk.Walk.enter.Goals as goal

pub item-item-requires : goal.item-item-requires
item-item-requires c = focus-node c.args.self.now c.args.ix c.requires.at

pub enter_element-requires-clause-texts : goal.enter_element-requires-clause-texts
enter_element-requires-clause-texts c =
    long-texts c.item-item.result.now.body (item-has c.args.self.now c.item-item.result.now c.args.ix (λ i. is_long i.body ≡ true) c.requires.at c.item-item.ensures c.requires.long) (sym c.in_default.is ∙ c.task_of.ensures) (sym c.if-is_synthesized.false ∙ c.is_synthesized.ensures)
