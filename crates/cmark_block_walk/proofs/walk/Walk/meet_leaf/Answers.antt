use Rattle.std.proofs.Common.{refl}
use Rattle.cmark_block_walk.proofs.LeafLeave.{meets-leaf}
use Rattle.cmark_block_walk.proofs.WalkSteps.{focus-node}
use Rattle.cmark_block_walk.proofs.walk.Walk.meet_leaf.Goals as goal

pub item-requires : goal.item-requires
item-requires c = focus-node c.args.self.now c.args.ix c.requires.at

pub returns-clause-given : goal.returns-clause-given
returns-clause-given c = meets-leaf c.args.self.now c.item.result.now c.args.ix c.is_cell-is_cell.result c.gather.new.lines.items c.requires.at.1 c.item.ensures c.is_cell-is_cell.ensures c.requires.before c.in_ok-gather.ensures.lines

pub returns-clause-goes_on : goal.returns-clause-goes_on
returns-clause-goes_on c = record {
  goes =
      (let g = meets-leaf c.args.self.now c.item.result.now c.args.ix c.is_cell-is_cell.result c.gather.new.lines.items c.requires.at.1 c.item.ensures c.is_cell-is_cell.ensures c.requires.before c.in_ok-gather.ensures.lines c.requires.at.0.0 c.requires.at.0.1 in (g.1, g.4));
  definitions = refl;
  text = refl;
}
