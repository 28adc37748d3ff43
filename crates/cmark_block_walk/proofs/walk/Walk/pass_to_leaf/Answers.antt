use Rattle.std.proofs.Common.{refl}
use Rattle.cmark_text.specs.declared.event.Event.TheVariants as text_event
use Rattle.cmark_block_walk.proofs.MarkerSteps.{enters-marked, item-task, leaf-element}
use Rattle.cmark_block_walk.proofs.EndSteps.{before-otherwise, task-otherwise}
use Rattle.cmark_block_walk.proofs.WalkSteps.{focus-node, gives-ranged, goes-after}
use Rattle.cmark_block_walk.proofs.walk.Walk.pass_to_leaf.Goals as goal

pub leaf_tag-requires : goal.leaf_tag-requires
leaf_tag-requires c = leaf-element c.args.self.now c.args.ix c.args.leaf c.requires.at c.requires.following

pub item-item-requires : goal.item-item-requires
item-item-requires c = focus-node c.args.self.now c.args.ix c.requires.at

pub returns-clause-given : goal.returns-clause-given
returns-clause-given c left r =
    gives-ranged (text_event.Start c.in-Ok.tag) c.args.leaf.start c.args.leaf.end c.begun.result left _ c.begun.ensures.value
    (enters-marked c.args.self.now c.item-item.result.now c.args.ix c.next_sibling.new.self c.requires.at.1 c.item-item.ensures c.requires.before c.args.is_checked
    (item-task c.args.self.now c.item-item.result.now c.args.ix c.args.is_checked c.requires.at c.item-item.ensures c.requires.task) c.next_sibling.ensures.past
    c.in-Ok.tag c.args.leaf c.requires.following c.in-Ok.ensures left r)

pub returns-clause-goes_on : goal.returns-clause-goes_on
returns-clause-goes_on c = record {
  goes = goes-after c.requires.at.0.0 _ _
      (enters-marked c.args.self.now c.item-item.result.now c.args.ix c.next_sibling.new.self c.requires.at.1 c.item-item.ensures c.requires.before c.args.is_checked
      (item-task c.args.self.now c.item-item.result.now c.args.ix c.args.is_checked c.requires.at c.item-item.ensures c.requires.task) c.next_sibling.ensures.past
      c.in-Ok.tag c.args.leaf c.requires.following c.in-Ok.ensures c.requires.at.0.0 c.requires.at.0.1);
  definitions = refl;
  text = refl;
}

pub returns-in_default-clause-refused : goal.returns-in_default-clause-refused
returns-in_default-clause-refused c = record {
  remains = (λ left same. same);
  no_end = before-otherwise c.args.self.now c.item-item.result.now c.args.ix c.args.self.now.tree c.requires.at.1 c.item-item.ensures c.requires.before
      (task-otherwise c.args.self.now c.item-item.result.now c.args.is_checked (item-task c.args.self.now c.item-item.result.now c.args.ix c.args.is_checked c.requires.at c.item-item.ensures c.requires.task));
}
