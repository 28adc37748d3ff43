use Rattle.std.proofs.Common.{refl, subst}
use Rattle.cmark_text.specs.declared.event.Event.TheVariants as text_event
use Rattle.cmark_text.specs.declared.event.Tag.TheVariants as text_tag
use Rattle.cmark_block_walk.specs.Walking.{IsLeafAfter, IsListAfter}
use Rattle.cmark_block_walk.proofs.MarkerSteps.{item-task, passes-marker, enters-listed}
use Rattle.cmark_block_walk.proofs.WalkSteps.{focus-node, gives-ranged, goes-after}
use Rattle.cmark_block_walk.proofs.walk.Walk.pass_marker.Goals as goal

pub item-item-requires : goal.item-item-requires
item-item-requires c = focus-node c.args.self.now c.args.ix c.requires.at

pub returns-in-Some-clause-given : goal.returns-in-Some-clause-given
returns-in-Some-clause-given c left r =
    gives-ranged (text_event.Start text_tag.DefinitionList) c.in-Some.list.start c.in-Some.list.end c.begun.result left _ c.begun.ensures.value
    (enters-listed c.args.self.now c.item-item.result.now c.args.ix c.next_sibling.new.self c.requires.at.1 c.item-item.ensures c.requires.before c.args.is_checked
    (item-task c.args.self.now c.item-item.result.now c.args.ix c.args.is_checked c.requires.at c.item-item.ensures c.requires.task) c.next_sibling.ensures.past
    c.in-Some.list (subst (IsListAfter c.args.self.now c.args.ix) c.in-Some.is c.definitions_after.ensures) left r)

pub returns-in-Some-clause-goes_on : goal.returns-in-Some-clause-goes_on
returns-in-Some-clause-goes_on c = record {
  goes = goes-after c.requires.at.0.0 _ _
      (enters-listed c.args.self.now c.item-item.result.now c.args.ix c.next_sibling.new.self c.requires.at.1 c.item-item.ensures c.requires.before c.args.is_checked
      (item-task c.args.self.now c.item-item.result.now c.args.ix c.args.is_checked c.requires.at c.item-item.ensures c.requires.task) c.next_sibling.ensures.past
      c.in-Some.list (subst (IsListAfter c.args.self.now c.args.ix) c.in-Some.is c.definitions_after.ensures) c.requires.at.0.0 c.requires.at.0.1);
  definitions = refl;
  text = refl;
}

pub pass_to_leaf-requires-clause-following : goal.pass_to_leaf-requires-clause-following
pass_to_leaf-requires-clause-following c = subst (IsLeafAfter c.args.self.now c.args.ix) c.in-Some-leaf_following.is c.leaf_following.ensures

pub returns-clause-given : goal.returns-clause-given
returns-clause-given c left r =
    gives-ranged (text_event.TaskListMarker c.args.is_checked) c.item-item.result.now.start c.item-item.result.now.end c.marker.result left _ c.marker.ensures.value
    (passes-marker c.args.self.now c.item-item.result.now c.args.ix c.next_sibling-2.new.self c.requires.at.1 c.item-item.ensures c.requires.before c.args.is_checked
    (item-task c.args.self.now c.item-item.result.now c.args.ix c.args.is_checked c.requires.at c.item-item.ensures c.requires.task) c.next_sibling-2.ensures.past
    (subst (IsLeafAfter c.args.self.now c.args.ix) c.in_default-leaf_following.is c.leaf_following.ensures) (subst (IsListAfter c.args.self.now c.args.ix) c.in_default.is c.definitions_after.ensures) left r)

pub returns-clause-goes_on : goal.returns-clause-goes_on
returns-clause-goes_on c = record {
  goes = goes-after c.requires.at.0.0 _ _
      (passes-marker c.args.self.now c.item-item.result.now c.args.ix c.next_sibling-2.new.self c.requires.at.1 c.item-item.ensures c.requires.before c.args.is_checked
      (item-task c.args.self.now c.item-item.result.now c.args.ix c.args.is_checked c.requires.at c.item-item.ensures c.requires.task) c.next_sibling-2.ensures.past
      (subst (IsLeafAfter c.args.self.now c.args.ix) c.in_default-leaf_following.is c.leaf_following.ensures) (subst (IsListAfter c.args.self.now c.args.ix) c.in_default.is c.definitions_after.ensures) c.requires.at.0.0 c.requires.at.0.1);
  definitions = refl;
  text = refl;
}
