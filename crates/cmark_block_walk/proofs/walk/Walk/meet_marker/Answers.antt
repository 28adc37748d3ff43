use Rattle.std.proofs.Common.{refl}
use Rattle.cmark_text.specs.declared.event.Event.TheVariants as text_event
use Rattle.cmark_block_walk.proofs.MarkerSteps.{meets-marker}
use Rattle.cmark_block_walk.proofs.WalkSteps.{gives-ranged, goes-after}
use Rattle.cmark_block_walk.proofs.walk.Walk.meet_marker.Goals as goal

pub returns-clause-given : goal.returns-clause-given
returns-clause-given c left r = gives-ranged (text_event.TaskListMarker c.args.is_checked) c.args.start c.args.end c.marker.result left _ c.marker.ensures.value (meets-marker c.args.self.now c.args.is_checked c.args.start c.args.end c.requires.marked left r)

pub returns-clause-goes_on : goal.returns-clause-goes_on
returns-clause-goes_on c = record {
  goes = goes-after c.requires.goes.0 _ _ (meets-marker c.args.self.now c.args.is_checked c.args.start c.args.end c.requires.marked c.requires.goes.0 c.requires.goes.1);
  definitions = refl;
  text = refl;
}
