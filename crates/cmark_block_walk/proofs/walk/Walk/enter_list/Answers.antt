use Rattle.std.proofs.Common.{refl, subst}
use Rattle.cmark_text.specs.declared.event.Event.TheVariants as text_event
use Rattle.cmark_text.specs.declared.event.Tag.TheVariants as text_tag
use Rattle.cmark_block_walk.specs.Walking.{IsTitleIn}
use Rattle.cmark_block_walk.proofs.EndSteps.{listed-otherwise}
use Rattle.cmark_block_walk.proofs.ListSteps.{enters-titled, enters-untitled, here-focus}
use Rattle.cmark_block_walk.proofs.WalkSteps.{gives-ranged, goes-after, on-err, unchanged-remains}
use Rattle.cmark_block_walk.proofs.walk.Walk.enter_list.Goals as goal

pub push-requires : goal.push-requires
push-requires c = ∣ here-focus c.args.self.now c.args.ix c.requires.at.1 c.requires.at.0 ∣₁

pub returns-in-Some-clause-given : goal.returns-in-Some-clause-given
returns-in-Some-clause-given c left r =
    gives-ranged (text_event.Start text_tag.DefinitionListTitle) c.in-Some.title.start c.in-Some.title.end c.begun.result left _ c.begun.ensures.value
    (enters-titled c.args.self.now c.args.ix c.requires.at.1 c.push.new.self c.in_ok-push.ensures.ok c.args.is_checked c.args.start c.args.end c.requires.listed
    c.in-Some.title (subst (IsTitleIn c.args.self.now c.args.ix) c.in-Some.is c.title_in-title.ensures) left r)

pub returns-in-Some-clause-goes_on : goal.returns-in-Some-clause-goes_on
returns-in-Some-clause-goes_on c = record {
  goes = goes-after c.requires.at.0.0 _ _
      (enters-titled c.args.self.now c.args.ix c.requires.at.1 c.push.new.self c.in_ok-push.ensures.ok c.args.is_checked c.args.start c.args.end c.requires.listed
      c.in-Some.title (subst (IsTitleIn c.args.self.now c.args.ix) c.in-Some.is c.title_in-title.ensures) c.requires.at.0.0 c.requires.at.0.1);
  definitions = refl;
  text = refl;
}

pub returns-in-None-clause-given : goal.returns-in-None-clause-given
returns-in-None-clause-given c left r =
    gives-ranged (text_event.TaskListMarker c.args.is_checked) c.args.start c.args.end c.marker.result left _ c.marker.ensures.value
    (enters-untitled c.args.self.now c.args.ix c.requires.at.1 c.push.new.self c.in_ok-push.ensures.ok c.args.is_checked c.args.start c.args.end c.requires.listed
    (subst (IsTitleIn c.args.self.now c.args.ix) c.in-None.is c.title_in-title.ensures) left r)

pub returns-in-None-clause-goes_on : goal.returns-in-None-clause-goes_on
returns-in-None-clause-goes_on c = record {
  goes = goes-after c.requires.at.0.0 _ _
      (enters-untitled c.args.self.now c.args.ix c.requires.at.1 c.push.new.self c.in_ok-push.ensures.ok c.args.is_checked c.args.start c.args.end c.requires.listed
      (subst (IsTitleIn c.args.self.now c.args.ix) c.in-None.is c.title_in-title.ensures) c.requires.at.0.0 c.requires.at.0.1);
  definitions = refl;
  text = refl;
}

pub returns-in_err-push-clause-refused : goal.returns-in_err-push-clause-refused
returns-in_err-push-clause-refused c = on-err c.from_residual.result _ (record {
  remains = (λ left r. unchanged-remains c.args.self.now c.push.new.self c.in_err-push.ensures.err left r);
  no_end = (listed-otherwise c.args.self.now c.args.is_checked c.args.start c.args.end c.requires.listed);
})
