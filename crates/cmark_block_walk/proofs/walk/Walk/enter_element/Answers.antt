use Rattle.std.proofs.Common.{refl, inr, sym, ◌∙◌}
use Rattle.cmark_text.specs.declared.event.Event.TheVariants as text_event
use Rattle.cmark_block_walk.proofs.EndSteps.{before-otherwise, owns-otherwise}
use Rattle.cmark_block_walk.proofs.WalkSteps.{gives-ranged, goes-after, is-drawn, has-focus, enters-around-as, enters-leaf-as, tag-around, unchanged-remains}
use Rattle.cmark_block_walk.proofs.walk.Walk.enter_element.Goals as goal

pub tag_with_texts-requires-clause-drawn : goal.tag_with_texts-requires-clause-drawn
tag_with_texts-requires-clause-drawn c = is-drawn c.args.self.now c.args.item c.args.ix c.requires.at.1 c.requires.item c.requires.at.0

pub push-requires : goal.push-requires
push-requires c = ∣ has-focus c.args.self.now c.args.item c.args.ix c.requires.at.1 c.requires.item c.requires.at.0 ∣₁

pub returns-then-is_leaf-clause-given : goal.returns-then-is_leaf-clause-given
returns-then-is_leaf-clause-given c left r =
    gives-ranged (text_event.Start c.in-Ok.tag) c.args.item.start c.args.item.end c.begun.result left _ c.begun.ensures.value
    (enters-leaf-as c.args.self.now c.args.item c.args.ix c.args.self.now.tree c.requires.at.1 c.requires.item c.requires.before _
    (λ z above node b d. tag-around _ _ (c.in-Ok.ensures z above node b d)) (λ text texts node d. sym c.if-is_leaf.true ∙ c.is_leaf.ensures text texts node d) left r)

pub returns-then-is_leaf-clause-goes_on : goal.returns-then-is_leaf-clause-goes_on
returns-then-is_leaf-clause-goes_on c = record {
  goes = goes-after c.requires.at.0.0 _ _
      (enters-leaf-as c.args.self.now c.args.item c.args.ix c.args.self.now.tree c.requires.at.1 c.requires.item c.requires.before _
      (λ z above node b d. tag-around _ _ (c.in-Ok.ensures z above node b d)) (λ text texts node d. sym c.if-is_leaf.true ∙ c.is_leaf.ensures text texts node d) c.requires.at.0.0 c.requires.at.0.1);
  definitions = refl;
  text = refl;
}

pub returns-in-Ok-push-clause-given : goal.returns-in-Ok-push-clause-given
returns-in-Ok-push-clause-given c left r =
    gives-ranged (text_event.Start c.in-Ok.tag) c.args.item.start c.args.item.end c.begun-in-Ok-push.result left _ c.begun-in-Ok-push.ensures.value
    (enters-around-as c.args.self.now c.args.item c.args.ix c.push.new.self c.requires.at.1 c.requires.item c.requires.before _
    (λ z above node b d. tag-around _ _ (c.in-Ok.ensures z above node b d)) (λ text texts node d. sym c.if-is_leaf.false ∙ c.is_leaf.ensures text texts node d) c.in-Ok-push.ensures.ok left r)

pub returns-in-Ok-push-clause-goes_on : goal.returns-in-Ok-push-clause-goes_on
returns-in-Ok-push-clause-goes_on c = record {
  goes = goes-after c.requires.at.0.0 _ _
      (enters-around-as c.args.self.now c.args.item c.args.ix c.push.new.self c.requires.at.1 c.requires.item c.requires.before _
      (λ z above node b d. tag-around _ _ (c.in-Ok.ensures z above node b d)) (λ text texts node d. sym c.if-is_leaf.false ∙ c.is_leaf.ensures text texts node d) c.in-Ok-push.ensures.ok c.requires.at.0.0 c.requires.at.0.1);
  definitions = refl;
  text = refl;
}

pub returns-in_default-clause-refused : goal.returns-in_default-clause-refused
returns-in_default-clause-refused c = record {
  remains = (λ left same. same);
  no_end = before-otherwise c.args.self.now c.args.item c.args.ix c.args.self.now.tree c.requires.at.1 c.requires.item c.requires.before (owns-otherwise c.args.self.now c.args.item (inr c.requires.texts));
}

pub returns-in-Err-clause-refused : goal.returns-in-Err-clause-refused
returns-in-Err-clause-refused c = record {
  remains = (λ left r. unchanged-remains c.args.self.now c.push.new.self c.in-Err.ensures.err left r);
  no_end = before-otherwise c.args.self.now c.args.item c.args.ix c.args.self.now.tree c.requires.at.1 c.requires.item c.requires.before (owns-otherwise c.args.self.now c.args.item (inr c.requires.texts));
}
