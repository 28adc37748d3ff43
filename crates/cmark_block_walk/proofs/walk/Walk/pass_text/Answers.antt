use Rattle.std.proofs.Common.{refl, inl}
use Rattle.cmark_block_walk.specs.Walking.{tight_below}
use Rattle.cmark_block_walk.proofs.EndSteps.{before-otherwise, owns-otherwise}
use Rattle.cmark_block_walk.proofs.WalkSteps.{gives-ranged, goes-after, is-drawn, passes-alone-as}
use Rattle.cmark_block_walk.proofs.walk.Walk.pass_text.Goals as goal

pub synthesized-requires-clause-drawn : goal.synthesized-requires-clause-drawn
synthesized-requires-clause-drawn c = is-drawn c.args.self.now c.args.item c.args.ix c.requires.at.1 c.requires.item c.requires.at.0

pub returns-clause-given : goal.returns-clause-given
returns-clause-given c left r =
    gives-ranged c.in-Ok.event c.args.item.start c.args.item.end c.given.result left _ c.given.ensures.value
    (passes-alone-as c.args.self.now c.args.item c.args.ix c.next_sibling.new.self c.requires.at.1 c.requires.item c.requires.before _
    (λ z above node b d. c.in-Ok.ensures.value (tight_below above) node d) c.next_sibling.ensures.past left r)

pub returns-clause-goes_on : goal.returns-clause-goes_on
returns-clause-goes_on c = record {
  goes = goes-after c.requires.at.0.0 _ _
      (passes-alone-as c.args.self.now c.args.item c.args.ix c.next_sibling.new.self c.requires.at.1 c.requires.item c.requires.before _
      (λ z above node b d. c.in-Ok.ensures.value (tight_below above) node d) c.next_sibling.ensures.past c.requires.at.0.0 c.requires.at.0.1);
  definitions = refl;
  text = refl;
}

pub returns-in_default-clause-refused : goal.returns-in_default-clause-refused
returns-in_default-clause-refused c = record {
  remains = (λ left same. same);
  no_end = before-otherwise c.args.self.now c.args.item c.args.ix c.args.self.now.tree c.requires.at.1 c.requires.item c.requires.before (owns-otherwise c.args.self.now c.args.item (inl c.requires.synthesized));
}
