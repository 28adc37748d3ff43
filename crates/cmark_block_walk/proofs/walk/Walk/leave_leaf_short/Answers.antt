use Rattle.std.proofs.Common.{refl, sym, ap, ◌∙◌, option_map}
use Rattle.cmark_text.specs.Shown.{shown_end}
use Rattle.cmark_block_walk.proofs.WalkSteps.{focus-node, goes-after}
use Rattle.cmark_block_walk.proofs.LeafLeave.{ends-none, ends-some}
use Rattle.cmark_block_walk.proofs.walk.Walk.leave_leaf_short.Goals as goal

pub item-item-requires : goal.item-item-requires
item-item-requires c = focus-node c.args.self.now c.args.ix c.requires.at

pub returns-in-Some-clause-given : goal.returns-in-Some-clause-given
returns-in-Some-clause-given c = λ lines. record {
  gives = (ends-some c.args.self.now c.item-item.result.now c.args.ix c.requires.at.1 c.item-item.ensures c.next_sibling.new.self c.next_sibling.ensures.past c.requires.following
      c.in-Some.end (λ z above node b d. ap (option_map shown_end) (sym c.in-Some.is) ∙ c.end-end.ensures z above node b d));
  lent = tt;
}

pub returns-in-Some-clause-goes_on : goal.returns-in-Some-clause-goes_on
returns-in-Some-clause-goes_on c = record {
  goes = goes-after c.requires.at.0.0 _ _ ((ends-some c.args.self.now c.item-item.result.now c.args.ix c.requires.at.1 c.item-item.ensures c.next_sibling.new.self c.next_sibling.ensures.past c.requires.following
      c.in-Some.end (λ z above node b d. ap (option_map shown_end) (sym c.in-Some.is) ∙ c.end-end.ensures z above node b d)) c.requires.at.0.0 c.requires.at.0.1);
  definitions = refl;
  text = refl;
}

pub returns-in-None-clause-given : goal.returns-in-None-clause-given
returns-in-None-clause-given c = λ lines left r.
    ends-none c.args.self.now c.item-item.result.now c.args.ix c.requires.at.1 c.item-item.ensures c.next_sibling.new.self c.next_sibling.ensures.past c.requires.following
    (λ z above node b d. ap (option_map shown_end) (sym c.in-None.is) ∙ c.end-end.ensures z above node b d) left r

pub returns-in-None-clause-goes_on : goal.returns-in-None-clause-goes_on
returns-in-None-clause-goes_on c = record {
  goes =
      ((
        c.requires.at.0.0,
        ends-none c.args.self.now c.item-item.result.now c.args.ix c.requires.at.1 c.item-item.ensures c.next_sibling.new.self c.next_sibling.ensures.past c.requires.following
            (λ z above node b d. ap (option_map shown_end) (sym c.in-None.is) ∙ c.end-end.ensures z above node b d) c.requires.at.0.0 c.requires.at.0.1,
      ));
  definitions = refl;
  text = refl;
}
