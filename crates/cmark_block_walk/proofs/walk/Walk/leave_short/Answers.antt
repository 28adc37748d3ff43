use Rattle.std.proofs.Common.{refl, sym, ap, ◌∙◌, option_map}
use Rattle.cmark_text.specs.Shown.{shown_end}
use Rattle.cmark_block_walk.proofs.WalkSteps.{goes-after}
use Rattle.cmark_block_walk.proofs.LeaveSteps.{parent-below, parent-number, leaves-over, leaves-some, never-none}
use Rattle.cmark_block_walk.proofs.walk.Walk.leave_short.Goals as goal

pub item-item-requires : goal.item-item-requires
item-item-requires c = parent-number c.args.self.now c.in-Some.ix c.pop.new.self c.requires.1 c.in-Some.ensures.result c.in-Some.ensures.popped c.requires.0

pub end-end-requires : goal.end-end-requires
end-end-requires c = record { below = parent-below c.args.self.now c.in-Some.ix c.pop.new.self c.requires.1 c.in-Some.ensures.result c.in-Some.ensures.popped c.requires.0 }

pub returns-clause-given : goal.returns-clause-given
returns-clause-given c = λ lines. record {
  gives = (leaves-some c.args.self.now c.in-Some.ix c.pop.new.self c.requires.1 c.in-Some.ensures.result c.in-Some.ensures.popped c.item-item.result.now c.next_sibling.new.self c.item-item.ensures c.next_sibling.ensures.past
      c.in-Some-end.end (λ z above node b d. ap (option_map shown_end) (sym c.in-Some-end.is) ∙ c.end-end.ensures z above node b d));
  lent = tt;
}

pub returns-clause-goes_on : goal.returns-clause-goes_on
returns-clause-goes_on c = record {
  goes = goes-after c.requires.0.0 _ _ ((leaves-some c.args.self.now c.in-Some.ix c.pop.new.self c.requires.1 c.in-Some.ensures.result c.in-Some.ensures.popped c.item-item.result.now c.next_sibling.new.self c.item-item.ensures c.next_sibling.ensures.past
      c.in-Some-end.end (λ z above node b d. ap (option_map shown_end) (sym c.in-Some-end.is) ∙ c.end-end.ensures z above node b d)) c.requires.0.0 c.requires.0.1);
  definitions = refl;
  text = refl;
}

pub unreachable-requires : goal.unreachable-requires
unreachable-requires c =
    never-none c.args.self.now c.in-Some.ix c.pop.new.self c.requires.1 c.in-Some.ensures.result c.in-Some.ensures.popped c.item-item.result.now c.next_sibling.new.self c.item-item.ensures c.next_sibling.ensures.past
    (λ z above node b d. ap (option_map shown_end) (sym c.in-None.is) ∙ c.end-end.ensures z above node b d) c.requires.0

pub returns-in_default-clause-given : goal.returns-in_default-clause-given
returns-in_default-clause-given c = λ lines left r. leaves-over c.args.self.now c.pop.new.self c.requires.1 c.in_default.ensures.result c.in_default.ensures.popped left r
