use Rattle.std.proofs.Common.{refl, sym, ap, ◌∙◌, subst}
use Rattle.cmark_block_walk.specs.Walking.{IsLongFrom, is_long}
use Rattle.cmark_block_walk.proofs.EndSteps.{around-otherwise, before-otherwise}
use Rattle.cmark_block_walk.proofs.ShortSteps.{enters-around-short, enters-leaf-short, goes-short, passes-short}
use Rattle.cmark_block_walk.proofs.WalkSteps.{focus-node, is-drawn, has-focus, enters-inside, on-err, unchanged-remains}
use Rattle.cmark_block_walk.proofs.walk.Walk.enter_short.Goals as goal

pub item-item-requires : goal.item-item-requires
item-item-requires c = focus-node c.args.self.now c.args.ix c.requires.at

pub glance-requires-clause-drawn : goal.glance-requires-clause-drawn
glance-requires-clause-drawn c = is-drawn c.args.self.now c.item-item.result.now c.args.ix c.requires.at.1 c.item-item.ensures c.requires.at.0

pub push-requires : goal.push-requires
push-requires c = ∣ has-focus c.args.self.now c.item-item.result.now c.args.ix c.requires.at.1 c.item-item.ensures c.requires.at.0 ∣₁

pub returns-then-is_leaf-clause-given : goal.returns-then-is_leaf-clause-given
returns-then-is_leaf-clause-given c = λ lines.
    (enters-leaf-short c.args.self.now c.item-item.result.now c.args.ix c.args.self.now.tree c.requires.at.1 c.item-item.ensures c.requires.before c.in-Around.tag c.in-Around.ensures.value
    (λ text texts node d. sym c.if-is_leaf.true ∙ c.is_leaf.ensures text texts node d))

pub returns-then-is_leaf-clause-goes_on : goal.returns-then-is_leaf-clause-goes_on
returns-then-is_leaf-clause-goes_on c = record {
  goes =
      (goes-short c.args.self.now _ _ _ _
      (enters-leaf-short c.args.self.now c.item-item.result.now c.args.ix c.args.self.now.tree c.requires.at.1 c.item-item.ensures c.requires.before c.in-Around.tag c.in-Around.ensures.value
      (λ text texts node d. sym c.if-is_leaf.true ∙ c.is_leaf.ensures text texts node d))
      c.requires.at.0);
  definitions = refl;
  text = refl;
}

pub returns-in_ok-push-in-Around-clause-given : goal.returns-in_ok-push-in-Around-clause-given
returns-in_ok-push-in-Around-clause-given c = λ lines.
    (enters-around-short c.args.self.now c.item-item.result.now c.args.ix c.push.new.self c.requires.at.1 c.item-item.ensures c.requires.before c.in-Around.tag c.in-Around.ensures.value
    (λ text texts node d. sym c.if-is_leaf.false ∙ c.is_leaf.ensures text texts node d) c.in_ok-push-in-Around.ensures.ok)

pub returns-in_ok-push-in-Around-clause-goes_on : goal.returns-in_ok-push-in-Around-clause-goes_on
returns-in_ok-push-in-Around-clause-goes_on c = record {
  goes =
      (goes-short c.args.self.now _ _ _ _
      (enters-around-short c.args.self.now c.item-item.result.now c.args.ix c.push.new.self c.requires.at.1 c.item-item.ensures c.requires.before c.in-Around.tag c.in-Around.ensures.value
      (λ text texts node d. sym c.if-is_leaf.false ∙ c.is_leaf.ensures text texts node d) c.in_ok-push-in-Around.ensures.ok)
      c.requires.at.0);
  definitions = refl;
  text = refl;
}

pub returns-in-Alone-clause-given : goal.returns-in-Alone-clause-given
returns-in-Alone-clause-given c = λ lines.
    (passes-short c.args.self.now c.item-item.result.now c.args.ix c.next_sibling.new.self c.requires.at.1 c.item-item.ensures c.requires.before c.in-Alone.short c.in-Alone.ensures.value c.next_sibling.ensures.past c.in-Alone.ensures.lent)

pub returns-in-Alone-clause-goes_on : goal.returns-in-Alone-clause-goes_on
returns-in-Alone-clause-goes_on c = record {
  goes =
      (goes-short c.args.self.now _ _ _ _
      (passes-short c.args.self.now c.item-item.result.now c.args.ix c.next_sibling.new.self c.requires.at.1 c.item-item.ensures c.requires.before c.in-Alone.short c.in-Alone.ensures.value c.next_sibling.ensures.past c.in-Alone.ensures.lent)
      c.requires.at.0);
  definitions = refl;
  text = refl;
}

pub returns-in-Inside-clause-given : goal.returns-in-Inside-clause-given
returns-in-Inside-clause-given c = λ lines left r. enters-inside c.args.self.now c.item-item.result.now c.args.ix c.args.self.now.tree c.requires.at.1 c.item-item.ensures c.requires.before c.in-Inside.ensures.value left r

pub returns-in-Inside-clause-goes_on : goal.returns-in-Inside-clause-goes_on
returns-in-Inside-clause-goes_on c = record {
  goes =
      ((c.requires.at.0.0, enters-inside c.args.self.now c.item-item.result.now c.args.ix c.args.self.now.tree c.requires.at.1 c.item-item.ensures c.requires.before c.in-Inside.ensures.value c.requires.at.0.0 c.requires.at.0.1));
  definitions = refl;
  text = refl;
}

pub returns-in_err-push-in-Around-clause-refused : goal.returns-in_err-push-in-Around-clause-refused
returns-in_err-push-in-Around-clause-refused c = on-err c.from_residual.result _ (record {
  remains = (λ left r. unchanged-remains c.args.self.now c.push.new.self c.in_err-push-in-Around.ensures.err left r);
  no_end = (before-otherwise c.args.self.now c.item-item.result.now c.args.ix c.args.self.now.tree c.requires.at.1 c.item-item.ensures c.requires.before
      (around-otherwise c.args.self.now c.item-item.result.now _ c.in-Around.ensures.value));
})

pub returns-in-Long-clause-given : goal.returns-in-Long-clause-given
returns-in-Long-clause-given c = λ lines. (
  λ left r. r,
  (
    c.args.ix,
    record {
      at = c.requires.at;
      long = subst (λ s. IsLongFrom s c.args.self.now c.args.ix) (sym c.requires.before) (λ e has. ap (λ i. is_long i.body) (sym (c.item-item.ensures e has)) ∙ c.in-Long.ensures.long);
    },
  ),
)
