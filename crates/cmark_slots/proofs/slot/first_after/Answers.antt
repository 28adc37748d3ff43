use Rattle.std.proofs.Common.{◌≡◌, ◌⊎◌, inl, inr, ◌<◌, ◌≤◌, ◌+◌, ℕ, true, get_or, sym, ap, ◌∙◌, subst, arith}
use Rattle.std.proofs.lemmas.Bool.{cases_lt}
use Rattle.std.proofs.lemmas.List.{get_or_default}
use Rattle.cmark_slots.specs.Cuts.{ends_by}
use Rattle.cmark_slots.specs.declared.slot.Slot.{Slot as Slots}
use Rattle.cmark_slots.proofs.slot.first_after.Goals as goal

pub loop-at-preserved : goal.loop-at-preserved
loop-at-preserved c = record {
  order = let a = c.loop-at.invariant.order in omega (arith, a);
  within = let a = c.loop-at-test.true in omega (arith, a);
  before = λ k d a b. go k d a b (cases_lt k c.loop-at.at);
}
  where
    here : (d : Slots) → ends_by c.args.place (get_or c.args.slots.now c.loop-at.at d) ≡ true
    here d = ap (ends_by c.args.place) (get_or_default c.args.slots.now c.loop-at.at d _ c.loop-at-test.true) ∙ sym c.if-ends_by.ensures.value

    go : (k : ℕ) (d : Slots) → c.args.from ≤ k → k < c.loop-at.at + 1 → (k < c.loop-at.at) ⊎ (c.loop-at.at ≤ k) → ends_by c.args.place (get_or c.args.slots.now k d) ≡ true
    go k d a b (inl lt) = c.loop-at.invariant.before k d a lt
    go k d a b (inr le) = subst (λ j. ends_by c.args.place (get_or c.args.slots.now j d) ≡ true) (let q : c.loop-at.at ≡ k = omega (arith, le, b) in q) (here d)
