use Rattle.std.proofs.Common.{◌≡◌, ◌≤◌, ◌+◌, refl, ap, subst, ◌∙◌, arith}
use Rattle.cmark_slots.specs.MarkedSlots.{last_in}
use Rattle.cmark_slots.specs.Cuts.{Hides}
use Rattle.cmark_slots.specs.declared.slot.Slot.{Slot}
use Rattle.cmark_slots.proofs.Merging.{between-more, ends-by}
use Rattle.cmark_slots.proofs.Cutting.{hides-none}
use Rattle.cmark_slots.proofs.slot.use_up_between.Goals as goal

pub loop-at-init : goal.loop-at-init
loop-at-init c =
    let o = c.requires.ordered in
    ((λ text place h. h), refl, (λ from h. h), omega (arith, o), omega arith, hides-none (c.args.first + 1) c.args.slots.now.items)

pub loop-at-preserved : goal.loop-at-preserved
loop-at-preserved c =
    let i = c.loop-at.invariant in
    let lt = c.loop-at-test.true in
    let w = c.requires.within in
    let low = i.4 in
    let order = c.last_of-end.ensures.order in
    let reach = c.last_of-end.ensures.value ∙ ap (λ (s : Slot). last_in s.kind (c.loop-at.at + 1)) c.index.ensures in
    let by = ends-by c.args.first c.loop-at.at c.args.last c.last_of-end.result c.args.slots.now.items c.loop-at.slots.items c.index.result.now i.5 c.requires.whole low lt w c.requires.text reach in (
      (λ text place h. c.use_up.ensures.slots text place (i.0 text place h)),
      c.use_up.ensures.length ∙ i.1,
      (λ from h. c.use_up.ensures.links from (i.2 from h)),
      by,
      (let q : c.args.first ≤ c.last_of-end.result = omega (arith, low, order) in q),
      between-more c.args.first c.loop-at.at c.args.last c.last_of-end.result c.args.slots.now.items c.loop-at.slots.items c.index.result.now i.5 c.requires.whole low lt w
          c.use_up.new.slots.items reach order (c.use_up.ensures.hides c.index.result.now refl) by,
    )

pub returns-clause-hides : goal.returns-clause-hides
returns-clause-hides c =
    let i = c.loop-at.invariant in
    let past = c.loop-at-test.false in
    let high = i.3 in
    subst (λ n. Hides (c.args.first + 1) (n + 1) c.args.slots.now.items c.loop-at.slots.items) (let q : c.loop-at.at ≡ c.args.last = omega (arith, past, high) in q) i.5
