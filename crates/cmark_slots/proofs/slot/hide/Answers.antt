use Rattle.std.proofs.Common.{◌≡◌, ◌<◌, ℕ, length, refl, subst, arith}
use Rattle.cmark_slots.specs.Cuts.{Hides}
use Rattle.cmark_slots.specs.declared.slot.Slot.{Slot}
use Rattle.cmark_slots.specs.declared.slot.SlotKind.TheVariants as kind
use Rattle.cmark_slots.proofs.Cutting.{hides-none, hides-more}
use Rattle.cmark_slots.proofs.slot.hide.Goals as goal

pub loop-at-init : goal.loop-at-init
loop-at-init c = record { order = omega arith; before = c.requires.ordered; hides = hides-none c.args.from c.args.slots.now.items; slots = λ text place h. h; links = λ from h. h }

pub loop-at-preserved : goal.loop-at-preserved
loop-at-preserved c =
    let i = c.loop-at.invariant in
    let lt = c.loop-at-test.true in
    let low = i.order in
    let w = c.requires.within in
    let n = i.hides.size in
    let d : Slot = record { kind = kind.Nothing; start = 0; end = 0 } in
    let there : c.loop-at.at < length c.loop-at.slots.items = omega (arith, lt, w, n) in
    record {
      order = omega (arith, low);
      before = omega (arith, lt);
      hides = hides-more c.args.from c.loop-at.at c.args.slots.now.items c.loop-at.slots.items c.use_up.new.slots.items d i.hides low there (c.use_up.ensures.hides d refl);
      slots = λ text place h. c.use_up.ensures.slots text place (i.slots text place h);
      links = λ from h. c.use_up.ensures.links from (i.links from h);
    }

pub returns-clause-hides : goal.returns-clause-hides
returns-clause-hides c =
    let i = c.loop-at.invariant in
    let past = c.loop-at-test.false in
    let high = i.before in
    subst (λ (n : ℕ). Hides c.args.from n c.args.slots.now.items c.loop-at.slots.items) (let q : c.loop-at.at ≡ c.args.to = omega (arith, past, high) in q) i.hides
