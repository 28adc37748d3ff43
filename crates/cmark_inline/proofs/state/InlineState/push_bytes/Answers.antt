use Rattle.std.proofs.Common.{◌≡◌, ◌≤◌, ◌<◌, ◌+◌, ◌-◌, ◌++◌, ℕ, List, length, refl, ap, ◌∙◌, arith}
use Rattle.std.proofs.lemmas.List.{length_push}
use Rattle.cmark_slots.specs.declared.slot.Slot.{Slot}
use Rattle.cmark_inline.specs.declared.state.InlineState.{InlineState}
use Rattle.cmark_slots.specs.declared.slot.SlotKind.TheVariants as kind
use Rattle.cmark_slots.specs.Slots.{byte_slots}
use Rattle.cmark_inline.proofs.Appended.{push-byte}
use Rattle.cmark_slots.proofs.Steps.{after, byte-slot, no-new, slots-push}
use Rattle.cmark_inline.proofs.state.InlineState.push_bytes.Goals as goal

pub loop-at-preserved : goal.loop-at-preserved
loop-at-preserved c =
    let i = c.loop-at.invariant in
    let text : List ℕ = c.args.text.now in
    let at : ℕ = c.loop-at.at in
    let lt = c.loop-at-test.true in
    let b = i.following in
    let w = c.requires.part.within in
    let z = i.size in
    let within : at < length text = omega (arith, lt, w) in
    let small = c.requires.ascii at b lt in
    let slot : Slot = record { kind = kind.Text; start = at; end = at + 1 } in
    let ss : List Slot = c.loop-at.self.slots.items in
    let ts : List Slot = c.push_slot.new.slots.items in
    let e = c.in_ok-push_slot.ensures in
    let l = length_push ss slot in
    let m = ap length e in
    record {
      following = (let q : c.args.start ≤ at + 1 = omega (arith, b) in q);
      before = (let q : at + 1 ≤ c.args.end = omega (arith, lt) in q);
      place = after text at c.utf8.text within small;
      slots = slots-push text at (at + 1) ss ts slot i.slots (let q : at ≤ at + 1 = omega arith in q) (byte-slot text at i.place c.utf8.text within small) e;
      links = (λ from h. no-new ss ts slot refl e from (i.links from h));
      bytes = push-byte c.args.self.now.slots.items ss ts c.args.start at b i.bytes e;
      others = ap (λ (s : InlineState). record s { slots = c.push_slot.new.slots }) i.others;
      size = (let q : length ts ≡ length c.args.self.now.slots.items + (at + 1 - c.args.start) = omega (arith, l, m, z, b) in q);
    }

pub returns-clause-bytes : goal.returns-clause-bytes
returns-clause-bytes c =
    let i = c.loop-at.invariant in
    let past = c.loop-at-test.false in
    let before = i.before in
    i.bytes ∙ ap (λ (n : ℕ). c.args.self.now.slots.items ++ byte_slots c.args.start n) (let q : c.loop-at.at - c.args.start ≡ c.args.end - c.args.start = omega (arith, past, before) in q)
