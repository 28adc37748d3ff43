use Rattle.std.proofs.Common.{◌≤◌, ℕ, List, ap, ◌∙◌, arith}
use Rattle.cmark_slots.proofs.Steps.{brackets-on, slots-on}
use Rattle.cmark_inline.specs.declared.state.InlineState.{InlineState}
use Rattle.cmark_inline.proofs.state.InlineState.put.Goals as goal

pub add-requires-clause-stands : goal.add-requires-clause-stands
add-requires-clause-stands c =
    let text : List ℕ = c.args.text.now in
    let end : ℕ = c.args.slot.end in
    let flushed : InlineState = c.flush.new.self in
    let s = c.in_ok-flush.ensures.stands in
    let few = s.few in
    let lt = c.requires.next.ordered in
    let le : c.args.text_end ≤ end = omega (arith, lt) in
    record {
      slots = slots-on text c.args.text_end end flushed.slots.items s.slots le;
      brackets = brackets-on text c.args.text_end end flushed.brackets.standing.items s.brackets le;
      few = omega (arith, few, le);
      free = s.free;
      doubled = brackets-on text c.args.text_end end flushed.doubled.standing.items s.doubled le;
      doubled_free = s.doubled_free;
      runs = s.runs;
      examined = (let e = s.examined in omega (arith, e, le));
    }

pub returns-clause-moves : goal.returns-clause-moves
returns-clause-moves c =
    let edge = c.requires.next.is.part.ends in
    record { stands = c.in_ok-add.ensures.stands; cursor = record { pending = edge; at = edge; ordered = omega arith }; further = c.requires.next.further }

pub returns-clause-others : goal.returns-clause-others
returns-clause-others c = c.add.ensures.others ∙ ap (λ (s : InlineState). record s { slots = c.add.new.self.slots }) c.flush.ensures.others
