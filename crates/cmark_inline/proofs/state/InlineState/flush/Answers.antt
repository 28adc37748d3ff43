use Rattle.std.proofs.Common.{ℕ, arith}
use Rattle.cmark_slots.specs.Slots.{bytes_of}
use Rattle.cmark_slots.specs.declared.bracket.Brackets.{Brackets}
use Rattle.cmark_slots.proofs.Steps.{Keeps, keeps-text}
use Rattle.std.proofs.lemmas.Result.{IfOk-weaker}
use Rattle.cmark_inline.proofs.state.InlineState.flush.Goals as goal

pub returns-clause-stands : goal.returns-clause-stands
returns-clause-stands c = IfOk-weaker c.push_text.result _ _ (λ _ pushes.
    let h = c.requires.stands in
    let v : Brackets = c.args.self.now.brackets in
    let w : Brackets = c.args.self.now.doubled in
    let n : ℕ = bytes_of c.args.self.now.delimiters.placed.items in
    let k : Keeps c.args.text.now c.args.text_end c.push_text.new.slots.items v w n = keeps-text c.args.text.now c.args.here.pending c.args.text_end c.args.self.now.slots.items c.push_text.new.slots.items v w n (record { slots = h.slots; brackets = h.brackets; few = h.few; free = h.free; doubled = h.doubled; doubled_free = h.doubled_free; runs = h.runs }) c.requires.ordered c.requires.starts c.requires.stops pushes in
    record { slots = k.slots; brackets = k.brackets; few = k.few; free = k.free; doubled = k.doubled; doubled_free = k.doubled_free; runs = k.runs; examined = (let e = h.examined in let o = c.requires.ordered in omega (arith, e, o)) }) c.push_text.ensures.pushes
