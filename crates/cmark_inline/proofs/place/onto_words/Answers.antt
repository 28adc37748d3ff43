use Rattle.std.proofs.Common.{ℕ, ◌<◌, arith}
use Rattle.cmark_slots.specs.Slots.{bytes_of}
use Rattle.cmark_slots.specs.declared.bracket.Brackets.{Brackets}
use Rattle.cmark_slots.proofs.Steps.{Keeps, keeps-on}
use Rattle.cmark_inline.proofs.place.onto_words.Goals as goal

pub returns-clause-moves : goal.returns-clause-moves
returns-clause-moves c = λ from state m.
    let h = m.stands in
    let at : ℕ = c.args.next.pending in
    let line : ℕ = c.words_from-words.result in
    let v : Brackets = state.brackets in
    let w : Brackets = state.doubled in
    let n : ℕ = bytes_of state.delimiters.placed.items in
    let le = c.words_from-words.ensures.order in
    let k : Keeps c.args.text.now line state.slots.items v w n = keeps-on c.args.text.now at line state.slots.items v w n (record { slots = h.slots; brackets = h.brackets; few = h.few; free = h.free; doubled = h.doubled; doubled_free = h.doubled_free; runs = h.runs }) le in
    let e = c.requires.same in
    let f = m.further in
    record {
      stands = record { slots = k.slots; brackets = k.brackets; few = k.few; free = k.free; doubled = k.doubled; doubled_free = k.doubled_free; runs = k.runs; examined = (let x = h.examined in omega (arith, x, le)) };
      cursor = record { pending = c.words_from-words.ensures.boundary; at = c.words_from-words.ensures.boundary; ordered = omega arith };
      further = (let q : from < line = omega (arith, e, f, le) in q);
    }
