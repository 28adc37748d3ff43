use Rattle.std.proofs.Common.{rules, ◌-◌, ℕ, List, sym, ap, subst, ◌∙◌, take, drop, refl}
use Rattle.cmark_grammar.specs.LineBreaks.{ends_with_two_spaces}
use Rattle.cmark_inline.specs.Stands.{Stands}
use Rattle.cmark_inline.proofs.Appended.{break-appends}
use Rattle.cmark_inline.proofs.Keeping.{break-alone, keeps-puts, keeps-same}
use Rattle.cmark_slots.specs.Standing.{StandsAlone}
use Rattle.cmark_slots.specs.declared.slot.Slot.{Slot}
use Rattle.std.proofs.lemmas.Result.{IfOk-weaker}
use Rattle.cmark_inline.proofs.LastCalls.{ok-by-two}
use Rattle.cmark_inline.proofs.state.InlineState.line_ending.Goals as goal

pub returns-clause-token : goal.returns-clause-token
returns-clause-token c = λ o l cell ends.
    let before = c.before_blanks-text_end.ensures in
    ok-by-two c.put_onto_words.result _ _ _ c.put_onto_words.ensures.at c.put_onto_words.ensures.slots (λ next at slots.
    break-appends o l cell c.args.text.now c.args.here c.args.self.now c.put_onto_words.new.self next c.before_blanks-text_end.result c.in-Some.found c.break_slot-slot.result c.ends_with_two_spaces-is_hard.result
    before.following before.before c.requires.byte.within before.first before.blanks ends c.in-Some.ensures.value c.in-Some.ensures.places
    (c.ends_with_two_spaces-is_hard.ensures ∙ ap (λ (bs : List ℕ). ends_with_two_spaces (take (c.args.here.at - c.before_blanks-text_end.result) (drop c.before_blanks-text_end.result bs))) c.as_bytes.ensures.value) c.break_slot-slot.ensures at.1 at.0 slots c.put_onto_words.ensures.others)

pub returns-in_default-clause-reads_on : goal.returns-in_default-clause-reads_on
returns-in_default-clause-reads_on c = record {
  expansion_left = refl;
  steps = refl;
  keeps = keeps-same c.args.self.now;
  moves = record { stands = subst (λ (p : ℕ). Stands c.args.text.now p c.args.self.now) (sym c.pass.ensures.pending) c.requires.byte.stands; cursor = c.pass.ensures.cursor; further = c.pass.ensures.further };
}

pub returns-clause-reads_on : goal.returns-clause-reads_on
returns-clause-reads_on c = record {
  expansion_left = search rules;
  steps = search rules;
  keeps = IfOk-weaker c.put_onto_words.result _ _ (λ _ slots. keeps-puts c.args.self.now c.put_onto_words.new.self c.put_onto_words.ensures.others c.args.here.pending c.before_blanks-text_end.result c.break_slot-slot.result slots (subst (λ (s : Slot). StandsAlone s.kind) (sym c.break_slot-slot.ensures) (break-alone c.ends_with_two_spaces-is_hard.result))) c.put_onto_words.ensures.slots;
  moves = c.put_onto_words.ensures.moves;
}
