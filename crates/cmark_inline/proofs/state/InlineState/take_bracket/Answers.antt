use Rattle.std.specs.Prelude.{if◌then◌else◌, Some, None}
use Rattle.std.proofs.Common.{◌≡◌, length, sym, ap, subst, ◌∙◌, rules}
use Rattle.cmark_grammar.specs.OpenBrackets.{nearest}
use Rattle.cmark_inline.specs.BracketViews.{TakenAs}
use Rattle.cmark_inline.proofs.AfterSteps.{took, taken_if}
use Rattle.cmark_inline.specs.declared.state.InlineState.{InlineState}
use Rattle.cmark_slots.proofs.Opening.{is-taken, last-nearest, sound-taken}
use Rattle.cmark_inline.proofs.state.InlineState.take_bracket.Goals as goal

pub returns-in_err-bracket-clause-stands : goal.returns-in_err-bracket-clause-stands
returns-in_err-bracket-clause-stands c = record { slots = c.requires.stands.slots; brackets = c.take.ensures.brackets c.args.text.now c.args.at c.requires.stands.brackets; few = c.requires.stands.few; free = c.take.ensures.free c.args.self.now.slots.items c.requires.stands.free; doubled = c.requires.stands.doubled; doubled_free = c.requires.stands.doubled_free; runs = c.requires.stands.runs; examined = c.requires.stands.examined }

pub returns-then-forms-clause-stands : goal.returns-then-forms-clause-stands
returns-then-forms-clause-stands c = record { slots = c.requires.stands.slots; brackets = c.take.ensures.brackets c.args.text.now c.args.at c.requires.stands.brackets; few = c.requires.stands.few; free = c.take.ensures.free c.args.self.now.slots.items c.requires.stands.free; doubled = c.requires.stands.doubled; doubled_free = c.requires.stands.doubled_free; runs = c.requires.stands.runs; examined = c.requires.stands.examined }

pub returns-then-forms-clause-opening : goal.returns-then-forms-clause-opening
returns-then-forms-clause-opening c = record {
  bracket = (c.in_ok-bracket.ensures.bracket c.args.text.now c.args.at c.requires.stands.brackets);
  taken = (let old : InlineState = c.args.self.now in
      is-taken (length old.texts.items) (length old.links.items) old.slots.items old.delimiters.placed.items old.quotes.placed.items old.brackets.standing.items old.doubled.standing.items c.requires.sound c.in_ok-bracket.bracket c.take.new.self.standing.items (last-nearest old.brackets _ (sym c.take.ensures.value ∙ c.in_ok-bracket.was)) c.take.ensures.others);
  free = search rules;
}

pub returns-else-forms-clause-stands : goal.returns-else-forms-clause-stands
returns-else-forms-clause-stands c = record { slots = c.requires.stands.slots; brackets = c.take.ensures.brackets c.args.text.now c.args.at c.requires.stands.brackets; few = c.requires.stands.few; free = c.take.ensures.free c.args.self.now.slots.items c.requires.stands.free; doubled = c.requires.stands.doubled; doubled_free = c.requires.stands.doubled_free; runs = c.requires.stands.runs; examined = c.requires.stands.examined }

pub returns-in_err-bracket-clause-takes : goal.returns-in_err-bracket-clause-takes
returns-in_err-bracket-clause-takes c = λ wikilinks place openers bs h.
    let r = took wikilinks place c.args.at openers bs c.args.self.now.brackets c.take.new.self c.args.self.now.doubled h (record { others = c.take.ensures.others; inactive_below = c.take.ensures.inactive_below }) in
    let e = ap taken_if (sym c.take.ensures.value ∙ c.in_err-bracket.was) in
    (r.0, subst (TakenAs place bs (nearest openers)) (let q : taken_if _ ≡ c.from_residual.result = search (rules, e) in q) r.1)

pub returns-then-forms-clause-takes : goal.returns-then-forms-clause-takes
returns-then-forms-clause-takes c = λ wikilinks place openers bs h.
    let r = took wikilinks place c.args.at openers bs c.args.self.now.brackets c.take.new.self c.args.self.now.doubled h (record { others = c.take.ensures.others; inactive_below = c.take.ensures.inactive_below }) in
    (r.0, subst (TakenAs place bs (nearest openers)) (ap taken_if (sym c.take.ensures.value ∙ c.in_ok-bracket.was) ∙ ap (λ z. if z then Some c.in_ok-bracket.bracket else None) c.if-forms.true) r.1)

pub returns-else-forms-clause-takes : goal.returns-else-forms-clause-takes
returns-else-forms-clause-takes c = λ wikilinks place openers bs h.
    let r = took wikilinks place c.args.at openers bs c.args.self.now.brackets c.take.new.self c.args.self.now.doubled h (record { others = c.take.ensures.others; inactive_below = c.take.ensures.inactive_below }) in
    (r.0, subst (TakenAs place bs (nearest openers)) (ap taken_if (sym c.take.ensures.value ∙ c.in_ok-bracket.was) ∙ ap (λ z. if z then Some c.in_ok-bracket.bracket else None) c.if-forms.false) r.1)

pub returns-in_err-bracket-clause-sound : goal.returns-in_err-bracket-clause-sound
returns-in_err-bracket-clause-sound c =
    let old : InlineState = c.args.self.now in
    sound-taken (length old.texts.items) (length old.links.items) old.slots.items old.delimiters.placed.items old.quotes.placed.items old.brackets.standing.items old.doubled.standing.items c.requires.sound c.take.new.self.standing.items c.take.ensures.others

pub returns-then-forms-clause-sound : goal.returns-then-forms-clause-sound
returns-then-forms-clause-sound c =
    let old : InlineState = c.args.self.now in
    sound-taken (length old.texts.items) (length old.links.items) old.slots.items old.delimiters.placed.items old.quotes.placed.items old.brackets.standing.items old.doubled.standing.items c.requires.sound c.take.new.self.standing.items c.take.ensures.others

pub returns-else-forms-clause-sound : goal.returns-else-forms-clause-sound
returns-else-forms-clause-sound c =
    let old : InlineState = c.args.self.now in
    sound-taken (length old.texts.items) (length old.links.items) old.slots.items old.delimiters.placed.items old.quotes.placed.items old.brackets.standing.items old.doubled.standing.items c.requires.sound c.take.new.self.standing.items c.take.ensures.others
