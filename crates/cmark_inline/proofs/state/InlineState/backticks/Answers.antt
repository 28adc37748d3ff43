use Rattle.std.specs.Option.{IfSome}
use Rattle.std.specs.Prelude.{is_some, option_map}
use Rattle.std.specs.Str.{IsCharBoundary}
use Rattle.std.proofs.Common.{arith, rules, inl, ◌<◌, refl, sym, ap, subst, ◌∙◌, true≢false}
use Rattle.cmark_span_scan.specs.Shown.{shown_code, ClosesFirst, IsCodeAt}
use Rattle.cmark_inline.proofs.Appended.{code-appends, code-stops, ticks-make}
use Rattle.cmark_inline.proofs.Keeping.{keeps-puts}
use Rattle.std.proofs.lemmas.Result.{IfOk-weaker}
use Rattle.cmark_inline.proofs.LastCalls.{ok-by-three}
use Rattle.cmark_inline.proofs.state.InlineState.backticks.Goals as goal

pub returns-in-Some-clause-token : goal.returns-in-Some-clause-token
returns-in-Some-clause-token c = λ o l cell is. ok-by-three c.put.result _ _ _ _ c.put.ensures.at c.put.ensures.end c.put.ensures.slots (λ next at end slots.
    inl (code-appends o l cell c.args.text.now c.args.here c.args.self.now c.put.new.self next c.in-Some.span c.requires.byte.cursor.ordered c.requires.byte.within is
    (ap (option_map (shown_code c.args.text.now)) (sym c.in-Some.is) ∙ c.in_ok-span.ensures.value) (subst (λ r. IfSome r (IsCodeAt c.args.text.now c.args.here.at)) c.in-Some.is c.in_ok-span.ensures.places) (subst (λ r. IfSome r (ClosesFirst c.args.text.now c.args.here.at)) c.in-Some.is c.in_ok-span.ensures.first)
    at (end ∙ sym at) slots c.put.ensures.others))

pub returns-clause-token : goal.returns-clause-token
returns-clause-token c = λ o l cell is. ok-by-three c.put-2.result _ _ _ _ c.put-2.ensures.at c.put-2.ensures.end c.put-2.ensures.slots (λ next at end slots.
    ticks-make o l cell c.args.text.now c.args.here c.args.self.now c.put-2.new.self next c.text_start-start.result c.run_end.result c.requires.byte.cursor.ordered c.requires.byte.within is
    (ap (option_map (shown_code c.args.text.now)) (sym c.in_default.is) ∙ c.in_ok-span.ensures.value) c.run_end.ensures.value c.text_start-start.ensures.value c.text_start-start.ensures.escaped
    at (end ∙ sym at) slots c.put-2.ensures.others)

pub put-requires-clause-next : goal.put-requires-clause-next
put-requires-clause-next c =
    let text = c.args.text.now in
    let span = c.in-Some.span in
    let places : IsCodeAt text c.args.here.at span = subst (λ r. IfSome r (IsCodeAt text c.args.here.at)) c.in-Some.is c.in_ok-span.ensures.places in
    let first : ClosesFirst text c.args.here.at span = subst (λ r. IfSome r (ClosesFirst text c.args.here.at)) c.in-Some.is c.in_ok-span.ensures.first in
    record {
      ordered = search rules;
      is = (record { part = search rules; before = omega arith; content = (places.starts, subst (IsCharBoundary text) (sym (code-stops text c.args.here.at span places first)) places.stops) });
      further = search rules;
      kind = search rules;
    }

pub returns-in-Some-clause-reads_on : goal.returns-in-Some-clause-reads_on
returns-in-Some-clause-reads_on c = record {
  expansion_left = search rules;
  steps = search rules;
  keeps = IfOk-weaker c.put.result _ _ (λ _ slots. keeps-puts c.args.self.now c.put.new.self c.put.ensures.others c.args.here.pending c.args.here.at _ slots ((refl, refl, refl), λ i. refl)) c.put.ensures.slots;
  moves = c.put.ensures.moves;
}

pub returns-clause-reads_on : goal.returns-clause-reads_on
returns-clause-reads_on c = record {
  expansion_left = search rules;
  steps = search rules;
  keeps = IfOk-weaker c.put-2.result _ _ (λ _ slots. keeps-puts c.args.self.now c.put-2.new.self c.put-2.ensures.others c.args.here.pending c.text_start-start.result _ slots ((refl, refl, refl), λ i. refl)) c.put-2.ensures.slots;
  moves = c.put-2.ensures.moves;
}

pub returns-in-Some-clause-least : goal.returns-in-Some-clause-least
returns-in-Some-clause-least c = IfOk-weaker c.put.result _ _ (λ _ _ found. subst (λ r. IfSome r (λ span. c.args.runs.now.visited < c.code_span.new.self.visited)) c.in-Some.is c.in_ok-span.ensures.least) c.put.ensures.slots

pub returns-clause-least : goal.returns-clause-least
returns-clause-least c = IfOk-weaker c.put-2.result _ _ (λ _ _ found. absurd (true≢false (sym found ∙ ap is_some (sym (ap (option_map (shown_code c.args.text.now)) (sym c.in_default.is) ∙ c.in_ok-span.ensures.value))))) c.put-2.ensures.slots
