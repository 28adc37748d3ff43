use Rattle.std.proofs.Common.{rules, inl, inr, refl, sym, ap, ◌∙◌, drop, subst, ℕ}
use Rattle.cmark_grammar.specs.InlineTokens.{item_at}
use Rattle.cmark_grammar.specs.Items.{Plain}
use Rattle.cmark_inline.specs.Stands.{Stands}
use Rattle.cmark_inline.proofs.Appended.{at-byte, character-appends}
use Rattle.cmark_inline.proofs.MarkSteps.{ellipsis-begins, ellipsis-bytes, no-ellipsis}
use Rattle.cmark_inline.proofs.Keeping.{keeps-puts, keeps-same}
use Rattle.std.proofs.lemmas.Result.{IfOk-weaker}
use Rattle.cmark_inline.proofs.LastCalls.{ok-by-three}
use Rattle.cmark_inline.proofs.state.InlineState.dots.Goals as goal

pub returns-then-not-starts_with-clause-token : goal.returns-then-not-starts_with-clause-token
returns-then-not-starts_with-clause-token c = λ o l cell smart is.
    inl (record {
      token = no-ellipsis o l cell c.args.text.now c.args.here.at c.requires.byte.within smart is (λ rest e. c.if-not-starts_with.ensures.cases rest (c.range_from.ensures.value ∙ e)) ∙ ap (item_at Plain c.args.here.at) (sym c.pass.ensures.at);
      pending = c.pass.ensures.pending;
      same = refl;
    })

pub returns-clause-token : goal.returns-clause-token
returns-clause-token c = λ o l cell smart is.
    let cases = c.if-not-starts_with.ensures.cases in
    ok-by-three c.put.result _ _ _ _ c.put.ensures.at c.put.ensures.end c.put.ensures.slots (λ next at end slots.
    inr (character-appends o l cell c.args.text.now c.args.here c.args.self.now c.put.new.self next _ _ _ c.requires.byte.cursor.ordered (at-byte c.args.text.now c.args.here 46 is refl refl refl)
    (ellipsis-begins o l cell c.args.text.now c.args.here.at c.requires.byte.within smart (drop cases.0 c.range_from.result.now) is (sym c.range_from.ensures.value ∙ cases.1.1))
    at (end ∙ sym at) slots c.put.ensures.others ellipsis-bytes))

pub returns-then-not-starts_with-clause-reads_on : goal.returns-then-not-starts_with-clause-reads_on
returns-then-not-starts_with-clause-reads_on c = record {
  expansion_left = refl;
  steps = refl;
  keeps = keeps-same c.args.self.now;
  moves = record { stands = subst (λ (p : ℕ). Stands c.args.text.now p c.args.self.now) (sym c.pass.ensures.pending) c.requires.byte.stands; cursor = c.pass.ensures.cursor; further = c.pass.ensures.further };
}

pub returns-clause-reads_on : goal.returns-clause-reads_on
returns-clause-reads_on c = record {
  expansion_left = search rules;
  steps = search rules;
  keeps = IfOk-weaker c.put.result _ _ (λ _ slots. keeps-puts c.args.self.now c.put.new.self c.put.ensures.others c.args.here.pending c.args.here.at _ slots ((refl, refl, refl), λ i. refl)) c.put.ensures.slots;
  moves = c.put.ensures.moves;
}
