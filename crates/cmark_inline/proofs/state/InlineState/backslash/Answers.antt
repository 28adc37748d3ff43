use Rattle.std.proofs.Common.{◌≡◌, ◌+◌, ◌&&◌, inl, inr, ℕ, Bool, true, false, List, refl, sym, ap, ◌∙◌, arith, drop, eqb-true, rules, subst}
use Rattle.cmark_grammar.specs.CodeSpans.{backticks}
use Rattle.cmark_grammar.specs.InlineTokens.{item_at}
use Rattle.cmark_grammar.specs.Items.{Plain, Own}
use Rattle.cmark_grammar.specs.LabelsOverLines.{piped}
use Rattle.cmark_grammar.specs.Letters.{starts}
use Rattle.cmark_inline.specs.Stands.{Stands}
use Rattle.cmark_inline.proofs.Appended.{at-byte, own-appends, pipe-makes, slash-appends, slash-makes}
use Rattle.cmark_inline.proofs.TokenSteps.{line-at-slash, slash-lone, slash-stands}
use Rattle.cmark_inline.proofs.Keeping.{keeps-pending, keeps-puts, keeps-same}
use Rattle.std.proofs.lemmas.Result.{IfOk-weaker}
use Rattle.cmark_inline.proofs.LastCalls.{ok-by-two, ok-by-three}
use Rattle.cmark_inline.proofs.state.InlineState.backslash.Goals as goal
use Rattle.cmark_inline.proofs.state.InlineState.backslash.Goals.{else-is_cell-via-then-is_cell+else-is_pipe_escape, else-is_cell-via-else-is_cell}

pub returns-in-Some-clause-token : goal.returns-in-Some-clause-token
returns-in-Some-clause-token c = λ o l is. ok-by-two c.put_onto_words.result _ _ _ c.put_onto_words.ensures.at c.put_onto_words.ensures.slots (λ next at slots.
    inr (inl (slash-appends o l c.args.is_cell c.args.text.now c.args.here c.args.self.now c.put_onto_words.new.self next c.in-Some.found _
    c.requires.byte.cursor.ordered c.requires.byte.within is c.in-Some.ensures.value c.in-Some.ensures.places refl at.1 at.0 slots c.put_onto_words.ensures.others)))

pub returns-then-not-is_escape-clause-token : goal.returns-then-not-is_escape-clause-token
returns-then-not-is_escape-clause-token c = λ o l is.
    let text : List ℕ = c.args.text.now in
    let at : ℕ = c.args.here.at in
    inl (record {
      token = slash-stands o l c.args.is_cell text at c.requires.byte.within is (sym (c.in_default.ensures.value ∙ line-at-slash text at c.requires.byte.within is)) (sym c.if-not-is_escape.ensures.value) ∙ ap (item_at Plain at) (sym c.pass.ensures.at);
      pending = c.pass.ensures.pending;
      same = refl;
    })

pub returns-then-is_lone_backtick-clause-token : goal.returns-then-is_lone_backtick-clause-token
returns-then-is_lone_backtick-clause-token c = λ o l is.
    let text : List ℕ = c.args.text.now in
    let at : ℕ = c.args.here.at in
    let e = c.following-escaped.ensures.value in
    let f = c.following-end.ensures.value in
    let lone : backticks (drop c.following-escaped.result text) ≡ 1 = eqb-true (backticks (drop c.following-escaped.result text)) 1 (sym c.if-is_lone_backtick.ensures) in
    ok-by-three c.put.result _ _ _ _ c.put.ensures.at c.put.ensures.end c.put.ensures.slots (λ next there over slots.
    inr (inl (own-appends o l c.args.is_cell text c.args.here c.args.self.now c.put.new.self next c.following-escaped.result c.following-end.result c.requires.byte.cursor.ordered (at-byte text c.args.here 92 is refl refl refl)
    (slash-lone o l c.args.is_cell text at c.requires.byte.within is (sym (c.in_default.ensures.value ∙ line-at-slash text at c.requires.byte.within is)) (ap (λ (k : ℕ). backticks (drop k text)) (sym e) ∙ lone)
    ∙ ap (λ (s : ℕ). item_at Own s (at + 2)) (sym e) ∙ ap (item_at Own c.following-escaped.result) (let q : at + 2 ≡ c.following-end.result = omega (arith, e, f) in q))
    there (over ∙ sym there) slots c.put.ensures.others)))

pub returns-then-is_pipe_escape-clause-token : goal.returns-then-is_pipe_escape-clause-token
returns-then-is_pipe_escape-clause-token c = λ o l is.
    inr (inr (inr (pipe-makes o l c.args.is_cell c.args.text.now c.args.here c.args.self.now c.flush.new.self c.following-escaped.result c.following-end.result c.following.result c.requires.byte.within is c.in_default.ensures.value
    c.following-escaped.ensures.value c.following-end.ensures.value c.following.ensures.value c.if-is_cell.true (sym c.if-is_pipe_escape.ensures.value) c.in_ok-flush.ensures.slots c.in_ok-flush.ensures.others)))

either-way : (x : Bool) → (x && false) ≡ false
either-way true = refl
either-way false = refl

pub returns-clause-token : goal.returns-clause-token
returns-clause-token c = λ o l is.
    let rest : List ℕ = drop c.following-escaped.result c.args.text.now in
    let no-pipe : (c.args.is_cell && starts piped rest) ≡ false = elim c.else-is_cell.branch [
      | else-is_cell-via-then-is_cell+else-is_pipe_escape w ↦ ap (λ z. c.args.is_cell && z) (sym w.if-is_pipe_escape.ensures.value) ∙ either-way c.args.is_cell
      | else-is_cell-via-else-is_cell w ↦ ap (λ z. z && starts piped rest) w.if-is_cell.false
    ] in
    inr (inr (inl (slash-makes o l c.args.is_cell c.args.text.now c.args.here c.args.self.now c.flush.new.self c.following-escaped.result c.following-end.result c.requires.byte.within is c.in_default.ensures.value
    c.if-not-is_escape.ensures.value c.following-escaped.ensures.value c.following-end.ensures.value c.if-is_lone_backtick.ensures no-pipe c.in_ok-flush.ensures.slots c.in_ok-flush.ensures.others)))

pub returns-in-Some-clause-reads_on : goal.returns-in-Some-clause-reads_on
returns-in-Some-clause-reads_on c = record {
  expansion_left = search rules;
  steps = search rules;
  keeps = IfOk-weaker c.put_onto_words.result _ _ (λ _ slots. keeps-puts c.args.self.now c.put_onto_words.new.self c.put_onto_words.ensures.others c.args.here.pending c.args.here.at _ slots ((refl, refl, refl), λ i. refl)) c.put_onto_words.ensures.slots;
  moves = c.put_onto_words.ensures.moves;
}

pub returns-then-not-is_escape-clause-reads_on : goal.returns-then-not-is_escape-clause-reads_on
returns-then-not-is_escape-clause-reads_on c = record {
  expansion_left = refl;
  steps = refl;
  keeps = keeps-same c.args.self.now;
  moves = record { stands = subst (λ (p : ℕ). Stands c.args.text.now p c.args.self.now) (sym c.pass.ensures.pending) c.requires.byte.stands; cursor = c.pass.ensures.cursor; further = c.pass.ensures.further };
}

pub returns-then-is_lone_backtick-clause-reads_on : goal.returns-then-is_lone_backtick-clause-reads_on
returns-then-is_lone_backtick-clause-reads_on c = record {
  expansion_left = search rules;
  steps = search rules;
  keeps = IfOk-weaker c.put.result _ _ (λ _ slots. keeps-puts c.args.self.now c.put.new.self c.put.ensures.others c.args.here.pending c.args.here.at _ slots ((refl, refl, refl), λ i. refl)) c.put.ensures.slots;
  moves = c.put.ensures.moves;
}

pub returns-then-is_pipe_escape-clause-reads_on : goal.returns-then-is_pipe_escape-clause-reads_on
returns-then-is_pipe_escape-clause-reads_on c = record {
  expansion_left = c.in_ok-flush.ensures.expansion_left;
  steps = search rules;
  keeps = keeps-pending c.args.self.now c.flush.new.self c.in_ok-flush.ensures.others c.args.here.pending c.args.here.at c.in_ok-flush.ensures.slots;
  moves = search rules;
}

pub returns-clause-reads_on : goal.returns-clause-reads_on
returns-clause-reads_on c = record {
  expansion_left = c.in_ok-flush.ensures.expansion_left;
  steps = search rules;
  keeps = keeps-pending c.args.self.now c.flush.new.self c.in_ok-flush.ensures.others c.args.here.pending c.args.here.at c.in_ok-flush.ensures.slots;
  moves = search rules;
}
