use Rattle.std.proofs.Common.{◌≡◌, inl, inr, Some, refl, sym, ap, ◌∙◌, subst, ℕ, length, rules, arith}
use Rattle.cmark_grammar.specs.InlineTokens.{item_at}
use Rattle.cmark_grammar.specs.Items.{Plain}
use Rattle.cmark_inline.specs.declared.state.InlineState.{InlineState}
use Rattle.cmark_inline.specs.Stands.{Stands}
use Rattle.cmark_inline.proofs.Appended.{at-byte, kept, owned-appends}
use Rattle.cmark_inline.proofs.MarkSteps.{many-hyphens, one-hyphen}
use Rattle.cmark_inline.proofs.Keeping.{keeps-owned, keeps-same}
use Rattle.std.proofs.lemmas.Result.{IfOk-weaker}
use Rattle.cmark_inline.proofs.LastCalls.{ok-by-three}
use Rattle.cmark_inline.proofs.state.InlineState.hyphens.Goals as goal

pub returns-then-size-lt2-clause-token : goal.returns-then-size-lt2-clause-token
returns-then-size-lt2-clause-token c = λ o l cell smart is.
    inl (record {
      token = one-hyphen o l cell c.args.text.now c.args.here.at c.requires.byte.within smart c.run_end-end.result _ is c.run_end-end.ensures.value refl c.run_end-end.ensures.further c.if-size-lt2.true ∙ ap (item_at Plain c.args.here.at) (sym c.pass.ensures.at);
      pending = c.pass.ensures.pending;
      same = refl;
    })

pub returns-clause-token : goal.returns-clause-token
returns-clause-token c = λ o l cell smart is. ok-by-three c.put.result _ _ _ _ c.put.ensures.at c.put.ensures.end c.put.ensures.slots (λ next at end slots.
    inr (owned-appends o l cell c.args.text.now c.args.here c.args.self.now c.put.new.self next _ c.run_end-end.result c.len.result c.in_ok-owned.owned c.requires.byte.cursor.ordered (at-byte c.args.text.now c.args.here 45 is refl refl refl)
    (many-hyphens o l cell c.args.text.now c.args.here.at c.requires.byte.within smart c.run_end-end.result _ is c.run_end-end.ensures.value refl c.if-size-lt2.false)
    at (end ∙ sym at) slots (ap (λ (s : InlineState). s.texts.items) c.put.ensures.others ∙ c.in_ok-push.ensures.items) (let q : c.len.result ≡ length c.args.self.now.texts.items = search rules in q)
    (c.in_ok-owned.ensures.value ∙ c.in_ok-dash_text.ensures) (kept c.args.self.now c.put.new.self _ c.put.ensures.others refl)))

pub returns-then-size-lt2-clause-reads_on : goal.returns-then-size-lt2-clause-reads_on
returns-then-size-lt2-clause-reads_on c = record {
  expansion_left = refl;
  steps = refl;
  keeps = keeps-same c.args.self.now;
  moves = record { stands = subst (λ (p : ℕ). Stands c.args.text.now p c.args.self.now) (sym c.pass.ensures.pending) c.requires.byte.stands; cursor = c.pass.ensures.cursor; further = c.pass.ensures.further };
}

pub returns-clause-reads_on : goal.returns-clause-reads_on
returns-clause-reads_on c = record {
  expansion_left = search rules;
  steps = search rules;
  keeps = IfOk-weaker c.put.result _ _ (λ _ slots. keeps-owned c.args.self.now (record c.args.self.now { texts = c.push.new.self }) c.put.new.self c.args.here.pending c.args.here.at _ slots c.in_ok-owned.owned c.in_ok-push.ensures.items c.put.ensures.others refl (ap Some (let q : c.len.result ≡ length c.args.self.now.texts.items = search rules in q)) refl refl (λ i. refl)) c.put.ensures.slots;
  moves = c.put.ensures.moves;
}

pub put-requires-clause-next : goal.put-requires-clause-next
put-requires-clause-next c = record {
  ordered = search rules;
  is = (let edge = c.run_end-end.ensures.boundary in
      record { part = record { some = c.run_end-end.ensures.further; within = edge.0; starts = c.requires.byte.cursor.at; ends = edge }; before = omega arith; content = tt });
  further = search rules;
  kind = search rules;
}
