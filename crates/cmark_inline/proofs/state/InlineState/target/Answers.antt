use Rattle.std.specs.Prelude.{Option, IfSome, option_map}
use Rattle.std.proofs.Common.{rules, ◌≡◌, ◌+◌, drop, refl, sym, ap, subst, ◌∙◌, arith}
use Rattle.std.proofs.lemmas.Bool.{ne_eqb}
use Rattle.cmark_grammar.specs.Tokens.{slice}
use Rattle.cmark_leaf_text.specs.Reads.{IsPart}
use Rattle.cmark_values.specs.Shown.{shown_options}
use Rattle.cmark_inline.specs.Linked.{left_after, reference_after, shown_link_reference, shown_target}
use Rattle.cmark_inline.specs.Stands.{IsLinkReference, IsTarget}
use Rattle.cmark_inline.specs.declared.reference.LinkReference.{LinkReference}
use Rattle.cmark_inline.specs.declared.link.Target.{Target}
use Rattle.cmark_inline.specs.declared.state.InlineState.{InlineState}
use Rattle.cmark_inline.proofs.LastCalls.{on-err}
use Rattle.cmark_inline.proofs.AsksSteps.{target-none}
use Rattle.cmark_inline.proofs.Keeping.{spans-both, spans-label}
use Rattle.cmark_inline.proofs.TargetMakes.{inline-decides, label-within, led-asks, led-decides, led-target, none-decides, spent-decides}
use Rattle.cmark_inline.proofs.state.InlineState.target.Goals as goal

pub returns-in-Some-clause-decides : goal.returns-in-Some-clause-decides
returns-in-Some-clause-decides g c =
    inline-decides g.F.BrokenLinkCallback.answers (shown_options c.args.reader.now.options) (g.E.EntityLookup.replacement c.args.reader.now.entities.now) c.args.reader.now.references.now c.args.leaf.now c.args.text.now c.requires.text.same c.args.bracket c.args.close c.args.self.now
    c.in-Some.target c.args.callback.now
    (subst (λ (o : Option Target). IfSome o (IsTarget c.args.text.now (c.args.close + 1))) c.in-Some.is c.in_ok-target.ensures.target).ends.0
    (subst (λ (o : Option Target). IfSome o (λ (t : Target). t.resume ≡ t.end)) c.in-Some.is c.in_ok-target.ensures.resume)
    (ap (option_map (shown_target c.args.text.now)) (sym c.in-Some.is) ∙ c.in_ok-target.ensures.value)

pub returns-in_default-link_reference_at-clause-decides : goal.returns-in_default-link_reference_at-clause-decides
returns-in_default-link_reference_at-clause-decides g c =
    none-decides g.F.BrokenLinkCallback.answers (shown_options c.args.reader.now.options) (g.E.EntityLookup.replacement c.args.reader.now.entities.now) c.args.reader.now.references.now c.args.leaf.now c.args.text.now c.requires.text.same c.args.bracket c.args.close c.args.self.now
    (ap (option_map (shown_target c.args.text.now)) (sym c.in_default.is) ∙ c.in_ok-target.ensures.value) c.requires.bracket.before c.args.callback.now
    (ap (option_map (shown_link_reference c.args.text.now)) (sym c.in_default-link_reference_at.is) ∙ c.link_reference_at.ensures.value
    ∙ ap (λ z. reference_after (shown_options c.args.reader.now.options) z (slice c.args.text.now c.args.bracket.inside c.args.close) (drop (c.args.close + 1) c.args.text.now)) c.closes_label-closes_label.ensures)

pub returns-then-self-eq0-clause-decides : goal.returns-then-self-eq0-clause-decides
returns-then-self-eq0-clause-decides g c =
    let link_reference = subst (λ (o : Option LinkReference). IfSome o (IsLinkReference c.args.text.now c.args.close)) c.in-Some-link_reference_at.is c.link_reference_at.ensures.ends in
    let same = ap (λ (s : InlineState). s.expansion_left) c.remember_label.ensures.others in
    spent-decides g.F.BrokenLinkCallback.answers (shown_options c.args.reader.now.options) (g.E.EntityLookup.replacement c.args.reader.now.entities.now) c.args.reader.now.references.now c.args.leaf.now c.args.text.now c.requires.text.same c.args.bracket c.args.close c.args.self.now
    (ap (option_map (shown_target c.args.text.now)) (sym c.in_default.is) ∙ c.in_ok-target.ensures.value) c.requires.bracket.before
    c.in-Some-link_reference_at.link_reference link_reference.ends.0 link_reference.resume.0
    (ap (option_map (shown_link_reference c.args.text.now)) (sym c.in-Some-link_reference_at.is) ∙ c.link_reference_at.ensures.value
    ∙ ap (λ z. reference_after (shown_options c.args.reader.now.options) z (slice c.args.text.now c.args.bracket.inside c.args.close) (drop (c.args.close + 1) c.args.text.now)) c.closes_label-closes_label.ensures)
    c.remember_label.new.self c.remember_label.ensures.label c.args.callback.now (sym same ∙ c.if-self-eq0.true) same

pub returns-clause-decides : goal.returns-clause-decides
returns-clause-decides g c =
    let link_reference = subst (λ (o : Option LinkReference). IfSome o (IsLinkReference c.args.text.now c.args.close)) c.in-Some-link_reference_at.is c.link_reference_at.ensures.ends in
    let same = ap (λ (s : InlineState). s.expansion_left) c.remember_label.ensures.others in
    let some = c.if-self-eq0.false in
    led-decides g.F.BrokenLinkCallback.answers (shown_options c.args.reader.now.options) (g.E.EntityLookup.replacement c.args.reader.now.entities.now) c.args.reader.now.references.now c.args.leaf.now c.args.text.now c.requires.text.same c.args.bracket c.args.close c.args.self.now
    (ap (option_map (shown_target c.args.text.now)) (sym c.in_default.is) ∙ c.in_ok-target.ensures.value) c.requires.bracket.before
    c.in-Some-link_reference_at.link_reference link_reference.ends.0 link_reference.resume.0
    (ap (option_map (shown_link_reference c.args.text.now)) (sym c.in-Some-link_reference_at.is) ∙ c.link_reference_at.ensures.value
    ∙ ap (λ z. reference_after (shown_options c.args.reader.now.options) z (slice c.args.text.now c.args.bracket.inside c.args.close) (drop (c.args.close + 1) c.args.text.now)) c.closes_label-closes_label.ensures)
    c.reference.new.self (ap (λ (s : InlineState). s.label_close) c.reference.ensures.others ∙ c.remember_label.ensures.label) c.args.callback.now c.reference.new.callback c.in_ok-found.found
    (ne_eqb c.args.self.now.expansion_left 0 (λ e. some (same ∙ e)))
    c.in_ok-found.ensures.refers
    (c.in_ok-found.ensures.expansion_left ∙ ap (λ n. left_after n c.in_ok-found.found) same)
    (λ t e. subst (λ (o : Option Target). IfSome o (λ (t : Target). (t.end ≡ c.in-Some-link_reference_at.link_reference.end) × (t.resume ≡ c.in-Some-link_reference_at.link_reference.resume))) e c.in_ok-found.ensures.target)

pub returns-clause-label : goal.returns-clause-label
returns-clause-label g c = λ w.
    let link_reference = subst (λ (o : Option LinkReference). IfSome o (IsLinkReference c.args.text.now c.args.close)) c.in-Some-link_reference_at.is c.link_reference_at.ensures.ends in
    label-within c.args.text.now c.in-Some-link_reference_at.link_reference c.args.self.now.label_close c.reference.new.self.label_close link_reference.ends.0 (ap (λ (s : InlineState). s.label_close) c.reference.ensures.others ∙ c.remember_label.ensures.label) w

pub returns-clause-others : goal.returns-clause-others
returns-clause-others g c = spans-both c.args.self.now c.remember_label.new.self c.reference.new.self c.remember_label.ensures.others c.reference.ensures.others

pub reference-requires : goal.reference-requires
reference-requires g c =
    let link_reference = subst (λ (o : Option LinkReference). IfSome o (IsLinkReference c.args.text.now c.args.close)) c.in-Some-link_reference_at.is c.link_reference_at.ensures.ends in
    let opens = c.requires.bracket.part.some in
    let before = c.requires.bracket.before in
    let following = link_reference.following in
    let part : IsPart c.args.text.now c.args.bracket.start c.in-Some-link_reference_at.link_reference.end = record { some = omega (arith, opens, before, following); within = link_reference.ends.0; starts = c.requires.bracket.part.starts; ends = link_reference.ends } in
    λ k. ((refl, tt), (part, (c.requires.text, c.requires.ready)))

pub returns-in-Some-clause-target : goal.returns-in-Some-clause-target
returns-in-Some-clause-target g c =
    let target = subst (λ (o : Option Target). IfSome o (IsTarget c.args.text.now (c.args.close + 1))) c.in-Some.is c.in_ok-target.ensures.target in
    let following = target.following in
    record { following = omega (arith, following); ordered = target.ordered; ends = target.ends; resume = target.resume }

pub returns-clause-target : goal.returns-clause-target
returns-clause-target g c =
    let link_reference = subst (λ (o : Option LinkReference). IfSome o (IsLinkReference c.args.text.now c.args.close)) c.in-Some-link_reference_at.is c.link_reference_at.ensures.ends in
    led-target c.args.text.now c.args.close c.in-Some-link_reference_at.link_reference c.in_ok-found.found link_reference c.in_ok-found.ensures.target

pub returns-in_err-found-clause-asks : goal.returns-in_err-found-clause-asks
returns-in_err-found-clause-asks g c = record {
  ready = search rules;
  asks = search rules;
  spent = (λ none. absurd (c.if-self-eq0.false (ap (λ (s : InlineState). s.expansion_left) c.remember_label.ensures.others ∙ none)));
}

pub returns-clause-asks : goal.returns-clause-asks
returns-clause-asks g c = record {
  ready = search rules;
  asks = search rules;
  spent = (λ none. absurd (c.if-self-eq0.false (ap (λ (s : InlineState). s.expansion_left) c.remember_label.ensures.others ∙ none)));
}

pub returns-then-self-eq0-clause-asks : goal.returns-then-self-eq0-clause-asks
returns-then-self-eq0-clause-asks g c = record {
  ready = search rules;
  asks = search rules;
  spent = (λ none. (refl, ap (λ (s : InlineState). s.expansion_left) c.remember_label.ensures.others ∙ none));
}

pub returns-then-self-eq0-clause-label : goal.returns-then-self-eq0-clause-label
returns-then-self-eq0-clause-label g c = λ w.
    let link_reference = subst (λ (o : Option LinkReference). IfSome o (IsLinkReference c.args.text.now c.args.close)) c.in-Some-link_reference_at.is c.link_reference_at.ensures.ends in
    label-within c.args.text.now c.in-Some-link_reference_at.link_reference c.args.self.now.label_close c.remember_label.new.self.label_close link_reference.ends.0 c.remember_label.ensures.label w

pub returns-then-self-eq0-clause-others : goal.returns-then-self-eq0-clause-others
returns-then-self-eq0-clause-others g c = spans-label c.args.self.now c.remember_label.new.self c.remember_label.ensures.others

pub returns-in_err-found-clause-others : goal.returns-in_err-found-clause-others
returns-in_err-found-clause-others g c = spans-both c.args.self.now c.remember_label.new.self c.reference.new.self c.remember_label.ensures.others c.reference.ensures.others

pub returns-in_err-target-clause-stops : goal.returns-in_err-target-clause-stops
returns-in_err-target-clause-stops g c = on-err c.from_residual.result _
    (target-none g.F.BrokenLinkCallback.answers (shown_options c.args.reader.now.options) (g.E.EntityLookup.replacement c.args.reader.now.entities.now) c.args.reader.now.references.now c.args.leaf.now c.args.text.now c.args.close c.args.bracket c.args.self.now c.args.callback.now c.args.callback.now refl)

pub returns-in_err-found-clause-stops : goal.returns-in_err-found-clause-stops
returns-in_err-found-clause-stops g c = on-err c.from_residual-in_err-found.result _
    (let link_reference = subst (λ (o : Option LinkReference). IfSome o (IsLinkReference c.args.text.now c.args.close)) c.in-Some-link_reference_at.is c.link_reference_at.ensures.ends in
    let same = ap (λ (s : InlineState). s.expansion_left) c.remember_label.ensures.others in
    let some = c.if-self-eq0.false in
    led-asks g.F.BrokenLinkCallback.answers (shown_options c.args.reader.now.options) (g.E.EntityLookup.replacement c.args.reader.now.entities.now) c.args.reader.now.references.now c.args.leaf.now c.args.text.now c.requires.text.same c.args.bracket c.args.close c.args.self.now
    (ap (option_map (shown_target c.args.text.now)) (sym c.in_default.is) ∙ c.in_ok-target.ensures.value) c.requires.bracket.before
    c.in-Some-link_reference_at.link_reference link_reference.ends.0 link_reference.resume.0
    (ap (option_map (shown_link_reference c.args.text.now)) (sym c.in-Some-link_reference_at.is) ∙ c.link_reference_at.ensures.value
    ∙ ap (λ z. reference_after (shown_options c.args.reader.now.options) z (slice c.args.text.now c.args.bracket.inside c.args.close) (drop (c.args.close + 1) c.args.text.now)) c.closes_label-closes_label.ensures)
    c.args.callback.now c.reference.new.callback
    (ne_eqb c.args.self.now.expansion_left 0 (λ e. some (same ∙ e)))
    c.in_err-found.ensures.stops)
