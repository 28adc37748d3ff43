use Rattle.std.specs.Prelude.{drop, is_some}
use Rattle.std.proofs.Common.{rules, ◌≡◌, ◌+◌, ℕ, List, inl, refl, sym, ap, subst, ◌∙◌, arith, true≢false}
use Rattle.cmark_grammar.specs.Autolinks.{autolink_in}
use Rattle.cmark_grammar.specs.InlineTokens.{item_at}
use Rattle.cmark_grammar.specs.Items.{Plain}
use Rattle.cmark_leaf_text.specs.Reads.{is_cell_of}
use Rattle.cmark_values.specs.Shown.{shown_options}
use Rattle.cmark_inline.specs.Tokens.{begins_at, opens_markup}
use Rattle.cmark_inline.proofs.AngleSteps.{less-plain}
use Rattle.std.proofs.lemmas.Str.{IsCharBoundary-after_ascii}
use Rattle.cmark_inline.specs.Stands.{Stands}
use Rattle.std.proofs.lemmas.Result.{IfOk-weaker}
use Rattle.cmark_inline.proofs.AngleMakes.{by-autolink, by-html, by-none}
use Rattle.cmark_inline.proofs.Keeping.{found-alone, keeps-autolink, keeps-puts, keeps-source, ended-puts}
use Rattle.cmark_inline.proofs.LastCalls.{ok-by-two, ok-by-three}
use Rattle.cmark_inline.proofs.LeastCounted.{always-ok}
use Rattle.cmark_inline.proofs.MarkupTokens.{no-slash-there}
use Rattle.cmark_inline.proofs.PaidSteps.{paid-on}
use Rattle.cmark_inline.proofs.SourceOrder.{found-ends}
use Rattle.cmark_inline.proofs.state.InlineState.less_than.Goals as goal

pub returns-in-Some-clause-token : goal.returns-in-Some-clause-token
returns-in-Some-clause-token c = λ l is. let o = shown_options c.args.options in ok-by-three c.autolink.result _ _ _ _ c.autolink.ensures.at c.autolink.ensures.slots c.autolink.ensures.link (λ next at slots link.
    by-autolink o l c.args.leaf.now c.args.here c.args.self.now c.autolink.new.self next c.args.text.now c.requires.text.same
    (c.requires.byte.cursor.ordered, c.requires.byte.within, is, sym c.if-is_followed_by.ensures.value) c.in-Some.end c.in-Some.ensures.value c.in-Some.ensures.whole at slots link c.autolink.ensures.others)

pub returns-in-Some-inline_html-clause-token : goal.returns-in-Some-inline_html-clause-token
returns-in-Some-inline_html-clause-token c = λ l is. let o = shown_options c.args.options in ok-by-two c.put_onto_words.result _ _ _ c.put_onto_words.ensures.at c.put_onto_words.ensures.slots (λ next at slots.
    by-html o l c.args.leaf.now c.args.here c.args.self.now c.put_onto_words.new.self next c.args.text.now c.requires.text.same
    (c.requires.byte.cursor.ordered, c.requires.byte.within, is, sym c.if-is_followed_by.ensures.value) c.in_default.ensures.value at.0 c.put_onto_words.ensures.others
    c.in-Some-inline_html.found c.in-Some-inline_html.ensures.is c.in-Some-inline_html.ensures.fits.part at.1 slots)

pub returns-clause-token : goal.returns-clause-token
returns-clause-token c = λ l is. let o = shown_options c.args.options in ok-by-three c.put.result _ _ _ _ c.put.ensures.end c.put.ensures.at c.put.ensures.slots (λ next end at slots.
    by-none o l c.args.leaf.now c.args.here c.args.self.now c.put.new.self next c.args.text.now c.requires.text.same
    (c.requires.byte.cursor.ordered, c.requires.byte.within, is, sym c.if-is_followed_by.ensures.value) c.in_default.ensures.value (end ∙ sym at) c.put.ensures.others
    (c.in_default-inline_html.ensures.none refl) c.following.result c.following.ensures.value at slots)

pub returns-in-Some-clause-reads_on : goal.returns-in-Some-clause-reads_on
returns-in-Some-clause-reads_on c = record {
  expansion_left = search rules;
  steps = search rules;
  sound = (λ h. ok-by-two c.autolink.result _ _ _ c.autolink.ensures.slots c.autolink.ensures.link (λ next slots link.
      (keeps-autolink c.args.self.now c.autolink.new.self c.args.here.pending c.args.here.at c.in-Some.end slots link.0 link.2 c.autolink.ensures.others).sound h));
  ends = (ok-by-two c.autolink.result _ _ _ c.autolink.ensures.slots c.autolink.ensures.link (λ next slots link.
      (keeps-autolink c.args.self.now c.autolink.new.self c.args.here.pending c.args.here.at c.in-Some.end slots link.0 link.2 c.autolink.ensures.others).ends c.args.leaf.now));
  moves = search rules;
}

pub returns-in-Some-inline_html-clause-reads_on : goal.returns-in-Some-inline_html-clause-reads_on
returns-in-Some-inline_html-clause-reads_on c = record {
  expansion_left = search rules;
  steps = search rules;
  sound = (λ h.
      let f = found-alone c.args.leaf.now c.args.here.at c.in-Some-inline_html.found c.in-Some-inline_html.ensures.is in
      IfOk-weaker c.put_onto_words.result _ _ (λ next slots. keeps-source c.args.self.now c.put_onto_words.new.self c.put_onto_words.ensures.others c.args.here.pending c.args.here.at _ slots f.0 f.1 f.2 h) c.put_onto_words.ensures.slots);
  ends = (let found = c.in-Some-inline_html.ensures in
      IfOk-weaker c.put_onto_words.result _ _ (λ next slots e. ended-puts c.args.leaf.now c.args.self.now.slots.items c.put_onto_words.new.self.slots.items c.args.here.pending c.args.here.at _ slots e (found-ends c.args.leaf.now c.args.here.at c.in-Some-inline_html.found found.is found.fits.edge)) c.put_onto_words.ensures.slots);
  moves = search rules;
}

pub returns-clause-reads_on : goal.returns-clause-reads_on
returns-clause-reads_on c = record {
  expansion_left = search rules;
  steps = search rules;
  sound = (λ h. IfOk-weaker c.put.result _ _ (λ next slots. (keeps-puts c.args.self.now c.put.new.self c.put.ensures.others c.args.here.pending c.args.here.at _ slots ((refl, refl, refl), λ i. refl)).sound h) c.put.ensures.slots);
  ends = (IfOk-weaker c.put.result _ _ (λ next slots. (keeps-puts c.args.self.now c.put.new.self c.put.ensures.others c.args.here.pending c.args.here.at _ slots ((refl, refl, refl), λ i. refl)).ends c.args.leaf.now) c.put.ensures.slots);
  moves = search rules;
}

pub returns-then-is_followed_by-clause-reads_on : goal.returns-then-is_followed_by-clause-reads_on
returns-then-is_followed_by-clause-reads_on c = record {
  expansion_left = search rules;
  steps = search rules;
  sound = search rules;
  ends = search rules;
  moves = (record { stands = subst (λ (p : ℕ). Stands c.args.text.now p c.args.self.now) (sym c.pass.ensures.pending) c.requires.byte.stands; cursor = c.pass.ensures.cursor; further = c.pass.ensures.further });
}

pub inline_html-requires : goal.inline_html-requires
inline_html-requires c =
    let edge = IsCharBoundary-after_ascii c.args.text.now c.args.here.at c.utf8.text c.requires.byte.within c.requires.byte.ascii in
    record { text = c.requires.text; part = record { some = omega arith; within = edge.0; starts = c.requires.byte.cursor.at; ends = edge }; sought = c.requires.sought }

pub returns-then-is_followed_by-clause-paid : goal.returns-then-is_followed_by-clause-paid
returns-then-is_followed_by-clause-paid c = let further = c.pass.ensures.further in paid-on c.args.leaf.now c.requires.text.read c.args.here.at c.pass.result.at c.args.unclosed.now (omega (arith, further)) c.requires.sought.paid

pub returns-in-Some-clause-paid : goal.returns-in-Some-clause-paid
returns-in-Some-clause-paid c = IfOk-weaker c.autolink.result _ _ (λ next m. let further = m.further in paid-on c.args.leaf.now c.requires.text.read c.args.here.at next.at c.args.unclosed.now (omega (arith, further)) c.requires.sought.paid) c.autolink.ensures.moves

pub returns-in-Some-inline_html-clause-paid : goal.returns-in-Some-inline_html-clause-paid
returns-in-Some-inline_html-clause-paid c = IfOk-weaker c.put_onto_words.result _ _ (λ next order.
    paid-on c.args.leaf.now c.requires.text.read c.in-Some-inline_html.found.end next.at c.inline_html.new.self order c.in-Some-inline_html.ensures.paid) c.put_onto_words.ensures.order

pub returns-then-is_followed_by-clause-token : goal.returns-then-is_followed_by-clause-token
returns-then-is_followed_by-clause-token c = λ l is.
    let o = shown_options c.args.options in
    let leaf = c.args.leaf.now in
    let at : ℕ = c.args.here.at in
    let slash = sym c.is_followed_by.ensures.value ∙ c.if-is_followed_by.true in
    inl (record {
      token = subst (λ (t : List ℕ). begins_at o l (is_cell_of leaf) t at ≡ item_at Plain at (at + 1)) c.requires.text.same (less-plain o l (is_cell_of leaf) c.args.text.now at c.requires.byte.within is slash) ∙ ap (item_at Plain at) (sym c.pass.ensures.at);
      pending = c.pass.ensures.pending;
      same = refl;
    })

pub returns-then-is_followed_by-clause-passes : goal.returns-then-is_followed_by-clause-passes
returns-then-is_followed_by-clause-passes c = record {
  grows = omega arith;
  markup = λ is none opens.
      (let slash = sym c.is_followed_by.ensures.value ∙ c.if-is_followed_by.true in
      let there = ap (λ (t : List ℕ). opens_markup (drop (c.args.here.at + 1) t)) c.requires.text.same ∙ opens in
      absurd (true≢false (sym slash ∙ no-slash-there (drop (c.args.here.at + 1) c.args.text.now) there)));
}

pub returns-in-Some-clause-passes : goal.returns-in-Some-clause-passes
returns-in-Some-clause-passes c = always-ok c.autolink.result (record {
  grows = omega arith;
  markup = λ is none opens.
      (let o = shown_options c.args.options in
      let link = c.in-Some.ensures.value ∙ ap (λ (t : List ℕ). autolink_in o.email_autolinks (drop (c.args.here.at + 1) t)) c.requires.text.same ∙ none in
      absurd (true≢false (ap is_some link)));
})

pub returns-in-Some-inline_html-clause-passes : goal.returns-in-Some-inline_html-clause-passes
returns-in-Some-inline_html-clause-passes c = always-ok c.put_onto_words.result (record {
  grows = c.in-Some-inline_html.ensures.searches.grows;
  markup = λ is none opens. c.in-Some-inline_html.ensures.searches.passes (ap (λ (t : List ℕ). opens_markup (drop (c.args.here.at + 1) t)) c.requires.text.same ∙ opens);
})

pub returns-clause-passes : goal.returns-clause-passes
returns-clause-passes c = always-ok c.put.result (record {
  grows = c.in_default-inline_html.ensures.searches.grows;
  markup = λ is none opens. c.in_default-inline_html.ensures.searches.passes (ap (λ (t : List ℕ). opens_markup (drop (c.args.here.at + 1) t)) c.requires.text.same ∙ opens);
})
