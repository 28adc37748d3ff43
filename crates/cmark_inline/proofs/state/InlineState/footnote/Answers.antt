use Rattle.std.specs.Prelude.{IfSome, Option, Some, is_some}
use Rattle.std.proofs.Common.{rules, ◌≡◌, ◌+◌, Bool, refl, sym, ap, subst, ◌∙◌, arith, true≢false}
use Rattle.cmark_grammar.specs.BracketDecisions.{is_there}
use Rattle.cmark_grammar.specs.Labels.{normal_form}
use Rattle.cmark_leaf_text.specs.Reads.{is_cell_of}
use Rattle.cmark_values.specs.Shown.{shown_options, text_bytes}
use Rattle.cmark_values.specs.declared.text.CowStr.{CowStr}
use Rattle.cmark_slots.specs.declared.bracket.Bracket.{Bracket}
use Rattle.cmark_inline.specs.Closers.{LeavesFootnote}
use Rattle.cmark_inline.specs.Footnoted.{CountsOf, KeepsLabel, footnote_of, forms_footnote}
use Rattle.cmark_inline.specs.Hiding.{WritesReference}
use Rattle.cmark_inline.proofs.FootnoteSteps.{keeps-named, label-of-taken, writes-named}
use Rattle.cmark_inline.proofs.UsesCounted.{kept-rise}
use Rattle.cmark_inline.proofs.state.InlineState.footnote.Goals as goal

pub returns-in_default-2-clause-decides : goal.returns-in_default-2-clause-decides
returns-in_default-2-clause-decides c =
    let same = label-of-taken (shown_options c.args.options) (is_cell_of c.args.leaf.now) c.closes_label-closes_label.result (is_there c.args.close c.args.self.now.label_close) c.args.text.now c.args.close c.args.taken c.in-Some.bracket c.in-Some.is c.closes_label-closes_label.ensures in
    record {
      forms = (ap is_some (sym c.in_default-2.is) ∙ c.in_ok-name.ensures.forms ∙ ap (forms_footnote (shown_options c.args.options) c.args.footnotes.now) same);
      counts = (subst (λ l. CountsOf l c.args.footnotes.now c.referred_footnote.new.footnotes) same c.in_ok-name.ensures.counts);
      same = search rules;
    }

pub returns-in_default-2-clause-off : goal.returns-in_default-2-clause-off
returns-in_default-2-clause-off c = λ off. (refl, (c.in_ok-name.ensures.off off).0)

pub returns-clause-decides : goal.returns-clause-decides
returns-clause-decides c =
    let same = label-of-taken (shown_options c.args.options) (is_cell_of c.args.leaf.now) c.closes_label-closes_label.result (is_there c.args.close c.args.self.now.label_close) c.args.text.now c.args.close c.args.taken c.in-Some.bracket c.in-Some.is c.closes_label-closes_label.ensures in
    record {
      forms = (ap is_some (sym c.in-Some-2.is) ∙ c.in_ok-name.ensures.forms ∙ ap (forms_footnote (shown_options c.args.options) c.args.footnotes.now) same);
      counts = (subst (λ l. CountsOf l c.args.footnotes.now c.referred_footnote.new.footnotes) same c.in_ok-name.ensures.counts);
      same = search rules;
    }

pub returns-clause-off : goal.returns-clause-off
returns-clause-off c = λ off.
    let none = (c.in_ok-name.ensures.off off).1 in
    let some = c.in-Some-2.is in
    absurd (let z : ⊥ = cc in z)

pub returns-clause-goes_on : goal.returns-clause-goes_on
returns-clause-goes_on c = record {
  sound = c.in_ok-form_footnote.ensures.at.sound;
  ends = c.in_ok-form_footnote.ensures.ends;
  stands = λ none. absurd (true≢false (ap is_some none));
  moves = (let edge = c.requires.close.ends in
      record { stands = c.in_ok-form_footnote.ensures.at.stands; cursor = record { pending = edge; at = edge; ordered = omega arith }; further = omega arith });
}

pub returns-clause-forms : goal.returns-clause-forms
returns-clause-forms c =
    let closes : Bool = c.closes_label-closes_label.result in
    let label = footnote_of (shown_options c.args.options) (is_cell_of c.args.leaf.now) closes c.args.text.now c.args.close (Some c.in-Some.bracket) in
    let named = subst (λ (o : Option CowStr). IfSome o (λ name. IfSome label (λ l. text_bytes name ≡ normal_form l))) c.in-Some-2.is c.in_ok-name.ensures.name in
    record {
      pending = search rules;
      at = search rules;
      leaves = (subst (λ (t : Option Bracket). IfSome t (λ bracket. LeavesFootnote bracket.start c.args.self.now c.form_footnote.new.self)) (sym c.in-Some.is) c.in_ok-form_footnote.ensures.leaves);
      keeps = (let same = label-of-taken (shown_options c.args.options) (is_cell_of c.args.leaf.now) closes (is_there c.args.close c.args.self.now.label_close) c.args.text.now c.args.close c.args.taken c.in-Some.bracket c.in-Some.is c.closes_label-closes_label.ensures in
          subst (λ o. IfSome o (λ l. KeepsLabel l c.args.self.now.texts.items c.form_footnote.new.self.texts.items)) same
          (keeps-named label c.in-Some-2.name c.args.self.now.texts.items c.form_footnote.new.self.texts.items named c.in_ok-form_footnote.ensures.texts));
      writes = (let there : Bool = is_there c.args.close c.args.self.now.label_close in
          let same = label-of-taken (shown_options c.args.options) (is_cell_of c.args.leaf.now) closes there c.args.text.now c.args.close c.args.taken c.in-Some.bracket c.in-Some.is c.closes_label-closes_label.ensures in
          subst (λ (t : Option Bracket). IfSome t (λ bracket. IfSome (footnote_of (shown_options c.args.options) (is_cell_of c.args.leaf.now) there c.args.text.now c.args.close c.args.taken) (λ l. WritesReference bracket (normal_form l) (c.args.close + 1) c.args.self.now c.form_footnote.new.self))) (sym c.in-Some.is)
          (subst (λ o. IfSome o (λ l. WritesReference c.in-Some.bracket (normal_form l) (c.args.close + 1) c.args.self.now c.form_footnote.new.self)) same
          (writes-named label c.in-Some-2.name c.in-Some.bracket (c.args.close + 1) c.args.self.now c.form_footnote.new.self named c.in_ok-form_footnote.ensures.writes)));
    }

pub returns-in_default-clause-uses : goal.returns-in_default-clause-uses
returns-in_default-clause-uses c = record {
  footnotes = search rules;
  rise = (kept-rise 1 c.args.footnotes.now c.args.footnotes.now (λ folded. refl));
}
