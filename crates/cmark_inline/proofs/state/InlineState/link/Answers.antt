use Rattle.std.proofs.Common.{rules, ◌∙◌, ap, arith, refl, subst, true≢false}
use Rattle.cmark_values.specs.Shown.{shown_options}
use Rattle.cmark_inline.proofs.LastCalls.{on-err}
use Rattle.cmark_inline.proofs.AsksSteps.{bracket-asks, decides-asks}
use Rattle.cmark_inline.proofs.CloserSteps.{links-none, links-some}
use Rattle.cmark_inline.specs.AtCloser.{CanLink}
use Rattle.std.specs.Prelude.{IfSome, Option, is_some}
use Rattle.cmark_inline.specs.Stands.{IsTarget}
use Rattle.cmark_inline.specs.declared.link.Target.{Target}
use Rattle.cmark_inline.proofs.Keeping.{spans-ended, spans-free, spans-same, spans-sound, spans-stand, spans-taken}
use Rattle.cmark_inline.specs.declared.state.InlineState.{InlineState}
use Rattle.cmark_inline.proofs.state.InlineState.link.Goals as goal

pub returns-in_default-2-clause-links : goal.returns-in_default-2-clause-links
returns-in_default-2-clause-links g c =
    links-none g.F.BrokenLinkCallback.answers (shown_options c.args.reader.now.options) (g.E.EntityLookup.replacement c.args.reader.now.entities.now) c.args.reader.now.references.now c.args.leaf.now c.args.text.now c.args.taken c.in-Some.bracket c.args.close c.args.self.now
    c.target.new.self c.in_ok-target.field-0 c.args.callback.now c.target.new.callback c.in-Some.is c.in_ok-target.ensures.decides (spans-same c.args.self.now c.target.new.self c.target.ensures.others) c.in_ok-target.ensures.label (ap (λ (s : InlineState). s.links) c.target.ensures.others) (ap (λ (s : InlineState). s.texts) c.target.ensures.others) (ap (λ (s : InlineState). s.quotes) c.target.ensures.others) c.in_default-2.is

pub returns-clause-links : goal.returns-clause-links
returns-clause-links g c =
    links-some g.F.BrokenLinkCallback.answers (shown_options c.args.reader.now.options) (g.E.EntityLookup.replacement c.args.reader.now.entities.now) c.args.reader.now.references.now c.args.leaf.now c.args.text.now c.args.taken c.in-Some.bracket c.args.close c.args.self.now
    c.target.new.self c.in_ok-target.field-0 c.args.callback.now c.target.new.callback c.in-Some.is c.in_ok-target.ensures.decides (spans-same c.args.self.now c.target.new.self c.target.ensures.others) c.in_ok-target.ensures.label (ap (λ (s : InlineState). s.links) c.target.ensures.others) (ap (λ (s : InlineState). s.texts) c.target.ensures.others) (ap (λ (s : InlineState). s.quotes) c.target.ensures.others)
    c.in-Some-2.target c.form.new.self _ c.in-Some-2.is
    (record { pending = refl; at = refl; leaves = c.in_ok-form.ensures.forms.leaves; links = c.in_ok-form.ensures.forms.kept; expansion_left = c.form.ensures.limits.expansion_left; label = c.form.ensures.limits.label_close; writes = c.in_ok-form.ensures.forms.writes })

pub form-requires-clause-at : goal.form-requires-clause-at
form-requires-clause-at g c = record {
  stands = (spans-stand c.args.self.now c.target.new.self c.target.ensures.others c.args.text.now c.args.close c.requires.at.stands);
  sound = (spans-sound c.args.self.now c.target.new.self c.target.ensures.others c.requires.at.sound);
}

pub form-requires-clause-target : goal.form-requires-clause-target
form-requires-clause-target g c = subst (λ (o : Option Target). IfSome o (IsTarget c.args.text.now c.args.close)) c.in-Some-2.is c.in_ok-target.ensures.target

pub returns-clause-asks : goal.returns-clause-asks
returns-clause-asks g c = record {
  ready = search rules;
  asks = search rules;
  spent = (λ none. let same = c.target.ensures.asks.spent none in (same.0, c.form.ensures.limits.expansion_left ∙ same.1));
}

pub returns-in_err-form-clause-asks : goal.returns-in_err-form-clause-asks
returns-in_err-form-clause-asks g c = record {
  ready = search rules;
  asks = search rules;
  spent = (λ none. let same = c.target.ensures.asks.spent none in (same.0, c.form.ensures.limits.expansion_left ∙ same.1));
}

pub returns-in_err-target-clause-stops : goal.returns-in_err-target-clause-stops
returns-in_err-target-clause-stops g c = on-err c.from_residual.result _
    (bracket-asks g.F.BrokenLinkCallback.answers (shown_options c.args.reader.now.options) (g.E.EntityLookup.replacement c.args.reader.now.entities.now) c.args.reader.now.references.now c.args.leaf.now c.args.text.now c.args.close c.args.taken c.in-Some.bracket c.args.self.now c.args.callback.now c.target.new.callback
    c.in-Some.is c.in_err-target.ensures.stops)

pub returns-in_err-form-clause-stops : goal.returns-in_err-form-clause-stops
returns-in_err-form-clause-stops g c = on-err c.from_residual-in_err-form.result _
    (bracket-asks g.F.BrokenLinkCallback.answers (shown_options c.args.reader.now.options) (g.E.EntityLookup.replacement c.args.reader.now.entities.now) c.args.reader.now.references.now c.args.leaf.now c.args.text.now c.args.close c.args.taken c.in-Some.bracket c.args.self.now c.args.callback.now c.target.new.callback
    c.in-Some.is
    (decides-asks g.F.BrokenLinkCallback.answers (shown_options c.args.reader.now.options) (g.E.EntityLookup.replacement c.args.reader.now.entities.now) c.args.reader.now.references.now c.args.leaf.now c.args.text.now c.args.close c.in-Some.bracket c.args.self.now
    c.target.new.self c.in_ok-target.field-0 c.args.callback.now c.target.new.callback c.in_ok-target.ensures.decides))

pub form-requires-clause-taken : goal.form-requires-clause-taken
form-requires-clause-taken g c =
    let opening = subst (λ o. IfSome o (CanLink c.args.text.now c.args.close c.args.self.now)) c.in-Some.is c.requires.opening in
    spans-taken c.args.self.now c.target.new.self c.target.ensures.others c.in-Some.bracket opening.taken

pub form-requires-clause-free : goal.form-requires-clause-free
form-requires-clause-free g c = λ plain.
    let opening = subst (λ o. IfSome o (CanLink c.args.text.now c.args.close c.args.self.now)) c.in-Some.is c.requires.opening in
    spans-free c.args.self.now c.target.new.self c.target.ensures.others c.in-Some.bracket.slot (opening.free plain)

pub returns-in_default-2-clause-goes_on : goal.returns-in_default-2-clause-goes_on
returns-in_default-2-clause-goes_on g c = record {
  sound = spans-sound c.args.self.now c.target.new.self c.target.ensures.others c.requires.at.sound;
  ends = spans-ended c.args.self.now c.target.new.self c.target.ensures.others;
  stands = λ none. spans-stand c.args.self.now c.target.new.self c.target.ensures.others c.args.text.now c.args.close c.requires.at.stands;
  moves = tt;
}

pub returns-clause-goes_on : goal.returns-clause-goes_on
returns-clause-goes_on g c =
    let target = subst (λ (o : Option Target). IfSome o (IsTarget c.args.text.now c.args.close)) c.in-Some-2.is c.in_ok-target.ensures.target in
    let following = target.following in
    let ordered = target.ordered in
    record {
      sound = c.in_ok-form.ensures.at.sound;
      ends = λ leaf e. c.in_ok-form.ensures.ends leaf (spans-ended c.args.self.now c.target.new.self c.target.ensures.others leaf e);
      stands = λ none. absurd (true≢false (ap is_some none));
      moves = record { stands = c.in_ok-form.ensures.at.stands; cursor = record { pending = target.resume; at = target.resume; ordered = omega arith }; further = omega (arith, following, ordered) };
    }
