use Rattle.std.specs.Prelude.{Result, Ok, Err, OnOk, OnErr}
use Rattle.std.proofs.Common.{rules, ◌≡◌, ◌≤◌, arith, refl, subst, sym}
use Rattle.cmark_leaf_text.specs.Reads.{text_of}
use Rattle.cmark_leaf_text.specs.declared.leaf_text.LeafText.{LeafText}
use Rattle.cmark_values.specs.Shown.{shown_options}
use Rattle.cmark_inline.specs.Asking.{closing_brackets}
use Rattle.cmark_inline.specs.Counted.{Counts}
use Rattle.cmark_inline.specs.declared.steps.Steps.{Steps}
use Rattle.cmark_inline.proofs.ComeLoops.{none-stops}
use Rattle.cmark_inline.proofs.Questions.{up-to}
use Rattle.cmark_inline.proofs.UsesCounted.{kept-rise}
use Rattle.std.proofs.lemmas.Result.{IfOk-weaker}
use Rattle.cmark_inline.proofs.state.InlineState.resolve.Goals as goal

none-counted : (leaf : LeafText) (steps : Steps) → Counts leaf steps steps
none-counted leaf steps = record { html_grows = omega arith; openers_grow = omega arith; closers_grow = omega arith; found = omega arith; opened = omega arith }

-- if memory was refused, nothing was counted
either-counted : {A E : Type 0} (leaf : LeafText) (old new : Steps) (result : Result A E) → OnOk result (Counts leaf old new) → OnErr result (new ≡ old) → Counts leaf old new
either-counted leaf old new (Ok done) counts same = counts
either-counted leaf old new (Err error) counts same = subst (Counts leaf old) (sym same) (none-counted leaf old)

pub returns-then-self-clause-within : goal.returns-then-self-clause-within
returns-then-self-clause-within g c = record {
  ready = search rules;
  asks = (let brackets = closing_brackets (text_of c.args.leaf.now) in
      let callback = c.args.callback.now in
      up-to g.F.BrokenLinkCallback.answers 0 brackets callback callback (let q : 0 ≤ brackets = omega arith in q) refl);
  spent = search rules;
  footnotes = search rules;
  rise = (kept-rise (closing_brackets (text_of c.args.leaf.now)) c.args.footnotes.now c.args.footnotes.now (λ folded. refl));
}

pub returns-then-self-clause-counts : goal.returns-then-self-clause-counts
returns-then-self-clause-counts g c = none-counted c.args.leaf.now c.args.self.now.steps

pub returns-clause-counts : goal.returns-clause-counts
returns-clause-counts g c = either-counted c.args.leaf.now c.args.self.now.steps c.read_leaf-done.new.self.steps c.read_leaf-done.result c.read_leaf-done.ensures.counts c.read_leaf-done.ensures.refused

pub returns-then-self-clause-stops : goal.returns-then-self-clause-stops
returns-then-self-clause-stops g c = λ set.
    none-stops g.F.BrokenLinkCallback.answers (shown_options c.args.reader.now.options) (g.E.EntityLookup.replacement c.args.reader.now.entities.now) c.args.reader.now.references.now c.args.footnotes.now c.args.leaf.now c.args.self.now.expansion_left c.args.callback.now

pub returns-clause-laid_out : goal.returns-clause-laid_out
returns-clause-laid_out g c = IfOk-weaker c.read_leaf-done.result _ _ (λ _ l. record { few = l.few; slots = l.slots; left = l.left; whole = l.whole }) c.read_leaf-done.ensures.laid_out

pub returns-clause-reads : goal.returns-clause-reads
returns-clause-reads g c = λ set. IfOk-weaker c.read_leaf-done.result _ _ (λ _ r. record { reads = r.reads; least = r.least; uses = r.uses }) (c.read_leaf-done.ensures.reads set)
