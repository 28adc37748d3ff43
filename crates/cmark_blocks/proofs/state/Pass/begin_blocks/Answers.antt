use Rattle.std.proofs.Common.{◌<◌, length, refl, sym, subst, ◌∙◌}
use Rattle.std.specs.Prelude.{IfSome}
use Rattle.cmark_line_rules.specs.Rests.{row_of}
use Rattle.cmark_blocks.specs.Entered.{BeginsFirst}
use Rattle.cmark_blocks.specs.Runs.{CanBegin}
use Rattle.cmark_leaf_nodes.specs.TextColumns.{IsRead}
use Rattle.cmark_blocks.proofs.LineSteps.{begins-start, begins-step, begins-end}
use Rattle.cmark_blocks.proofs.state.Pass.begin_blocks.Goals as goal

pub loop-inside-init : goal.loop-inside-init
loop-inside-init g c = (c.requires.line, c.requires.closed, c.requires.bare, refl, begins-start g.E.EntityLookup.replacement c.args.line c.args.self.now)

pub loop-inside-preserved : goal.loop-inside-preserved
loop-inside-preserved g c = (
  subst (λ t. IsRead t.now c.in-Some.inside) (sym c.begin_first.ensures.text) (subst (λ o. IfSome o (λ i. IsRead c.loop-inside.self.text.now i.0)) c.in-Some.is c.in_ok-inside.ensures.line),
  (subst (λ o. IfSome o (λ i. CanBegin c.begin_first.new.self)) c.in-Some.is c.in_ok-inside.ensures.can).closed,
  (subst (λ o. IfSome o (λ i. CanBegin c.begin_first.new.self)) c.in-Some.is c.in_ok-inside.ensures.can).bare,
  c.begin_first.ensures.text ∙ c.loop-inside.invariant.3,
  begins-step g.E.EntityLookup.replacement c.args.line c.args.self.now c.loop-inside.rest c.in-Some.inside c.loop-inside.bare c.in-Some.item c.loop-inside.self c.begin_first.new.self c.loop-inside.invariant.4
      (subst (λ o. BeginsFirst g.E.EntityLookup.replacement c.loop-inside.bare c.loop-inside.rest o c.loop-inside.self c.begin_first.new.self) c.in-Some.is c.in_ok-inside.ensures.runs)
      (subst (λ o. IfSome o (λ i. length (row_of i.0).columns < length (row_of c.loop-inside.rest).columns)) c.in-Some.is c.in_ok-inside.ensures.shorter),
)

pub returns-clause-runs : goal.returns-clause-runs
returns-clause-runs g c =
    begins-end g.E.EntityLookup.replacement c.args.line c.args.self.now c.loop-inside.rest c.loop-inside.bare c.loop-inside.self c.begin_first.new.self c.loop-inside.invariant.4
    (subst (λ o. BeginsFirst g.E.EntityLookup.replacement c.loop-inside.bare c.loop-inside.rest o c.loop-inside.self c.begin_first.new.self) c.in_default.is c.in_ok-inside.ensures.runs)
