use Rattle.std.proofs.Common.{subst}
use Rattle.cmark_blocks.specs.Gathered.{GathersMore}
use Rattle.cmark_blocks.proofs.DefinitionSteps.{kept-of, further-of}
use Rattle.cmark_blocks.proofs.state.Pass.gather_lines.Goals as goal

pub returns-then-not-branch-clause-lines : goal.returns-then-not-branch-clause-lines
returns-then-not-branch-clause-lines g c = subst (λ b. GathersMore g.E.EntityLookup.replacement c.args.self.now c.args.gathered.now b c.gather_line.new.gathered) c.if-not-branch.true c.in_ok-gather_line.ensures.line

pub loop-gathered-init : goal.loop-gathered-init
loop-gathered-init g c = (
  c.in_ok-gather_line.ensures.gathered,
  kept-of g.E.EntityLookup.replacement c.args.self.now c.args.gathered.now c.gather_line.new.gathered c.in_ok-gather_line.field-0 c.in_ok-gather_line.ensures.line,
  further-of g.E.EntityLookup.replacement c.args.self.now c.args.gathered.now c.gather_line.new.gathered c.in_ok-gather_line.field-0 c.if-not-branch.false c.in_ok-gather_line.ensures.line,
)

pub returns-clause-lines : goal.returns-clause-lines
returns-clause-lines g c = (c.loop-gathered.invariant.1, c.loop-gathered.invariant.2)
