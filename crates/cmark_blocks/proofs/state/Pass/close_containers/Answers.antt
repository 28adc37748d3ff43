use Rattle.std.proofs.Common.{arith, refl, ◌∙◌}
use Rattle.cmark_blocks.proofs.ClosingSteps.{towards-start, towards-step, towards-end}
use Rattle.cmark_blocks.proofs.state.Pass.close_containers.Goals as goal

pub loop-self-init : goal.loop-self-init
loop-self-init g c = (towards-start g.E.EntityLookup.replacement c.args.kept c.args.self.now, record { text = refl; leaf = refl; bare = refl })

pub loop-self-preserved : goal.loop-self-preserved
loop-self-preserved g c = (
  towards-step g.E.EntityLookup.replacement c.args.kept c.args.self.now c.loop-self.self c.close_container.new.self c.loop-self.invariant.0 c.close_container.ensures.runs
      (omega (arith, c.loop-self.self.outer.ok.0, c.len.ensures, c.loop-self-test.true)),
  record {
    text = c.close_container.ensures.keeps.text ∙ c.loop-self.invariant.1.text;
    leaf = c.close_container.ensures.keeps.leaf ∙ c.loop-self.invariant.1.leaf;
    bare = c.close_container.ensures.keeps.bare ∙ c.loop-self.invariant.1.bare;
  },
)

pub returns-clause-runs : goal.returns-clause-runs
returns-clause-runs g c =
    towards-end g.E.EntityLookup.replacement c.args.kept c.args.self.now c.loop-self.self c.loop-self.invariant.0
    (omega (arith, c.loop-self.self.outer.ok.0, c.len.ensures, c.loop-self-test.false))
