use Rattle.std.specs.Prelude.{string_bytes}
use Rattle.cmark_line_rules.specs.Rests.{row_of}
use Rattle.cmark_blocks.specs.Gathered.{texts_at}
use Rattle.cmark_blocks.proofs.DefinitionSteps.{whole-decides, whole-of, kept-of}
use Rattle.cmark_blocks.proofs.state.Pass.gather.Goals as goal

pub returns-then-not-branch-clause-decides : goal.returns-then-not-branch-clause-decides
returns-then-not-branch-clause-decides g c text options lookup m runs =
    let made = c.gather_line.new.gathered in
    whole-decides (string_bytes made.text) (row_of made.last) (texts_at text options lookup m (row_of made.last).line_end)
    (whole-of g.E.EntityLookup.replacement c.args.self.now c.in_ok-gathered.gathered made c.in_ok-gather_line.field-0 c.if-not-branch.true c.in_ok-gather_line.ensures.line text options lookup m runs)

pub returns-then-not-branch-2-clause-decides : goal.returns-then-not-branch-2-clause-decides
returns-then-not-branch-2-clause-decides g c text options lookup m runs =
    let made = c.gather_lines.new.gathered in
    whole-decides (string_bytes made.text) (row_of made.last) (texts_at text options lookup m (row_of made.last).line_end)
    (whole-of g.E.EntityLookup.replacement c.args.self.now c.loop-gathered.gathered made c.in_ok-gather_lines.field-0 c.if-not-branch-2.true c.in_ok-gather_lines.ensures.lines text options lookup m runs)

pub returns-then-not-branch-clause-holds : goal.returns-then-not-branch-clause-holds
returns-then-not-branch-clause-holds g c =
    kept-of g.E.EntityLookup.replacement c.args.self.now c.in_ok-gathered.gathered c.gather_line.new.gathered c.in_ok-gather_line.field-0 c.in_ok-gather_line.ensures.line c.args.rest c.in_ok-gathered.ensures.holds

pub loop-gathered-init : goal.loop-gathered-init
loop-gathered-init g c = (
  c.in_ok-gather_line.ensures.gathered,
  kept-of g.E.EntityLookup.replacement c.args.self.now c.in_ok-gathered.gathered c.gather_line.new.gathered c.in_ok-gather_line.field-0 c.in_ok-gather_line.ensures.line c.args.rest c.in_ok-gathered.ensures.holds,
)

pub returns-then-not-branch-2-clause-holds : goal.returns-then-not-branch-2-clause-holds
returns-then-not-branch-2-clause-holds g c =
    kept-of g.E.EntityLookup.replacement c.args.self.now c.loop-gathered.gathered c.gather_lines.new.gathered c.in_ok-gather_lines.field-0 c.in_ok-gather_lines.ensures.lines c.args.rest c.loop-gathered.invariant.1

pub loop-gathered-preserved : goal.loop-gathered-preserved
loop-gathered-preserved g c = (
  c.in_ok-gather_lines.ensures.gathered,
  kept-of g.E.EntityLookup.replacement c.args.self.now c.loop-gathered.gathered c.gather_lines.new.gathered c.in_ok-gather_lines.field-0 c.in_ok-gather_lines.ensures.lines c.args.rest c.loop-gathered.invariant.1,
)
