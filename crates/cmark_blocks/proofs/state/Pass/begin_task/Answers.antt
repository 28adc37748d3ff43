use Rattle.std.proofs.lemmas.Result.{on_ok_weaker}
use Rattle.std.proofs.Common.{refl, ap, subst}
use Rattle.cmark_grammar.specs.BlockDocument.{TaskMarker, Node, Nil, node}
use Rattle.cmark_grammar.specs.Rows.{begin_of}
use Rattle.cmark_line_rules.specs.Rests.{row_of}
use Rattle.cmark_block_model.specs.Drawing.{drawn}
use Rattle.cmark_builder.specs.Drawn.{Draws}
use Rattle.cmark_builder.proofs.DrawnSteps.{draws-add}
use Rattle.cmark_blocks.proofs.RunSteps.{runs-builder}
use Rattle.cmark_blocks.specs.Runs.{state_of}
use Rattle.cmark_blocks.proofs.state.Pass.begin_task.Goals as goal
use Rattle.cmark_items.specs.Tables.{defined}

pub returns-clause-runs : goal.returns-clause-runs
returns-clause-runs g c =
    on_ok_weaker c.begin_paragraph.result
    (λ ran. λ text options lookup m runs.
    let before = c.args.self.now in
    let new = c.add.new.self in
    let kind = TaskMarker c.args.is_checked in
    let start = c.args.start in
    let draws = subst (λ end. Draws text new (drawn (Node (node kind start end) Nil Nil) m.drawing)) c.begin.ensures.place
    (draws-add text before.builder new _ (node kind start c.begin.result) m.drawing c.in_ok-add.ensures.ok c.in_ok-add.ensures.tables refl refl runs.drawing) in
    ran text options lookup _
    (runs-builder g.E.EntityLookup.replacement text options lookup m (state_of before) new (drawn (Node (node kind start (begin_of (row_of c.args.following))) Nil Nil) m.drawing) runs draws (ap defined c.in_ok-add.ensures.tables)))
    c.begin_paragraph.ensures.runs
