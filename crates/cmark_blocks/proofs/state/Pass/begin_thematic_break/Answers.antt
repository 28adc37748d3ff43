use Rattle.std.proofs.lemmas.Result.{on_ok_weaker}
use Rattle.std.proofs.Common.{refl, ap, subst}
use Rattle.cmark_grammar.specs.BlockDocument.{ThematicBreak, Node, Nil, node}
use Rattle.cmark_grammar.specs.Rows.{start_of}
use Rattle.cmark_line_rules.specs.Rests.{row_of}
use Rattle.cmark_block_model.specs.BlockPass.{block_begun}
use Rattle.cmark_block_model.specs.Drawing.{drawn}
use Rattle.cmark_builder.specs.Drawn.{Draws}
use Rattle.cmark_builder.proofs.DrawnSteps.{draws-add}
use Rattle.cmark_blocks.proofs.RunSteps.{runs-builder}
use Rattle.cmark_blocks.specs.Runs.{state_of}
use Rattle.cmark_blocks.proofs.state.Pass.begin_thematic_break.Goals as goal
use Rattle.cmark_items.specs.Tables.{defined}

pub returns-clause-runs : goal.returns-clause-runs
returns-clause-runs g c =
    on_ok_weaker c.add.result
    (λ ok. λ text options lookup m ahead runs.
    let before = c.begin_block.new.self in
    let d = (block_begun m).drawing in
    let new = c.add.new.self in
    let row = row_of c.args.rest in
    let r = c.begin_block.ensures.runs text options lookup m runs in
    let draws = subst (λ line_end. Draws text new (drawn (Node (node ThematicBreak (start_of row) line_end) Nil Nil) d)) c.line_end.ensures.place
    (subst (λ start. Draws text new (drawn (Node (node ThematicBreak start c.line_end.result) Nil Nil) d)) c.words_begin.ensures.place
    (draws-add text before.builder new _ (node ThematicBreak c.words_begin.result c.line_end.result) d ok c.add.ensures.tables refl refl r.drawing)) in
    runs-builder g.E.EntityLookup.replacement text options lookup (block_begun m) (state_of before) new (drawn (Node (node ThematicBreak (start_of row) row.line_end) Nil Nil) d) r draws (ap defined c.add.ensures.tables))
    c.add.ensures.ok
