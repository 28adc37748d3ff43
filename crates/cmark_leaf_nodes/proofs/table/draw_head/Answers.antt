use Rattle.std.proofs.Common.{refl, subst}
use Rattle.cmark_grammar.specs.BlockDocument.{TableHead}
use Rattle.cmark_grammar.specs.Rows.{start_of}
use Rattle.cmark_grammar.specs.TableTokens.{row_cells}
use Rattle.cmark_line_rules.specs.Rests.{row_of}
use Rattle.cmark_block_model.specs.Drawing.{Drawing, drawn, opened, closed_at}
use Rattle.cmark_builder.specs.Drawn.{Draws}
use Rattle.cmark_builder.proofs.DrawnSteps.{draws-open, draws-close}
use Rattle.cmark_leaf_nodes.proofs.table.draw_head.Goals as goal

pub returns-clause-drawn : goal.returns-clause-drawn
returns-clause-drawn c text d draws =
    let row = row_of c.args.rest in
    let cells = row_cells text c.args.columns row in
    let begun : Drawing = opened (start_of row) TableHead d in
    let first = subst (λ start. Draws text c.open.new.self (opened start TableHead d)) c.words_begin.ensures.place
    (draws-open text c.args.builder.now c.open.new.self c.words_begin.result _ TableHead d c.in_ok-open.ensures.ok c.in_ok-open.ensures.tables refl draws) in
    subst (λ line_end. Draws text c.close.new.self (closed_at line_end (drawn cells begun))) c.line_end.ensures.place
    (draws-close text c.draw_cells.new.builder c.close.new.self c.line_end.result (drawn cells begun) c.close.ensures.closed c.close.ensures.none c.close.ensures.tables (c.in_ok-draw_cells.ensures.drawn text begun first))
