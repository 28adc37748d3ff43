use Rattle.std.proofs.Common.{◌-◌, ◌+◌, take, length, refl}
use Rattle.std.proofs.lemmas.List.{length-take-le}
use Rattle.cmark_grammar.specs.BlockDocument.{TableCell, Nil, Node, node}
use Rattle.cmark_grammar.specs.TableTokens.{cell_tokens}
use Rattle.cmark_block_model.specs.Drawing.{drawn}
use Rattle.cmark_builder.proofs.DrawnSteps.{draws-add}
use Rattle.cmark_leaf_nodes.proofs.TableSteps.{cells-next, cells-missing}
use Rattle.cmark_leaf_nodes.proofs.table.draw_next_cell.Goals as goal

pub returns-in_ok-draw_cell-in-Some-clause-drawn : goal.returns-in_ok-draw_cell-in-Some-clause-drawn
returns-in_ok-draw_cell-in-Some-clause-drawn c text left d draws =
    let cells = c.args.cells.now in
    let size = c.in-Some.size in
    let cell = take size cells in
    let at = c.args.content_end - length cells in (
      drawn (Node (node TableCell at (at + length cell)) (cell_tokens text at cell) Nil) d,
      c.in_ok-draw_cell-in-Some.ensures.drawn text d draws,
      cells-next text cells c.in-Some.following.now cell size left c.args.content_end c.args.line_end c.in-Some.ensures.cells refl (length-take-le size cells c.in-Some.ensures.within) c.requires.within c.in-Some.ensures.following d,
    )

pub returns-in_ok-add-in-None-clause-drawn : goal.returns-in_ok-add-in-None-clause-drawn
returns-in_ok-add-in-None-clause-drawn c text left d draws =
    let cells = c.args.cells.now in
    let line_end = c.args.line_end in (
      drawn (Node (node TableCell line_end line_end) Nil Nil) d,
      draws-add text c.args.builder.now c.add.new.self _ (node TableCell line_end line_end) d c.in_ok-add-in-None.ensures.ok c.in_ok-add-in-None.ensures.tables refl refl draws,
      cells-missing text cells left (c.args.content_end - length cells) line_end c.in-None.ensures.cells d,
    )
