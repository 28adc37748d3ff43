use Rattle.std.proofs.Common.{◌≡◌, ◌≤◌, sym, ◌∙◌, arith}
use Rattle.cmark_scan_lines.specs.LineStart.{cut_columns}
use Rattle.cmark_line_rules.specs.Rests.{row_of}
use Rattle.cmark_leaf_nodes.proofs.CodeSteps.{goes-none, spaces-none, goes-spaces, left-cut, rest-cut}
use Rattle.cmark_leaf_nodes.proofs.code.add_left_columns.Goals as goal

pub returns-then-count-eq0-clause-goes : goal.returns-then-count-eq0-clause-goes
returns-then-count-eq0-clause-goes c text = goes-none text c.args.builder.now c.args.waits _ (spaces-none _ c.remaining_space-count.result _ (c.remaining_space-count.ensures ∙ sym (left-cut (row_of c.args.rest).columns)) c.if-count-eq0.true)

pub draw_spaces-requires : goal.draw_spaces-requires
draw_spaces-requires c =
    let le : cut_columns (row_of c.args.rest).columns ≤ 3 = rest-cut c.args.rest in
    let e : c.remaining_space-count.result ≡ cut_columns (row_of c.args.rest).columns = c.remaining_space-count.ensures in
    omega (arith, le, e)

pub returns-clause-goes : goal.returns-clause-goes
returns-clause-goes c text = goes-spaces text c.args.builder.now c.draw_stretch.new.builder c.draw_spaces.new.builder c.args.waits _ c.remaining_space-count.result c.begin.result _
    (c.remaining_space-count.ensures ∙ sym (left-cut (row_of c.args.rest).columns)) c.if-count-eq0.false c.begin.ensures.place (c.in_ok-draw_stretch.ensures.drawn text) (c.in_ok-draw_spaces.ensures.drawn text)
