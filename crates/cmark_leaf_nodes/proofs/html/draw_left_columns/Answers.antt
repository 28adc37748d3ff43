use Rattle.std.proofs.Common.{◌≡◌, ◌≤◌, sym, ◌∙◌, arith}
use Rattle.std.proofs.lemmas.Result.{on_ok_weaker}
use Rattle.cmark_scan_lines.specs.LineStart.{cut_columns}
use Rattle.cmark_line_rules.specs.Rests.{row_of}
use Rattle.cmark_leaf_nodes.proofs.CodeSteps.{spaces-none, draws-html-none, draws-html-spaces, left-cut, rest-cut}
use Rattle.cmark_leaf_nodes.proofs.html.draw_left_columns.Goals as goal

pub returns-then-count-eq0-clause-drawn : goal.returns-then-count-eq0-clause-drawn
returns-then-count-eq0-clause-drawn c text d draws =
    draws-html-none text c.args.builder.now _ d (spaces-none _ c.remaining_space-count.result _ (c.remaining_space-count.ensures ∙ sym (left-cut (row_of c.args.rest).columns)) c.if-count-eq0.true) draws

pub draw_spaces-requires : goal.draw_spaces-requires
draw_spaces-requires c =
    let le : cut_columns (row_of c.args.rest).columns ≤ 3 = rest-cut c.args.rest in
    let e : c.remaining_space-count.result ≡ cut_columns (row_of c.args.rest).columns = c.remaining_space-count.ensures in
    omega (arith, le, e)

pub returns-clause-drawn : goal.returns-clause-drawn
returns-clause-drawn c = on_ok_weaker c.draw_spaces.result
    (λ step text d draws. draws-html-spaces text c.args.builder.now c.draw_spaces.new.builder _ c.remaining_space-count.result c.begin.result _ d
    (c.remaining_space-count.ensures ∙ sym (left-cut (row_of c.args.rest).columns)) c.if-count-eq0.false c.begin.ensures.place (step text) draws)
    c.draw_spaces.ensures.drawn
