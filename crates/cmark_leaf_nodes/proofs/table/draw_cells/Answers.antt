use Rattle.std.proofs.Common.{◌≡◌, suc, ◌-◌, length, sym, ap, ◌∙◌, subst, arith, refl}
use Rattle.cmark_grammar.specs.TableTokens.{cells_then}
use Rattle.cmark_scan_lines.specs.TableCells.{cells_after}
use Rattle.cmark_block_model.specs.Drawing.{drawn}
use Rattle.cmark_builder.specs.Drawn.{Draws}
use Rattle.cmark_grammar.specs.TableRows.{cells_of}
use Rattle.cmark_line_rules.specs.Rests.{row_of}
use Rattle.cmark_leaf_nodes.proofs.DrawSteps.{drawn-Nil}
use Rattle.cmark_leaf_nodes.proofs.TableSteps.{cells-begin, cells-of-line}
use Rattle.cmark_leaf_nodes.proofs.table.draw_cells.Goals as goal

pub loop-left-init : goal.loop-left-init
loop-left-init c =
    let row = row_of c.args.rest in
    let cells = c.cells_in_row-cells.result.now in
    let content_end = c.content_end-content_end.result in
    let begins = cells-begin c.args.rest c.words.result.now cells content_end c.words.ensures c.cells_in_row-cells.ensures.value c.cells_in_row-cells.ensures.within c.content_end-content_end.ensures.place in
    record {
      within = begins.0;
      drawn = λ text d draws. (
        d,
        draws,
        ap (λ cells. drawn cells d) (cells-of-line text c.args.columns row cells content_end c.line_end-line_end.result (c.cells_in_row-cells.ensures.cells ∙ ap cells_of c.words.ensures) begins.1 c.line_end-line_end.ensures.place),
      );
      filled = omega (arith, ap length (c.cells_in_row-cells.ensures.cells ∙ ap cells_of c.words.ensures));
      few = omega arith;
      definitions = refl;
    }

pub loop-left-preserved : goal.loop-left-preserved
loop-left-preserved c =
    let before = c.loop-left.invariant in
    let left = c.loop-left.left in
    let cells = c.loop-left.cells.now in
    let content_end = c.content_end-content_end.result in
    let one : left ≡ suc (left - 1) = omega (arith, c.loop-left-test.true) in
    record {
      within = c.in_ok-following.ensures.within;
      drawn = λ text d draws.
          let so_far = before.drawn text d draws in
          let next = c.in_ok-following.ensures.drawn text (left - 1) so_far.0 so_far.1 in (
            next.0,
            next.1,
            so_far.2 ∙ ap (λ n. drawn (cells_then text n (content_end - length cells) c.line_end-line_end.result (cells_after cells)) so_far.0) one ∙ next.2,
          );
      filled = omega (arith, c.in_ok-following.ensures.filled (left - 1), before.filled, one);
      few = omega (arith, before.few, c.in_ok-following.ensures.few, one);
      definitions = c.in_ok-following.ensures.definitions ∙ before.definitions;
    }

pub returns-clause-drawn : goal.returns-clause-drawn
returns-clause-drawn c text d draws =
    let so_far = c.loop-left.invariant.drawn text d draws in
    let none : c.loop-left.left ≡ 0 = omega (arith, c.loop-left-test.false) in
    subst (Draws text c.loop-left.builder)
    (sym (so_far.2 ∙ ap (λ n. drawn (cells_then text n (c.content_end-content_end.result - length c.loop-left.cells.now) c.line_end-line_end.result (cells_after c.loop-left.cells.now)) so_far.0) none ∙ drawn-Nil so_far.0)) so_far.1

pub returns-clause-filled : goal.returns-clause-filled
returns-clause-filled c = omega (arith, c.loop-left.invariant.filled, c.loop-left-test.false)
