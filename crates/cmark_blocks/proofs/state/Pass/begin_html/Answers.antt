use Rattle.std.proofs.Common.{refl, sym, ap, ◌∙◌, subst}
use Rattle.cmark_grammar.specs.BlockDocument.{HtmlBlock, Nil}
use Rattle.cmark_grammar.specs.Rows.{begin_of}
use Rattle.cmark_grammar.specs.Tokens.{html_then, verbatim_line}
use Rattle.cmark_line_rules.specs.Rests.{row_of}
use Rattle.cmark_scan_lines.specs.HtmlLines.{kind_number}
use Rattle.cmark_block_model.specs.BlockPass.{block_begun, html_begun, html_line, node_opened}
use Rattle.cmark_block_model.specs.Drawing.{Drawing, drawn, opened, closed_at}
use Rattle.cmark_block_model.specs.OpenBlocks as model
use Rattle.cmark_builder.specs.Drawn.{Draws}
use Rattle.cmark_builder.proofs.DrawnSteps.{draws-open, draws-close}
use Rattle.cmark_blocks.specs.declared.state.OpenLeaf.TheVariants as leaf
use Rattle.cmark_blocks.specs.Runs.{state_of, RunsIn}
use Rattle.cmark_blocks.proofs.RunSteps.{runs-builder, runs-leaf, none_after_closed}
use Rattle.cmark_blocks.proofs.state.Pass.begin_html.Goals as goal
use Rattle.cmark_items.specs.Tables.{defined}

pub returns-then-ends_at_once-clause-runs : goal.returns-then-ends_at_once-clause-runs
returns-then-ends_at_once-clause-runs g c more text options lookup m ahead runs =
    let replacement = g.E.EntityLookup.replacement in
    let before = c.begin_block.new.self in
    let d = (block_begun m).drawing in
    let row = row_of c.args.rest in
    let kind = kind_number c.args.kind in
    let r = c.begin_block.ensures.runs text options lookup m runs in
    let begun : Drawing = opened (begin_of row) HtmlBlock d in
    let first = subst (λ start. Draws text c.open.new.self (opened start HtmlBlock d)) c.begin.ensures.place
    (draws-open text before.builder c.open.new.self c.begin.result _ HtmlBlock d c.in_ok-open.ensures.ok c.in_ok-open.ensures.tables refl r.drawing) in
    let line : Drawing = drawn (html_then (verbatim_line text row.columns row) Nil) begun in
    let draws = subst (λ line_end. Draws text c.close.new.self (closed_at line_end line)) c.line_end.ensures.place
    (draws-close text c.draw_html_line.new.builder c.close.new.self c.line_end.result line c.close.ensures.closed c.close.ensures.none c.close.ensures.tables (c.in_ok-draw_html_line.ensures.drawn text begun first)) in
    subst (λ b. RunsIn replacement text options lookup (html_begun text options lookup b kind row.line_end (html_line text options lookup row (node_opened (begin_of row) HtmlBlock (block_begun m)))) (record (state_of before) { builder = c.close.new.self; leaf = leaf.Closed }))
    (sym c.if-ends_at_once.true ∙ c.ends_at_once.ensures)
    (runs-leaf replacement text options lookup _ _ leaf.Closed model.Closed
    (runs-builder replacement text options lookup (block_begun m) (state_of before) c.close.new.self (closed_at row.line_end line) r draws
    (ap defined c.close.ensures.tables ∙ c.in_ok-draw_html_line.ensures.definitions ∙ ap defined c.in_ok-open.ensures.tables))
    (refl, ap (λ b. b.items) c.begin_block.ensures.others.blank_lines ∙ none_after_closed replacement text options lookup m (state_of c.args.self.now) c.requires.closed runs))

pub returns-else-ends_at_once-clause-runs : goal.returns-else-ends_at_once-clause-runs
returns-else-ends_at_once-clause-runs g c more text options lookup m ahead runs =
    let replacement = g.E.EntityLookup.replacement in
    let before = c.begin_block.new.self in
    let d = (block_begun m).drawing in
    let row = row_of c.args.rest in
    let kind = kind_number c.args.kind in
    let r = c.begin_block.ensures.runs text options lookup m runs in
    let begun : Drawing = opened (begin_of row) HtmlBlock d in
    let first = subst (λ start. Draws text c.open.new.self (opened start HtmlBlock d)) c.begin.ensures.place
    (draws-open text before.builder c.open.new.self c.begin.result _ HtmlBlock d c.in_ok-open.ensures.ok c.in_ok-open.ensures.tables refl r.drawing) in
    let line : Drawing = drawn (html_then (verbatim_line text row.columns row) Nil) begun in
    subst (λ b. RunsIn replacement text options lookup (html_begun text options lookup b kind row.line_end (html_line text options lookup row (node_opened (begin_of row) HtmlBlock (block_begun m)))) (record (state_of before) { builder = c.draw_html_line.new.builder; leaf = leaf.Html c.args.kind }))
    (sym c.if-ends_at_once.false ∙ c.ends_at_once.ensures)
    (runs-leaf replacement text options lookup _ _ (leaf.Html c.args.kind) (model.InHtml kind)
    (runs-builder replacement text options lookup (block_begun m) (state_of before) c.draw_html_line.new.builder line r (c.in_ok-draw_html_line.ensures.drawn text begun first)
    (c.in_ok-draw_html_line.ensures.definitions ∙ ap defined c.in_ok-open.ensures.tables))
    (refl, ap (λ b. b.items) c.begin_block.ensures.others.blank_lines ∙ none_after_closed replacement text options lookup m (state_of c.args.self.now) c.requires.closed runs))
