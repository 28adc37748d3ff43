use Rattle.std.proofs.lemmas.Result.{on_ok_weaker}
use Rattle.std.proofs.Common.{[], refl, sym, ap, ◌∙◌, subst}
use Rattle.cmark_grammar.specs.BlockDocument.{Nil}
use Rattle.cmark_grammar.specs.Tokens.{html_then, verbatim_line}
use Rattle.cmark_line_rules.specs.Rests.{row_of}
use Rattle.cmark_scan_lines.specs.HtmlLines.{kind_number}
use Rattle.cmark_block_model.specs.Drawing.{Drawing, drawn, closed_at}
use Rattle.cmark_block_model.specs.OpenBlocks as model
use Rattle.cmark_builder.specs.Drawn.{Draws}
use Rattle.cmark_builder.proofs.DrawnSteps.{draws-close}
use Rattle.cmark_blocks.specs.Ahead.{lines_at}
use Rattle.cmark_blocks.specs.Runs.{Runs, ShowsLeaf, state_of, RunsIn}
use Rattle.cmark_blocks.specs.declared.state.OpenLeaf.TheVariants as leaf
use Rattle.cmark_blocks.proofs.HtmlSteps.{html-goes-on, html-closes, html-stops}
use Rattle.cmark_blocks.proofs.RunSteps.{runs-builder, runs-leaf}
use Rattle.cmark_blocks.proofs.state.Pass.feed_html.Goals as goal
use Rattle.cmark_items.specs.Tables.{defined}

pub returns-in_default-continuation-clause-runs : goal.returns-in_default-continuation-clause-runs
returns-in_default-continuation-clause-runs g c text options lookup m runs =
    let replacement = g.E.EntityLookup.replacement in
    let before = c.args.self.now in
    let new = c.draw_html_line.new.builder in
    let row = row_of c.args.rest in
    let shows = subst (λ l. ShowsLeaf text l before.blank_lines.items m.leaf) c.requires.is runs.leaf in
    let line : Drawing = drawn (html_then (verbatim_line text row.columns row) Nil) m.drawing in
    let fed = html-goes-on text options lookup (kind_number c.args.kind) row (lines_at text row.line_end) m c.continuation-continuation.result shows.0 (c.continuation-continuation.ensures []) c.in_default.not-Stops c.in_default-continuation.not-Closes in
    subst (λ p. RunsIn replacement text options lookup p (record (state_of before) { builder = new })) (sym fed)
    (runs-builder replacement text options lookup m (state_of before) new line runs (c.in_ok-draw_html_line.ensures.drawn text m.drawing runs.drawing) c.in_ok-draw_html_line.ensures.definitions)

pub returns-in-Closes-clause-runs : goal.returns-in-Closes-clause-runs
returns-in-Closes-clause-runs g c text options lookup m runs =
    let replacement = g.E.EntityLookup.replacement in
    let before = c.args.self.now in
    let row = row_of c.args.rest in
    let shows = subst (λ l. ShowsLeaf text l before.blank_lines.items m.leaf) c.requires.is runs.leaf in
    let line : Drawing = drawn (html_then (verbatim_line text row.columns row) Nil) m.drawing in
    let fed = html-closes text options lookup (kind_number c.args.kind) row (lines_at text row.line_end) m c.continuation-continuation.result shows.0 (c.continuation-continuation.ensures []) c.in-Closes.is in
    let draws = subst (λ line_end. Draws text c.close.new.self (closed_at line_end line)) c.line_end.ensures.place
    (draws-close text c.draw_html_line.new.builder c.close.new.self c.line_end.result line c.close.ensures.closed c.close.ensures.none c.close.ensures.tables (c.in_ok-draw_html_line.ensures.drawn text m.drawing runs.drawing)) in
    subst (λ p. RunsIn replacement text options lookup p (record (state_of before) { builder = c.close.new.self; leaf = leaf.Closed })) (sym fed)
    (runs-leaf replacement text options lookup _ _ leaf.Closed model.Closed
    (runs-builder replacement text options lookup m (state_of before) c.close.new.self (closed_at row.line_end line) runs draws
    (ap defined c.close.ensures.tables ∙ c.in_ok-draw_html_line.ensures.definitions))
    (refl, shows.1))

pub returns-in-Stops-clause-runs : goal.returns-in-Stops-clause-runs
returns-in-Stops-clause-runs g c =
    on_ok_weaker c.begin_anew.result
    (λ ran. λ text options lookup m runs.
    let before = c.args.self.now in
    let row = row_of c.args.rest in
    let shows = subst (λ l. ShowsLeaf text l before.blank_lines.items m.leaf) c.requires.is runs.leaf in
    subst (λ p. Runs g.E.EntityLookup.replacement text options lookup p c.begin_anew.new.self)
    (sym (html-stops text options lookup (kind_number c.args.kind) row (lines_at text row.line_end) m c.continuation-continuation.result shows.0 (c.continuation-continuation.ensures []) c.in-Stops.is))
    (ran text options lookup m runs))
    c.begin_anew.ensures.runs
