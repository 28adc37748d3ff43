use Rattle.std.proofs.Common.{◌≡◌, map, sym, ap, subst, ◌∙◌}
use Rattle.cmark_grammar.specs.BlockDocument.{Nil}
use Rattle.cmark_grammar.specs.Rows.{begin_of}
use Rattle.cmark_grammar.specs.Tokens.{stretch_then}
use Rattle.cmark_line_rules.specs.Rests.{row_of}
use Rattle.cmark_block_model.specs.BlockPass.{kept_lines}
use Rattle.cmark_block_model.specs.Drawing.{drawn}
use Rattle.cmark_block_model.specs.OpenBlocks as model
use Rattle.cmark_blocks.specs.Runs.{state_of, RunsIn}
use Rattle.cmark_blocks.specs.declared.state.OpenLeaf.TheVariants as leaf
use Rattle.cmark_blocks.proofs.FeedSteps.{line-touches, line-apart}
use Rattle.cmark_blocks.proofs.RunSteps.{runs-waiting, runs-builder}
use Rattle.cmark_blocks.proofs.state.Pass.add_to_paragraph.Goals as goal

pub returns-then-begin-line_end-clause-runs : goal.returns-then-begin-line_end-clause-runs
returns-then-begin-line_end-clause-runs g c text options lookup m runs =
    let replacement = g.E.EntityLookup.replacement in
    let before = c.args.self.now in
    let row = row_of c.args.rest in
    let last = row_of c.args.last in
    let rows = map row_of before.blank_lines.items in
    let flag = c.reads_attributes-attributes.ensures ∙ ap (λ o. o.heading_attributes) runs.options_is in
    let kept : map row_of c.keep_line.new.lines.items ≡ kept_lines options.heading_attributes rows last = c.in_ok-keep_line.ensures.kept ∙ ap (λ z. kept_lines z rows last) flag in
    subst (λ p. RunsIn replacement text options lookup p (record (state_of before) { lines = c.keep_line.new.lines.items; leaf = leaf.Paragraph c.args.from c.args.rest }))
    (sym (line-touches text options lookup row m rows c.args.from last (sym c.begin-begin.ensures.place ∙ c.if-begin-line_end.true ∙ c.line_end.ensures.place)))
    (runs-waiting replacement text options lookup m (state_of before) (leaf.Paragraph c.args.from c.args.rest) c.keep_line.new.lines (model.InParagraph (kept_lines options.heading_attributes rows last) c.args.from row) runs
    (ap (λ rs. model.InParagraph rs c.args.from row) (sym kept)))

pub returns-clause-runs : goal.returns-clause-runs
returns-clause-runs g c text options lookup m runs =
    let replacement = g.E.EntityLookup.replacement in
    let before = c.args.self.now in
    let new = c.draw_lines.new.builder in
    let row = row_of c.args.rest in
    let last = row_of c.args.last in
    let rows = map row_of before.blank_lines.items in
    let flag = c.reads_attributes-attributes.ensures ∙ ap (λ o. o.heading_attributes) runs.options_is in
    let kept : map row_of c.keep_line.new.lines.items ≡ kept_lines options.heading_attributes rows last = c.in_ok-keep_line.ensures.kept ∙ ap (λ z. kept_lines z rows last) flag in
    let lines = c.in_ok-draw_lines.ensures.drawn text m.drawing runs.drawing in
    let leaf_open = leaf.Paragraph c.begin-begin.result c.args.rest in
    subst (λ p. RunsIn replacement text options lookup p (record (state_of before) { builder = new; lines = c.keep_line.new.lines.items; leaf = leaf_open }))
    (sym (line-apart text options lookup row m rows c.args.from last (λ e. c.if-begin-line_end.false (c.begin-begin.ensures.place ∙ e ∙ sym c.line_end.ensures.place))))
    (runs-waiting replacement text options lookup _ (record (state_of before) { builder = new }) leaf_open c.keep_line.new.lines (model.InParagraph (kept_lines options.heading_attributes rows last) (begin_of row) row)
    (runs-builder replacement text options lookup m (state_of before) new (drawn (stretch_then text c.args.from last.line_end Nil) m.drawing) runs lines c.in_ok-draw_lines.ensures.definitions)
    (ap (λ from. model.InParagraph (kept_lines options.heading_attributes rows last) from row) (sym c.begin-begin.ensures.place) ∙ ap (λ rs. model.InParagraph rs c.begin-begin.result row) (sym kept)))
