use Rattle.std.proofs.Common.{[], map, None, refl, ap, ◌∙◌, subst}
use Rattle.cmark_grammar.specs.BlockDocument.{IndentedCode}
use Rattle.cmark_grammar.specs.Rows.{first_place}
use Rattle.cmark_grammar.specs.Tokens.{code_columns}
use Rattle.cmark_line_rules.specs.Rests.{row_of}
use Rattle.cmark_block_model.specs.BlockPass.{block_begun}
use Rattle.cmark_block_model.specs.CodeLines.{code_line, texts_of}
use Rattle.cmark_block_model.specs.Drawing.{Drawing, drawn, opened}
use Rattle.cmark_block_model.specs.OpenBlocks as model
use Rattle.cmark_builder.specs.Drawn.{Draws}
use Rattle.cmark_builder.proofs.DrawnSteps.{draws-open}
use Rattle.cmark_blocks.specs.declared.state.OpenLeaf.TheVariants as leaf
use Rattle.cmark_blocks.proofs.CodeSteps.{code-place, indented-shown}
use Rattle.cmark_blocks.proofs.RunSteps.{runs-builder, runs-leaf, none_after_closed}
use Rattle.cmark_blocks.specs.Runs.{state_of}
use Rattle.cmark_blocks.proofs.state.Pass.begin_indented.Goals as goal
use Rattle.cmark_items.specs.Tables.{defined}

pub returns-clause-runs : goal.returns-clause-runs
returns-clause-runs g c more text options lookup m ahead runs =
    let replacement = g.E.EntityLookup.replacement in
    let before = c.begin_block.new.self in
    let d = (block_begun m).drawing in
    let row = row_of c.args.rest in
    let place = first_place row.content_end (code_columns 4 row) in
    let r = c.begin_block.ensures.runs text options lookup m runs in
    let begun : Drawing = opened place IndentedCode d in
    let first = subst (λ start. Draws text c.open.new.self (opened start IndentedCode d)) (c.begin.ensures.place ∙ code-place 4 row (row_of c.without_indent_upto-code.result) c.without_indent_upto-code.ensures.row)
    (draws-open text before.builder c.open.new.self c.begin.result _ IndentedCode d c.in_ok-open.ensures.ok c.in_ok-open.ensures.tables refl r.drawing) in
    let run = code_line text 4 row None in
    let none = ap (λ b. b.items) c.begin_block.ensures.others.blank_lines ∙ none_after_closed replacement text options lookup m (state_of c.args.self.now) c.requires.closed runs in
    runs-leaf replacement text options lookup _ _ (leaf.Indented c.in_ok-waits.waits c.line_end.result) (model.InIndented run.waits row.line_end [])
    (runs-builder replacement text options lookup (block_begun m) (state_of before) c.draw_code_line.new.builder (drawn (texts_of run.done) begun) r (c.in_ok-waits.ensures.drawn text begun first)
    (c.in_ok-waits.ensures.definitions ∙ ap defined c.in_ok-open.ensures.tables))
    (indented-shown text c.in_ok-waits.waits run.waits c.line_end.result row.line_end before.blank_lines.items [] (c.in_ok-waits.ensures.waits text) c.line_end.ensures.place (ap (map row_of) none))
