use Rattle.std.proofs.Common.{[], map, refl, sym, ap, ◌∙◌, subst}
use Rattle.cmark_grammar.specs.BlockDocument.{Paragraph}
use Rattle.cmark_grammar.specs.Rows.{start_of}
use Rattle.cmark_line_rules.specs.Rests.{row_of}
use Rattle.cmark_blocks.specs.Titles.{text_block_begun}
use Rattle.cmark_block_model.specs.Drawing.{opened}
use Rattle.cmark_block_model.specs.OpenBlocks as model
use Rattle.cmark_builder.specs.Drawn.{Draws}
use Rattle.cmark_builder.proofs.DrawnSteps.{draws-open}
use Rattle.cmark_blocks.proofs.RunSteps.{runs-builder, runs-leaf, none_after_closed}
use Rattle.cmark_items.specs.Tables.{defined}
use Rattle.cmark_blocks.specs.Runs.{state_of}
use Rattle.cmark_blocks.proofs.state.Pass.begin_paragraph.Goals as goal

pub invariant_of-self-2-clause-empties : goal.invariant_of-self-2-clause-empties
invariant_of-self-2-clause-empties g c = c.begin_text_block.new.self.empties

pub invariant_of-self-2-clause-footnotes : goal.invariant_of-self-2-clause-footnotes
invariant_of-self-2-clause-footnotes g c = c.begin_text_block.new.self.footnotes

pub returns-clause-runs : goal.returns-clause-runs
returns-clause-runs g c text options lookup m runs =
    let replacement = g.E.EntityLookup.replacement in
    let before = c.begin_text_block.new.self in
    let p = text_block_begun m in
    let r = c.begin_text_block.ensures.runs text options lookup m runs in
    let draws = subst (λ at. Draws text c.open.new.self (opened at Paragraph p.drawing)) c.words_begin-begin.ensures.place
    (draws-open text before.builder c.open.new.self c.words_begin-begin.result _ Paragraph p.drawing c.in_ok-open.ensures.ok c.in_ok-open.ensures.tables refl r.drawing) in
    let none = ap (λ b. b.items) c.begin_text_block.ensures.others.blank_lines ∙ none_after_closed replacement text options lookup m (state_of c.args.self.now) c.requires.closed runs in
    runs-leaf replacement text options lookup _ _ _ (model.InParagraph [] (start_of (row_of c.args.rest)) (row_of c.args.rest))
    (runs-builder replacement text options lookup p (state_of before) c.open.new.self _ r draws (ap defined c.in_ok-open.ensures.tables))
    (ap (λ from. model.InParagraph [] from (row_of c.args.rest)) (sym c.words_begin-begin.ensures.place)
    ∙ ap (λ lines. model.InParagraph (map row_of lines) c.words_begin-begin.result (row_of c.args.rest)) (sym none))
