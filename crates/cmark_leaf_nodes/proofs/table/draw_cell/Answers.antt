use Rattle.std.proofs.Common.{◌+◌, ℕ, List, length, refl, sym, subst, ◌∙◌}
use Rattle.std.specs.List.{take_while}
use Rattle.std.proofs.lemmas.List.Folds.{length-prefix_len}
use Rattle.cmark_grammar.specs.BlockDocument.{TableCell, Nil}
use Rattle.cmark_grammar.specs.Columns.{is_blank_byte}
use Rattle.cmark_grammar.specs.TableTokens.{cell_tokens}
use Rattle.cmark_grammar.specs.Tokens.{stretch_then}
use Rattle.cmark_block_model.specs.Drawing.{Drawing, drawn, opened}
use Rattle.cmark_builder.specs.Drawn.{Draws}
use Rattle.cmark_builder.proofs.DrawnSteps.{draws-open, draws-close}
use Rattle.cmark_leaf_nodes.proofs.table.draw_cell.Goals as goal

pub returns-clause-drawn : goal.returns-clause-drawn
returns-clause-drawn c text d draws =
    let at = c.args.at in
    let cell = c.args.cell.now in
    let words = c.draw_words.new.builder in
    let begun : Drawing = opened at TableCell d in
    let first = draws-open text c.args.builder.now c.open.new.self at _ TableCell d c.in_ok-open.ensures.ok c.in_ok-open.ensures.tables refl draws in
    let drew = subst (λ (from : ℕ). Draws text words (drawn (stretch_then text (at + from) (at + length c.without_trailing_blanks.result.now) Nil) begun)) (c.count_blanks.ensures.value ∙ sym (length-prefix_len is_blank_byte cell)) (c.in_ok-draw_words.ensures.drawn text begun first) in
    draws-close text words c.close.new.self (at + length cell) (drawn (cell_tokens text at cell) begun) c.close.ensures.closed c.close.ensures.none c.close.ensures.tables
    (subst (λ (to : List ℕ). Draws text words (drawn (stretch_then text (at + length (take_while is_blank_byte cell)) (at + length to) Nil) begun)) c.without_trailing_blanks.ensures.value drew)
