use Rattle.std.proofs.Common.{sym, ap, ◌∙◌, subst}
use Rattle.cmark_grammar.specs.BlockDocument.{Nil}
use Rattle.cmark_grammar.specs.Tokens.{stretch_then}
use Rattle.cmark_block_model.specs.Drawing.{Drawing, closed_at, drawn}
use Rattle.cmark_builder.specs.Drawn.{Draws}
use Rattle.cmark_builder.proofs.DrawnSteps.{draws-close, draws-same}
use Rattle.cmark_builder.proofs.WholeParagraphs.{draws-whole}
use Rattle.cmark_leaf_nodes.proofs.WordSteps.{some-stretch}
use Rattle.cmark_leaf_nodes.proofs.paragraph.close_lines.Goals as goal
use Rattle.cmark_leaf_nodes.proofs.paragraph.close_lines.Goals.{else-from-text_end-via-then-from-text_end+else-close_whole, else-from-text_end-via-else-from-text_end}

pub returns-then-close_whole-clause-drawn : goal.returns-then-close_whole-clause-drawn
returns-then-close_whole-clause-drawn c text d draws =
    let old = c.args.builder.now in
    let new = c.close_whole.new.self in
    let whole = draws-whole text old new c.args.from c.words_end-text_end.result c.args.end d (λ here up is. sym (c.close_whole.ensures.answer here up is) ∙ c.if-close_whole.true)
    (c.close_whole.ensures.closed c.if-close_whole.true) c.close_whole.ensures.tables draws in
    subst (λ e. Draws text new (closed_at c.args.end (drawn (stretch_then text c.args.from e Nil) d))) c.words_end-text_end.ensures
    (subst (λ s. Draws text new (closed_at c.args.end (drawn s d))) (some-stretch text c.args.from c.words_end-text_end.result c.if-from-text_end.true) whole)

pub returns-clause-drawn : goal.returns-clause-drawn
returns-clause-drawn c text d draws =
    let old = c.args.builder.now in
    let mid = c.else-from-text_end.builder in
    let same : Draws text mid d = elim c.else-from-text_end.branch [
      | else-from-text_end-via-then-from-text_end+else-close_whole w ↦
          subst (λ b. Draws text b d) (sym w.builder-is) (draws-same text old w.close_whole.new.self d (w.close_whole.ensures.unchanged w.if-close_whole.false) (ap (λ a. a.texts) w.close_whole.ensures.tables) draws)
      | else-from-text_end-via-else-from-text_end w ↦ subst (λ b. Draws text b d) (sym w.builder-is) draws
    ] in
    let line : Drawing = drawn (stretch_then text c.args.from c.words_end-text_end.result Nil) d in
    subst (λ e. Draws text c.close.new.self (closed_at c.args.end (drawn (stretch_then text c.args.from e Nil) d))) c.words_end-text_end.ensures
    (draws-close text c.draw_words.new.builder c.close.new.self c.args.end line c.close.ensures.closed c.close.ensures.none c.close.ensures.tables (c.in_ok-draw_words.ensures.drawn text d same))
