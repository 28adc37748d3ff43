use Rattle.std.proofs.Common.{subst}
use Rattle.std.proofs.lemmas.Result.{on_ok_weaker}
use Rattle.cmark_grammar.specs.BlockDocument.{Nil}
use Rattle.cmark_grammar.specs.Tokens.{html_then}
use Rattle.cmark_block_model.specs.Drawing.{drawn}
use Rattle.cmark_builder.specs.Drawn.{Draws}
use Rattle.cmark_line_rules.specs.Rests.{row_of}
use Rattle.cmark_leaf_nodes.proofs.CodeSteps.{draws-html-both, verbatim-parts}
use Rattle.cmark_leaf_nodes.proofs.html.draw_html_line.Goals as goal

pub returns-clause-drawn : goal.returns-clause-drawn
returns-clause-drawn c = on_ok_weaker c.draw_html-2.result
    (λ step text d draws. subst (λ ps. Draws text c.draw_html-2.new.builder (drawn (html_then ps Nil) d))
    (verbatim-parts text (row_of c.args.rest) c.stretches_of.result.0 c.stretches_of.result.1 (c.stretches_of.ensures text))
    (draws-html-both text c.args.builder.now c.draw_left_columns.new.builder c.draw_html-2.new.builder _ _ (c.in_ok-draw_left_columns.ensures.drawn text)
    (draws-html-both text c.draw_left_columns.new.builder c.draw_html.new.builder c.draw_html-2.new.builder _ _ (c.in_ok-draw_html.ensures.drawn text) (step text)) d draws))
    c.draw_html-2.ensures.drawn
