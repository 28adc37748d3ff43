use Rattle.std.proofs.Common.{subst}
use Rattle.std.proofs.lemmas.Result.{on_ok_weaker}
use Rattle.cmark_grammar.specs.BlockDocument.{Nil}
use Rattle.cmark_grammar.specs.Tokens.{stretch_then}
use Rattle.cmark_block_model.specs.Drawing.{drawn}
use Rattle.cmark_builder.specs.Drawn.{Draws}
use Rattle.cmark_leaf_nodes.proofs.paragraph.draw_lines.Goals as goal

pub returns-clause-drawn : goal.returns-clause-drawn
returns-clause-drawn c =
    on_ok_weaker c.draw_words.result
    (λ draws text d before. subst (λ line_end. Draws text c.draw_words.new.builder (drawn (stretch_then text c.args.from line_end Nil) d)) c.line_end.ensures.place (draws text d before)) c.draw_words.ensures.drawn
