use Rattle.std.proofs.Common.{sym, ◌∙◌, subst}
use Rattle.std.proofs.lemmas.Result.{on_ok_weaker}
use Rattle.cmark_builder.specs.Drawn.{Draws}
use Rattle.cmark_builder.proofs.CutDrawings.{left_at, cut-none, cut-some, draws-cut, draws-start}
use Rattle.cmark_leaf_nodes.proofs.paragraph.cut_lines.Goals as goal

pub returns-in-Some-clause-drawn : goal.returns-in-Some-clause-drawn
returns-in-Some-clause-drawn c =
    let at = c.args.at in
    let e = c.cut.ensures in
    on_ok_weaker c.draw_words.result
    (λ draws text d before. subst (Draws text c.draw_words.new.builder)
    (cut-some text at c.in-Some.start d (sym (draws-start text c.args.builder.now c.cut.new.self at c.cut.result d e.start e.none before) ∙ c.in-Some.is))
    (draws text (left_at at d.here d.up) (draws-cut text c.args.builder.now c.cut.new.self at c.cut.result d e.kept e.none e.tables before))) c.draw_words.ensures.drawn

pub returns-in-None-clause-drawn : goal.returns-in-None-clause-drawn
returns-in-None-clause-drawn c =
    let at = c.args.at in
    let e = c.cut.ensures in
    λ text d before. subst (Draws text c.cut.new.self)
    (cut-none text at d (sym (draws-start text c.args.builder.now c.cut.new.self at c.cut.result d e.start e.none before) ∙ c.in-None.is))
    (draws-cut text c.args.builder.now c.cut.new.self at c.cut.result d e.kept e.none e.tables before)
