use Rattle.std.proofs.Common.{Some, ap, subst}
use Rattle.std.proofs.lemmas.Result.{on_ok_weaker}
use Rattle.cmark_grammar.specs.BlockDocument.{Heading}
use Rattle.cmark_block_model.specs.Drawing.{texts_cut}
use Rattle.cmark_builder.specs.Drawn.{Draws}
use Rattle.cmark_values.specs.Shown.{level_number}
use Rattle.cmark_blocks.specs.Setext.{FindsIf}
use Rattle.cmark_blocks.proofs.SetextSteps.{none-attributes, found-unbraced}
use Rattle.cmark_blocks.proofs.heading.setext_body.Goals as goal

pub returns-in_default-clause-kind : goal.returns-in_default-clause-kind
returns-in_default-clause-kind c = λ attributes before last h.
    ap (λ a. Some (Heading (level_number c.args.level) a)) (none-attributes attributes before last (subst (FindsIf attributes before last) c.in_default.is h))

pub returns-clause-drawn : goal.returns-clause-drawn
returns-clause-drawn c =
    on_ok_weaker c.heading_body.result
    (λ draws. λ attributes before last h text d drawn. subst (Draws text c.heading_body.new.builder)
    (found-unbraced text attributes before last c.in-Some.field-0 d (subst (FindsIf attributes before last) c.in-Some.is h))
    (draws text (texts_cut text c.in-Some.field-0.place d) (c.in_ok-cut_lines.ensures.drawn text d drawn)))
    c.heading_body.ensures.drawn
