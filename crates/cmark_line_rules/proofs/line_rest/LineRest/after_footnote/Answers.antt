use Rattle.std.proofs.Common.{false, ap, ◌∙◌, sym, Some, None}
use Rattle.cmark_grammar.specs.Containers.{keeps, Footnote}
use Rattle.cmark_line_rules.specs.Rests.{row_of}
use Rattle.cmark_line_rules.proofs.RestSteps.{whole}
use Rattle.cmark_line_rules.proofs.ContainerRows.{footnote-keeps, old-blank, old-keeps}
use Rattle.cmark_line_rules.proofs.line_rest.LineRest.after_footnote.Goals as goal

pub returns-then-not-old : goal.returns-then-not-old
returns-then-not-old c label size =
    c.after_width.ensures 0 None None ∙ footnote-keeps label size (row_of c.args.self)
    ∙ ap (λ o. keeps (Footnote label o size) false (row_of c.args.self)) (sym c.if-not-old.true)

pub returns-then-is_blank : goal.returns-then-is_blank
returns-then-is_blank c label size =
    old-blank label size (row_of c.args.self) (sym c.is_blank.ensures ∙ c.if-is_blank.true)
    ∙ ap (λ o. keeps (Footnote label o size) false (row_of c.args.self)) (sym c.if-not-old.false)

pub with_front-requires : goal.with_front-requires
unfolding row_of
with_front-requires c = let rest = c.args.self in ap (λ r. r.content_end) (c.hold.ensures rest.start rest.line_end)

pub returns : goal.returns
unfolding row_of
returns c label size =
    let rest = c.args.self in
    ap Some (c.with_front.ensures ∙ c.hold.ensures rest.start rest.line_end)
    ∙ old-keeps label size (row_of rest) (whole rest) (sym c.is_blank.ensures ∙ c.if-is_blank.false)
    ∙ ap (λ o. keeps (Footnote label o size) false (row_of rest)) (sym c.if-not-old.false)
