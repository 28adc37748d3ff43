use Rattle.std.proofs.Common.{ap, ◌∙◌, arith}
use Rattle.cmark_grammar.specs.Rows.{indent_of}
use Rattle.cmark_line_rules.specs.Rests.{row_of}
use Rattle.cmark_line_rules.proofs.RestSteps.{in-following}
use Rattle.cmark_line_rules.proofs.line_rest.LineRest.after_indent.Goals as goal

pub with_front-requires : goal.with_front-requires
unfolding row_of
with_front-requires c = let rest = c.args.self in ap (λ r. r.content_end) (c.scan_all_space.ensures rest.start rest.line_end)

pub returns-clause-row : goal.returns-clause-row
unfolding row_of
returns-clause-row c = let rest = c.args.self in c.with_front.ensures ∙ c.scan_all_space.ensures rest.start rest.line_end

pub returns-clause-placed : goal.returns-clause-placed
unfolding row_of
returns-clause-placed c text =
    let rest = c.args.self in
    in-following text (indent_of (row_of rest)) rest c.with_front.result (c.with_front.ensures ∙ c.scan_all_space.ensures rest.start rest.line_end) (omega arith)
