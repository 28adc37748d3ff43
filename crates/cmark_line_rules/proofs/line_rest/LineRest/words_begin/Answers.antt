use Rattle.std.proofs.Common.{◌≤◌, sym, ap, ◌∙◌, subst}
use Rattle.cmark_grammar.specs.Rows.{begin_of}
use Rattle.cmark_line_rules.specs.Rests.{row_of}
use Rattle.cmark_line_rules.proofs.RestSteps.{begin-start}
use Rattle.cmark_line_rules.proofs.line_rest.LineRest.words_begin.Goals as goal

pub returns-clause-order : goal.returns-clause-order
unfolding row_of
returns-clause-order c =
    let rest = c.args.self.now in
    subst (λ n. begin_of (row_of rest) ≤ n) (sym (c.begin.ensures.place ∙ ap begin_of c.after_indent.ensures.row)) (begin-start rest)
