use Rattle.std.proofs.Common.{◌≡◌, ℕ, ◌-◌, sym, ap, ◌∙◌, take, arith}
use Rattle.std.specs.Prelude.{codes}
use Rattle.cmark_grammar.specs.CodeSpans.{without_padding}
use Rattle.cmark_span_scan.proofs.EndSteps.{no_lines}
use Rattle.cmark_span_scan.proofs.code.code_part.Goals as goal

pub returns-clause-value : goal.returns-clause-value
returns-clause-value c =
    c.without_padding.ensures.value
    ∙ ap without_padding
    (c.range-content.ensures.value
    ∙ ap (λ (n : ℕ). take n c.args.ahead.now) (let s : c.args.len - 0 ≡ c.args.len = omega arith in s)
    ∙ sym (no_lines (codes " ") (take c.args.len c.args.ahead.now) (sym c.has_line_ending_within.ensures ∙ c.if-has_line_ending_within.false)))
