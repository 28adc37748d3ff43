use Rattle.std.proofs.Common.{sym, ap, ◌∙◌, arith}
use Rattle.cmark_grammar.specs.Tokens.{slice}
use Rattle.cmark_line_rules.proofs.RestSteps.{begin-content_end}
use Rattle.cmark_blocks.proofs.GatherSteps.{rest-slice}
use Rattle.cmark_blocks.proofs.gathered.bytes_in.Goals as goal

pub range-requires-clause-start_le_end : goal.range-requires-clause-start_le_end
range-requires-clause-start_le_end c = omega (arith, c.begin.ensures.place, c.content_end.ensures.place, begin-content_end c.args.rest)

pub returns : goal.returns
returns c =
    let text = c.args.text.now in
    c.range.ensures.value ∙ ap (λ from. slice text from c.content_end.result) c.begin.ensures.place ∙ ap (slice text _) c.content_end.ensures.place ∙ sym (rest-slice text c.args.rest c.requires.in_text)
