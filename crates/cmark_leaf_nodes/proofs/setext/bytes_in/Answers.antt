use Rattle.std.proofs.Common.{sym, ap, ◌∙◌, arith}
use Rattle.cmark_grammar.specs.Rows.{begin_of}
use Rattle.cmark_grammar.specs.Tokens.{slice}
use Rattle.cmark_line_rules.specs.Rests.{row_of}
use Rattle.cmark_line_rules.proofs.RestSteps.{rest-runs, begin-content_end}
use Rattle.cmark_leaf_nodes.proofs.ColumnCuts.{bytes-slice}
use Rattle.cmark_leaf_nodes.proofs.setext.bytes_in.Goals as goal

pub range-requires-clause-start_le_end : goal.range-requires-clause-start_le_end
range-requires-clause-start_le_end c = omega (arith, c.begin.ensures.place, c.content_end.ensures.place, begin-content_end c.args.rest)

pub returns : goal.returns
returns c =
    let text = c.args.text.now in
    let r = row_of c.args.rest in
    c.range.ensures.value ∙ ap (λ from. slice text from c.content_end.result) c.begin.ensures.place ∙ ap (slice text _) c.content_end.ensures.place
    ∙ sym (bytes-slice text (begin_of r) r.columns r.content_end (rest-runs c.args.rest) c.requires.in_text)
