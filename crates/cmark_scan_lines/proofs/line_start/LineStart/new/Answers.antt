use Rattle.std.proofs.Common.{◌+◌, length, sym, ap, ◌∙◌}
use Rattle.std.specs.Prelude.{false}
use Rattle.cmark_grammar.specs.Columns.{expand}
use Rattle.cmark_grammar.specs.Lines.{content}
use Rattle.cmark_scan_lines.proofs.ContentSteps.{content-once}
use Rattle.cmark_scan_lines.proofs.line_start.LineStart.new.Goals as goal

pub returns : goal.returns
returns c at line_end = ap (λ cs. record { columns = expand 0 at cs; at = at; content_end = at + length cs; line_end = line_end; lazy = false; held = false }) c.content_len-len.ensures.content

pub invariant_of-result-clause-plain : goal.invariant_of-result-clause-plain
invariant_of-result-clause-plain c =
    let is = c.content_len-len.ensures.content in
    ap content is ∙ content-once c.args.bytes.now ∙ sym is
