use Rattle.std.proofs.Common.{◌≡◌, sym, ap, ◌∙◌, arith, eqb-true}
use Rattle.cmark_grammar.specs.Leaves.{is_parted}
use Rattle.cmark_grammar.specs.Columns.{indent}
use Rattle.cmark_scan_lines.specs.LineStart.{columns_from}
use Rattle.cmark_scan_bytes.proofs.Lists.{rest_of}
use Rattle.cmark_scan_lines.proofs.PlaceSteps.{flush-words, not_flush}
use Rattle.cmark_scan_lines.proofs.LineStartSteps.{pending-blank}
use Rattle.cmark_scan_lines.proofs.line_start.LineStart.ahead.Goals as goal

pub returns-then-self-eq0-clause-words : goal.returns-then-self-eq0-clause-words
returns-then-self-eq0-clause-words c at line_end flush =
    let line = c.args.self.now in
    flush-words at line.bytes.now line.taken line.pending line.inside c.if-self-eq0.true (eqb-true _ 0 flush) ∙ sym (rest_of line.bytes.now line.taken)

pub returns-then-self-eq0-clause-blank : goal.returns-then-self-eq0-clause-blank
returns-then-self-eq0-clause-blank c at line_end deep =
    let line = c.args.self.now in
    ap is_parted (rest_of line.bytes.now line.taken) ∙ not_flush at line.bytes.now line.taken line.pending line.inside c.if-self-eq0.true deep

pub returns-else-self-eq0-clause-words : goal.returns-else-self-eq0-clause-words
returns-else-self-eq0-clause-words c at line_end flush =
    let line = c.args.self.now in
    let none : indent (columns_from at line) ≡ 0 = eqb-true _ 0 flush in
    let some = pending-blank at line in
    absurd (c.if-self-eq0.false (omega arith))
