use Rattle.std.proofs.Common.{◌≡◌, ◌≤◌, arith}
use Rattle.cmark_grammar.specs.Rows.{begin_of}
use Rattle.cmark_line_rules.specs.Rests.{row_of}
use Rattle.cmark_line_rules.proofs.RestSteps.{begin-content_end}
use Rattle.cmark_leaf_nodes.proofs.stretch.stretches_of.Goals as goal

pub invariant_of-content : goal.invariant_of-content
invariant_of-content c =
    let le : begin_of (row_of c.args.rest) ≤ (row_of c.args.rest).content_end = begin-content_end c.args.rest in
    let start : c.begin-start.result ≡ begin_of (row_of c.args.rest) = c.begin-start.ensures.place in
    let content_end : c.content_end-content_end.result ≡ (row_of c.args.rest).content_end = c.content_end-content_end.ensures.place in
    record { ordered = omega (arith, le, start, content_end) }

pub invariant_of-line : goal.invariant_of-line
invariant_of-line c =
    let le : begin_of (row_of c.args.rest) ≤ (row_of c.args.rest).content_end = begin-content_end c.args.rest in
    let start : c.begin-start.result ≡ begin_of (row_of c.args.rest) = c.begin-start.ensures.place in
    let order : (row_of c.args.rest).content_end ≤ c.line_end-line_end.result = c.line_end-line_end.ensures.order in
    record { ordered = omega (arith, le, start, order) }
