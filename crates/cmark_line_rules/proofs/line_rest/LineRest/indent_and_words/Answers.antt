use Rattle.cmark_line_rules.specs.Rests.{row_of}
use Rattle.std.proofs.Common.{ap, ◌∙◌, sym, arith}
use Rattle.cmark_grammar.specs.Columns.{bytes_of}
use Rattle.cmark_grammar.specs.Rows.{is_bare}
use Rattle.cmark_line_rules.proofs.RestSteps.{passed-twice}
use Rattle.cmark_line_rules.proofs.line_rest.LineRest.indent_and_words.Goals as goal

pub returns-then-is_at_eol-clause-blank : goal.returns-then-is_at_eol-clause-blank
unfolding row_of
returns-then-is_at_eol-clause-blank c _ =
    let rest = c.args.self.now in
    let count = c.scan_space_upto-indent.ensures.count rest.start in
    let passed = passed-twice rest.start rest.line_end c.scan_space_upto-indent.result rest.front c.scan_space_upto-indent.new.self c.scan_all_space.new.self (omega (arith, count)) (c.scan_space_upto-indent.ensures.rest rest.start rest.line_end) (c.scan_all_space.ensures rest.start rest.line_end) in
    sym (c.is_at_eol.ensures rest.start ∙ ap (λ r. is_bare r.columns) passed) ∙ c.if-is_at_eol.true

pub returns-clause-some : goal.returns-clause-some
unfolding row_of
returns-clause-some c =
    let rest = c.args.self.now in
    let count = c.scan_space_upto-indent.ensures.count rest.start in
    let passed = passed-twice rest.start rest.line_end c.scan_space_upto-indent.result rest.front c.scan_space_upto-indent.new.self c.scan_all_space.new.self (omega (arith, count)) (c.scan_space_upto-indent.ensures.rest rest.start rest.line_end) (c.scan_all_space.ensures rest.start rest.line_end) in
    sym (c.is_at_eol.ensures rest.start ∙ ap (λ r. is_bare r.columns) passed) ∙ c.if-is_at_eol.false

pub returns-clause-words : goal.returns-clause-words
unfolding row_of
returns-clause-words c =
    let rest = c.args.self.now in
    let count = c.scan_space_upto-indent.ensures.count rest.start in
    let passed = passed-twice rest.start rest.line_end c.scan_space_upto-indent.result rest.front c.scan_space_upto-indent.new.self c.scan_all_space.new.self (omega (arith, count)) (c.scan_space_upto-indent.ensures.rest rest.start rest.line_end) (c.scan_all_space.ensures rest.start rest.line_end) in
    sym (c.remaining_bytes.ensures rest.start) ∙ ap (λ r. bytes_of r.columns) passed
