use Rattle.std.proofs.Common.{ap, ◌∙◌}
use Rattle.cmark_grammar.specs.Rows.{without}
use Rattle.cmark_scan_lines.specs.LineStart.{row_from}
use Rattle.cmark_scan_lines.proofs.line_start.LineStart.scan_space.Goals as goal

pub returns-clause-rest : goal.returns-clause-rest
returns-clause-rest c at line_end =
    c.scan_space_upto.ensures.rest at line_end ∙ ap (λ n. without n (row_from at line_end c.args.self.now)) (c.scan_space_upto.ensures.count at)
