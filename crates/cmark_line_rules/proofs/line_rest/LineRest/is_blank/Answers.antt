use Rattle.cmark_line_rules.specs.Rests.{row_of}
use Rattle.std.proofs.Common.{ap, ◌∙◌}
use Rattle.cmark_grammar.specs.Rows.{is_bare}
use Rattle.cmark_line_rules.proofs.line_rest.LineRest.is_blank.Goals as goal

pub returns : goal.returns
unfolding row_of
returns c = let rest = c.args.self.now in c.is_at_eol.ensures rest.start ∙ ap (λ r. is_bare r.columns) (c.scan_all_space.ensures rest.start rest.line_end)
