use Rattle.cmark_line_rules.specs.Rests.{row_of}
use Rattle.std.proofs.Common.{ap, ◌∙◌, sym}
use Rattle.cmark_grammar.specs.Columns.{bytes_of}
use Rattle.cmark_line_rules.proofs.line_rest.LineRest.words.Goals as goal

pub returns : goal.returns
unfolding row_of
returns c = let rest = c.args.self.now in sym (c.remaining_bytes.ensures rest.start) ∙ ap (λ r. bytes_of r.columns) (c.scan_all_space.ensures rest.start rest.line_end)
