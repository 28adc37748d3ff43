use Rattle.std.proofs.Common.{nat_eq, length, ap, ◌∙◌}
use Rattle.cmark_grammar.specs.Columns.{is_blank_byte}
use Rattle.cmark_scan_lines.proofs.ByteSteps.{all_pass-prefix}
use Rattle.cmark_scan_lines.proofs.bytes.are_blank.Goals as goal

pub returns : goal.returns
returns c = ap (λ n. nat_eq n (length c.args.bytes.now)) c.count_blanks.ensures.value ∙ all_pass-prefix is_blank_byte c.args.bytes.now
