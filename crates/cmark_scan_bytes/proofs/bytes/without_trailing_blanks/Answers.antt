use Rattle.std.proofs.Common.{rules}
use Rattle.cmark_grammar.specs.Columns.{is_blank_byte}
use Rattle.cmark_scan_bytes.proofs.bytes.without_trailing_blanks.Goals as goal

pub returns-clause-value : goal.returns-clause-value
returns-clause-value c = c.without_trailing.ensures.value is_blank_byte (λ b r low answers. search rules)
