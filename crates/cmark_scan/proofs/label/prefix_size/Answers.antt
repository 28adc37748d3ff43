use Rattle.std.proofs.Common.{arith}
use Rattle.std.proofs.lemmas.Grind.{common_steps}
use Rattle.std.proofs.lemmas.Str.{IsCharBoundary-start}
use Rattle.cmark_scan.proofs.label.prefix_size.Goals as goal

pub returns-else-ends_line-clause-within : goal.returns-else-ends_line-clause-within
returns-else-ends_line-clause-within g c utf8 = IsCharBoundary-start c.args.rest.now utf8

pub returns-then-ends_line-clause-within : goal.returns-then-ends_line-clause-within
returns-then-ends_line-clause-within g c = grind (arith, common_steps)

pub returns-then-ends_line-clause-value : goal.returns-then-ends_line-clause-value
returns-then-ends_line-clause-value g c = grind (arith, common_steps)

pub returns-then-ends_line-clause-line : goal.returns-then-ends_line-clause-line
returns-then-ends_line-clause-line g c = grind (arith, common_steps)

pub returns-else-ends_line-clause-line : goal.returns-else-ends_line-clause-line
returns-else-ends_line-clause-line g c = grind (arith, common_steps)
