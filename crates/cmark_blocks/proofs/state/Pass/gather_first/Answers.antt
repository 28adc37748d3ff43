use Rattle.std.proofs.Common.{arith}
use Rattle.cmark_blocks.proofs.state.Pass.gather_first.Goals as goal

pub returns-clause-gathered : goal.returns-clause-gathered
returns-clause-gathered g c = record { read = c.requires.line; few = omega arith }
