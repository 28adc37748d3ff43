use Rattle.std.proofs.Common.{arith}
use Rattle.cmark_stream.proofs.laws.due_refreshes_read_little.Goals as goal

pub returns : goal.returns
returns c = λ cut read size opened unread due. omega (arith, opened, unread, due)
