use Rattle.std.proofs.Common.{arith}
use Rattle.cmark_search.specs.Sets.{in_keys}
use Rattle.cmark_search.proofs.Sets.{first-place, no-place}
use Rattle.cmark_search.proofs.search.find_first.Goals as goal

pub returns-then-at-bytes : goal.returns-then-at-bytes
returns-then-at-bytes c = first-place (in_keys c.args.keys.now) c.args.bytes.now c.find-at.result c.find-at.ensures.value (omega arith)

pub returns-else-at-bytes : goal.returns-else-at-bytes
returns-else-at-bytes c = no-place (in_keys c.args.keys.now) c.args.bytes.now c.find-at.result c.find-at.ensures.value (omega arith)
