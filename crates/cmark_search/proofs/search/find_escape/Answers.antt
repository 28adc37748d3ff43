use Rattle.std.proofs.Common.{refl, arith}
use Rattle.std.proofs.lemmas.Bool.{agree_below_at}
use Rattle.memchr.specs.Find.{is_byte2}
use Rattle.cmark_search.specs.Sets.{in_keys}
use Rattle.cmark_search.specs.declared.search.TheConstants.{ESCAPES}
use Rattle.cmark_search.proofs.Sets.{first-same}
use Rattle.cmark_search.proofs.search.find_escape.Goals as goal

-- the keys agree with the test at each byte
pub returns : goal.returns
returns c =
    first-same (in_keys ESCAPES.now) (is_byte2 38 92) c.args.bytes.now c.find_first.result (λ b small. agree_below_at (in_keys ESCAPES.now) (is_byte2 38 92) 256 b refl small) (λ k. omega (arith, c.type_inv.bytes k)) c.find_first.ensures
