use Rattle.std.proofs.Common.{refl, take, arith}
use Rattle.std.proofs.lemmas.Bool.{agree_below_at}
use Rattle.memchr.specs.Find.{is_byte2}
use Rattle.cmark_search.specs.Sets.{in_keys}
use Rattle.cmark_search.specs.declared.search.TheConstants.{LINE_ENDS}
use Rattle.cmark_search.proofs.Sets.{first-same, small-before}
use Rattle.cmark_search.proofs.search.find_line_end_within.Goals as goal

-- the keys agree with the test at each byte
pub returns : goal.returns
returns c =
    first-same (in_keys LINE_ENDS.now) (is_byte2 10 13) (take c.args.to c.args.bytes.now) c.find_first_within.result (λ b small. agree_below_at (in_keys LINE_ENDS.now) (is_byte2 10 13) 256 b refl small)
    (λ k. small-before c.args.bytes.now c.args.to k (λ j. omega (arith, c.type_inv.bytes j))) c.find_first_within.ensures
