use Rattle.std.proofs.Common.{arith}
use Rattle.std.proofs.lemmas.List.Sums.{prefix_len-le-length}
use Rattle.cmark_safe.specs.Schemes.{is_before_sign}
use Rattle.cmark_safe.proofs.scheme.scheme_of.Goals as goal

pub split_at-requires : goal.split_at-requires
split_at-requires c = omega (arith, c.count_before_sign.ensures, prefix_len-le-length is_before_sign c.args.destination.now)
