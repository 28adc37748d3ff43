use Rattle.std.proofs.Common.{ap, arith, length, lit<}
use Rattle.std.proofs.lemmas.Str.{length-encode, len_utf8_bounds}
use Rattle.cmark_values.proofs.inline.InlineStrFromChar.from.Goals as goal

-- a character takes at most four bytes
pub push-requires : goal.push-requires
push-requires c = (lit< tt, omega (arith, ap length c.new-text.ensures, length-encode c.args.c, len_utf8_bounds c.args.c))
