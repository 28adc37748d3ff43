use Rattle.std.proofs.Common.{length, ap, arith}
use Rattle.cmark_tree.proofs.Steps.{length-spine_of}
use Rattle.cmark_tree.proofs.tree.Tree.spine_len.Goals as goal

pub returns : goal.returns
returns g c z h = let l = ap length h.spine_is in omega (arith, l, length-spine_of z.up, c.len.ensures, c.args.self.now.spine.ok.0)
