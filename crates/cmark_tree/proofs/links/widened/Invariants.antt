use Rattle.std.proofs.Common.{◌≡◌, take}
use Rattle.cmark_tree.proofs.links.widened.Given as goal

abbrev pub invariant-loop-link : goal.invariant-loop-link
invariant-loop-link l = l.wide.items ≡ take l.link-index l.narrow.items
