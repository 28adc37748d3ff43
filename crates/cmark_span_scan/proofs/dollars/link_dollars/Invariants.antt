use Rattle.std.proofs.Common.{◌≡◌, ◌≤◌, length}
use Rattle.cmark_span_scan.proofs.DollarLinks.{AreHeads, AreMade}
use Rattle.cmark_span_scan.proofs.dollars.link_dollars.Given as goal

abbrev pub invariant-loop-index : goal.invariant-loop-index
invariant-loop-index l = record {
  within : l.index ≤ length l.listed;
  whole : length l.links.items ≡ length l.listed;
  made : AreMade l.index l.listed l.links.items;
  heads : AreHeads l.index l.listed l.heads.items;
}

abbrev pub decreases-loop-index : goal.decreases-loop-index
decreases-loop-index l = l.index
