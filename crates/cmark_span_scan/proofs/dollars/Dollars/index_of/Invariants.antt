use Rattle.std.proofs.Common.{◌≡◌, ◌≤◌, ◌+◌, ◌-◌, length, drop}
use Rattle.std.specs.List.{prefix_len}
use Rattle.cmark_span_scan.specs.Dollars.{stands_before}
use Rattle.cmark_span_scan.proofs.dollars.Dollars.index_of.Given as goal

abbrev pub invariant-loop-index : goal.invariant-loop-index
invariant-loop-index l = record {
  order : l.first ≤ l.index;
  within : l.index ≤ length l.self.listed.items;
  before : prefix_len (stands_before l.at) l.self.listed.items ≡ l.index + prefix_len (stands_before l.at) (drop l.index l.self.listed.items);
}

abbrev pub decreases-loop-index : goal.decreases-loop-index
decreases-loop-index l = length l.self.listed.items - l.index
