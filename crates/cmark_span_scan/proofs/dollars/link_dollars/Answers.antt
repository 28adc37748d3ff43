use Rattle.std.proofs.Common.{arith, rules}
use Rattle.cmark_span_scan.proofs.DollarLinks.{heads-end}
use Rattle.cmark_span_scan.proofs.dollars.link_dollars.Goals as goal

pub loop-index-init : goal.loop-index-init
loop-index-init c = record {
  within = omega arith;
  whole = search rules;
  made = λ i d le lt. absurd (omega (arith, le, lt));
  heads = search (heads-end, rules);
}
