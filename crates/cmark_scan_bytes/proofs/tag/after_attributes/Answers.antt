use Rattle.std.proofs.Common.{sym, arith}
use Rattle.cmark_scan_bytes.proofs.TagSteps.{reached_next, reached_all}
use Rattle.cmark_scan_bytes.proofs.tag.after_attributes.Goals as goal

pub loop-next-preserved : goal.loop-next-preserved
loop-next-preserved g c = record {
  reached = λ prefix answers. reached_next prefix _ _ _ (c.loop-next.invariant.reached prefix answers) (sym (c.in-Some.ensures.value prefix answers)) c.in-Some.ensures.within;
  within = let lt = c.in-Some.ensures.within in omega (arith, lt);
}

pub returns-clause-value : goal.returns-clause-value
returns-clause-value g c = λ prefix answers. reached_all prefix _ _ (c.loop-next.invariant.reached prefix answers) (sym (c.in_default.ensures.value prefix answers))
