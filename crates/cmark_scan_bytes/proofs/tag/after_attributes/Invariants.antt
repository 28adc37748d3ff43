use Rattle.std.proofs.Common.{◌≤◌, length}
use Rattle.cmark_scan_bytes.specs.Handled.{ForAnswers}
use Rattle.cmark_scan_bytes.proofs.TagSteps.{Reached}
use Rattle.cmark_scan_bytes.proofs.tag.after_attributes.Given as goal

abbrev pub invariant-loop-next : goal.invariant-loop-next
invariant-loop-next g l = record {
  reached : ForAnswers g.H.Fn l.handler (λ prefix. Reached prefix l.initial.rest l.rest);
  within : length l.rest ≤ length l.initial.rest;
}

abbrev pub decreases-loop-next : goal.decreases-loop-next
decreases-loop-next g l = length l.rest
