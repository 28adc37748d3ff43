use Rattle.std.proofs.Common.{◌≡◌, ◌≤◌, length}
use Rattle.cmark_grammar.specs.Tags.{after_quotation_mark}
use Rattle.cmark_scan_bytes.specs.Handled.{ForAnswers}
use Rattle.cmark_scan_bytes.proofs.tag.after_quotation_mark.Given as goal

abbrev pub invariant-lines : goal.invariant-lines
invariant-lines g l = record {
  same : ForAnswers g.H.Fn l.handler (λ prefix. after_quotation_mark prefix l.quote 0 l.line ≡ after_quotation_mark prefix l.quote 0 l.initial.line);
  within : length l.line ≤ length l.initial.line;
}

abbrev pub decreases-lines : goal.decreases-lines
decreases-lines g l = length l.line
