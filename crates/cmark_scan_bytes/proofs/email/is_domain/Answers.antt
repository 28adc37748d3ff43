use Rattle.std.proofs.Common.{sym, ◌∙◌, arith}
use Rattle.cmark_scan_bytes.proofs.EmailSteps.{is_period, last-label, more-labels, no-label}
use Rattle.cmark_scan_bytes.proofs.Lists.{rest_of}
use Rattle.cmark_scan_bytes.proofs.email.is_domain.Goals as goal

pub returns-then-not-is_domain_label : goal.returns-then-not-is_domain_label
returns-then-not-is_domain_label c =
    sym (no-label c.labels.rest.now c.label_size-size.result c.label_size-size.ensures.value (sym c.is_domain_label.ensures ∙ c.if-not-is_domain_label.true)) ∙ c.labels.invariant.same

pub returns-in-None : goal.returns-in-None
returns-in-None c = grind (arith, last-label, is_period, rest_of)

pub labels-preserved : goal.labels-preserved
labels-preserved c = grind (arith, more-labels, is_period, rest_of)
