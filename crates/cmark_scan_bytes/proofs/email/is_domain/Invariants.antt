use Rattle.std.proofs.Common.{◌≡◌, length}
use Rattle.cmark_grammar.specs.Autolinks.{is_domain}
use Rattle.cmark_scan_bytes.proofs.email.is_domain.Given as goal

abbrev pub invariant-labels : goal.invariant-labels
invariant-labels l = record { same : is_domain l.rest ≡ is_domain l.initial.rest }

abbrev pub decreases-labels : goal.decreases-labels
decreases-labels l = length l.rest
