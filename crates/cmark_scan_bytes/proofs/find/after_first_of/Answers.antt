use Rattle.std.proofs.Common.{◌∙◌, ap}
use Rattle.std.specs.Prelude.{option_copied}
use Rattle.cmark_scan_bytes.proofs.Closers.{closer_found, no_closer}
use Rattle.cmark_scan_bytes.proofs.find.after_first_of.Goals as goal

pub returns-in_err-at-clause-value : goal.returns-in_err-at-clause-value
returns-in_err-at-clause-value c = ap option_copied c.from_residual.ensures ∙ no_closer c.args.closer.now c.requires c.args.bytes.now c.in_err-at.ensures

pub returns-clause-value : goal.returns-clause-value
returns-clause-value c = closer_found c.args.closer.now c.requires c.args.bytes.now _ c.in_ok-at.ensures
