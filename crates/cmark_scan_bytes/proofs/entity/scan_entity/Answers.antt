use Rattle.std.proofs.Common.{sym, arith}
use Rattle.std.proofs.lemmas.Grind.{common_steps, elements}
use Rattle.cmark_scan_bytes.proofs.EntitySteps.{closes_after, named_after}
use Rattle.cmark_scan_bytes.proofs.Lists.{rest_of}
use Rattle.cmark_scan_bytes.proofs.Boundaries.{entity_boundary}
use Rattle.cmark_scan_bytes.proofs.entity.scan_entity.Goals as goal

pub returns-in-35-clause-closed : goal.returns-in-35-clause-closed
returns-in-35-clause-closed g c =
    closes_after c.numeric_in.result c.args.bytes.now c.in_ok-rest.rest.now _ c.numeric_in.ensures.closed (sym c.in_ok-rest.ensures.value) c.in-35.len_at_least (rest_of c.in_ok-rest.rest.now 1)

pub returns-in-35-clause-boundary : goal.returns-in-35-clause-boundary
returns-in-35-clause-boundary g c =
    entity_boundary c.numeric_in.result c.args.bytes.now
    (closes_after c.numeric_in.result c.args.bytes.now c.in_ok-rest.rest.now _ c.numeric_in.ensures.closed (sym c.in_ok-rest.ensures.value) c.in-35.len_at_least (rest_of c.in_ok-rest.rest.now 1))

pub returns-in_default-clause-boundary : goal.returns-in_default-clause-boundary
returns-in_default-clause-boundary g c =
    entity_boundary c.named_in.result c.args.bytes.now (named_after c.named_in.result c.args.bytes.now c.in_ok-rest.rest.now c.named_in.ensures.closed (sym c.in_ok-rest.ensures.value))

pub returns-in_default-clause-closed : goal.returns-in_default-clause-closed
returns-in_default-clause-closed g c = grind (arith, elements)

pub returns-in-35-clause-value : goal.returns-in-35-clause-value
returns-in-35-clause-value g c = grind (arith, common_steps)
