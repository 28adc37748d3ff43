use Rattle.std.proofs.Common.{ap, ◌∙◌, arith}
use Rattle.cmark_grammar.specs.LinkDefinitions.{up_to, escapes_next}
use Rattle.cmark_scan_bytes.proofs.PartSteps.{reads_none, reads_more, reads_fail, reads_closed, reads_byte, no_bytes}
use Rattle.cmark_scan_bytes.proofs.closed.closed_size.Goals as goal

pub loop-first-init : goal.loop-first-init
loop-first-init c = reads_none _ c.args.bytes.now

pub loop-first-preserved : goal.loop-first-preserved
loop-first-preserved c = grind (arith, reads_more)

pub returns-in-Ends-clause-value : goal.returns-in-Ends-clause-value
returns-in-Ends-clause-value c =
    let cut = c.in-Some.ensures.cases.0 in
    reads_closed _ _ c.args.bytes.now _ c.in-Some.others.now c.in-Some.first.now c.loop-first.invariant cut (ap (up_to c.loop-first.escaped c.args.closer c.args.refused c.args.over_lines) cut ∙ c.in-Ends.ensures.value c.in-Some.others.now _)

pub returns-in-Ends-clause-within : goal.returns-in-Ends-clause-within
returns-in-Ends-clause-within c = (reads_byte _ _ c.args.bytes.now _ _ _ c.loop-first.invariant c.in-Some.ensures.cases.0).0

pub returns-in-Ends-clause-closed : goal.returns-in-Ends-clause-closed
returns-in-Ends-clause-closed c = (reads_byte _ _ c.args.bytes.now _ _ _ c.loop-first.invariant c.in-Some.ensures.cases.0).1 ∙ c.in-Ends.ensures.ends

pub returns-in-Fails-clause-value : goal.returns-in-Fails-clause-value
returns-in-Fails-clause-value c =
    let cut = c.in-Some.ensures.cases.0 in
    reads_fail _ _ c.args.bytes.now _ c.loop-first.invariant (ap (up_to c.loop-first.escaped c.args.closer c.args.refused c.args.over_lines) cut ∙ c.in-Fails.ensures.value c.in-Some.others.now (up_to (escapes_next c.loop-first.escaped c.in-Some.first.now) c.args.closer c.args.refused c.args.over_lines c.in-Some.others.now))

pub returns-clause-value : goal.returns-clause-value
returns-clause-value c = reads_fail _ _ c.args.bytes.now _ c.loop-first.invariant (ap (up_to c.loop-first.escaped c.args.closer c.args.refused c.args.over_lines) (no_bytes c.loop-first.rest.now c.in_default.ensures.cases))
