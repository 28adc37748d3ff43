use Rattle.std.proofs.lemmas.Grind.{common_steps}
use Rattle.cmark_slot_events.specs.Events.{shown_opened}
use Rattle.cmark_slot_events.specs.declared.leaf_events.Walk.{Walk}
use Rattle.cmark_slot_events.proofs.EventSteps.{opened-more}
use Rattle.std.proofs.Common.{ap, arith}
use Rattle.cmark_slot_events.proofs.leaf_events.LeafEvents.begin.Goals as goal

pub returns-clause-opens : goal.returns-clause-opens
returns-clause-opens c =
    let more = opened-more c.args.self.now.walk.opened.items (record { tag = c.element_end.result; start = c.range-range.result.start; end = c.range-range.result.end }) in
    let walk = ap (λ (w : Walk). shown_opened w.opened.items) c.tag.ensures.walk in
    let items = ap shown_opened c.in_ok-push.ensures.items in
    cc

pub returns-clause-opened : goal.returns-clause-opened
returns-clause-opened c = grind (arith, common_steps)
