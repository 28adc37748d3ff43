use Rattle.std.proofs.Common.{rules, arith}
use Rattle.std.proofs.lemmas.Grind.{common_steps}
use Rattle.cmark_slot_events.proofs.ShortFirst.{end-first-short}
use Rattle.cmark_slot_events.proofs.ShortSteps.{end-gives}
use Rattle.cmark_slot_events.proofs.leaf_events.LeafEvents.end_short.Goals as goal

pub returns-in-Some-clause-gives : goal.returns-in-Some-clause-gives
returns-in-Some-clause-gives c = λ source opened. end-gives source c.in-Some.opened c.args.self.now.walk.opened.items c.pop.new.self.items (search (opened, rules)) (search rules)

pub returns-in-Some-clause-first : goal.returns-in-Some-clause-first
returns-in-Some-clause-first c = λ source opened. end-first-short source c.in-Some.opened c.args.self.now.walk.opened.items c.pop.new.self.items (search (opened, rules)) (search rules)

pub returns-in-Some-clause-opened : goal.returns-in-Some-clause-opened
returns-in-Some-clause-opened c = grind (arith, common_steps)
