use Rattle.cmark_slot_events.proofs.ShortFirst.{single-first-short, single-some}
use Rattle.cmark_slot_events.proofs.ShortSteps.{single-gives}
use Rattle.cmark_slot_events.proofs.short.single_short.Goals as goal

pub returns-in-Some-clause-gives : goal.returns-in-Some-clause-gives
returns-in-Some-clause-gives c = λ opened. single-gives c.args.leaf.now c.args.slot.start c.args.slot.end c.in-Some.short opened c.requires.read c.requires.slot.part c.in-Some.ensures.inline c.in-Some.ensures.lent c.range-range.result.start c.range-range.result.end c.range-range.ensures.start c.range-range.ensures.end

pub returns-in-Some-clause-first : goal.returns-in-Some-clause-first
returns-in-Some-clause-first c = λ texts links opened following.
    single-first-short c.args.leaf.now texts links c.args.slot following opened c.in-Some.short c.requires.read c.requires.slot.part c.in-Some.ensures.stands c.in-Some.ensures.inline c.in-Some.ensures.lent c.range-range.result.start c.range-range.result.end c.range-range.ensures.start c.range-range.ensures.end

pub returns-in-None-part_of-clause-first : goal.returns-in-None-part_of-clause-first
returns-in-None-part_of-clause-first c = λ texts links opened following. single-some c.args.leaf.now texts links c.args.slot following opened c.requires.alone

pub returns-in-None-clause-first : goal.returns-in-None-clause-first
returns-in-None-clause-first c = λ texts links opened following. single-some c.args.leaf.now texts links c.args.slot following opened c.requires.alone
