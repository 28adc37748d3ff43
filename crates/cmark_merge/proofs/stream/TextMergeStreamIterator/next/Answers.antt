use Rattle.std.proofs.Common.{None, Some, subst}
use Rattle.cmark_merge.specs.Streams.{Gives, ranged_ahead, without_range}
use Rattle.cmark_merge.proofs.WithoutRanges.{merged_without}
use Rattle.cmark_merge.proofs.stream.TextMergeStreamIterator.next.Goals as goal

pub returns-in_default-clause-steps : goal.returns-in_default-clause-steps
returns-in_default-clause-steps g c =
    merged_without g.I.Iterator.next_gives (ranged_ahead c.args.self.now.inner) None (ranged_ahead c.next.new.self) c.in_default.ensures.steps

pub returns-in-Ok-clause-steps : goal.returns-in-Ok-clause-steps
returns-in-Ok-clause-steps g c =
    subst (λ x. Gives g.I.Iterator.next_gives c.args.self.now (Some (without_range x)) (record { inner = c.next.new.self })) c.in-Ok.is
    (merged_without g.I.Iterator.next_gives (ranged_ahead c.args.self.now.inner) (Some c.in-Some.item) (ranged_ahead c.next.new.self) c.in-Some.ensures.steps)

pub returns-in-Err-clause-steps : goal.returns-in-Err-clause-steps
returns-in-Err-clause-steps g c =
    subst (λ x. Gives g.I.Iterator.next_gives c.args.self.now (Some (without_range x)) (record { inner = c.next.new.self })) c.in-Err.is
    (merged_without g.I.Iterator.next_gives (ranged_ahead c.args.self.now.inner) (Some c.in-Some.item) (ranged_ahead c.next.new.self) c.in-Some.ensures.steps)
