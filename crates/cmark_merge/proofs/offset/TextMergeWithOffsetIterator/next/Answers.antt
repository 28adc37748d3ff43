use Rattle.std.proofs.Common.{inl, Some, subst}
use Rattle.cmark_merge.specs.Steps.{Takes}
use Rattle.cmark_merge.specs.Streams.{ranged_ahead}
use Rattle.cmark_merge.proofs.StreamSteps.{gives-alone, gives-merged}
use Rattle.cmark_merge.proofs.offset.TextMergeWithOffsetIterator.next.Goals as goal

pub returns-in-Some-read_text-clause-steps : goal.returns-in-Some-read_text-clause-steps
returns-in-Some-read_text-clause-steps g c =
    let steps = g.I.Iterator.next_gives in
    let takes = subst (λ x. Takes steps (ranged_ahead c.args.self.now) (Some x) (ranged_ahead c.take.new.self)) c.in-Ok.ensures.text c.in-Some.ensures.takes in
    gives-merged steps (ranged_ahead c.args.self.now) (ranged_ahead c.take.new.self) (ranged_ahead c.read_text.new.self) c.in-Ok.text c.in-Some-read_text.second c.merge.result (ranged_ahead c.merge.new.self) takes c.in-Some-read_text.ensures.reads
    c.merge.ensures.merges

pub returns-in-None-clause-steps : goal.returns-in-None-clause-steps
returns-in-None-clause-steps g c =
    let steps = g.I.Iterator.next_gives in
    let takes = subst (λ x. Takes steps (ranged_ahead c.args.self.now) (Some x) (ranged_ahead c.take.new.self)) c.in-Ok.ensures.text c.in-Some.ensures.takes in
    inl (gives-alone steps (ranged_ahead c.args.self.now) (ranged_ahead c.read_text.new.self) (ranged_ahead c.take.new.self) c.in-Ok.text takes c.in-None.ensures.reads)
