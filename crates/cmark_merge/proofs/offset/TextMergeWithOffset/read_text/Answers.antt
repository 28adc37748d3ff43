use Rattle.std.proofs.Common.{None, sym, subst}
use Rattle.cmark_merge.specs.Steps.{ReadsText}
use Rattle.cmark_merge.specs.Streams.{ranged_ahead}
use Rattle.cmark_merge.proofs.JoinSteps.{reads-held}
use Rattle.cmark_merge.proofs.offset.TextMergeWithOffset.read_text.Goals as goal

pub returns-in-Err-clause-reads : goal.returns-in-Err-clause-reads
returns-in-Err-clause-reads g c =
    let other = c.in-Err.ensures.other in
    subst (λ held. ReadsText g.I.Iterator.next_gives (ranged_ahead c.args.self.now) None (record { iter = c.read.new.self.iter; held = held; is_over = c.read.new.self.is_over }))
    (sym c.replace.ensures.after)
    (reads-held g.I.Iterator.next_gives (ranged_ahead c.args.self.now) (ranged_ahead c.read.new.self) c.in-Some.item c.in-Err.item c.in-Some.ensures.reads other.0, other.1, tt)
