use Rattle.std.proofs.Common.{sym, ◌∙◌}
use Rattle.cmark_merge.specs.Streams.{ranged_ahead}
use Rattle.cmark_merge.proofs.ReadSteps.{takes-read}
use Rattle.cmark_merge.proofs.offset.TextMergeWithOffset.take.Goals as goal

pub returns-in-None-clause-takes : goal.returns-in-None-clause-takes
returns-in-None-clause-takes g c =
    takes-read g.I.Iterator.next_gives c.args.self.now.iter c.args.self.now.is_over c.args.self.now.held c.take.new.self (ranged_ahead c.read.new.self) c.read.result
    (sym c.take.ensures.value ∙ c.in-None.is) c.read.ensures.reads (c.read.ensures.held ∙ c.take.ensures.after)
