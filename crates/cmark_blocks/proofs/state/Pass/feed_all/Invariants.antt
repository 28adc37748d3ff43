use Rattle.std.proofs.Common.{◌≡◌, ◌-◌, length}
use Rattle.cmark_blocks.specs.LineByLine.{FeedsSoFar}
use Rattle.cmark_blocks.proofs.state.Pass.feed_all.Given as goal

abbrev pub invariant-loop-self : goal.invariant-loop-self
invariant-loop-self g l = (l.self.text ≡ l.initial.self.text) × FeedsSoFar g.E.EntityLookup.replacement l.initial.self l.self

abbrev pub decreases-loop-self : goal.decreases-loop-self
decreases-loop-self g l = length l.self.text.now - l.self.line_end
