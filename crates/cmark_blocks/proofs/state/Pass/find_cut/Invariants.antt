use Rattle.std.proofs.Common.{◌≡◌, ◌-◌, length}
use Rattle.std.specs.Str.{IsCharBoundary}
use Rattle.cmark_stream_model.specs.Settled.{IsSettledAt}
use Rattle.cmark_values.specs.Shown.{shown_options}
use Rattle.cmark_blocks.specs.Cuts.{shown_undecided}
use Rattle.cmark_blocks.proofs.SearchSteps.{Searches}
use Rattle.cmark_blocks.proofs.state.Pass.find_cut.Given as goal

abbrev pub invariant-loop-self : goal.invariant-loop-self
invariant-loop-self g l =
    (l.self.text ≡ l.initial.self.text) × IsCharBoundary l.initial.self.text.now l.search.cut
    × (IsSettledAt (shown_options l.initial.self.options) l.initial.self.text.now l.from
    → Searches g.E.EntityLookup.replacement l.initial.self.text.now (shown_options l.initial.self.options) (g.E.EntityLookup.replacement l.initial.self.entities.now) l.from l.self l.search.cut l.search.is_resolved l.search.after_item (shown_undecided l.search.undecided))

abbrev pub decreases-loop-self : goal.decreases-loop-self
decreases-loop-self g l = length l.self.text.now - l.self.line_end
