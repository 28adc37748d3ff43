use Rattle.std.proofs.Common.{◌≡◌, ◌++◌, [], length, ◌∷◌}
use Rattle.cmark_leaf_text.specs.Stretches.{AreLines, IsOpen, joined, leaf_bytes}
use Rattle.cmark_leaf_text.proofs.PlaceSteps.{StandSoFar}
use Rattle.cmark_leaf_text.proofs.leaf_text.LeafText.push_lines.Given as goal

abbrev pub invariant-loop-line : goal.invariant-loop-line
invariant-loop-line l = record {
  source : l.self.source.now ≡ l.initial.self.source.now;
  lines : AreLines l.initial.self.source.now l.opened.end l.rest;
  now : IsOpen l.initial.self.source.now l.self.stretches.items l.opened;
  text : joined l.initial.self.source.now (l.self.stretches.items ++ (l.opened ∷ [])) ++ leaf_bytes l.initial.self.source.now l.rest ≡ leaf_bytes l.initial.self.source.now l.lines;
  places : StandSoFar l.initial.self.source.now l.lines l.rest (l.self.stretches.items ++ (l.opened ∷ []));
}

abbrev pub decreases-loop-line : goal.decreases-loop-line
decreases-loop-line l = length l.rest
