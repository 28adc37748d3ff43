use Rattle.cmark_references.proofs.CopySteps.{AreAllOf}
use Rattle.cmark_references.proofs.definitions.RefDefs.clone.Given as goal

abbrev pub invariant-loop-label : goal.invariant-loop-label
invariant-loop-label l = AreAllOf l.copy l.entries l.self
