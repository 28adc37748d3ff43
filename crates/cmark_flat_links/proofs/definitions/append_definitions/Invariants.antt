use Rattle.std.proofs.Common.{◌≡◌, ◌++◌, map}
use Rattle.cmark_flat.specs.Definitions.{flat_definitions}
use Rattle.cmark_references.specs.Definitions.{definitions, left}
use Rattle.cmark_flat_links.proofs.DefinitionSteps.{reference_of}
use Rattle.cmark_flat_links.proofs.definitions.append_definitions.Given as goal

abbrev pub invariant-loop-label : goal.invariant-loop-label
invariant-loop-label l = l.out.items ++ flat_definitions (map reference_of (left l.label-iterator)) ≡ l.fn.out.items ++ flat_definitions (map reference_of (definitions l.definitions))
