use Rattle.std.proofs.Common.{◌≡◌, subst, Some, All}
use Rattle.cmark_values.specs.Labelled.{link_key}
use Rattle.cmark_references.specs.Definitions.{entry_of}
use Rattle.cmark_references.proofs.EntrySteps.{each_found}
use Rattle.cmark_references.proofs.definitions.RefDefs.iter.Goals as goal

pub returns-clause-found : goal.returns-clause-found
returns-clause-found c = subst (λ table. All (λ e. entry_of table (link_key e.0) ≡ Some e) table) c.self.view_is (each_found link_key c.self.inside.defs.entries c.iter.ensures.ordered)
