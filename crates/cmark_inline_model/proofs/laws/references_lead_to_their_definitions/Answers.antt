use Rattle.std.proofs.Common.{refl}
use Rattle.cmark_inline_model.proofs.LeafParts.{leaf-led}
use Rattle.cmark_inline_model.proofs.laws.references_lead_to_their_definitions.Goals as goal

pub returns-clause-formed : goal.returns-clause-formed
returns-clause-formed c reader leaf s parts t h = leaf-led reader leaf s parts t h

pub returns-clause-first : goal.returns-clause-first
returns-clause-first c text profile document folded = refl
