use Rattle.cmark_inline_model.proofs.LeafParts.{leaf-spends}
use Rattle.cmark_inline_model.proofs.ReadingLaws.{all-but-last}
use Rattle.cmark_inline_model.proofs.laws.references_keep_the_limit.Goals as goal

pub returns-clause-spent : goal.returns-clause-spent
returns-clause-spent c reader leaf s parts t h = leaf-spends reader leaf s parts t h

pub returns-clause-below : goal.returns-clause-below
returns-clause-below c = all-but-last
