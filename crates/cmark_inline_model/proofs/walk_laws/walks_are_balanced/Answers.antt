use Rattle.cmark_inline_model.proofs.ReadingBalanced.{matched-balanced}
use Rattle.cmark_inline_model.proofs.WalkLaws.{walk-matched}
use Rattle.cmark_inline_model.proofs.walk_laws.walks_are_balanced.Goals as goal

pub returns-clause-matched : goal.returns-clause-matched
returns-clause-matched c = walk-matched

pub returns-clause-balanced : goal.returns-clause-balanced
returns-clause-balanced c text document events h = matched-balanced events (walk-matched text document events h)
