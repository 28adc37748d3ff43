use Rattle.cmark_inline_model.proofs.WalkLaws.{walk-cut}
use Rattle.cmark_inline_model.proofs.walk_laws.walks_cut_no_character.Goals as goal

pub returns : goal.returns
returns c = walk-cut
