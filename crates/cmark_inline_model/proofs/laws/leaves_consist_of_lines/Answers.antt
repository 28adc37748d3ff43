use Rattle.cmark_inline_model.proofs.LeafLines.{derived-lines}
use Rattle.cmark_inline_model.proofs.laws.leaves_consist_of_lines.Goals as goal

pub returns : goal.returns
returns c = derived-lines
