use Rattle.cmark_stream.proofs.CutCharacters.{can-be-whole}
use Rattle.cmark_stream.proofs.laws.cut_bytes_can_be_whole.Goals as goal

pub returns : goal.returns
returns c = can-be-whole
