use Rattle.cmark_stream.proofs.CutCharacters.{one-cut}
use Rattle.cmark_stream.proofs.laws.bytes_are_cut_in_one_way.Goals as goal

pub returns : goal.returns
returns c = one-cut
