use Rattle.cmark_stream_model.proofs.Walls.{none-decided}
use Rattle.cmark_stream_model.proofs.laws.lines_without_metadata_are_decided.Goals as goal

pub returns : goal.returns
returns c = none-decided
