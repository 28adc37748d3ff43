use Rattle.std.proofs.lemmas.Str.{IsCharBoundary-start}
use Rattle.cmark_stream.proofs.RestSteps.{starts-shown}
use Rattle.cmark_stream.proofs.laws.beginnings_are_cuts.Goals as goal

pub returns : goal.returns
returns c profile filtered text utf8 = starts-shown profile filtered text (IsCharBoundary-start text utf8)
