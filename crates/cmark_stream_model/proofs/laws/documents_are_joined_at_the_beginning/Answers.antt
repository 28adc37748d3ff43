use Rattle.cmark_stream_model.proofs.TailFacts.{joined-at-start}
use Rattle.cmark_stream_model.proofs.laws.documents_are_joined_at_the_beginning.Goals as goal

pub returns : goal.returns
returns c = joined-at-start
