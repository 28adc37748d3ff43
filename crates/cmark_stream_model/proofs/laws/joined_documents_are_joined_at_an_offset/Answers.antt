use Rattle.cmark_stream_model.proofs.TailFacts.{joined-at}
use Rattle.cmark_stream_model.proofs.laws.joined_documents_are_joined_at_an_offset.Goals as goal

pub returns : goal.returns
returns c = joined-at
