use Rattle.cmark_stream_model.proofs.EndsApart.{ends-grow}
use Rattle.cmark_stream_model.proofs.laws.documents_are_cut_between_lists.Goals as goal

pub returns : goal.returns
returns c = ends-grow
