use Rattle.cmark_grammar.specs.Questions.{IsNext}
use Rattle.cmark_stream_model.proofs.UndefinedReadings.{all-keep}
use Rattle.cmark_stream_model.proofs.laws.undefined_references_take_nothing.Goals as goal

pub returns : goal.returns
returns c reader undefined silent exchanges = all-keep reader undefined silent (IsNext exchanges)
