use Rattle.cmark_stream_model.proofs.UndefinedReadings.{undefined-alone, undefined-reading}
use Rattle.cmark_stream_model.proofs.laws.texts_without_definitions_are_read_in_parts.Goals as goal

pub returns-clause-reading : goal.returns-clause-reading
returns-clause-reading c = undefined-reading

pub returns-clause-alone : goal.returns-clause-alone
returns-clause-alone c = undefined-alone
