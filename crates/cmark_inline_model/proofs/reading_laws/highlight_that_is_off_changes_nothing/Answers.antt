use Rattle.cmark_inline_model.proofs.WithoutReadings.{reading-to, reading-from}
use Rattle.cmark_inline_model.proofs.WithoutTokens.{special-without}
use Rattle.cmark_inline_model.proofs.reading_laws.highlight_that_is_off_changes_nothing.Goals as goal

pub returns-clause-special : goal.returns-clause-special
returns-clause-special c = special-without

pub returns-clause-reads : goal.returns-clause-reads
returns-clause-reads c = reading-to

pub returns-clause-other : goal.returns-clause-other
returns-clause-other c = reading-from
