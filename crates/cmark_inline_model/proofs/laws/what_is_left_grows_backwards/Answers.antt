use Rattle.cmark_inline_model.proofs.Backwards.{left-given, left-leaf}
use Rattle.cmark_inline_model.proofs.DecisionLaws.{decide-recorded}
use Rattle.cmark_inline_model.proofs.DecisionShifted.{decide-shifted}
use Rattle.cmark_inline_model.proofs.laws.what_is_left_grows_backwards.Goals as goal

pub returns-clause-given : goal.returns-clause-given
returns-clause-given c = left-given

pub returns-clause-leaf : goal.returns-clause-leaf
returns-clause-leaf c reader = left-leaf reader (decide-recorded reader) (decide-shifted reader)
