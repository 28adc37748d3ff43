use Rattle.cmark_inline_model.proofs.DecisionLaws.{decide-recorded, decide-apart, decide-pays}
use Rattle.cmark_inline_model.proofs.DecisionShifted.{decide-shifted}
use Rattle.cmark_inline_model.proofs.laws.decisions_keep_the_rules.Goals as goal

pub returns-clause-recorded : goal.returns-clause-recorded
returns-clause-recorded c = decide-recorded

pub returns-clause-shifted : goal.returns-clause-shifted
returns-clause-shifted c = decide-shifted

pub returns-clause-apart : goal.returns-clause-apart
returns-clause-apart c = decide-apart

pub returns-clause-limit : goal.returns-clause-limit
returns-clause-limit c = decide-pays
