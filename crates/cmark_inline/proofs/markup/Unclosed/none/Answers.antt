use Rattle.std.proofs.Common.{refl}
use Rattle.cmark_inline.proofs.PaidSteps.{paid-none}
use Rattle.cmark_inline.proofs.markup.Unclosed.none.Goals as goal

pub returns-clause-paid : goal.returns-clause-paid
returns-clause-paid c = λ leaf fits. paid-none leaf _ fits refl
