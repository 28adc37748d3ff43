use Rattle.std.proofs.Common.{sym, ◌∙◌}
use Rattle.cmark_inline_model.proofs.SiblingsOne.{spans-sound, spans-one}
use Rattle.cmark_inline_model.proofs.laws.one_spans.Goals as goal

pub returns-clause-some : goal.returns-clause-some
returns-clause-some c = spans-sound

pub returns-clause-one : goal.returns-clause-one
returns-clause-one c options parts first second h k = spans-one options parts first h ∙ sym (spans-one options parts second k)
