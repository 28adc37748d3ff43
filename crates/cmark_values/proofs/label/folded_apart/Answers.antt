use Rattle.std.proofs.Common.{sym, ◌∙◌}
use Rattle.cmark_values.proofs.Folds.{folded_none}
use Rattle.cmark_values.proofs.label.folded_apart.Goals as goal

pub returns-in_default : goal.returns-in_default
returns-in_default c = folded_none c.args.text.now (sym c.find_folding.ensures ∙ c.in_default.is)
