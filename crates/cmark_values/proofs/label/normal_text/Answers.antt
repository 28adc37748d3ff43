use Rattle.std.proofs.Common.{◌++◌, sym, ap, ◌∙◌}
use Rattle.cmark_values.proofs.Words.{one_word}
use Rattle.cmark_values.proofs.label.normal_text.Goals as goal

pub returns : goal.returns
returns c = c.in_ok-push_str.ensures.bytes ∙ ap (λ l. l ++ c.args.label.now) c.in_ok-text.ensures.bytes ∙ one_word c.args.label.now (sym c.find_white_space.ensures ∙ c.in-None.is)
