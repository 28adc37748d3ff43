use Rattle.std.specs.Prelude.{IfOk}
use Rattle.std.proofs.Common.{◌≡◌, subst, ◌∙◌}
use Rattle.cmark_grammar.specs.Labels.{fold, normal_form}
use Rattle.cmark_values.specs.Labelled.{link_key, link_text}
use Rattle.cmark_inline.proofs.reference.label_of.Goals as goal

pub returns-clause-key : goal.returns-clause-key
returns-clause-key c = subst (λ l. IfOk c.new.result (λ made. link_key made ≡ fold l)) (c.as_str.ensures ∙ c.in_ok-written.ensures) c.new.ensures.key

pub returns-clause-text : goal.returns-clause-text
returns-clause-text c = subst (λ l. IfOk c.new.result (λ made. link_text made ≡ normal_form l)) (c.as_str.ensures ∙ c.in_ok-written.ensures) c.new.ensures.text
