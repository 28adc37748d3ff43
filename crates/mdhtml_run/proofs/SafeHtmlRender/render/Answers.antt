use Rattle.mdhtml_run.proofs.Both.{both_ok}
use Rattle.mdhtml_run.proofs.SafeHtmlRender.render.Goals as goal

pub returns-clause-output : goal.returns-clause-output
returns-clause-output g c = both_ok c.to_safe_html.result _ _ _ (λ output s h. record { is_safe = s; is_html = h }) c.to_safe_html.ensures.safe c.to_safe_html.ensures.html
