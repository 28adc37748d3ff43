use Rattle.std.proofs.lemmas.Result.{IfOk-weaker}
use Rattle.cmark_parser.proofs.SafeSteps.{safe_html, safe_html_of}
use Rattle.cmark_parser.proofs.html.to_safe_html.Goals as goal

pub returns-clause-safe : goal.returns-clause-safe
returns-clause-safe g c = IfOk-weaker c.filtered_html.result _ _ (λ output h. safe_html c.args.text.now _ _ c.args.further.now _ h) c.filtered_html.ensures

pub returns-clause-html : goal.returns-clause-html
returns-clause-html g c = IfOk-weaker c.filtered_html.result _ _ (λ output h. safe_html_of c.args.text.now _ _ c.args.further.now _ h) c.filtered_html.ensures
