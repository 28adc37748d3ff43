use Rattle.std.proofs.lemmas.Result.{IfOk-weaker}
use Rattle.cmark_parser.proofs.html.to_html.Goals as goal

pub returns : goal.returns
returns g c = IfOk-weaker c.filtered_html.result _ _ (λ output h. record { events = h.events; reading = h.reading; output_is = h.output_is }) c.filtered_html.ensures
