use Rattle.std.proofs.Common.{string_bytes}
use Rattle.std.proofs.lemmas.Result.{IfOk-weaker}
use Rattle.cmark_parser.proofs.RenderSteps.{as_they_are}
use Rattle.cmark_parser.proofs.html.to_html_within.Goals as goal

pub returns : goal.returns
returns g c = IfOk-weaker c.to_filtered_html.result _ _ (λ output h. as_they_are c.args.limit c.args.text.now _ _ (string_bytes output) h) c.to_filtered_html.ensures
