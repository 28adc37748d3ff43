use Rattle.std.specs.Prelude.{◌≡◌, IfOk, None}
use Rattle.std.proofs.Common.{string_bytes, subst}
use Rattle.std.proofs.lemmas.Result.{IfOk-weaker}
use Rattle.cmark_grammar.specs.Headline.{usual_limit}
use Rattle.cmark_values.specs.Shown.{shown_options}
use Rattle.cmark_parser.specs.Parsing.{Reads, callback_of}
use Rattle.cmark_parser.proofs.RenderSteps.{rendered}
use Rattle.cmark_parser.proofs.html.filtered_html.Goals as goal

pub returns-in-Ok : goal.returns-in-Ok
returns-in-Ok g c =
    let replacement = g.E.EntityLookup.replacement in
    let reads = subst (λ made. IfOk made (Reads replacement c.args.text.now (shown_options c.args.options) (replacement c.args.entities.now))) c.in-Ok.is c.new_ext-made.ensures.reads in
    let callback = subst (λ made. IfOk made (λ parser. callback_of parser ≡ None)) c.in-Ok.is c.new_ext-made.ensures.callback in
    IfOk-weaker c.html_of.result _ _ (λ output all. rendered _ _ (g.T.Filter.filtered c.args.filter.now) (usual_limit c.args.text.now) c.in-Ok.parser c.html_of.new.parser c.args.text.now _ _ (string_bytes output) reads callback all) c.html_of.ensures
