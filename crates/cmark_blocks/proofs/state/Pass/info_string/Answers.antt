use Rattle.std.proofs.Common.{ap, ◌∙◌}
use Rattle.std.proofs.lemmas.Result.{IfOk-weaker}
use Rattle.cmark_grammar.specs.Tokens.{resolved}
use Rattle.cmark_blocks.proofs.InfoSteps.{info-slice}
use Rattle.cmark_blocks.proofs.state.Pass.info_string.Goals as goal

pub returns : goal.returns
returns g c =
    let pass = c.args.self.now in
    IfOk-weaker c.unescape.result _ _
    (λ made value. value ∙ ap (resolved (g.E.EntityLookup.replacement pass.entities.now)) (c.range-info.ensures.value ∙ info-slice pass.text.now c.args.rest c.args.fence c.words_begin-words.result c.requires.line c.requires.stands c.words_begin-words.ensures.place))
    c.unescape.ensures.value
