use Rattle.std.proofs.Common.{◌≡◌, Some, None, option_map, sym, ap, ◌∙◌}
use Rattle.cmark_grammar.specs.LinkDefinitions.{definition_in}
use Rattle.cmark_link_definitions.specs.Settled.{end_settles, settles_as, settles}
use Rattle.cmark_link_definitions.specs.Shown.{shown_definition}
use Rattle.cmark_link_definitions.proofs.SettledSteps.{settled}
use Rattle.cmark_link_definitions.proofs.settled.is_settled.Goals as goal

pub returns-in-Some-clause-settled : goal.returns-in-Some-clause-settled
returns-in-Some-clause-settled c h =
    let paragraph = c.args.paragraph.now in
    let definition = c.in-Some.definition in
    let found : Some (shown_definition paragraph definition) ≡ definition_in paragraph = ap (option_map (shown_definition paragraph)) (sym c.in-Some.is) ∙ c.scan_definition.ensures.value in
    let is : settles paragraph ≡ c.end_settles.result = ap (settles_as paragraph) (sym found) ∙ ap (end_settles (shown_definition paragraph definition).definition.title) (sym c.range_from.ensures.value) ∙ sym c.end_settles.ensures in
    settled paragraph (is ∙ h)

pub returns-in-None-clause-settled : goal.returns-in-None-clause-settled
returns-in-None-clause-settled c h =
    let paragraph = c.args.paragraph.now in
    let found : None ≡ definition_in paragraph = ap (option_map (shown_definition paragraph)) (sym c.in-None.is) ∙ c.scan_definition.ensures.value in
    settled paragraph (ap (settles_as paragraph) (sym found) ∙ sym c.label_settles.ensures ∙ h)
