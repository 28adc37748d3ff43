use Rattle.std.proofs.lemmas.Result.{on_ok_weaker}
use Rattle.std.proofs.Common.{◌≡◌, Some, None, option_map, sym, ap, ◌∙◌, subst, ◌-◌}
use Rattle.cmark_grammar.specs.LinkDefinitions.{definition_in}
use Rattle.cmark_line_rules.specs.Rests.{row_of}
use Rattle.cmark_link_definitions.specs.Settled.{defined_before}
use Rattle.cmark_link_definitions.specs.Shown.{shown_definition}
use Rattle.cmark_block_model.specs.BlockPass.{ahead_in}
use Rattle.cmark_blocks.specs.Ahead.{lines_at}
use Rattle.cmark_blocks.specs.Runs.{Runs}
use Rattle.cmark_blocks.proofs.DefinitionSteps.{begins-definition, begins-none, left_bytes, decided, lines-taken}
use Rattle.cmark_blocks.proofs.state.Pass.begin_gathered.Goals as goal

pub returns-in_default-clause-runs : goal.returns-in_default-clause-runs
returns-in_default-clause-runs g c =
    on_ok_weaker c.begin_text.result
    (λ ran. λ text options lookup m inside bare runs.
    let replacement = g.E.EntityLookup.replacement in
    let r = row_of c.args.rest in
    let ahead = ahead_in text options lookup m.outer (lines_at text r.line_end) in
    let para = c.as_str-paragraph.result.now in
    let gathered = c.args.gathered.now in
    let holds = c.requires.holds text options lookup m runs in
    let more = left_bytes text options lookup m c.args.rest gathered holds in
    let none : None ≡ definition_in para = ap (option_map (shown_definition para)) (sym c.in_default.is) ∙ c.scan_definition.ensures.value in
    subst (λ p. Runs replacement text options lookup p c.begin_text.new.self)
    (begins-none text options lookup m inside r ahead bare
    (ap (option_map (defined_before more)) none ∙ decided text options lookup m c.args.rest gathered holds para c.as_str-paragraph.ensures.value (c.requires.decides text options lookup m runs)))
    (ran text options lookup m inside bare runs))
    c.begin_text.ensures.runs

pub returns-clause-runs : goal.returns-clause-runs
returns-clause-runs g c =
    on_ok_weaker c.begin_definition.result
    (λ ran. λ text options lookup m inside bare runs.
    let replacement = g.E.EntityLookup.replacement in
    let r = row_of c.args.rest in
    let ahead = ahead_in text options lookup m.outer (lines_at text r.line_end) in
    let para = c.as_str-paragraph.result.now in
    let found = shown_definition para c.in-Some.definition in
    let gathered = c.args.gathered.now in
    let holds = c.requires.holds text options lookup m runs in
    let more = left_bytes text options lookup m c.args.rest gathered holds in
    let some : Some found ≡ definition_in para = ap (option_map (shown_definition para)) (sym c.in-Some.is) ∙ c.scan_definition.ensures.value in
    subst (λ p. Runs replacement text options lookup p c.begin_definition.new.self)
    (begins-definition text options lookup m inside r ahead bare (defined_before more found) c.words_begin.result c.content_end_after-end.result c.saturating_sub-more.result
    (ap (option_map (defined_before more)) some ∙ decided text options lookup m c.args.rest gathered holds para c.as_str-paragraph.ensures.value (c.requires.decides text options lookup m runs))
    c.words_begin.ensures.place
    (c.saturating_sub-more.ensures ∙ ap (λ n. gathered.lines - n) c.line_ends_after-following.ensures ∙ lines-taken text options lookup m c.args.rest gathered holds found.following)
    (c.content_end_after-end.ensures text options lookup m runs))
    (ran text options lookup m runs))
    c.begin_definition.ensures.runs
