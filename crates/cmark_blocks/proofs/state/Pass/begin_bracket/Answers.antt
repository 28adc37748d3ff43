use Rattle.std.proofs.lemmas.Result.{on_ok_weaker}
use Rattle.std.proofs.Common.{◌≡◌, true, sym, ap, subst, ◌∙◌}
use Rattle.cmark_grammar.specs.Openings.{text_lines}
use Rattle.cmark_grammar.specs.LinkDefinitions.{further_bytes}
use Rattle.cmark_grammar.specs.Rows.{words_of}
use Rattle.cmark_line_rules.specs.Rests.{row_of}
use Rattle.cmark_block_model.specs.BlockPass.{ahead_in}
use Rattle.cmark_blocks.specs.Ahead.{lines_at}
use Rattle.cmark_blocks.specs.Brackets.{begins_none}
use Rattle.cmark_blocks.specs.Runs.{Runs}
use Rattle.cmark_blocks.proofs.BracketSteps.{none-begins, further-lacks}
use Rattle.cmark_blocks.proofs.DefinitionSteps.{begins-none}
use Rattle.cmark_blocks.proofs.state.Pass.begin_bracket.Goals as goal

pub returns-then-begins_no_definition-clause-runs : goal.returns-then-begins_no_definition-clause-runs
returns-then-begins_no_definition-clause-runs g c =
    on_ok_weaker c.begin_text.result
    (λ ran. λ text options lookup m inside bare runs.
    let r = row_of c.args.rest in
    let ahead = ahead_in text options lookup m.outer (lines_at text r.line_end) in
    let more = text_lines options ahead in
    let seen : begins_none (words_of r) ≡ true = ap begins_none (sym c.words.ensures) ∙ sym c.begins_no_definition.ensures ∙ c.if-begins_no_definition.true in
    subst (λ p. Runs g.E.EntityLookup.replacement text options lookup p c.begin_text.new.self)
    (begins-none text options lookup m inside r ahead bare (sym (none-begins (further_bytes r more) (further-lacks r more) (words_of r) seen)))
    (ran text options lookup m inside bare runs))
    c.begin_text.ensures.runs

pub returns-clause-runs : goal.returns-clause-runs
returns-clause-runs g c text options lookup m inside bare runs =
    c.in_ok-begin_gathered.ensures.runs text options lookup m inside bare runs
