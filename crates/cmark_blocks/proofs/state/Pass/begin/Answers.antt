use Rattle.std.proofs.lemmas.Result.{on_ok_weaker}
use Rattle.std.proofs.Common.{length, false, sym, subst, ◌∙◌}
use Rattle.cmark_grammar.specs.Blocks.{place_in}
use Rattle.cmark_grammar.specs.Containers.{is_alert, enter}
use Rattle.cmark_block_model.specs.BlockPass.{ahead_in, begin_in, container_begun, inside_begun, is_item, place_of}
use Rattle.cmark_line_rules.specs.Rests.{row_of}
use Rattle.cmark_line_rules.specs.declared.opening.Opening.TheVariants as opening
use Rattle.cmark_line_rules.proofs.RestSteps.{whole}
use Rattle.cmark_values.specs.Shown.{shown_options}
use Rattle.cmark_blocks.specs.Ahead.{lines_at}
use Rattle.cmark_blocks.specs.Runs.{Runs}
use Rattle.cmark_blocks.proofs.FlushRows.{BeginsOnly, letter-begins, bracket-begins}
use Rattle.cmark_blocks.proofs.LineSteps.{begins-blank, leaf-begins}
use Rattle.cmark_blocks.proofs.state.Pass.begin.Goals as goal

pub returns-then-is_blank-clause-runs : goal.returns-then-is_blank-clause-runs
returns-then-is_blank-clause-runs g c text options lookup m runs =
    let row = row_of c.args.line in
    subst (λ p. Runs g.E.EntityLookup.replacement text options lookup p c.pass_blank_line.new.self)
    (sym (begins-blank text options lookup row (lines_at text row.line_end) m (whole c.args.line) (sym c.is_blank.ensures ∙ c.if-is_blank.true)))
    (c.pass_blank_line.ensures.runs text options lookup m runs)

pub returns-then-begins_with_text-clause-runs : goal.returns-then-begins_with_text-clause-runs
returns-then-begins_with_text-clause-runs g c =
    on_ok_weaker c.begin_text.result
    (λ ran. λ text options lookup m runs.
    let row = row_of c.args.line in
    let next = lines_at text row.line_end in
    let columns = length row.columns in
    let only : BeginsOnly options opening.Plain row = letter-begins options row (whole c.args.line) (sym c.is_blank.ensures ∙ c.if-is_blank.false) (sym c.begins_with_text.ensures ∙ c.if-begins_with_text.true) in
    subst (λ p. Runs g.E.EntityLookup.replacement text options lookup p c.begin_text.new.self)
    (leaf-begins text options lookup row next columns false m opening.Plain only.opens_as (only.defines_not (place_of m.inner)) (only.metadata_not (ahead_in text options lookup m.outer next)))
    (ran text options lookup m (λ k. inside_begun (is_alert k) (container_begun k row m) (begin_in text options lookup columns (place_in k) (enter k row) next (is_item k) (container_begun k row m))) false runs))
    c.begin_text.ensures.runs

pub returns-then-begins_with_label-clause-runs : goal.returns-then-begins_with_label-clause-runs
returns-then-begins_with_label-clause-runs g c =
    on_ok_weaker c.begin_bracket.result
    (λ ran. λ text options lookup m runs.
    let row = row_of c.args.line in
    let next = lines_at text row.line_end in
    let columns = length row.columns in
    let here : BeginsOnly (shown_options c.args.self.now.options) opening.Bracket row =
    bracket-begins (shown_options c.args.self.now.options) row (whole c.args.line) (sym c.is_blank.ensures ∙ c.if-is_blank.false) (sym c.begins_with_label.ensures ∙ c.if-begins_with_label.true) in
    let only : BeginsOnly options opening.Bracket row = subst (λ o. BeginsOnly o opening.Bracket row) runs.options_is here in
    subst (λ p. Runs g.E.EntityLookup.replacement text options lookup p c.begin_bracket.new.self)
    (leaf-begins text options lookup row next columns false m opening.Bracket only.opens_as (only.defines_not (place_of m.inner)) (only.metadata_not (ahead_in text options lookup m.outer next)))
    (ran text options lookup m (λ k. inside_begun (is_alert k) (container_begun k row m) (begin_in text options lookup columns (place_in k) (enter k row) next (is_item k) (container_begun k row m))) false runs))
    c.begin_bracket.ensures.runs
