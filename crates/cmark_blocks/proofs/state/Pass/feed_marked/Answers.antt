use Rattle.std.proofs.lemmas.Result.{on_ok_weaker}
use Rattle.std.proofs.Common.{◌≡◌, true, false, ◌||◌, map, option_map, sym, ap, subst, ◌∙◌, true≢false}
use Rattle.cmark_grammar.specs.DefinitionLists.{begins_definition}
use Rattle.cmark_grammar.specs.Openings.{interrupts}
use Rattle.cmark_grammar.specs.TableRows.{table_interrupts}
use Rattle.cmark_blocks.specs.TableHeads.{may_head}
use Rattle.cmark_blocks.specs.TablesAhead.{block_interrupts}
use Rattle.cmark_values.specs.Shown.{level_number}
use Rattle.cmark_line_rules.specs.Rests.{row_of}
use Rattle.cmark_line_rules.proofs.RestSteps.{whole}
use Rattle.cmark_block_model.specs.BlockPass.{ahead_in}
use Rattle.cmark_blocks.specs.Ahead.{lines_at}
use Rattle.cmark_blocks.specs.Runs.{Runs}
use Rattle.cmark_blocks.proofs.FeedSteps.{in_paragraph, feeds-underline, feeds-interrupted, feeds-text, or-first, or-second, or-last}
use Rattle.cmark_blocks.proofs.PipeRows.{heads-not}
use Rattle.cmark_blocks.proofs.state.Pass.feed_marked.Goals as goal
use Rattle.cmark_blocks.proofs.state.Pass.feed_marked.Goals.{then-interrupts-via-then-interrupts, then-interrupts-via-else-interrupts+then-begins_definition}

pub returns-in-Some-clause-runs : goal.returns-in-Some-clause-runs
returns-in-Some-clause-runs g c =
    on_ok_weaker c.underline.result
    (λ ran. λ text options lookup m runs.
    let replacement = g.E.EntityLookup.replacement in
    let row = row_of c.args.rest in
    subst (λ p. Runs replacement text options lookup p c.underline.new.self)
    (sym (feeds-underline text options lookup row (lines_at text row.line_end) m (map row_of c.args.self.now.blank_lines.items) c.args.from (row_of c.args.last) (level_number c.in-Some.level) (ap (option_map level_number) (sym c.in-Some.is) ∙ c.underlines.ensures) (in_paragraph replacement text options lookup m c.args.self.now runs c.args.from c.args.last c.requires.following.is)))
    (ran text options lookup m runs))
    c.underline.ensures.runs

pub returns-then-interrupts-clause-runs : goal.returns-then-interrupts-clause-runs
returns-then-interrupts-clause-runs g c =
    on_ok_weaker c.begin_anew.result
    (λ ran. λ text options lookup m runs.
    let replacement = g.E.EntityLookup.replacement in
    let row = row_of c.args.rest in
    let next = lines_at text row.line_end in
    let ahead = ahead_in text options lookup m.outer next in
    let ends : true ≡ (interrupts options true row ahead || block_interrupts options row ahead) = elim c.then-interrupts.branch [
      | then-interrupts-via-then-interrupts w ↦ or-first (interrupts options true row ahead) (block_interrupts options row ahead) (sym (c.interrupts.ensures ahead ∙ ap (λ o. interrupts o true row ahead) runs.options_is) ∙ w.if-interrupts.true)
      | then-interrupts-via-else-interrupts+then-begins_definition w ↦ or-second (interrupts options true row ahead) (block_interrupts options row ahead) true (sym (c.interrupts.ensures ahead ∙ ap (λ o. interrupts o true row ahead) runs.options_is) ∙ w.if-interrupts.false)
          (or-last (table_interrupts options row ahead) (begins_definition options row) (sym (w.begins_definition.ensures ∙ ap (λ o. begins_definition o row) runs.options_is) ∙ w.if-begins_definition.true))
    ] in
    subst (λ p. Runs replacement text options lookup p c.begin_anew.new.self)
    (sym (feeds-interrupted text options lookup row next m (map row_of c.args.self.now.blank_lines.items) c.args.from (row_of c.args.last) (ap (option_map level_number) (sym c.in_default.is) ∙ c.underlines.ensures) (whole c.args.rest)
    ends (in_paragraph replacement text options lookup m c.args.self.now runs c.args.from c.args.last c.requires.following.is)))
    (ran text options lookup m runs))
    c.begin_anew.ensures.runs

pub returns-clause-runs : goal.returns-clause-runs
returns-clause-runs g c =
    on_ok_weaker c.add_to_paragraph.result
    (λ ran. λ text options lookup m runs.
    let replacement = g.E.EntityLookup.replacement in
    let row = row_of c.args.rest in
    let next = lines_at text row.line_end in
    let ahead = ahead_in text options lookup m.outer next in
    let no_table : table_interrupts options row ahead ≡ false = heads-not options row ahead (sym (c.may_head_table.ensures ∙ ap (λ o. may_head o row) runs.options_is) ∙ c.if-may_head_table.false) in
    let goes_on : false ≡ (interrupts options true row ahead || block_interrupts options row ahead) =
    or-second (interrupts options true row ahead) (block_interrupts options row ahead) false (sym (c.interrupts.ensures ahead ∙ ap (λ o. interrupts o true row ahead) runs.options_is) ∙ c.if-interrupts.false)
    (sym (ap (λ z. z || begins_definition options row) no_table ∙ sym (c.begins_definition.ensures ∙ ap (λ o. begins_definition o row) runs.options_is) ∙ c.if-begins_definition.false)) in
    subst (λ p. Runs replacement text options lookup p c.add_to_paragraph.new.self)
    (sym (feeds-text text options lookup row next m (map row_of c.args.self.now.blank_lines.items) c.args.from (row_of c.args.last) (ap (option_map level_number) (sym c.in_default.is) ∙ c.underlines.ensures) (whole c.args.rest)
    goes_on (in_paragraph replacement text options lookup m c.args.self.now runs c.args.from c.args.last c.requires.following.is)))
    (ran text options lookup m runs))
    c.add_to_paragraph.ensures.runs
