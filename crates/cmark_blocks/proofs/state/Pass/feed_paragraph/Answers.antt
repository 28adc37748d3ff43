use Rattle.std.proofs.lemmas.Result.{on_ok_weaker}
use Rattle.std.proofs.Common.{true, ◌||◌, map, sym, ap, subst, ◌∙◌}
use Rattle.cmark_grammar.specs.DefinitionLists.{begins_definition}
use Rattle.cmark_blocks.specs.TablesAhead.{block_interrupts}
use Rattle.cmark_line_rules.specs.Rests.{row_of}
use Rattle.cmark_line_rules.proofs.PlainRows.{letter-interrupts-not, letter-table-not, letter-underlines-not}
use Rattle.cmark_blocks.proofs.DefinitionRows.{letter-definition-not}
use Rattle.cmark_line_rules.proofs.RestSteps.{whole}
use Rattle.cmark_block_model.specs.BlockPass.{ahead_in, leaf_closed}
use Rattle.cmark_blocks.specs.Ahead.{lines_at}
use Rattle.cmark_blocks.specs.Runs.{Runs}
use Rattle.cmark_blocks.proofs.FeedSteps.{in_paragraph, feeds-interrupted, feeds-text}
use Rattle.cmark_blocks.proofs.LineSteps.{begins-blank, blank-underlines-not, blank-interrupts}
use Rattle.cmark_blocks.proofs.state.Pass.feed_paragraph.Goals as goal

pub returns-then-begins_with_letter-clause-runs : goal.returns-then-begins_with_letter-clause-runs
returns-then-begins_with_letter-clause-runs g c =
    on_ok_weaker c.add_to_paragraph.result
    (λ ran. λ text options lookup m runs.
    let replacement = g.E.EntityLookup.replacement in
    let row = row_of c.args.rest in
    let letter = sym c.begins_with_letter.ensures ∙ c.if-begins_with_letter.true in
    subst (λ p. Runs replacement text options lookup p c.add_to_paragraph.new.self)
    (sym (feeds-text text options lookup row (lines_at text row.line_end) m (map row_of c.args.self.now.blank_lines.items) c.args.from (row_of c.args.last) (sym (letter-underlines-not row letter)) (whole c.args.rest)
    (sym (ap (λ z. z || block_interrupts options row (ahead_in text options lookup m.outer (lines_at text row.line_end))) (letter-interrupts-not options true row (ahead_in text options lookup m.outer (lines_at text row.line_end)) letter)
    ∙ ap (λ z. z || begins_definition options row) (letter-table-not options row (ahead_in text options lookup m.outer (lines_at text row.line_end)) letter) ∙ letter-definition-not options row letter)) (in_paragraph replacement text options lookup m c.args.self.now runs c.args.from c.args.last c.requires.following.is)))
    (ran text options lookup m runs))
    c.add_to_paragraph.ensures.runs

pub returns-then-is_blank-clause-runs : goal.returns-then-is_blank-clause-runs
returns-then-is_blank-clause-runs g c text options lookup m runs =
    let replacement = g.E.EntityLookup.replacement in
    let row = row_of c.args.rest in
    let next = lines_at text row.line_end in
    let blank = sym c.is_blank.ensures ∙ c.if-is_blank.true in
    let closed = c.in_ok-close_paragraph.ensures.runs text options lookup m runs in
    subst (λ p. Runs replacement text options lookup p c.pass_blank_line.new.self)
    (sym (feeds-interrupted text options lookup row next m (map row_of c.args.self.now.blank_lines.items) c.args.from (row_of c.args.last) (sym (blank-underlines-not row blank)) (whole c.args.rest)
    (sym (ap (λ z. z || block_interrupts options row (ahead_in text options lookup m.outer next)) (blank-interrupts options row (ahead_in text options lookup m.outer next) blank)))
    (in_paragraph replacement text options lookup m c.args.self.now runs c.args.from c.args.last c.requires.following.is)
    ∙ begins-blank text options lookup row next (leaf_closed text options lookup m) (whole c.args.rest) blank))
    (c.pass_blank_line.ensures.runs text options lookup (leaf_closed text options lookup m) closed)
