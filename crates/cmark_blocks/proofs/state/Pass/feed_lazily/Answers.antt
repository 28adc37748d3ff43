use Rattle.std.proofs.Common.{⊎_elim, map, sym, subst}
use Rattle.std.proofs.lemmas.Result.{on_ok_weaker}
use Rattle.cmark_line_rules.specs.Rests.{row_of}
use Rattle.cmark_blocks.specs.Ahead.{lines_at}
use Rattle.cmark_blocks.specs.Runs.{Runs}
use Rattle.cmark_blocks.proofs.FeedSteps.{in_paragraph, after_tag, in_definition, lazy-paragraph, lazy-following, lazy-definition}
use Rattle.cmark_blocks.proofs.state.Pass.feed_lazily.Goals as goal

pub returns-in-Paragraph-clause-runs : goal.returns-in-Paragraph-clause-runs
returns-in-Paragraph-clause-runs g c =
    let replacement = g.E.EntityLookup.replacement in
    let row = row_of c.args.rest in
    on_ok_weaker c.add_to_paragraph.result
    (λ adds. λ text options lookup m runs. subst (λ p. Runs replacement text options lookup p c.add_to_paragraph.new.self)
    (sym (lazy-paragraph text options lookup row (lines_at text row.line_end) m (map row_of c.args.self.now.blank_lines.items) c.in-Paragraph.from (row_of c.in-Paragraph.last) (in_paragraph replacement text options lookup m c.args.self.now runs c.in-Paragraph.from c.in-Paragraph.last c.in-Paragraph.is)))
    (adds text options lookup m runs))
    c.add_to_paragraph.ensures.runs

pub returns-in_ok-close_leaf-in-Definition-clause-runs : goal.returns-in_ok-close_leaf-in-Definition-clause-runs
returns-in_ok-close_leaf-in-Definition-clause-runs g c =
    on_ok_weaker c.begin_paragraph.result
    (λ ran. λ text options lookup m runs.
    let replacement = g.E.EntityLookup.replacement in
    let row = row_of c.args.rest in
    subst (λ p. Runs replacement text options lookup p c.begin_paragraph.new.self)
    (sym (⊎_elim
    (λ d. lazy-definition text options lookup row (lines_at text row.line_end) m d.0 (in_definition replacement text options lookup m c.args.self.now runs d.0 d.1))
    (λ tag. lazy-following text options lookup row (lines_at text row.line_end) m (after_tag replacement text options lookup m c.args.self.now runs tag))
    c.in-Definition.is))
    (ran text options lookup _ (c.in_ok-close_leaf-in-Definition.ensures.runs text options lookup m runs)))
    c.begin_paragraph.ensures.runs
