use Rattle.std.proofs.lemmas.Result.{on_ok_weaker}
use Rattle.std.proofs.Common.{sym, ap, ◌∙◌, subst}
use Rattle.cmark_grammar.specs.Options.{Options}
use Rattle.cmark_line_rules.specs.Rests.{row_of}
use Rattle.cmark_block_model.specs.BlockPass.{ahead_in}
use Rattle.cmark_blocks.specs.Ahead.{lines_at}
use Rattle.cmark_blocks.specs.Runs.{Runs}
use Rattle.cmark_blocks.proofs.TableSteps.{unread-head, begins-paragraph}
use Rattle.cmark_blocks.proofs.state.Pass.begin_text.Goals as goal

pub returns-then-not-reads_tables-clause-runs : goal.returns-then-not-reads_tables-clause-runs
returns-then-not-reads_tables-clause-runs g c =
    on_ok_weaker c.begin_paragraph.result
    (λ ran. λ text options lookup m inside bare runs.
    let row = row_of c.args.rest in
    let ahead = ahead_in text options lookup m.outer (lines_at text row.line_end) in
    subst (λ p. Runs g.E.EntityLookup.replacement text options lookup p c.begin_paragraph.new.self)
    (begins-paragraph text options lookup m inside row ahead bare (unread-head options row ahead (ap (λ (o : Options). o.tables) (sym runs.options_is) ∙ sym c.reads_tables.ensures ∙ c.if-not-reads_tables.true)))
    (ran text options lookup m runs))
    c.begin_paragraph.ensures.runs
