use Rattle.std.proofs.lemmas.Result.{on_ok_weaker}
use Rattle.std.proofs.Common.{refl, ap, sym, ◌∙◌, subst}
use Rattle.cmark_grammar.specs.BlockDocument.{FootnoteDefinition}
use Rattle.cmark_grammar.specs.Labels.{normal_form}
use Rattle.cmark_grammar.specs.Rows.{start_of, words_of}
use Rattle.cmark_line_rules.specs.Rests.{row_of}
use Rattle.cmark_line_rules.specs.Starts.{shown_footnote}
use Rattle.cmark_scan_bytes.specs.Footnotes.{marked}
use Rattle.cmark_block_model.specs.BlockPass.{block_begun}
use Rattle.cmark_block_model.specs.Drawing.{opened}
use Rattle.cmark_builder.specs.Drawn.{Draws}
use Rattle.cmark_blocks.specs.Footnotes.{KeepsText, Notes}
use Rattle.cmark_blocks.proofs.FootnoteSteps.{draws-footnote, runs-footnote}
use Rattle.cmark_blocks.proofs.state.Pass.begin_footnote.Goals as goal

pub returns-clause-noted : goal.returns-clause-noted
returns-clause-noted g c =
    on_ok_weaker c.enter.result
    (λ ran.
    let row = row_of c.args.rest in
    let label = (marked (words_of row) c.args.footnote.label_size).bytes in
    let before = c.args.self.now.builder.allocations in
    let kept = c.keep_label.new.allocations in
    subst (λ a. Notes label before.footnotes a.footnotes) (sym (c.enter.ensures.tables ∙ c.in_ok-open.ensures.tables))
    (subst (λ a. Notes label a.footnotes kept.footnotes) c.begin_block.ensures.others.tables
    (subst (λ l. Notes l c.begin_block.new.self.builder.allocations.footnotes kept.footnotes) c.label_in-label.ensures c.in_ok-index.ensures.noted)))
    c.enter.ensures.runs

pub returns-clause-runs : goal.returns-clause-runs
returns-clause-runs g c =
    on_ok_weaker c.enter.result
    (λ ran. λ text options lookup m runs.
    let replacement = g.E.EntityLookup.replacement in
    let before = c.begin_block.new.self in
    let d = (block_begun m).drawing in
    let row = row_of c.args.rest in
    let label = (marked (words_of row) c.args.footnote.label_size).bytes in
    let kind = FootnoteDefinition (normal_form label) in
    let r = c.begin_block.ensures.runs text options lookup m runs in
    let keeps = subst (λ l. KeepsText (normal_form l) before.builder.allocations c.keep_label.new.allocations) c.label_in-label.ensures c.in_ok-index.ensures.kept in
    let draws = subst (λ start. Draws text c.open.new.self (opened start kind d)) c.words_begin.ensures.place
    (draws-footnote text before.builder c.open.new.self c.keep_label.new.allocations c.in_ok-index.index c.words_begin.result (normal_form label) d c.in_ok-index.ensures.index keeps c.in_ok-open.ensures.ok c.in_ok-open.ensures.tables r.drawing) in
    ran (shown_footnote row c.args.footnote.label_size c.args.footnote.old) refl text options lookup _
    (runs-footnote replacement text options lookup (block_begun m) before label c.open.new.self (opened (start_of row) kind d) r draws
    (ap (λ a. a.references) c.in_ok-open.ensures.tables ∙ c.in_ok-index.ensures.references)
    (subst (λ a. Notes label before.builder.allocations.footnotes a.footnotes) (sym c.in_ok-open.ensures.tables)
    (subst (λ l. Notes l before.builder.allocations.footnotes c.keep_label.new.allocations.footnotes) c.label_in-label.ensures c.in_ok-index.ensures.noted))))
    c.enter.ensures.runs
