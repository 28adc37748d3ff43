use Rattle.std.proofs.Common.{true, false, ◌&&◌, not, take, length, refl, sym, ap, ◌∙◌, true≢false}
use Rattle.std.proofs.lemmas.Option.{slice_get_read}
use Rattle.cmark_line_rules.specs.Rests.{row_of}
use Rattle.cmark_block_model.specs.BlockPass.{ahead_in}
use Rattle.cmark_block_model.specs.OpenBlocks.{takes_lazy}
use Rattle.cmark_grammar.specs.DefinitionLists.{begins_definition, is_definition}
use Rattle.cmark_grammar.specs.Openings.{interrupts}
use Rattle.cmark_grammar.specs.TableRows.{table_interrupts}
use Rattle.cmark_blocks.specs.Ahead.{lines_at}
use Rattle.cmark_blocks.proofs.KeepingSteps.{shows-there}
use Rattle.cmark_blocks.proofs.FeedSteps.{lazily-may, is-not}
use Rattle.cmark_blocks.proofs.state.Pass.may_be_lazy.Goals as goal
use Rattle.cmark_blocks.proofs.state.Pass.may_be_lazy.Goals.{then-takes_lazy, else-takes_lazy}

pub returns-then-not-interrupts : goal.returns-then-not-interrupts
returns-then-not-interrupts g c text options lookup m last others split runs =
    let k = last.container in
    let row = row_of c.args.rest in
    let cs = c.args.self.now.outer.items in
    let ahead = ahead_in text options lookup (take c.args.kept m.outer) (lines_at text row.line_end) in
    let another = c.begins_another.result in
    let takes = c.takes_lazy.ensures text _ m.leaf runs.leaf in
    elim c.if-takes_lazy.branch [
      | then-takes_lazy w ↦
          (let shown = shows-there cs m.outer c.args.kept c.index.result.now last others runs.outer (slice_get_read cs (length cs) c.args.kept c.index.result.now refl c.requires c.index.ensures) split in
          lazily-may options k row ahead (takes_lazy m.leaf) w.interrupts.result another (w.interrupts.ensures ahead ∙ ap (λ o. interrupts o false row ahead) runs.options_is)
          (c.begins_another.ensures k shown ∙ ap (λ o. is_definition k && begins_definition o row) runs.options_is)
          ∙ ap (λ z. (z && (not w.interrupts.result && not another)) && not (table_interrupts options row ahead)) (sym takes ∙ w.if-takes_lazy.true)
          ∙ ap (λ z. (not z && not another) && not (table_interrupts options row ahead)) (is-not w.interrupts.result true (sym w.value-is ∙ c.if-not-interrupts.true)))
      | else-takes_lazy w ↦ absurd (true≢false (sym c.if-not-interrupts.true ∙ w.value-is ∙ w.if-takes_lazy.false))
    ]

pub returns-else-not-interrupts : goal.returns-else-not-interrupts
returns-else-not-interrupts g c text options lookup m last others split runs =
    let k = last.container in
    let row = row_of c.args.rest in
    let ahead = ahead_in text options lookup (take c.args.kept m.outer) (lines_at text row.line_end) in
    let another = is_definition k && begins_definition options row in
    let takes = c.takes_lazy.ensures text _ m.leaf runs.leaf in
    elim c.if-takes_lazy.branch [
      | then-takes_lazy w ↦
          lazily-may options k row ahead (takes_lazy m.leaf) w.interrupts.result another (w.interrupts.ensures ahead ∙ ap (λ o. interrupts o false row ahead) runs.options_is) refl
          ∙ ap (λ z. (z && (not w.interrupts.result && not another)) && not (table_interrupts options row ahead)) (sym takes ∙ w.if-takes_lazy.true)
          ∙ ap (λ z. (not z && not another) && not (table_interrupts options row ahead)) (is-not w.interrupts.result false (sym w.value-is ∙ c.if-not-interrupts.false))
          ∙ sym (ap (λ z. z && not (table_interrupts options row ahead)) c.if-not-interrupts.false)
      | else-takes_lazy w ↦
          lazily-may options k row ahead (takes_lazy m.leaf) (interrupts options false row ahead) another refl refl
          ∙ ap (λ z. (z && (not (interrupts options false row ahead) && not another)) && not (table_interrupts options row ahead)) (sym takes ∙ w.if-takes_lazy.false)
          ∙ sym (ap (λ z. z && not (table_interrupts options row ahead)) c.if-not-interrupts.false)
    ]
