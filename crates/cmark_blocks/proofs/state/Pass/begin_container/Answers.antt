use Rattle.std.proofs.Common.{◌≡◌, true, false, Some, None, option_map, refl, sym, subst, ap, ◌∙◌}
use Rattle.std.specs.Prelude.{IfSome}
use Rattle.cmark_grammar.specs.Containers.{Container, Item, marker_width}
use Rattle.cmark_grammar.specs.Rows.{Row}
use Rattle.cmark_grammar.specs.Options.{Options}
use Rattle.cmark_values.specs.Shown.{shown_block_quote_kind, shown_options}
use Rattle.cmark_block_model.specs.BlockPass.{container_begun, block_quote_begun, item_begun_in, is_item}
use Rattle.cmark_block_model.specs.OpenBlocks as model
use Rattle.cmark_line_rules.specs.Boxes.{is_checked, IsAfterBox}
use Rattle.cmark_line_rules.specs.Rests.{row_of, IsIn}
use Rattle.cmark_line_rules.specs.Starts.{shown_start, inside_of, Enters}
use Rattle.cmark_line_rules.specs.declared.container.ContainerStart.TheVariants as begun
use Rattle.cmark_leaf_nodes.specs.TextColumns.{StandInText, IsRead}
use Rattle.cmark_leaf_nodes.proofs.TextColumnSteps.{without-in_text}
use Rattle.cmark_blocks.specs.declared.state.OpenLeaf.TheVariants as leaf
use Rattle.cmark_blocks.specs.Entered.{takes_line, line_taken}
use Rattle.cmark_blocks.specs.Runs.{Runs, state_of, RunsIn}
use Rattle.cmark_blocks.proofs.BoxSteps.{box-read}
use Rattle.cmark_blocks.proofs.LineSteps.{block_quote-in_text, alert-in_text}
use Rattle.cmark_blocks.proofs.RunSteps.{runs-leaf, none_after_closed}
use Rattle.cmark_blocks.proofs.TaskSteps.{item-alone, item-taken}
use Rattle.cmark_blocks.proofs.state.Pass.begin_container.Goals as goal

pub begin_task-requires-clause-line : goal.begin_task-requires-clause-line
begin_task-requires-clause-line g c =
    let text = c.args.self.now.text.now in
    let options = shown_options c.args.self.now.options in
    let row = row_of c.args.rest in
    let inside = c.in-Item.inside in
    let read = sym (c.task_marker-task.ensures.task options (sym c.reads_tasklists.ensures)) ∙ ap (option_map is_checked) c.in-Some.is in
    let is_inside = subst (λ s. Enters row s) c.in-Item.is c.requires.start.enters options in
    let is_after = subst (λ o. IfSome o (IsAfterBox (row_of inside))) c.in-Some.is c.task_marker-task.ensures.following in
    let in_text = subst (λ (s : Row). StandInText text s.columns) (sym is_inside) (without-in_text text (marker_width (shown_start options row (begun.Item c.in-Item.item inside)) row) row c.requires.line.in_text) in
    subst (λ t. IsRead t.now c.in-Some.following) (sym c.in_ok-begin_item-in-Item.ensures.keeps.text)
    (box-read text options inside c.in-Some.following c.in-Some.is_checked read is_after (subst (λ s. IsIn text (inside_of s)) c.in-Item.is c.requires.start.placed) in_text)

pub returns-then-is_some-clause-runs : goal.returns-then-is_some-clause-runs
returns-then-is_some-clause-runs g c text options lookup m runs =
    let replacement = g.E.EntityLookup.replacement in
    let row = row_of c.args.rest in
    let alert = option_map shown_block_quote_kind c.alert_kind-alert.result in
    let in_text = c.alert_kind-alert.ensures options (ap (λ (o : Options). o.gfm) (sym runs.options_is) ∙ sym c.reads_alerts.ensures) in
    let same = block_quote-in_text options row c.args.start c.in-BlockQuote.inside alert c.in-BlockQuote.is in_text in
    let begun = subst (λ at. Runs replacement text options lookup (block_quote_begun alert at m) c.begin_block_quote.new.self) c.words_begin.ensures.place (c.in_ok-begin_block_quote-in-BlockQuote.ensures.runs text options lookup m runs) in
    let closed = none_after_closed replacement text options lookup _ (state_of c.begin_block_quote.new.self) (c.in_ok-begin_block_quote-in-BlockQuote.ensures.keeps.leaf ∙ c.requires.closed) begun in
    let tagged = runs-leaf replacement text options lookup _ (state_of c.begin_block_quote.new.self) leaf.AfterTag model.AfterTag begun (refl, closed) in (
      subst (λ k. takes_line k ≡ true) (sym same) (alert-in_text c.alert_kind-alert.result true (sym c.is_some.ensures ∙ c.if-is_some.true)),
      subst (λ (k : Container). RunsIn replacement text options lookup (line_taken text options lookup k row (container_begun k row m)) (record (state_of c.begin_block_quote.new.self) { leaf = leaf.AfterTag })) (sym same) tagged,
    )

pub returns-else-is_some-clause-runs : goal.returns-else-is_some-clause-runs
returns-else-is_some-clause-runs g c text options lookup m runs =
    let replacement = g.E.EntityLookup.replacement in
    let row = row_of c.args.rest in
    let alert = option_map shown_block_quote_kind c.alert_kind-alert.result in
    let in_text = c.alert_kind-alert.ensures options (ap (λ (o : Options). o.gfm) (sym runs.options_is) ∙ sym c.reads_alerts.ensures) in
    let same = block_quote-in_text options row c.args.start c.in-BlockQuote.inside alert c.in-BlockQuote.is in_text in
    let begun = subst (λ at. Runs replacement text options lookup (block_quote_begun alert at m) c.begin_block_quote.new.self) c.words_begin.ensures.place (c.in_ok-begin_block_quote-in-BlockQuote.ensures.runs text options lookup m runs) in (
      subst (λ k. takes_line k ≡ false) (sym same) (alert-in_text c.alert_kind-alert.result false (sym c.is_some.ensures ∙ c.if-is_some.false)),
      ap is_item (sym same),
      subst (λ (k : Container). Runs replacement text options lookup (container_begun k row m) c.begin_block_quote.new.self) (sym same) begun,
    )

pub returns-in-Some-clause-runs : goal.returns-in-Some-clause-runs
returns-in-Some-clause-runs g c text options lookup m runs =
    let replacement = g.E.EntityLookup.replacement in
    let row = row_of c.args.rest in
    let item = c.in-Item.item in
    let inside = row_of c.in-Item.inside in
    let checked = c.in-Some.is_checked in
    let read = sym (c.task_marker-task.ensures.task options (ap (λ (o : Options). o.tasklists) (sym runs.options_is) ∙ sym c.reads_tasklists.ensures)) ∙ ap (option_map is_checked) c.in-Some.is in
    let same = ap (shown_start options row) c.in-Item.is ∙ ap (Item item.delimiter item.number item.width) read in
    let is_inside = subst (λ s. Enters row s) c.in-Item.is c.requires.start.enters options in
    let is_after = subst (λ o. IfSome o (IsAfterBox inside)) c.in-Some.is c.task_marker-task.ensures.following in
    let begun = c.in_ok-begin_task-in-Item.ensures.runs text options lookup _ (c.in_ok-begin_item-in-Item.ensures.runs (Some checked) text options lookup m runs) in (
      ap takes_line same,
      subst (λ (k : Container). Runs replacement text options lookup (line_taken text options lookup k row (container_begun k row m)) c.begin_task.new.self) (sym same)
          (subst (λ p. Runs replacement text options lookup p c.begin_task.new.self)
          (item-taken text options lookup m row inside (row_of c.in-Some.following) item.delimiter item.number item.width checked c.begin.result c.begin-in-Some.result is_inside is_after c.begin.ensures.place c.begin-in-Some.ensures.place)
          begun),
    )

pub returns-in_default-clause-runs : goal.returns-in_default-clause-runs
returns-in_default-clause-runs g c text options lookup m runs =
    let replacement = g.E.EntityLookup.replacement in
    let row = row_of c.args.rest in
    let item = c.in-Item.item in
    let read = sym (c.task_marker-task.ensures.task options (ap (λ (o : Options). o.tasklists) (sym runs.options_is) ∙ sym c.reads_tasklists.ensures)) ∙ ap (option_map is_checked) c.in_default.is in
    let same = ap (shown_start options row) c.in-Item.is ∙ ap (Item item.delimiter item.number item.width) read in (
      ap takes_line same,
      ap is_item (sym same),
      subst (λ (k : Container). Runs replacement text options lookup (container_begun k row m) c.begin_item.new.self) (sym same)
          (subst (λ p. Runs replacement text options lookup p c.begin_item.new.self) (sym (item-alone row m item.delimiter item.number item.width))
          (subst (λ at. Runs replacement text options lookup (item_begun_in item.delimiter item.number item.width None at m) c.begin_item.new.self) c.begin.ensures.place (c.in_ok-begin_item-in-Item.ensures.runs None text options lookup m runs))),
    )

pub returns-in_ok-begin_footnote-in-Footnote-clause-runs : goal.returns-in_ok-begin_footnote-in-Footnote-clause-runs
returns-in_ok-begin_footnote-in-Footnote-clause-runs g c text options lookup m runs =
    let replacement = g.E.EntityLookup.replacement in
    let row = row_of c.args.rest in
    let same = ap (shown_start options row) c.in-Footnote.is in (
      ap takes_line same,
      ap is_item (sym same),
      subst (λ s. Runs replacement text options lookup (container_begun (shown_start options row s) row m) c.begin_footnote.new.self) (sym c.in-Footnote.is) (c.in_ok-begin_footnote-in-Footnote.ensures.runs text options lookup m runs),
    )
