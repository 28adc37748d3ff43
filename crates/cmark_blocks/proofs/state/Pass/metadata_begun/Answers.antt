use Rattle.std.proofs.Common.{true, false, sym, ap, ◌∙◌}
use Rattle.cmark_grammar.specs.Metadata.{metadata_kind}
use Rattle.cmark_values.specs.Shown.{shown_metadata_block_kind}
use Rattle.cmark_line_rules.specs.Rests.{row_of}
use Rattle.cmark_block_model.specs.BlockPass.{ahead_in}
use Rattle.cmark_blocks.specs.Ahead.{lines_at}
use Rattle.cmark_blocks.proofs.MetadataSteps.{begun-as}
use Rattle.cmark_blocks.proofs.state.Pass.metadata_begun.Goals as goal

pub returns-then-holds_metadata : goal.returns-then-holds_metadata
returns-then-holds_metadata g c text options lookup m runs =
    let row = row_of c.args.rest in
    begun-as (shown_metadata_block_kind c.in_ok-kind.kind) (ahead_in text options lookup m.outer (lines_at text row.line_end)) (metadata_kind options row) true
    (ap (λ o. metadata_kind o row) (sym runs.options_is) ∙ sym c.in_ok-kind.ensures) (sym c.if-holds_metadata.true ∙ c.holds_metadata.ensures text options lookup m runs)

pub returns-else-holds_metadata : goal.returns-else-holds_metadata
returns-else-holds_metadata g c text options lookup m runs =
    let row = row_of c.args.rest in
    begun-as (shown_metadata_block_kind c.in_ok-kind.kind) (ahead_in text options lookup m.outer (lines_at text row.line_end)) (metadata_kind options row) false
    (ap (λ o. metadata_kind o row) (sym runs.options_is) ∙ sym c.in_ok-kind.ensures) (sym c.if-holds_metadata.false ∙ c.holds_metadata.ensures text options lookup m runs)
