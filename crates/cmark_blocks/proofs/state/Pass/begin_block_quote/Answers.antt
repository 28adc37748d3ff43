use Rattle.std.proofs.lemmas.Result.{on_ok_weaker}
use Rattle.std.proofs.Common.{option_map, refl, ap}
use Rattle.cmark_values.specs.Shown.{shown_block_quote_kind}
use Rattle.cmark_grammar.specs.BlockDocument.{BlockQuote}
use Rattle.cmark_grammar.specs.Containers.{BlockQuote as BlockQuotePrefix}
use Rattle.cmark_block_model.specs.BlockPass.{block_begun}
use Rattle.cmark_block_model.specs.Drawing.{opened}
use Rattle.cmark_builder.proofs.DrawnSteps.{draws-open}
use Rattle.cmark_blocks.proofs.RunSteps.{runs-builder}
use Rattle.cmark_blocks.specs.Runs.{state_of}
use Rattle.cmark_blocks.proofs.state.Pass.begin_block_quote.Goals as goal
use Rattle.cmark_items.specs.Tables.{defined}

pub returns-clause-runs : goal.returns-clause-runs
returns-clause-runs g c =
    on_ok_weaker c.enter.result
    (λ ran. λ text options lookup m runs.
    let before = c.begin_block.new.self in
    let r = c.begin_block.ensures.runs text options lookup m runs in
    let draws = draws-open text before.builder c.open.new.self c.args.start _ (BlockQuote (option_map shown_block_quote_kind c.args.alert)) (block_begun m).drawing c.in_ok-open.ensures.ok c.in_ok-open.ensures.tables refl r.drawing in
    ran (BlockQuotePrefix (option_map shown_block_quote_kind c.args.alert)) tt text options lookup _
    (runs-builder g.E.EntityLookup.replacement text options lookup (block_begun m) (state_of before) c.open.new.self (opened c.args.start (BlockQuote (option_map shown_block_quote_kind c.args.alert)) (block_begun m).drawing) r draws (ap defined c.in_ok-open.ensures.tables)))
    c.enter.ensures.runs
