use Rattle.cmark_values.specs.Shown.{shown_options}
use Rattle.cmark_block_model.specs.BlockPass.{lines_fed}
use Rattle.cmark_block_model.specs.OpenBlocks.{at_start}
use Rattle.cmark_blocks.specs.Ahead.{lines_at}
use Rattle.cmark_blocks.proofs.PassSteps.{leaves}
use Rattle.cmark_blocks.proofs.first_pass.run_first_pass.Goals as goal

pub returns : goal.returns
returns g c =
    let replacement = g.E.EntityLookup.replacement in
    let text = c.args.text.now in
    let options = shown_options c.args.options in
    let lookup = replacement c.args.entities.now in
    let fed = c.in_ok-feed_all.ensures.runs text options lookup at_start c.in_ok-pass.ensures.runs in
    record {
      document = leaves replacement text options lookup c.close_everything.new.self c.finish.result
          (c.in_ok-close_everything.ensures.runs text options lookup (lines_fed text options lookup (lines_at text 0) at_start) fed) c.finish.ensures.tree c.finish.ensures.allocations;
    }
