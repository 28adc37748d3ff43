use Rattle.cmark_values.specs.Shown.{shown_options}
use Rattle.cmark_block_model.specs.BlockPass.{lines_fed}
use Rattle.cmark_block_model.specs.Tails.{starting_at}
use Rattle.cmark_blocks.specs.Ahead.{lines_at}
use Rattle.cmark_blocks.proofs.PassSteps.{leaves-rest}
use Rattle.cmark_blocks.proofs.rest.run_first_pass_from.Goals as goal

pub returns : goal.returns
returns g c =
    let replacement = g.E.EntityLookup.replacement in
    let text = c.args.text.now in
    let from = c.args.from in
    let options = shown_options c.args.options in
    let lookup = replacement c.args.entities.now in
    record {
      document = λ earlier labels defined labelled.
          let fed = c.in_ok-feed_all.ensures.runs text options lookup (starting_at from earlier labels) (c.in_ok-pass.ensures.runs earlier labels defined labelled) in
          leaves-rest replacement text options lookup from earlier labels c.close_everything.new.self c.finish.result
          (c.in_ok-close_everything.ensures.runs text options lookup (lines_fed text options lookup (lines_at text from) (starting_at from earlier labels)) fed) c.finish.ensures.tree c.finish.ensures.allocations;
    }
