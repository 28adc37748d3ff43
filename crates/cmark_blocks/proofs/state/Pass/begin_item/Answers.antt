use Rattle.std.proofs.lemmas.Result.{on_ok_weaker}
use Rattle.std.proofs.Common.{refl, ap}
use Rattle.cmark_grammar.specs.BlockDocument.{ListItem}
use Rattle.cmark_grammar.specs.Containers.{Item}
use Rattle.cmark_block_model.specs.BlockPass.{item_begun}
use Rattle.cmark_block_model.specs.Drawing.{opened}
use Rattle.cmark_builder.proofs.DrawnSteps.{draws-open}
use Rattle.cmark_blocks.proofs.RunSteps.{runs-builder}
use Rattle.cmark_blocks.specs.Runs.{state_of}
use Rattle.cmark_blocks.proofs.state.Pass.begin_item.Goals as goal
use Rattle.cmark_items.specs.Tables.{defined}

pub returns-clause-runs : goal.returns-clause-runs
returns-clause-runs g c =
    on_ok_weaker c.enter.result
    (λ ran. λ task text options lookup m runs.
    let item = c.args.item in
    let before = c.join_list.new.self in
    let p = item_begun item.delimiter item.number c.args.start m m.inner.list in
    let r = c.in_ok-join_list.ensures.runs text options lookup m runs in
    let draws = draws-open text before.builder c.open.new.self c.args.start _ ListItem p.drawing c.in_ok-open.ensures.ok c.in_ok-open.ensures.tables refl r.drawing in
    ran (Item item.delimiter item.number item.width task) refl text options lookup _
    (runs-builder g.E.EntityLookup.replacement text options lookup p (state_of before) c.open.new.self (opened c.args.start ListItem p.drawing) r draws (ap defined c.in_ok-open.ensures.tables)))
    c.enter.ensures.runs
