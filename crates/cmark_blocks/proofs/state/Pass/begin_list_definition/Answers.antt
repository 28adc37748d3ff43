use Rattle.std.proofs.lemmas.Result.{on_ok_weaker}
use Rattle.std.proofs.Common.{refl, ap}
use Rattle.cmark_grammar.specs.BlockDocument.{DefinitionListDefinition}
use Rattle.cmark_grammar.specs.Containers.{ListDefinition}
use Rattle.cmark_block_model.specs.BlockPass.{definition_after}
use Rattle.cmark_block_model.specs.Drawing.{opened}
use Rattle.cmark_builder.proofs.DrawnSteps.{draws-open}
use Rattle.cmark_blocks.proofs.RunSteps.{runs-builder}
use Rattle.cmark_items.specs.Tables.{defined}
use Rattle.cmark_blocks.specs.Runs.{state_of}
use Rattle.cmark_blocks.proofs.state.Pass.begin_list_definition.Goals as goal

pub returns-clause-runs : goal.returns-clause-runs
returns-clause-runs g c =
    on_ok_weaker c.enter.result
    (λ ran. λ text options lookup m runs.
    let start = c.args.start in
    let before = c.join_definitions.new.self in
    let p = definition_after m.inner.title start m in
    let r = c.in_ok-join_definitions.ensures.runs text options lookup m runs in
    let draws = draws-open text before.builder c.open.new.self start _ DefinitionListDefinition p.drawing c.in_ok-open.ensures.ok c.in_ok-open.ensures.tables refl r.drawing in
    ran (ListDefinition c.args.width) refl text options lookup _
    (runs-builder g.E.EntityLookup.replacement text options lookup p (state_of before) c.open.new.self (opened start DefinitionListDefinition p.drawing) r draws (ap defined c.in_ok-open.ensures.tables)))
    c.enter.ensures.runs
