use Rattle.std.proofs.Common.{◌≡◌, ℕ, false, Option, Some, option_map, ap, ◌∙◌}
use Rattle.cmark_grammar.specs.BlockDocument.{node}
use Rattle.cmark_grammar.specs.Derivation.{list_kind}
use Rattle.cmark_items.specs.ItemNodes.{list_number, kind_of, ranged}
use Rattle.cmark_block_model.specs.BlockPass.{block_begun}
use Rattle.cmark_block_model.specs.Drawing.{opened}
use Rattle.cmark_block_model.specs.OpenBlocks as model
use Rattle.cmark_builder.proofs.DrawnSteps.{draws-open}
use Rattle.cmark_blocks.specs.Titles.{with_open}
use Rattle.cmark_blocks.proofs.RunSteps.{runs-builder, runs-inner}
use Rattle.cmark_items.specs.Tables.{defined}
use Rattle.cmark_blocks.specs.Runs.{state_of}
use Rattle.cmark_blocks.proofs.state.Pass.begin_list.Goals as goal

pub returns-clause-runs : goal.returns-clause-runs
returns-clause-runs g c text options lookup m runs =
    let replacement = g.E.EntityLookup.replacement in
    let item = c.args.item in
    let start = c.args.start in
    let before = c.begin_block.new.self in
    let r = c.begin_block.ensures.runs text options lookup m runs in
    let number : list_number item.delimiter c.unwrap_or-number.result ≡ item.number = ap (list_number item.delimiter) c.unwrap_or-number.ensures ∙ c.requires.number in
    let draws = draws-open text before.builder c.open.new.self start _ (list_kind item.delimiter item.number false) (block_begun m).drawing c.in_ok-open.ensures.ok c.in_ok-open.ensures.tables
    (ap (λ s. option_map (ranged start start) (kind_of before.builder.allocations.texts s)) c.body.ensures ∙ ap (λ n. Some (node (list_kind item.delimiter n false) start start)) number)
    r.drawing in
    runs-inner replacement text options lookup _ _ _ _
    (runs-builder replacement text options lookup (block_begun m) (state_of before) c.open.new.self (opened start (list_kind item.delimiter item.number false) (block_begun m).drawing) r draws (ap defined c.in_ok-open.ensures.tables))
    (c.with_list-self.ensures
    ∙ ap (with_open (record { delimiter = item.delimiter; number = list_number item.delimiter c.unwrap_or-number.result; loose = false; end = start })) r.inner
    ∙ ap {A = Option ℕ} {B = model.Siblings} (λ n. record (block_begun m).inner { list = Some (record { delimiter = item.delimiter; number = n; loose = false; end = start }) }) number)
