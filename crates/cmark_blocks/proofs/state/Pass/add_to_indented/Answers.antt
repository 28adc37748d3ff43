use Rattle.std.proofs.Common.{[], ◌∷◌, ◌++◌, map, sym, ap, ◌∙◌, subst}
use Rattle.cmark_line_rules.specs.Rests.{row_of}
use Rattle.cmark_block_model.specs.OpenBlocks as model
use Rattle.cmark_leaf_nodes.specs.Stretches.{shown_waits}
use Rattle.cmark_blocks.specs.Ahead.{lines_at}
use Rattle.cmark_blocks.specs.IndentedLines.{DrawsLines, lines_drawn, waits_after}
use Rattle.cmark_blocks.specs.Runs.{ShowsLeaf, state_of, RunsIn}
use Rattle.cmark_blocks.specs.declared.state.OpenLeaf.TheVariants as leaf
use Rattle.cmark_blocks.proofs.CodeSteps.{indented-shown}
use Rattle.cmark_blocks.proofs.IndentedSteps.{draws-line, indented-goes-on}
use Rattle.cmark_blocks.proofs.RunSteps.{runs-waiting, runs-builder}
use Rattle.cmark_blocks.proofs.SetextSteps.{read-none}
use Rattle.cmark_blocks.proofs.state.Pass.add_to_indented.Goals as goal

pub invariant_of-self-2-clause-lines : goal.invariant_of-self-2-clause-lines
invariant_of-self-2-clause-lines g c = read-none _ _ c.clear.ensures.items

pub returns-clause-runs : goal.returns-clause-runs
returns-clause-runs g c text options lookup m runs =
    let replacement = g.E.EntityLookup.replacement in
    let before = c.args.self.now in
    let new = c.draw_code_line.new.builder in
    let row = row_of c.args.rest in
    let waits = shown_waits text c.args.waits in
    let blank = map row_of before.blank_lines.items in
    let rows = blank ++ row ∷ [] in
    let is = subst (λ l. ShowsLeaf text l before.blank_lines.items m.leaf) c.requires.is runs.leaf in
    let waiting = subst (λ ls. DrawsLines text before.builder c.draw_blank_lines.new.builder (map row_of ls) c.args.waits c.in_ok-waits.waits) c.deref.ensures.value (c.in_ok-waits.ensures.lines text) in
    let lines = draws-line text row before.builder c.draw_blank_lines.new.builder new blank c.args.waits c.in_ok-waits.waits c.in_ok-left.left waiting (c.in_ok-left.ensures.drawn text) (c.in_ok-left.ensures.waits text) in
    subst (λ p. RunsIn replacement text options lookup p (record (state_of before) { builder = new; leaf = leaf.Indented c.in_ok-left.left c.line_end.result; lines = c.clear.new.self.items }))
    (sym (indented-goes-on text options lookup row (lines_at text row.line_end) m waits c.args.end blank is c.requires.goes_on))
    (runs-waiting replacement text options lookup _ _ (leaf.Indented c.in_ok-left.left c.line_end.result) c.clear.new.self (model.InIndented (waits_after text rows waits) row.line_end [])
    (runs-builder replacement text options lookup m (state_of before) new (lines_drawn text rows waits m.drawing) runs (lines.draws m.drawing runs.drawing) (c.in_ok-left.ensures.definitions ∙ c.in_ok-waits.ensures.definitions))
    (indented-shown text c.in_ok-left.left (waits_after text rows waits) c.line_end.result row.line_end c.clear.new.self.items [] lines.left_is c.line_end.ensures.place (ap (map row_of) c.clear.ensures.items)))
