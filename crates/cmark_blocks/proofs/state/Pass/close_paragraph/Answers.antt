use Rattle.std.proofs.Common.{sym, subst}
use Rattle.cmark_grammar.specs.BlockDocument.{Nil}
use Rattle.cmark_grammar.specs.Tokens.{words_end, stretch_then}
use Rattle.cmark_line_rules.specs.Rests.{row_of}
use Rattle.cmark_block_model.specs.BlockPass.{close_leaf}
use Rattle.cmark_block_model.specs.Drawing.{Drawing, drawn, closed_at}
use Rattle.cmark_builder.specs.Drawn.{Draws}
use Rattle.cmark_blocks.specs.Runs.{ShowsLeaf, state_of, RunsIn}
use Rattle.cmark_blocks.specs.declared.state.OpenLeaf.TheVariants as leaf
use Rattle.cmark_blocks.proofs.RunSteps.{runs-builder, runs-closed}
use Rattle.cmark_blocks.proofs.SetextSteps.{read-none}
use Rattle.cmark_blocks.proofs.state.Pass.close_paragraph.Goals as goal

pub invariant_of-self-2-clause-lines : goal.invariant_of-self-2-clause-lines
invariant_of-self-2-clause-lines g c = read-none _ _ c.clear.ensures.items

pub returns-clause-runs : goal.returns-clause-runs
returns-clause-runs g c text options lookup m runs =
    let replacement = g.E.EntityLookup.replacement in
    let before = c.args.self.now in
    let built = c.close_lines.new.builder in
    let shows = subst (λ l. ShowsLeaf text l before.blank_lines.items m.leaf) c.requires.is runs.leaf in
    let d : Drawing = drawn (stretch_then text c.args.from (words_end (row_of c.args.last)) Nil) m.drawing in
    let draws = subst (λ e. Draws text built (closed_at e d)) runs.line_end (c.in_ok-close_lines.ensures.drawn text m.drawing runs.drawing) in
    subst (λ l. RunsIn replacement text options lookup (close_leaf text options lookup l m) (record (state_of before) { builder = built; lines = c.clear.new.self.items; leaf = leaf.Closed })) (sym shows)
    (runs-closed replacement text options lookup _ _ c.clear.new.self
    (runs-builder replacement text options lookup m (state_of before) built (closed_at m.line_end d) runs draws c.in_ok-close_lines.ensures.definitions)
    c.clear.ensures.items)
