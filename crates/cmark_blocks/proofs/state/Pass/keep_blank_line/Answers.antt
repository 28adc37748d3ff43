use Rattle.std.proofs.Common.{is_ok, [], ◌∷◌, ◌++◌, map, refl, sym, ap, ◌∙◌, subst}
use Rattle.std.proofs.lemmas.List.{map-append}
use Rattle.cmark_line_rules.specs.Rests.{row_of}
use Rattle.cmark_block_model.specs.OpenBlocks as model
use Rattle.cmark_leaf_nodes.specs.Stretches.{shown_waits}
use Rattle.cmark_blocks.specs.Ahead.{lines_at}
use Rattle.cmark_blocks.specs.Runs.{ShowsLeaf, state_of, RunsIn}
use Rattle.cmark_blocks.proofs.CodeSteps.{indented-shown}
use Rattle.cmark_blocks.proofs.IndentedSteps.{indented-waits}
use Rattle.cmark_blocks.proofs.SetextSteps.{read-pushed}
use Rattle.cmark_blocks.proofs.RunSteps.{runs-waiting}
use Rattle.cmark_blocks.proofs.state.Pass.keep_blank_line.Goals as goal

pub invariant_of-self : goal.invariant_of-self
invariant_of-self g c = record {
  begins = c.args.self.now.begins;
  lines = read-pushed c.args.self.now.text.now c.args.self.now.blank_lines.items c.push.new.self.items c.args.rest (is_ok c.push.result) c.push.ensures.items c.args.self.now.lines c.requires.line;
  last = c.args.self.now.last;
  empties = c.args.self.now.empties;
  footnotes = c.args.self.now.footnotes;
}

pub returns-clause-runs : goal.returns-clause-runs
returns-clause-runs g c text options lookup m runs =
    let replacement = g.E.EntityLookup.replacement in
    let before = c.args.self.now in
    let row = row_of c.args.rest in
    let stretch = c.requires.is.0 in
    let end = c.requires.is.1 in
    let waits = shown_waits text stretch in
    let blanks = before.blank_lines.items in
    let rows = map row_of blanks ++ row ∷ [] in
    let is = subst (λ l. ShowsLeaf text l blanks m.leaf) c.requires.is.2 runs.leaf in
    let items = ap (map row_of) c.in_ok-push.ensures.items ∙ map-append row_of blanks (c.args.rest ∷ []) in
    subst (λ p. RunsIn replacement text options lookup p (record (state_of before) { lines = c.push.new.self.items }))
    (sym (indented-waits text options lookup row (lines_at text row.line_end) m waits end (map row_of blanks) is c.requires.waits))
    (runs-waiting replacement text options lookup m (state_of before) before.leaf c.push.new.self (model.InIndented waits end rows) runs
    (subst (λ l. ShowsLeaf text l c.push.new.self.items (model.InIndented waits end rows)) (sym c.requires.is.2)
    (indented-shown text stretch waits end end c.push.new.self.items rows refl refl items)))
