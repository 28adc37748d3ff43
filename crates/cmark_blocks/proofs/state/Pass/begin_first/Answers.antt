use Rattle.std.proofs.Common.{ℕ, true, subst, sym, ap, ◌∙◌}
use Rattle.cmark_grammar.specs.Blocks.{place_in}
use Rattle.cmark_grammar.specs.Containers.{ListDefinition, is_alert, enter}
use Rattle.cmark_grammar.specs.Places.{Apart}
use Rattle.cmark_grammar.specs.Rows.{Row}
use Rattle.cmark_blocks.proofs.DefinitionRows.{definition-begins}
use Rattle.cmark_grammar.specs.Leaves.{counted}
use Rattle.cmark_grammar.specs.Metadata.{metadata_continuation}
use Rattle.cmark_grammar.specs.Openings.{MetadataBlock}
use Rattle.cmark_values.specs.Shown.{shown_metadata_block_kind, shown_options}
use Rattle.cmark_block_model.specs.BlockPass.{ahead_in, begin_in, container_begun, inside_begun, is_item, definition_begun_in}
use Rattle.cmark_line_rules.specs.Opened.{InsideIsIn}
use Rattle.cmark_line_rules.specs.Rests.{row_of}
use Rattle.cmark_line_rules.proofs.RestSteps.{whole}
use Rattle.cmark_leaf_nodes.specs.TextColumns.{StandInText}
use Rattle.cmark_leaf_nodes.proofs.TextColumnSteps.{without-in_text}
use Rattle.cmark_blocks.specs.Ahead.{lines_at}
use Rattle.cmark_blocks.specs.Entered.{OpensAs}
use Rattle.cmark_blocks.specs.Runs.{Runs}
use Rattle.cmark_blocks.proofs.LineSteps.{start-numbered, start-marked, start-enters, container-begins, container-read, leaf-begins, metadata-begins}
use Rattle.cmark_blocks.proofs.state.Pass.begin_first.Goals as goal

pub begin_container-requires-clause-start : goal.begin_container-requires-clause-start
begin_container-requires-clause-start g c =
    let text = c.args.self.now.text.now in
    record {
      number = start-numbered (shown_options c.args.self.now.options) (row_of c.args.rest) c.what_opens-opening.result c.in-Nests.start c.what_opens-opening.ensures.opens c.in-Nests.is;
      marker = start-marked (row_of c.args.rest) c.what_opens-opening.result c.in-Nests.start c.in-Nests.is c.what_opens-opening.ensures.marker;
      enters = start-enters (row_of c.args.rest) c.what_opens-opening.result c.in-Nests.start c.in-Nests.is c.what_opens-opening.ensures.inside;
      placed = subst (InsideIsIn text) c.in-Nests.is (c.what_opens-opening.ensures.placed text c.requires.line.placed);
    }

pub returns-in-Nests-clause-runs : goal.returns-in-Nests-clause-runs
returns-in-Nests-clause-runs g c =
    container-begins g.E.EntityLookup.replacement c.args.rest c.what_opens-opening.result c.in-Nests.start c.in-Nests.is c.what_opens-opening.ensures.inside c.args.self.now c.begin_container.new.self c.what_opens-opening.ensures.opens
    c.args.bare c.in_ok-entered.entered c.in_default.ensures.width c.in_default-metadata_begun.ensures c.in_ok-entered.ensures.inside c.in_ok-entered.ensures.runs

pub returns-in-Nests-clause-line : goal.returns-in-Nests-clause-line
returns-in-Nests-clause-line g c =
    let text = c.args.self.now.text.now in
    container-read (row_of c.args.rest) c.what_opens-opening.result c.in-Nests.start c.in-Nests.is c.what_opens-opening.ensures.inside c.in_ok-entered.entered text c.in_ok-entered.ensures.inside
    (c.what_opens-opening.ensures.placed text c.requires.line.placed) c.requires.line.in_text

pub returns-in-Some-clause-line : goal.returns-in-Some-clause-line
returns-in-Some-clause-line g c =
    let text = c.args.self.now.text.now in record {
      placed = c.in-Some.ensures.placed text c.requires.line.placed;
      in_text = subst (λ (s : Row). StandInText text s.columns) (sym c.in-Some.ensures.inside) (without-in_text text c.in-Some.width (row_of c.args.rest) c.requires.line.in_text);
    }

pub returns-in-Some-clause-runs : goal.returns-in-Some-clause-runs
returns-in-Some-clause-runs g c text options lookup columns m le runs =
    let row = row_of c.args.rest in (
      container_begun (ListDefinition c.in-Some.width) row m,
      subst (λ at. Runs g.E.EntityLookup.replacement text options lookup (definition_begun_in c.in-Some.width at m) c.begin_list_definition.new.self) c.begin.ensures.place (c.in_ok-begin_list_definition.ensures.runs text options lookup m runs),
      ap (λ (s : Row). s.line_end) c.in-Some.ensures.inside,
      definition-begins text options lookup row (row_of c.in-Some.inside) columns c.args.bare m c.in-Some.width (lines_at text row.line_end) (c.in-Some.ensures.width text options lookup m runs) c.in-Some.ensures.inside
          ∙ ap (λ (p : ℕ). begin_in text options lookup columns Apart (row_of c.in-Some.inside) (lines_at text p) true (container_begun (ListDefinition c.in-Some.width) row m)) (sym (ap (λ (s : Row). s.line_end) c.in-Some.ensures.inside)),
    )

pub returns-in-Some-metadata_begun-clause-runs : goal.returns-in-Some-metadata_begun-clause-runs
returns-in-Some-metadata_begun-clause-runs g c text options lookup columns m le runs =
    let row = row_of c.args.rest in
    let ahead = ahead_in text options lookup m.outer (lines_at text row.line_end) in
    let kind = shown_metadata_block_kind c.in-Some-metadata_begun.kind in
    let more = counted (metadata_continuation kind) ahead in
    subst (λ p. Runs g.E.EntityLookup.replacement text options lookup p c.begin_metadata.new.self)
    (metadata-begins text options lookup row (lines_at text row.line_end) columns c.args.bare m (MetadataBlock kind) more (whole c.args.rest) (sym (c.in_default.ensures.width text options lookup m runs)) (c.in-Some-metadata_begun.ensures text options lookup m runs))
    (c.in_ok-begin_metadata.ensures.runs more text options lookup m ahead runs)

pub returns : goal.returns
returns g c = record {
  runs = λ text options lookup columns m le runs.
      let row = row_of c.args.rest in
      let next = lines_at text row.line_end in
      subst (λ p. Runs g.E.EntityLookup.replacement text options lookup p c.begin_leaf.new.self)
      (leaf-begins text options lookup row next columns c.args.bare m c.what_opens-opening.result (subst (λ o. OpensAs o c.what_opens-opening.result row) runs.options_is c.what_opens-opening.ensures.opens) (sym (c.in_default.ensures.width text options lookup m runs)) (c.in_default-metadata_begun.ensures text options lookup m runs))
      (c.in_ok-begin_leaf.ensures.runs text options lookup m (λ k. inside_begun (is_alert k) (container_begun k row m) (begin_in text options lookup columns (place_in k) (enter k row) next (is_item k) (container_begun k row m))) runs);
  line = tt;
  shorter = tt;
  text = c.begin_leaf.ensures.text;
  can = tt;
}
