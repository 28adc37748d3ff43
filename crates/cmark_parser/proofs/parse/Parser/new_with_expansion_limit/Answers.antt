use Rattle.std.proofs.Common.{false, refl, sym, ap, subst, ◌∙◌}
use Rattle.cmark_values.specs.Shown.{shown_options}
use Rattle.cmark_block_model.specs.BlockPass.{pass_over}
use Rattle.cmark_block_model.proofs.Drawings.{derived, drawn-order, drawn-edges}
use Rattle.cmark_block_model.proofs.LeafDrawings.{drawn-segments}
use Rattle.cmark_block_model.specs.DocumentModel.{document}
use Rattle.cmark_grammar.specs.BlockDocument.{BlockDocument}
use Rattle.cmark_grammar.specs.Labels.{fold}
use Rattle.cmark_grammar.specs.References.{first_with, references}
use Rattle.cmark_grammar.specs.SpanDocuments.{segments, footnote_labels, has_label}
use Rattle.cmark_block_model.proofs.BlockDocumentOne.{document-only}
use Rattle.cmark_blocks.specs.Footnotes.{unused_if}
use Rattle.cmark_references.specs.Definitions.{reference_at}
use Rattle.cmark_references.specs.declared.definitions.RefDefs.{RefDefs}
use Rattle.cmark_references.specs.declared.footnotes.FootnoteDefs.{FootnoteDefs}
use Rattle.cmark_references.specs.Footnotes.{footnote}
use Rattle.cmark_items.specs.ItemNodes.{shown_forest}
use Rattle.cmark_items.specs.Tables.{Tables}
use Rattle.cmark_block_walk.specs.Walking.{Remains}
use Rattle.cmark_parser.specs.Walking.{reader_by}
use Rattle.cmark_parser.specs.declared.parse.Parser.{Parser}
use Rattle.cmark_parser.proofs.ParseSteps.{begin-counted, begin-extents, begin-few, begin-placed, begin-reader, begin-same, can-begin, reads-from}
use Rattle.cmark_parser.proofs.parse.Parser.new_with_expansion_limit.Goals as goal

-- each document that the text derives is the model's
pub returns-clause-definitions : goal.returns-clause-definitions
returns-clause-definitions g c = λ d derives folded.
    ap (λ (r : RefDefs). reference_at r folded) (c.new.ensures.definitions ∙ c.new-walk.ensures.definitions)
    ∙ ap (λ (t : Tables). reference_at t.references folded) c.allocations.view_is
    ∙ c.in_ok-tree.ensures.document.references folded
    ∙ ap (λ (e : BlockDocument). first_with fold folded (references e))
    (sym (document-only c.args.text.now (shown_options c.args.options) (g.E.EntityLookup.replacement c.args.entities.now) d derives))

pub returns-clause-footnotes : goal.returns-clause-footnotes
returns-clause-footnotes g c = λ d derives folded.
    ap (λ (f : FootnoteDefs). footnote f folded) (c.new.ensures.footnotes ∙ c.replace-footnotes.ensures.value)
    ∙ ap (λ (t : Tables). footnote t.footnotes folded) c.allocations.view_is
    ∙ c.in_ok-tree.ensures.document.footnotes folded
    ∙ ap (λ (e : BlockDocument). unused_if (has_label folded (footnote_labels e)))
    (sym (document-only c.args.text.now (shown_options c.args.options) (g.E.EntityLookup.replacement c.args.entities.now) d derives))

pub returns-clause-reads : goal.returns-clause-reads
returns-clause-reads g c =
    let text = c.args.text.now in
    let options = shown_options c.args.options in
    let replacement = g.E.EntityLookup.replacement in
    let lookup = replacement c.args.entities.now in
    let d = document text options lookup in
    let left = segments d in
    let leaves = c.in_ok-tree.ensures.document in
    let shown = ap (λ (t : Tables). shown_forest text t.texts leaves.forest) c.allocations.view_is in
    let drawn =
    c.new-walk.ensures.remains leaves.forest (pass_over text options lookup).drawing.here leaves.tree_is (shown ∙ leaves.drawn) (drawn-order text options lookup)
    (drawn-edges text options lookup c.utf8.text) in
    let remains = subst (Remains c.new-walk.result) (drawn-segments text options lookup) drawn in
    let n = c.new.ensures in
    let entities = ap replacement n.settings.entities in
    let parser : Parser _ _ = record { spans = c.new.result; is_over = false } in
    let placed = begin-placed replacement parser text options lookup c.utf8.text in
    let same = begin-same replacement parser text options lookup n.source n.settings.options entities (returns-clause-definitions g c d (derived text options lookup)) (returns-clause-footnotes g c d (derived text options lookup)) in
    let begins = n.begins (reader_by text options lookup) left remains c.new-walk.ensures.text (begin-few text options lookup) (begin-extents text options lookup) placed same in
    reads-from replacement parser text options lookup c.args.limit refl (begin-reader replacement parser text options lookup n.source n.settings.options entities (returns-clause-definitions g c d (derived text options lookup)) (returns-clause-footnotes g c d (derived text options lookup))) n.settings.expansion_left placed begins.1
    (λ exchanges events m. n.reads (reader_by text options lookup) left exchanges events remains m)

pub returns-clause-goes : goal.returns-clause-goes
returns-clause-goes g c = can-begin g.E.EntityLookup.replacement _ c.args.text.now (shown_options c.args.options) (g.E.EntityLookup.replacement c.args.entities.now) c.args.limit (returns-clause-reads g c)
    (begin-counted _ _ c.new.ensures.steps)
