use Rattle.std.proofs.Common.{List, ℕ, take, false, refl, sym, ap, subst, ◌∙◌}
use Rattle.cmark_values.specs.Shown.{shown_options}
use Rattle.cmark_block_model.specs.Tails.{document_after, pass_after}
use Rattle.cmark_block_model.proofs.Drawings.{derived, drawing-edges, drawing-order}
use Rattle.cmark_block_model.proofs.LeafDrawings.{whole-segments}
use Rattle.cmark_block_model.specs.DocumentModel.{document}
use Rattle.cmark_grammar.specs.BlockDocument.{BlockDocument, Reference}
use Rattle.cmark_grammar.specs.Labels.{fold}
use Rattle.cmark_grammar.specs.References.{first_with, references}
use Rattle.cmark_grammar.specs.SpanDocuments.{segments, footnote_labels, has_label}
use Rattle.cmark_block_model.proofs.BlockDocumentOne.{document-only}
use Rattle.cmark_blocks.specs.Footnotes.{unused_if}
use Rattle.cmark_references.specs.Definitions.{reference_at}
use Rattle.cmark_references.specs.declared.definitions.RefDefs.{RefDefs}
use Rattle.cmark_references.specs.declared.footnotes.FootnoteDefs.{FootnoteDefs}
use Rattle.cmark_references.specs.Footnotes.{footnote}
use Rattle.cmark_items.specs.ItemNodes.{shown_forest}
use Rattle.cmark_items.specs.Tables.{Tables}
use Rattle.cmark_stream_model.proofs.TailFacts.{tail-order, tail-edges, tail-whole, tail-references, tail-footnotes}
use Rattle.cmark_block_walk.specs.Walking.{Remains}
use Rattle.cmark_parser.specs.Walking.{reader_by}
use Rattle.cmark_parser.specs.declared.parse.Parser.{Parser}
use Rattle.cmark_parser.proofs.ParseSteps.{begin-counted, begin-reader, begin-same}
use Rattle.cmark_parser.proofs.TailSteps.{can-begin-rest, reads-rest, rest-extents, rest-few, rest-placed}
use Rattle.cmark_parser.proofs.rest.parse_rest.Goals as goal

-- each document that the text derives is the model's
pub returns-clause-definitions : goal.returns-clause-definitions
returns-clause-definitions g c = λ d derives folded.
    let text = c.args.text.now in
    let options = shown_options c.args.options in
    let lookup = g.E.EntityLookup.replacement c.args.entities.now in
    let earlier = document (take c.args.from text) options lookup in
    let leaves = c.in_ok-tree.ensures.document (references earlier) (footnote_labels earlier) c.requires.follows.defined c.requires.follows.labelled in
    ap (λ (r : RefDefs). reference_at r folded) (c.new.ensures.definitions ∙ c.new-walk.ensures.definitions)
    ∙ ap (λ (t : Tables). reference_at t.references folded) c.allocations.view_is
    ∙ leaves.references folded
    ∙ ap (λ (rs : List Reference). first_with fold folded rs) (sym (tail-references text options lookup c.args.from c.requires.follows.joined))
    ∙ ap (λ (e : BlockDocument). first_with fold folded (references e)) (sym (document-only text options lookup d derives))

pub returns-clause-footnotes : goal.returns-clause-footnotes
returns-clause-footnotes g c = λ d derives folded.
    let text = c.args.text.now in
    let options = shown_options c.args.options in
    let lookup = g.E.EntityLookup.replacement c.args.entities.now in
    let earlier = document (take c.args.from text) options lookup in
    let leaves = c.in_ok-tree.ensures.document (references earlier) (footnote_labels earlier) c.requires.follows.defined c.requires.follows.labelled in
    ap (λ (f : FootnoteDefs). footnote f folded) (c.new.ensures.footnotes ∙ c.replace-footnotes.ensures.value)
    ∙ ap (λ (t : Tables). footnote t.footnotes folded) c.allocations.view_is
    ∙ leaves.footnotes folded
    ∙ ap (λ (ls : List (List ℕ)). unused_if (has_label folded ls)) (sym (tail-footnotes text options lookup c.args.from c.requires.follows.joined))
    ∙ ap (λ (e : BlockDocument). unused_if (has_label folded (footnote_labels e))) (sym (document-only text options lookup d derives))

pub returns-clause-reads : goal.returns-clause-reads
returns-clause-reads g c =
    let text = c.args.text.now in
    let from = c.args.from in
    let options = shown_options c.args.options in
    let replacement = g.E.EntityLookup.replacement in
    let lookup = replacement c.args.entities.now in
    let h = c.requires.follows.joined in
    let earlier = document (take from text) options lookup in
    let d = document text options lookup in
    let rest = document_after text options lookup from in
    let left = segments rest in
    let leaves = c.in_ok-tree.ensures.document (references earlier) (footnote_labels earlier) c.requires.follows.defined c.requires.follows.labelled in
    let drawing = (pass_after text options lookup from (references earlier) (footnote_labels earlier)).drawing.here in
    let shown = ap (λ (t : Tables). shown_forest text t.texts leaves.forest) c.allocations.view_is in
    let drawn =
    c.new-walk.ensures.remains leaves.forest drawing leaves.tree_is (shown ∙ leaves.drawn) (drawing-order drawing rest leaves.settles _ (tail-order text options lookup from h))
    (drawing-edges drawing rest leaves.settles _ (tail-edges text options lookup from h c.utf8.text)) in
    let remains = subst (Remains c.new-walk.result) (ap segments leaves.settles ∙ whole-segments rest (tail-whole text options lookup from h)) drawn in
    let n = c.new.ensures in
    let entities = ap replacement n.settings.entities in
    let parser : Parser _ _ = record { spans = c.new.result; is_over = false } in
    let placed = rest-placed replacement parser text options lookup from h c.utf8.text in
    let same = begin-same replacement parser text options lookup n.source n.settings.options entities (returns-clause-definitions g c d (derived text options lookup)) (returns-clause-footnotes g c d (derived text options lookup)) in
    let begins = n.begins (reader_by text options lookup) left remains c.new-walk.ensures.text (rest-few replacement parser text options lookup from h) (rest-extents replacement parser text options lookup from h) placed same in
    reads-rest replacement parser text options lookup from c.args.limit refl (begin-reader replacement parser text options lookup n.source n.settings.options entities (returns-clause-definitions g c d (derived text options lookup)) (returns-clause-footnotes g c d (derived text options lookup))) n.settings.expansion_left placed begins.1
    (λ exchanges events m. n.reads (reader_by text options lookup) left exchanges events remains m)

pub returns-clause-goes : goal.returns-clause-goes
returns-clause-goes g c = can-begin-rest g.E.EntityLookup.replacement _ c.args.text.now (shown_options c.args.options) (g.E.EntityLookup.replacement c.args.entities.now) c.args.from c.args.limit (returns-clause-reads g c)
    (begin-counted _ _ c.new.ensures.steps)
