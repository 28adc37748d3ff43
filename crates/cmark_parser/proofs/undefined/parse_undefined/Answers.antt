use Rattle.std.proofs.Common.{[], false, refl, ap, subst, ◌∙◌}
use Rattle.cmark_values.specs.Shown.{shown_options}
use Rattle.cmark_block_model.specs.Tails.{document_after, pass_after}
use Rattle.cmark_block_model.proofs.Drawings.{drawing-edges, drawing-order}
use Rattle.cmark_block_model.proofs.LeafDrawings.{whole-segments}
use Rattle.cmark_block_model.proofs.TailLaws.{after-edges, after-order, after-whole}
use Rattle.cmark_block_walk.specs.Walking.{Remains}
use Rattle.cmark_blocks.proofs.ReferenceSteps.{no_reference}
use Rattle.cmark_grammar.specs.SpanDocuments.{segments}
use Rattle.cmark_inline_model.proofs.TailLeaves.{after-extents}
use Rattle.cmark_items.specs.ItemNodes.{shown_forest}
use Rattle.cmark_items.specs.Tables.{Tables}
use Rattle.cmark_parser.specs.Tails.{undefined_reader}
use Rattle.cmark_parser.specs.declared.parse.Parser.{Parser}
use Rattle.cmark_parser.proofs.ParseSteps.{begin-counted}
use Rattle.cmark_parser.proofs.UndefinedSteps.{can-begin-undefined, empty-defines-nothing, reads-undefined, undefined-few, undefined-placed, undefined-reader, undefined-same}
use Rattle.cmark_parser.proofs.undefined.parse_undefined.Goals as goal

pub returns-clause-undefined : goal.returns-clause-undefined
returns-clause-undefined g c =
    let text = c.args.text.now in
    let options = shown_options c.args.options in
    let lookup = g.E.EntityLookup.replacement c.args.entities.now in
    let leaves = c.in_ok-tree.ensures.document [] [] (λ folded. no_reference c.new-definitions.result folded (c.new-definitions.ensures folded)) c.new-footnotes.ensures in
    let empty = c.has_no_definitions.ensures.0 c.if-not-has_no_definitions.false in
    empty-defines-nothing text options lookup c.args.from _ leaves empty.0 empty.1

pub returns-clause-reads : goal.returns-clause-reads
returns-clause-reads g c =
    let text = c.args.text.now in
    let from = c.args.from in
    let options = shown_options c.args.options in
    let replacement = g.E.EntityLookup.replacement in
    let lookup = replacement c.args.entities.now in
    let rest = document_after text options lookup from in
    let left = segments rest in
    let begins = c.requires.begins in
    let leaves = c.in_ok-tree.ensures.document [] [] (λ folded. no_reference c.new-definitions.result folded (c.new-definitions.ensures folded)) c.new-footnotes.ensures in
    let empty = c.has_no_definitions.ensures.0 c.if-not-has_no_definitions.false in
    let drawing = (pass_after text options lookup from [] []).drawing.here in
    let shown = ap (λ (t : Tables). shown_forest text t.texts leaves.forest) c.allocations.view_is in
    let drawn =
    c.new-walk.ensures.remains leaves.forest drawing leaves.tree_is (shown ∙ leaves.drawn) (drawing-order drawing rest leaves.settles _ (after-order text from begins.0 options lookup))
    (drawing-edges drawing rest leaves.settles _ (after-edges text from begins.0 options lookup c.utf8.text begins)) in
    let remains = subst (Remains c.new-walk.result) (ap segments leaves.settles ∙ whole-segments rest (after-whole text from begins.0 options lookup)) drawn in
    let n = c.new.ensures in
    let entities = ap replacement n.settings.entities in
    let parser : Parser _ _ = record { spans = c.new.result; is_over = false } in
    let placed = undefined-placed replacement parser text options lookup from c.utf8.text begins in
    let none = (n.definitions ∙ c.new-walk.ensures.definitions) ∙ ap (λ (t : Tables). t.references) c.allocations.view_is ∙ empty.0 in
    let unlabelled = (n.footnotes ∙ c.replace-footnotes.ensures.value) ∙ ap (λ (t : Tables). t.footnotes) c.allocations.view_is ∙ empty.1 in
    let same = undefined-same replacement parser text options lookup from n.source n.settings.options entities none unlabelled in
    let starts = n.begins (undefined_reader text options lookup) left remains c.new-walk.ensures.text (undefined-few replacement parser text options lookup from begins.0) (after-extents text from begins.0 options lookup) placed same in
    reads-undefined replacement parser text options lookup from c.args.limit refl (undefined-reader replacement parser text options lookup from n.source n.settings.options entities none unlabelled) n.settings.expansion_left placed starts.1
    (λ exchanges events m. n.reads (undefined_reader text options lookup) left exchanges events remains m)

pub returns-clause-goes : goal.returns-clause-goes
returns-clause-goes g c = can-begin-undefined g.E.EntityLookup.replacement _ c.args.text.now (shown_options c.args.options) (g.E.EntityLookup.replacement c.args.entities.now) c.args.from c.args.limit (returns-clause-reads g c)
    (begin-counted _ _ c.new.ensures.steps)
