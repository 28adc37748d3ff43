use Rattle.std.proofs.Common.{◌≡◌, sym, ap, ◌∙◌, subst}
use Rattle.cmark_grammar.specs.BlockDocument.{Heading, Nil}
use Rattle.cmark_grammar.specs.SetextAttributes.{setext_attributes}
use Rattle.cmark_grammar.specs.Tokens.{words_end, stretch_then}
use Rattle.cmark_items.specs.Tables.{defined}
use Rattle.cmark_values.specs.Shown.{level_number}
use Rattle.cmark_line_rules.specs.Rests.{row_of}
use Rattle.cmark_leaf_nodes.specs.Contents.{AreRead, content_columns}
use Rattle.cmark_block_model.specs.Drawing.{Drawing, drawn, closed_as, unbraced}
use Rattle.cmark_block_model.specs.OpenBlocks as model
use Rattle.cmark_builder.specs.Drawn.{Draws}
use Rattle.cmark_builder.proofs.DrawnSteps.{draws-close_as}
use Rattle.cmark_blocks.specs.Setext.{FindsIf}
use Rattle.cmark_blocks.specs.Titles.{untitled}
use Rattle.cmark_blocks.proofs.RunSteps.{runs-builder, runs-inner, runs-closed}
use Rattle.cmark_blocks.proofs.SetextSteps.{read-none, last-read}
use Rattle.cmark_blocks.specs.Runs.{state_of}
use Rattle.cmark_blocks.proofs.state.Pass.underline.Goals as goal

pub invariant_of-self-3-clause-lines : goal.invariant_of-self-3-clause-lines
invariant_of-self-3-clause-lines g c = read-none _ _ c.clear.ensures.items

pub setext_attributes-requires-clause-before : goal.setext_attributes-requires-clause-before
setext_attributes-requires-clause-before g c = subst (AreRead c.args.self.now.text.now) (sym c.deref.ensures.value) c.args.self.now.lines

pub setext_attributes-requires-clause-last : goal.setext_attributes-requires-clause-last
setext_attributes-requires-clause-last g c = last-read c.args.self.now.text.now c.args.self.now.leaf c.args.from c.args.last c.requires.is c.args.self.now.last

pub returns-clause-runs : goal.returns-clause-runs
returns-clause-runs g c text options lookup m runs =
    let replacement = g.E.EntityLookup.replacement in
    let before = c.args.self.now in
    let items = before.blank_lines.items in
    let last = c.args.last in
    let on = options.heading_attributes in
    let built = c.setext_body.new.builder in
    let kind = Heading (level_number c.args.level) (setext_attributes on (content_columns items last)) in
    let flag : c.reads_attributes.result ≡ on = c.reads_attributes.ensures ∙ ap (λ o. o.heading_attributes) runs.options_is in
    let found = subst (λ z. FindsIf z items last c.in_ok-found.found) flag (subst (λ lines. FindsIf c.reads_attributes.result lines last c.in_ok-found.found) c.deref.ensures.value c.in_ok-found.ensures) in
    let line = c.in_ok-draw_last_lines.ensures.drawn text m.drawing runs.drawing in
    let whole : Drawing = drawn (stretch_then text c.args.from (words_end (row_of last)) Nil) m.drawing in
    let d : Drawing = unbraced text on (content_columns items last) whole.here whole.up in
    let draws = subst (λ line_end. Draws text c.close_as.new.self (closed_as kind line_end d)) c.line_end.ensures.place
    (draws-close_as text built c.close_as.new.self c.line_end.result _ kind d c.close_as.ensures.closed c.close_as.ensures.none c.close_as.ensures.tables
    (c.in_ok-body.ensures.kind on items last found) (c.in_ok-body.ensures.drawn on items last found text whole line)) in
    let built_heading = runs-builder replacement text options lookup m (state_of before) c.close_as.new.self (closed_as kind (row_of c.args.rest).line_end d) runs draws
    (ap defined c.close_as.ensures.tables ∙ c.in_ok-body.ensures.definitions ∙ c.in_ok-draw_last_lines.ensures.definitions) in
    let r = c.release_title.ensures.runs text options lookup _ built_heading in
    runs-closed replacement text options lookup _ _ c.clear.new.self
    (runs-inner replacement text options lookup _ (state_of c.release_title.new.self) c.without_title-self.result (untitled m.inner) r (c.without_title-self.ensures ∙ ap untitled r.inner))
    c.clear.ensures.items
