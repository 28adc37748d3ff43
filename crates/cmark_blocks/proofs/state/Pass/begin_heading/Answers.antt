use Rattle.std.proofs.Common.{◌≡◌, Some, option_map, sym, ap, ◌∙◌, subst}
use Rattle.cmark_grammar.specs.Attributes.{attributes_of}
use Rattle.cmark_grammar.specs.BlockDocument.{Heading, Node, Nil, node}
use Rattle.cmark_grammar.specs.Columns.{bytes_of}
use Rattle.cmark_grammar.specs.Leaves.{run}
use Rattle.cmark_grammar.specs.Rows.{start_of, words_of}
use Rattle.cmark_grammar.specs.Tokens.{heading_tokens, heading_attributes, attribute_columns, content_columns}
use Rattle.cmark_items.specs.ItemNodes.{ranged}
use Rattle.cmark_values.specs.Shown.{level_number}
use Rattle.cmark_line_rules.specs.Rests.{row_of}
use Rattle.cmark_block_model.specs.BlockPass.{block_begun}
use Rattle.cmark_block_model.specs.Drawing.{Drawing, drawn, opened, closed_at}
use Rattle.cmark_builder.specs.Drawn.{Draws}
use Rattle.cmark_builder.proofs.DrawnSteps.{draws-open, draws-close}
use Rattle.cmark_blocks.proofs.RunSteps.{runs-builder}
use Rattle.cmark_blocks.specs.Runs.{state_of}
use Rattle.cmark_blocks.proofs.state.Pass.begin_heading.Goals as goal
use Rattle.cmark_items.specs.Tables.{defined}

pub returns-clause-runs : goal.returns-clause-runs
returns-clause-runs g c text options lookup m ahead runs =
    let replacement = g.E.EntityLookup.replacement in
    let before = c.begin_block.new.self in
    let d = (block_begun m).drawing in
    let row = row_of c.args.rest in
    let n = level_number c.args.level in
    let on = options.heading_attributes in
    let flag : c.reads_attributes-attributes.result ≡ on = c.reads_attributes-attributes.ensures ∙ ap (λ o. o.heading_attributes) runs.options_is in
    let kind = Heading n (heading_attributes on n row) in
    let r = c.begin_block.ensures.runs text options lookup m runs in
    let words = c.attribute_words-words.ensures
    ∙ ap (λ a. bytes_of (attribute_columns a (content_columns (run 35 (words_of row)) row))) flag
    ∙ ap (λ l. bytes_of (attribute_columns on (content_columns l row))) (sym c.requires.level) in
    let body = c.in_ok-body.ensures.kind ∙ ap (λ ws. Some (Heading n (attributes_of ws))) words in
    let begun : Drawing = opened (start_of row) kind d in
    let open_one = subst (λ start. Draws text c.open.new.self (opened start kind d)) c.words_begin.ensures.place
    (draws-open text c.heading_body.new.builder c.open.new.self c.words_begin.result _ kind d c.in_ok-open.ensures.ok c.in_ok-open.ensures.tables
    (ap (option_map (ranged c.words_begin.result c.words_begin.result)) body) (c.in_ok-body.ensures.drawn text d r.drawing)) in
    let line = c.in_ok-draw_heading.ensures.drawn text begun open_one in
    let level = subst (λ l. Draws text c.draw_heading.new.builder (drawn (heading_tokens text on l row) begun)) (sym c.requires.level)
    (subst (λ a. Draws text c.draw_heading.new.builder (drawn (heading_tokens text a (run 35 (words_of row)) row) begun)) flag line) in
    let draws = subst (λ line_end. Draws text c.close.new.self (closed_at line_end (drawn (heading_tokens text on n row) begun))) c.line_end.ensures.place
    (draws-close text c.draw_heading.new.builder c.close.new.self c.line_end.result (drawn (heading_tokens text on n row) begun) c.close.ensures.closed c.close.ensures.none c.close.ensures.tables level) in
    runs-builder replacement text options lookup (block_begun m) (state_of before) c.close.new.self (drawn (Node (node kind (start_of row) row.line_end) (heading_tokens text on n row) Nil) d) r draws
    (ap defined c.close.ensures.tables ∙ c.in_ok-draw_heading.ensures.definitions ∙ ap defined c.in_ok-open.ensures.tables ∙ c.in_ok-body.ensures.definitions)
