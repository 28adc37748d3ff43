use Rattle.std.proofs.Common.{◌≡◌, ◌+◌, ◌-◌, ap, ◌∙◌, subst, length, []}
use Rattle.std.proofs.lemmas.Result.{on_ok_weaker}
use Rattle.cmark_grammar.specs.Columns.{is_blank_byte, drop_end}
use Rattle.cmark_grammar.specs.Leaves.{run}
use Rattle.cmark_grammar.specs.Rows.{words_of}
use Rattle.cmark_grammar.specs.Tokens.{heading_columns, end_place, piece_if}
use Rattle.cmark_line_rules.specs.Rests.{row_of}
use Rattle.cmark_block_model.specs.Drawing.{drawn}
use Rattle.cmark_block_model.specs.CodeLines.{texts_of}
use Rattle.cmark_builder.specs.Drawn.{Draws}
use Rattle.cmark_leaf_nodes.specs.Closings.{after_opening, without_closing_bytes, without_attributes_bytes}
use Rattle.cmark_leaf_nodes.proofs.HeadingSteps.{heading_place, heading-from, heading-to}
use Rattle.cmark_leaf_nodes.proofs.heading.draw_heading.Goals as goal

pub overflow_sub-from : goal.overflow_sub-from
overflow_sub-from c =
    (heading-from c.args.rest c.content_end.result (length c.after_opening-following.result.now) c.content_end.ensures.place (ap length (c.after_opening-following.ensures ∙ ap after_opening c.words.ensures))).0

pub returns-clause-drawn : goal.returns-clause-drawn
returns-clause-drawn c =
    let row = row_of c.args.rest in
    let from : c.content_end.result - length c.after_opening-following.result.now ≡ heading_place row =
    (heading-from c.args.rest c.content_end.result (length c.after_opening-following.result.now) c.content_end.ensures.place (ap length (c.after_opening-following.ensures ∙ ap after_opening c.words.ensures))).1 in
    let to : c.content_end.result - length c.after_opening-following.result.now + length c.without_closing-content.result.now ≡ end_place (heading_place row) (heading_columns c.args.attributes (run 35 (words_of row)) row) =
    heading-to c.args.attributes c.args.rest _ (length c.without_closing-content.result.now) from
    (ap length (c.without_closing-content.ensures.value ∙ ap without_closing_bytes (c.without_attributes-text.ensures.value ∙ ap (without_attributes_bytes c.args.attributes) (c.without_trailing_blanks.ensures.value ∙ ap (drop_end is_blank_byte) (c.after_opening-following.ensures ∙ ap after_opening c.words.ensures))))) in
    on_ok_weaker c.draw_words.result
    (λ draws text d before. subst (λ start. Draws text c.draw_words.new.builder (drawn (texts_of (piece_if text start (end_place (heading_place row) (heading_columns c.args.attributes (run 35 (words_of row)) row)) [])) d)) from
    (subst (λ end. Draws text c.draw_words.new.builder (drawn (texts_of (piece_if text (c.content_end.result - length c.after_opening-following.result.now) end [])) d)) to (draws text d before)))
    c.draw_words.ensures.drawn
