use Rattle.std.proofs.Common.{length, sym, ap, ◌∙◌}
use Rattle.cmark_grammar.specs.Attributes.{before_braces, inside_braces}
use Rattle.cmark_grammar.specs.Columns.{is_blank_byte, drop_end}
use Rattle.cmark_line_rules.specs.Rests.{row_of}
use Rattle.cmark_leaf_nodes.specs.Closings.{after_opening}
use Rattle.cmark_leaf_nodes.proofs.BraceSteps.{no-inside}
use Rattle.cmark_leaf_nodes.proofs.HeadingSteps.{heading-from, words-bytes, words-stand}
use Rattle.cmark_leaf_nodes.proofs.heading.find_attributes.Goals as goal

pub returns-then-before-content : goal.returns-then-before-content
returns-then-before-content c =
    let following = c.after_opening-following.ensures ∙ ap after_opening c.words.ensures in
    let content = c.without_trailing_blanks-content.ensures.value ∙ ap (drop_end is_blank_byte) following in
    let found = c.without_trailing_blanks-content.result.now in
    words-bytes c.args.rest ∙ ap (inside_braces (λ b. b)) (sym content) ∙ no-inside found (sym c.count_before_braces-before.ensures.value ∙ c.if-before-content.true)

pub overflow_sub-from : goal.overflow_sub-from
overflow_sub-from c =
    (heading-from c.args.rest c.content_end.result (length c.after_opening-following.result.now) c.content_end.ensures.place (ap length (c.after_opening-following.ensures ∙ ap after_opening c.words.ensures))).0

pub returns : goal.returns
returns c =
    let rest = c.args.rest in
    let following = c.after_opening-following.ensures ∙ ap after_opening c.words.ensures in
    let content = c.without_trailing_blanks-content.ensures.value ∙ ap (drop_end is_blank_byte) following in
    let from = (heading-from rest c.content_end.result (length c.after_opening-following.result.now) c.content_end.ensures.place (ap length following)).1 in
    λ text utf8 placed in_text. words-stand rest _ c.count_before_braces-before.result (length c.without_trailing_blanks-content.result.now) (row_of rest).content_end from
    (c.count_before_braces-before.ensures.value ∙ ap (λ bs. length (before_braces (λ b. b) bs)) content) (ap length content) c.if-before-content.false text utf8 in_text
