use Rattle.std.proofs.Common.{sym, ap, ◌∙◌, rules}
use Rattle.cmark_grammar.specs.Columns.{is_blank_byte, drop_end}
use Rattle.cmark_grammar.specs.Tags.{is_space_byte}
use Rattle.cmark_leaf_nodes.proofs.SetextContent.{words-in, none-found, all-found}
use Rattle.cmark_leaf_nodes.proofs.setext.find_setext_attributes.Goals as goal

pub returns-then-count-content : goal.returns-then-count-content
returns-then-count-content c =
    none-found c.args.before.now c.args.last c.without_trailing_blanks-content.result.now c.count_before_braces-count.result
    (c.without_trailing_blanks-content.ensures.value ∙ ap (drop_end is_blank_byte) (c.as_bytes.ensures.value ∙ c.in_ok-gather_lines.ensures))
    c.count_before_braces-count.ensures.value c.if-count-content.true

pub range-requires-clause-start_le_end : goal.range-requires-clause-start_le_end
range-requires-clause-start_le_end c =
    (words-in c.as_str.result.now c.without_trailing_blanks-content.result.now c.count_before_braces-count.result c.as_str.utf8
    (c.without_trailing_blanks-content.ensures.value ∙ ap (drop_end is_blank_byte) (c.as_bytes.ensures.value ∙ sym c.as_str.ensures.value))
    c.count_before_braces-count.ensures.value c.if-count-content.false).within

pub range-requires-clause-start_boundary : goal.range-requires-clause-start_boundary
range-requires-clause-start_boundary c = λ some.
    (words-in c.as_str.result.now c.without_trailing_blanks-content.result.now c.count_before_braces-count.result c.as_str.utf8
    (c.without_trailing_blanks-content.ensures.value ∙ ap (drop_end is_blank_byte) (c.as_bytes.ensures.value ∙ sym c.as_str.ensures.value))
    c.count_before_braces-count.ensures.value c.if-count-content.false).from_uncut

pub range-requires-clause-end_boundary : goal.range-requires-clause-end_boundary
range-requires-clause-end_boundary c =
    (words-in c.as_str.result.now c.without_trailing_blanks-content.result.now c.count_before_braces-count.result c.as_str.utf8
    (c.without_trailing_blanks-content.ensures.value ∙ ap (drop_end is_blank_byte) (c.as_bytes.ensures.value ∙ sym c.as_str.ensures.value))
    c.count_before_braces-count.ensures.value c.if-count-content.false).to_uncut

pub returns : goal.returns
returns c =
    let inside = (words-in c.as_str.result.now c.without_trailing_blanks-content.result.now c.count_before_braces-count.result c.as_str.utf8
    (c.without_trailing_blanks-content.ensures.value ∙ ap (drop_end is_blank_byte) (c.as_bytes.ensures.value ∙ sym c.as_str.ensures.value))
    c.count_before_braces-count.ensures.value c.if-count-content.false).is in
    all-found c.args.before.now c.args.last c.without_trailing_blanks-content.result.now c.count_before_braces-count.result
    (c.without_trailing_blanks-content.ensures.value ∙ ap (drop_end is_blank_byte) (c.as_bytes.ensures.value ∙ c.in_ok-gather_lines.ensures))
    c.count_before_braces-count.ensures.value
    c.range.result.now c.without_trailing-kept.result.now c.in_ok-words.words c.place_of.result c.count_before_braces-count.ensures.within c.if-count-content.false
    (c.range.ensures.value ∙ inside) c.in_ok-words.ensures.ok (c.without_trailing-kept.ensures.value is_space_byte (λ b r low answers. search rules)) c.place_of.ensures
