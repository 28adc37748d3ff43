use Rattle.std.proofs.Common.{◌≡◌, ◌+◌, ◌≤◌, length, arith}
use Rattle.cmark_grammar.specs.Rows.{start_of}
use Rattle.cmark_grammar.specs.Tokens.{line_columns, end_place}
use Rattle.cmark_line_rules.specs.Rests.{row_of}
use Rattle.cmark_leaf_nodes.proofs.ColumnCuts.{words-end, words-content_end}
use Rattle.cmark_leaf_nodes.proofs.paragraph.words_end.Goals as goal

pub overflow_sub-result-2 : goal.overflow_sub-result-2
overflow_sub-result-2 c =
    let content_end : start_of (row_of c.args.rest) + length c.words-words.result.now ≡ (row_of c.args.rest).content_end = words-content_end c.args.rest c.words-words.result.now c.words-words.ensures in
    let place : c.content_end.result ≡ (row_of c.args.rest).content_end = c.content_end.ensures.place in
    omega (arith, content_end, place)

pub returns : goal.returns
returns c =
    let content_end : start_of (row_of c.args.rest) + length c.words-words.result.now ≡ (row_of c.args.rest).content_end = words-content_end c.args.rest c.words-words.result.now c.words-words.ensures in
    let place : c.content_end.result ≡ (row_of c.args.rest).content_end = c.content_end.ensures.place in
    let within : length c.without_trailing_blanks.result.now ≤ length c.words-words.result.now = c.without_trailing_blanks.ensures.within in
    let end : start_of (row_of c.args.rest) + length c.without_trailing_blanks.result.now ≡ end_place (start_of (row_of c.args.rest)) (line_columns (row_of c.args.rest)) =
    words-end c.args.rest c.words-words.result.now c.without_trailing_blanks.result.now c.words-words.ensures c.without_trailing_blanks.ensures.value in
    omega (arith, content_end, place, within, end)
