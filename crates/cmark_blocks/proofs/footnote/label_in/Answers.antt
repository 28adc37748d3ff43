use Rattle.std.proofs.Common.{◌≡◌, length, get_or, ap, ◌∙◌, arith}
use Rattle.std.proofs.lemmas.Str.{IsCharBoundary-after_ascii}
use Rattle.cmark_grammar.specs.Rows.{words_of}
use Rattle.cmark_line_rules.specs.Rests.{row_of}
use Rattle.cmark_blocks.proofs.footnote.label_in.Goals as goal

pub range-requires-clause-start_boundary : goal.range-requires-clause-start_boundary
range-requires-clause-start_boundary c = λ some.
    let words = c.words_in-words.result.now in
    let same = c.words_in-words.ensures in
    let caret : get_or words 1 0 ≡ 94 = ap (λ l. get_or l 1 0) same ∙ c.requires.closed.2 in
    let long : length words ≡ length (words_of (row_of c.args.rest)) = ap length same in
    let room = c.requires.closed.0 in
    IsCharBoundary-after_ascii words 1 c.words_in-words.utf8 (omega (arith, long, room)) (omega (arith, caret))
