use Rattle.std.proofs.Common.{◌<◌, ◌∷◌, length, take, drop, get_or, sym, ap, ◌∙◌, subst}
use Rattle.std.specs.List.{take_while}
use Rattle.cmark_grammar.specs.Attributes.{value_after}
use Rattle.cmark_items.specs.Headings.{is_in_word, words_after}
use Rattle.cmark_items.proofs.HeadingSteps.{words-cut, following-fails, white-ascii}
use Rattle.cmark_items.proofs.heading.cut_word.Goals as goal

pub cut-requires-clause-ascii : goal.cut-requires-clause-ascii
cut-requires-clause-ascii c =
    let text = c.args.text.now in
    let at = c.count_word.ensures.value ∙ ap (λ bs. length (take_while is_in_word bs)) c.as_bytes.ensures.value in
    subst (λ n. n < length text → get_or text n 0 < 128) (sym at) (λ l. white-ascii _ (following-fails is_in_word text l))

pub returns-clause-words : goal.returns-clause-words
returns-clause-words c =
    let text = c.args.text.now in
    let at = c.count_word.ensures.value ∙ ap (λ bs. length (take_while is_in_word bs)) c.as_bytes.ensures.value in
    words-cut text
    ∙ ap (λ n. take n text ∷ words_after (value_after (drop n text))) (sym at)
    ∙ ap (λ w. w ∷ words_after (value_after (drop c.count_word.result text))) (sym c.cut.ensures.before)
    ∙ ap (λ o. c.cut.result.0.now ∷ words_after o) (sym c.cut.ensures.following)
