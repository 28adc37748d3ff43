use Rattle.std.proofs.Common.{◌<◌, length, get_or, sym, ap, ◌∙◌, subst}
use Rattle.std.specs.List.{take_while}
use Rattle.cmark_grammar.specs.Attributes.{is_no_equals}
use Rattle.cmark_items.proofs.HeadingSteps.{following-fails, equals-ascii}
use Rattle.cmark_items.proofs.heading.attribute_of.Goals as goal

pub cut-requires-clause-ascii : goal.cut-requires-clause-ascii
cut-requires-clause-ascii c =
    let word = c.args.word.now in
    let at = c.count_name.ensures.value ∙ ap (λ bs. length (take_while is_no_equals bs)) c.as_bytes.ensures.value in
    subst (λ n. n < length word → get_or word n 0 < 128) (sym at) (λ l. equals-ascii _ (following-fails is_no_equals word l))
