use Rattle.std.proofs.Common.{◌≡◌, get_or, sym, ap, ◌∙◌, arith}
use Rattle.std.proofs.lemmas.Str.{IsCharBoundary-after_ascii}
use Rattle.cmark_items.proofs.heading.HeadingAttributes.add.Goals as goal

pub range_from-requires : goal.range_from-requires
range_from-requires c =
    let first : get_or c.args.word.now 0 0 ≡ 35 = sym (ap (λ bs. get_or bs 0 0) c.as_bytes.ensures.value) ∙ c.in-35.is in
    λ l. IsCharBoundary-after_ascii c.args.word.now 0 c.utf8.word (omega arith) (omega (arith, first))

pub range_from-requires-in-46 : goal.range_from-requires-in-46
range_from-requires-in-46 c =
    let first : get_or c.args.word.now 0 0 ≡ 46 = sym (ap (λ bs. get_or bs 0 0) c.as_bytes.ensures.value) ∙ c.in-46.is in
    λ l. IsCharBoundary-after_ascii c.args.word.now 0 c.utf8.word (omega arith) (omega (arith, first))
