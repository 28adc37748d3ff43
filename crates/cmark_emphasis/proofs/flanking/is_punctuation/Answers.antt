use Rattle.std.proofs.Common.{sym, ◌∙◌}
use Rattle.std.proofs.lemmas.Bool.{ltb-true}
use Rattle.cmark_emphasis.proofs.Categories.{ascii_punctuation}
use Rattle.cmark_emphasis.proofs.flanking.is_punctuation.Goals as goal

pub returns-then-is_ascii : goal.returns-then-is_ascii
returns-then-is_ascii c =
    c.is_ascii_punctuation.ensures.value ∙ ascii_punctuation c.args.c (ltb-true c.args.c 128 (sym c.is_ascii.ensures ∙ c.if-is_ascii.true))
