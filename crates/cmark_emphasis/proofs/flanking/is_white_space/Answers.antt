use Rattle.std.proofs.Common.{sym, ◌∙◌, ap}
use Rattle.std.proofs.lemmas.Bool.{ltb-true, ltb-false}
use Rattle.ucd_category.specs.GeneralCategory.{general_category_eq}
use Rattle.ucd_category.specs.declared.GeneralCategory.TheVariants.{SpaceSeparator}
use Rattle.cmark_emphasis.proofs.Categories.{ascii_white_space, white_space_past_ascii}
use Rattle.cmark_emphasis.proofs.flanking.is_white_space.Goals as goal

pub returns-then-is_ascii : goal.returns-then-is_ascii
returns-then-is_ascii c =
    c.is_ascii_white_space.ensures ∙ ascii_white_space c.args.c (ltb-true c.args.c 128 (sym c.is_ascii.ensures ∙ c.if-is_ascii.true))

pub returns : goal.returns
returns c =
    c.is_space_separator.ensures
    ∙ ap (λ g. general_category_eq g SpaceSeparator) c.for_char.ensures
    ∙ white_space_past_ascii c.args.c (ltb-false c.args.c 128 (sym c.is_ascii.ensures ∙ c.if-is_ascii.false))
