use Rattle.std.proofs.Common.{sym, ap, ◌∙◌, option_map}
use Rattle.cmark_line_rules.specs.Rests.{row_of}
use Rattle.cmark_blocks.specs.Cuts.{is_missed}
use Rattle.cmark_blocks.proofs.cuts.misses.Goals as goal

pub returns-in-Some : goal.returns-in-Some
returns-in-Some c k shows = ap is_missed (ap (option_map row_of) (sym c.in-Some.is) ∙ c.keeps.ensures.row k shows)

pub returns-in-None : goal.returns-in-None
returns-in-None c k shows = ap is_missed (ap (option_map row_of) (sym c.in-None.is) ∙ c.keeps.ensures.row k shows)
