use Rattle.std.proofs.Common.{not, ◌==◌, get_or, refl}
use Rattle.std.proofs.lemmas.Bool.{agree_below_at}
use Rattle.cmark_text.specs.declared.escape.TheConstants.{HTML_MARKS}
use Rattle.cmark_text.specs.Marks.{is_html_mark}
use Rattle.cmark_text.proofs.escape.is_html_mark.Goals as goal

-- the table agrees with the test at each byte
pub returns : goal.returns
returns c = agree_below_at (λ b. not (get_or HTML_MARKS.now b 0 == 0)) is_html_mark 256 c.args.byte refl c.ranges.byte.fits
