use Rattle.std.proofs.Common.{drop, sym, ap, ◌∙◌}
use Rattle.cmark_scan_bytes.proofs.Lists.{rest_of}
use Rattle.cmark_scan_lines.proofs.LeafSteps.{break-none, break-yes, break-no}
use Rattle.cmark_scan_lines.proofs.leaf.scan_hrule.Goals as goal

pub returns-in-empty : goal.returns-in-empty
returns-in-empty c =
    let line = c.args.line.now in
    break-none line _ (rest_of line c.count_blanks.result ∙ ap (λ n. drop n line) c.count_blanks.ensures.value) c.in-empty.len_below

pub returns-then-is_break_character : goal.returns-then-is_break_character
returns-then-is_break_character c =
    let line = c.args.line.now in
    c.is_break_of.ensures
    ∙ break-yes line _ (rest_of line c.count_blanks.result ∙ ap (λ n. drop n line) c.count_blanks.ensures.value) c.in-len1-up.len_at_least (sym c.if-is_break_character.true ∙ c.is_break_character.ensures)

pub returns-else-is_break_character : goal.returns-else-is_break_character
returns-else-is_break_character c =
    let line = c.args.line.now in
    c.if-is_break_character.false
    ∙ break-no line _ (rest_of line c.count_blanks.result ∙ ap (λ n. drop n line) c.count_blanks.ensures.value) c.in-len1-up.len_at_least (sym c.if-is_break_character.false ∙ c.is_break_character.ensures)
