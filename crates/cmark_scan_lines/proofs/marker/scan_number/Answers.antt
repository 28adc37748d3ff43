use Rattle.std.proofs.Common.{◌<◌, arith, sym, ap, ◌∙◌}
use Rattle.cmark_scan_lines.proofs.MarkerSteps.{number-plain}
use Rattle.std.proofs.lemmas.List.Sums.{prefix_len_passes}
use Rattle.cmark_grammar.specs.Containers.{is_digit}
use Rattle.cmark_scan_lines.proofs.ByteSteps.{get_or-take, take-less}
use Rattle.cmark_scan_lines.proofs.marker.scan_number.Goals as goal

pub number_of-requires-clause-digits : goal.number_of-requires-clause-digits
number_of-requires-clause-digits c k lt =
    let line = c.args.line.now in
    let count = c.count_digits-count.result in
    let below : k < count = take-less line count k lt in
    let is = c.count_digits-count.ensures.value in
    ap is_digit (get_or-take line count k below) ∙ prefix_len_passes is_digit line k 0 (omega arith)

pub returns-clause-plain : goal.returns-clause-plain
returns-clause-plain c = number-plain c.args.line.now c.count_digits-count.result c.count_digits-count.ensures.value (sym c.is_delimiter.ensures ∙ c.if-not-is_delimiter.false)
