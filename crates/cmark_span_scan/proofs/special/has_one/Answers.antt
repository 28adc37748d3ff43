use Rattle.cmark_span_scan.proofs.SpecialSteps.{one_of_four}
use Rattle.cmark_span_scan.proofs.special.has_one.Goals as goal

pub returns : goal.returns
returns c = search (one_of_four c.args.table.now c.args.a c.args.b c.args.c c.args.d, c.has_byte.ensures, c.has_byte-2.ensures, c.has_byte-3.ensures, c.has_byte-4.ensures)
