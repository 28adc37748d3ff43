use Rattle.std.proofs.lemmas.Str.{IsCharBoundary-start}
use Rattle.cmark_scan_bytes.specs.Shown.{shown_cut}
use Rattle.cmark_link_scan.proofs.DestinationSteps.{destination_cut, cut_place, cut_value, kept_how}
use Rattle.cmark_link_scan.proofs.RestSteps.{dropped}
use Rattle.cmark_link_scan.proofs.part.destination_in.Goals as goal

pub scan_link_dest-requires : goal.scan_link_dest-requires
scan_link_dest-requires c = IsCharBoundary-start c.args.text.now c.utf8.text

pub range_from-requires : goal.range_from-requires
range_from-requires c = λ some.
    cut_place c.args.text.now c.in_ok-destination.destination.part.now c.in_ok-destination.destination.end c.utf8.text
    (destination_cut c.args.text.now (shown_cut c.in_ok-destination.destination) c.in_ok-destination.ensures.value)

pub returns-clause-value : goal.returns-clause-value
returns-clause-value c =
    cut_value c.args.text.now c.in_ok-destination.destination.part.now c.range_from.result.now c.in_ok-destination.destination.end c.utf8.text
    (destination_cut c.args.text.now (shown_cut c.in_ok-destination.destination) c.in_ok-destination.ensures.value) c.range_from.ensures.value
    (kept_how c.args.text.now c.in_ok-destination.destination.part.now c.is_destination.result c.if-not-is_destination.false c.is_destination.ensures)

pub returns-clause-rest : goal.returns-clause-rest
returns-clause-rest c = dropped c.args.text.now c.range_from.result.now c.in_ok-destination.destination.end c.in_ok-destination.ensures.within c.range_from.ensures.value
