use Rattle.std.proofs.lemmas.Str.{IsCharBoundary-start}
use Rattle.cmark_scan_bytes.specs.Shown.{shown_cut}
use Rattle.cmark_link_scan.proofs.DestinationSteps.{destination_cut}
use Rattle.cmark_link_scan.proofs.LinkSteps.{destination_value}
use Rattle.cmark_link_scan.proofs.link.destination_in.Goals as goal

pub scan_link_dest-requires : goal.scan_link_dest-requires
scan_link_dest-requires c = IsCharBoundary-start c.args.text.now c.utf8.text

pub returns-clause-value : goal.returns-clause-value
returns-clause-value c =
    destination_value c.args.text.now c.in_ok-destination.destination.part.now c.range_from.result.now c.in_ok-destination.destination.end c.utf8.text
    (destination_cut c.args.text.now (shown_cut c.in_ok-destination.destination) c.in_ok-destination.ensures.value) c.range_from.ensures.value
