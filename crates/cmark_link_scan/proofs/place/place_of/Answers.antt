use Rattle.cmark_link_scan.proofs.RestSteps.{rest_at, rest_starts}
use Rattle.cmark_link_scan.proofs.place.place_of.Goals as goal

pub returns-clause-rest : goal.returns-clause-rest
returns-clause-rest c = rest_at c.args.text.now c.args.rest.now c.requires

pub returns-clause-boundary : goal.returns-clause-boundary
returns-clause-boundary c = rest_starts c.args.text.now c.args.rest.now c.utf8.rest c.requires
