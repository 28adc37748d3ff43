use Rattle.std.proofs.Common.{◌≡◌, take, arith}
use Rattle.std.proofs.lemmas.List.{length-take-le}
use Rattle.std.specs.List.{position_or_len}
use Rattle.cmark_search.specs.Sets.{in_keys}
use Rattle.cmark_search.proofs.Sets.{first-place, no-place}
use Rattle.cmark_search.proofs.search.find_first_within.Goals as goal

pub returns-then-at-to : goal.returns-then-at-to
returns-then-at-to c =
    let place : c.find_between-at.result ≡ position_or_len (in_keys c.args.keys.now) (take c.args.to c.args.bytes.now) = omega (arith, c.find_between-at.ensures.value) in
    first-place (in_keys c.args.keys.now) (take c.args.to c.args.bytes.now) c.find_between-at.result place (omega (arith, length-take-le c.args.to c.args.bytes.now c.requires))

pub returns-else-at-to : goal.returns-else-at-to
returns-else-at-to c =
    let place : c.find_between-at.result ≡ position_or_len (in_keys c.args.keys.now) (take c.args.to c.args.bytes.now) = omega (arith, c.find_between-at.ensures.value) in
    no-place (in_keys c.args.keys.now) (take c.args.to c.args.bytes.now) c.find_between-at.result place (omega (arith, length-take-le c.args.to c.args.bytes.now c.requires))
