use Rattle.std.proofs.Common.{◌≡◌, ◌<◌, ◌^◌, take}
use Rattle.cmark_grammar.specs.Containers.{number_of}
use Rattle.cmark_scan_lines.proofs.marker.number_of.Given as goal

abbrev pub invariant-loop-digit : goal.invariant-loop-digit
invariant-loop-digit l = record { value : l.number ≡ number_of (take l.digit-index l.digits); below : l.number < 10 ^ l.digit-index }
