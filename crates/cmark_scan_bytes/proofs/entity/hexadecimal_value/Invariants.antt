use Rattle.std.proofs.Common.{◌≡◌, ◌<◌, take}
use Rattle.cmark_grammar.specs.Tokens.{value_of}
use Rattle.cmark_scan_bytes.proofs.EntitySteps.{room}
use Rattle.cmark_scan_bytes.proofs.entity.hexadecimal_value.Given as goal

abbrev pub invariant-loop-digit : goal.invariant-loop-digit
invariant-loop-digit l = record {
  spells : l.value ≡ value_of 16 (take l.digit-index l.digits);
  below : l.value < room l.digit-index;
}
