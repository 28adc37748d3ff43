use Rattle.std.proofs.Common.{length, string_bytes, drop, ◌≤◌, ◌-◌}
use Rattle.cmark_grammar.specs.Escapes.{href_byte}
use Rattle.cmark_text.proofs.Escaping.{Written}
use Rattle.cmark_text.proofs.escape.escape_href.Given as goal

abbrev pub invariant-loop-from : goal.invariant-loop-from
invariant-loop-from l = record {
  in_bounds : l.from ≤ length l.url;
  written : Written href_byte (string_bytes l.initial.out) (string_bytes l.out) l.url (drop l.from l.url);
}

abbrev pub decreases-loop-from : goal.decreases-loop-from
decreases-loop-from l = length l.url - l.from
