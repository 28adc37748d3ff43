use denote.Shadow.{shadow}
use denote.Text.{Utf8}
use Rattle.std.proofs.Common.{◌≡◌, ◌++◌, length, string_bytes}
use Rattle.cmark_grammar.specs.Unescaped.{with_escaped_pipes}
use Rattle.cmark_scan_bytes.proofs.escapes.push_with_escaped_pipes.Given as goal

abbrev pub invariant-loop-at : goal.invariant-loop-at
invariant-loop-at l = record {
  text : shadow (Utf8 l.rest);
  pushed : string_bytes l.out ++ with_escaped_pipes l.rest ≡ string_bytes l.initial.out ++ with_escaped_pipes l.text;
}

abbrev pub decreases-loop-at : goal.decreases-loop-at
decreases-loop-at l = length l.rest
