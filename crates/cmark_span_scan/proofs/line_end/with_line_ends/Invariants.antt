use denote.Shadow.{shadow}
use denote.Text.{Utf8}
use Rattle.std.proofs.Common.{◌≡◌, ◌++◌, length, string_bytes}
use Rattle.cmark_grammar.specs.CodeSpans.{with_line_ends}
use Rattle.cmark_span_scan.proofs.line_end.with_line_ends.Given as goal

abbrev pub invariant-loop-found : goal.invariant-loop-found
invariant-loop-found l = record {
  text : shadow (Utf8 l.rest);
  pushed : string_bytes l.out ++ with_line_ends l.mark l.rest ≡ with_line_ends l.mark l.text;
}

abbrev pub decreases-loop-found : goal.decreases-loop-found
decreases-loop-found l = length l.rest
