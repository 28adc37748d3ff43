use denote.Shadow.{shadow}
use denote.Text.{Utf8}
use Rattle.std.proofs.Common.{◌≡◌, ◌++◌, length, string_bytes}
use Rattle.cmark_grammar.specs.LabelsOverLines.{with_literal_pipes}
use Rattle.cmark_scan_bytes.proofs.pipes.push_with_literal_pipes.Given as goal

abbrev pub invariant-loop-found : goal.invariant-loop-found
invariant-loop-found l = record {
  text : shadow (Utf8 l.rest);
  pushed : string_bytes l.out ++ with_literal_pipes l.rest ≡ string_bytes l.initial.out ++ with_literal_pipes l.text;
}

abbrev pub decreases-loop-found : goal.decreases-loop-found
decreases-loop-found l = length l.rest
