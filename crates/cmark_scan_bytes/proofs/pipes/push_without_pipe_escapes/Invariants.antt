use denote.Shadow.{shadow}
use denote.Text.{Utf8}
use Rattle.std.proofs.Common.{◌≡◌, ◌++◌, length, string_bytes}
use Rattle.cmark_grammar.specs.InlineTokens.{without_pipe_escapes}
use Rattle.cmark_scan_bytes.proofs.pipes.push_without_pipe_escapes.Given as goal

abbrev pub invariant-loop-backslash : goal.invariant-loop-backslash
invariant-loop-backslash l = record {
  text : shadow (Utf8 l.rest);
  pushed : string_bytes l.out ++ without_pipe_escapes l.rest ≡ string_bytes l.initial.out ++ without_pipe_escapes l.text;
}

abbrev pub decreases-loop-backslash : goal.decreases-loop-backslash
decreases-loop-backslash l = length l.rest
