use denote.Shadow.{shadow}
use denote.Text.{Utf8}
use Rattle.std.proofs.Common.{◌≡◌, ◌++◌, false, length, string_bytes}
use Rattle.cmark_grammar.specs.Tokens.{title_lines}
use Rattle.cmark_link_scan.proofs.title.title_lines.Given as goal

abbrev pub invariant-loop-at : goal.invariant-loop-at
invariant-loop-at l = record {
  text : shadow (Utf8 l.rest);
  pushed : string_bytes l.lines ++ title_lines false l.rest ≡ title_lines false l.title;
}

abbrev pub decreases-loop-at : goal.decreases-loop-at
decreases-loop-at l = length l.rest
