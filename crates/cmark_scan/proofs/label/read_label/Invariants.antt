use Rattle.std.proofs.Common.{◌≡◌, ◌≤◌, ◌-◌, [], false, length, drop, string_bytes}
use Rattle.std.specs.Str.{IsCharBoundary}
use Rattle.cmark_grammar.specs.LinkDefinitions.{characters}
use Rattle.cmark_grammar.specs.LabelsOverLines.{up_to_bracket}
use Rattle.cmark_scan.specs.Handled.{ForLabels}
use Rattle.cmark_scan_bytes.specs.Steps.{puts}
use Rattle.cmark_scan.proofs.LabelSteps.{has_words, so_far}
use Rattle.cmark_scan.proofs.label.read_label.Given as goal

abbrev pub invariant-loop-at : goal.invariant-loop-at
invariant-loop-at g l = record {
  reads : ForLabels g.H.Fn l.handler (λ prefix. up_to_bracket prefix false 0 l.text ≡ puts (so_far (string_bytes l.copied) l.text l.mark l.at) (up_to_bracket prefix l.escaped 0 (drop l.at l.text)));
  counts : l.count ≡ characters (so_far (string_bytes l.copied) l.text l.mark l.at);
  words : l.has_words ≡ has_words (so_far (string_bytes l.copied) l.text l.mark l.at);
  few : l.count ≤ 1000;
  ordered : l.mark ≤ l.at;
  within : l.at ≤ length l.text;
  short : length (so_far (string_bytes l.copied) l.text l.mark l.at) ≤ l.at;
  kept : length (so_far (string_bytes l.copied) l.text l.mark l.at) ≡ l.at → string_bytes l.copied ≡ [];
  whole : IsCharBoundary l.text l.mark;
}

abbrev pub decreases-loop-at : goal.decreases-loop-at
decreases-loop-at g l = length l.bytes - l.at
