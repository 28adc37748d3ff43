use Rattle.std.proofs.Common.{◌≡◌, ℕ, ◌<◌, true, ◌==◌, ◌||◌, get_or, take}
use Rattle.std.specs.Prelude.{count_by}
use Rattle.cmark_grammar.specs.Columns.{is_blank_byte}
use Rattle.cmark_scan_lines.proofs.leaf.is_break_of.Given as goal

abbrev pub invariant-loop-byte : goal.invariant-loop-byte
invariant-loop-byte l = record {
  count : l.count ≡ count_by (λ c. c == l.character) (take l.byte-index l.line);
  passed : (k : ℕ) → k < l.byte-index → ((get_or l.line k 0 == l.character) || is_blank_byte (get_or l.line k 0)) ≡ true;
}
