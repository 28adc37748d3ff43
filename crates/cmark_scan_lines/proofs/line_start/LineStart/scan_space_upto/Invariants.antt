use Rattle.std.proofs.Common.{◌≡◌, ℕ, ◌+◌, ◌-◌, ◌<◌, ◌≤◌, length}
use Rattle.cmark_grammar.specs.Columns.{indent}
use Rattle.cmark_scan_lines.specs.LineStart.{columns_taken, columns_from}
use Rattle.cmark_scan_lines.proofs.line_start.LineStart.scan_space_upto.Given as goal

abbrev pub invariant-loop-count : goal.invariant-loop-count
invariant-loop-count l = record {
  line : l.self.bytes ≡ l.fn.self.bytes;
  held : l.self.held ≡ l.fn.self.held;
  taken : columns_taken l.self ≡ columns_taken l.fn.self + l.count;
  within : l.count ≤ l.n;
  whole : l.count < l.n → l.self.pending ≡ 0;
  blank : (at : ℕ) → l.count ≤ indent (columns_from at l.fn.self);
}

abbrev pub decreases-loop-count : goal.decreases-loop-count
decreases-loop-count l = length l.self.bytes.now - l.self.taken
