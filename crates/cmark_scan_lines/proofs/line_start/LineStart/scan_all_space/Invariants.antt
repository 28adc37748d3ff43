use Rattle.std.proofs.Common.{◌≡◌, ℕ, ◌-◌, length}
use Rattle.cmark_grammar.specs.Columns.{without_indent}
use Rattle.cmark_scan_lines.specs.LineStart.{columns_from}
use Rattle.cmark_scan_lines.proofs.line_start.LineStart.scan_all_space.Given as goal

abbrev pub invariant-loop : goal.invariant-loop
invariant-loop l = record {
  line : l.self.bytes ≡ l.fn.self.bytes;
  held : l.self.held ≡ l.fn.self.held;
  whole : l.self.pending ≡ 0;
  same : (at : ℕ) → without_indent (columns_from at l.self) ≡ without_indent (columns_from at l.fn.self);
}

abbrev pub decreases-loop : goal.decreases-loop
decreases-loop l = length l.self.bytes.now - l.self.taken
