-- Bounds on the steps that the searches in a leaf have taken and may still take.
use Rattle.std.specs.Prelude.{ℕ, ◌+◌, ◌-◌, ◌*◌, ◌<◌, ◌≤◌, nat_lt, if◌then◌else◌, List, length, ◌^◌}
use Rattle.cmark_span_scan.specs.Backticks as backticks
use Rattle.cmark_span_scan.specs.Dollars as dollars
use Rattle.cmark_span_scan.specs.declared.backtick_runs.BacktickRuns.{BacktickRuns}
use Rattle.cmark_span_scan.specs.declared.dollars.Dollars.{Dollars}
use Rattle.cmark_leaf_text.specs.Reads.{place_of, text_of}
use Rattle.cmark_leaf_text.specs.declared.leaf_text.LeafText.{LeafText}
use Rattle.cmark_scan_bytes.specs.Guards.{may_pass}
use Rattle.cmark_inline.specs.Counted.{extent_of}
use Rattle.cmark_inline.specs.declared.markup.Unclosed.{Unclosed}
use Rattle.cmark_inline.specs.declared.step.Sought.{Sought}
use Rattle.cmark_inline.specs.declared.steps.Steps.{Steps}

-- ## Code spans and formulas

-- the runs of backticks that were visited up to the offset `at`, with those that may be visited later. They are at most four for each byte
pub record RunsPaid (text : List ℕ) (at : ℕ) (runs : BacktickRuns) : Type 0 where
  pub reached : backticks.IsReached at runs
  pub paid : runs.visited + backticks.may_visit text at runs ≤ 4 * length text

-- the dollar signs that were visited up to the offset `at`, with those that may be visited later. They are at most four for each byte
pub record DollarsPaid (text : List ℕ) (at : ℕ) (signs : Dollars) : Type 0 where
  pub reached : dollars.IsReached text at signs
  pub paid : signs.visited + dollars.may_visit text at signs ≤ 4 * length text

-- ## Markup

-- the number of bytes of the source from the byte at `at` to the end of the leaf's last line
abbrev pub ahead_of : LeafText → (at : ℕ) → ℕ
ahead_of leaf at = if nat_lt at (length (text_of leaf)) then extent_of leaf - (place_of leaf at - place_of leaf 0) else 0

-- the bytes that searches for markup have passed, with those that later searches may pass, are at most twelve for each byte of the source.
-- For each of four kinds, one search may find no end. Each byte of markup is passed once, and seven bytes are passed at each byte of the
-- text
pub record MarkupPaid (leaf : LeafText) (at : ℕ) (unclosed : Unclosed) : Type 0 where
  pub paid : unclosed.passed + may_pass (extent_of leaf) (extent_of leaf) unclosed.guard + ahead_of leaf at + 7 * (length (text_of leaf) - at) ≤ 12 * extent_of leaf

-- ## All searches

pub record ArePaid (leaf : LeafText) (at : ℕ) (sought : Sought) : Type 0 where
  pub runs : RunsPaid (text_of leaf) at sought.runs
  pub signs : DollarsPaid (text_of leaf) at sought.dollars
  pub markup : MarkupPaid leaf at sought.unclosed

-- the counters have room for the steps of a leaf
pub record HasRoom (steps : Steps) : Type 0 where
  pub html : steps.html < 2 ^ 127
  pub openers : steps.openers < 2 ^ 127
  pub closers : steps.closers < 2 ^ 127
