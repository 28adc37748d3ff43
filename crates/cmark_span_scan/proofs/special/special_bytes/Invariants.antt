use Rattle.std.proofs.Common.{◌≡◌, ◌<◌, false, ℕ, length, drop}
use Rattle.cmark_inline_model.specs.SpecialBytes.{is_one_of, is_special}
use Rattle.cmark_values.specs.Shown.{shown_options}
use Rattle.cmark_span_scan.specs.Special.{has_byte}
use Rattle.cmark_span_scan.proofs.SpecialSteps.{may_be_special}
use Rattle.cmark_span_scan.proofs.special.special_bytes.Given as goal

-- the table is right for each byte that is already set
abbrev pub invariant-loop-byte : goal.invariant-loop-byte
invariant-loop-byte l = record {
  done : (k : ℕ) → k < 256 → is_one_of (drop l.byte-index may_be_special) k ≡ false → has_byte l.table k ≡ is_special (shown_options l.options) k;
  size : length l.table ≡ 256;
}
