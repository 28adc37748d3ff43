-- The marks of earlier searches also hold at later offsets.
use Rattle.std.proofs.Common.{ℕ, ◌≤◌, arith}
use Rattle.cmark_inline.specs.MarkupInSource.{AreUnclosed}
use Rattle.cmark_inline.specs.declared.markup.Unclosed.{Unclosed}
use Rattle.cmark_leaf_text.specs.declared.leaf_text.LeafText.{LeafText}

pub still-unclosed : (leaf : LeafText) (at next : ℕ) (unclosed : Unclosed) → at ≤ next → AreUnclosed leaf at unclosed → AreUnclosed leaf next unclosed
still-unclosed leaf at next unclosed order h = λ k le. h k (omega (arith, order, le))
