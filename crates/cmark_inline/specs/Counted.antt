-- The number of steps that the searches of a leaf take.
use Rattle.std.specs.Prelude.{ℕ, zero, suc, ◌+◌, ◌-◌, ◌*◌, ◌≤◌, length}
use Rattle.cmark_leaf_text.specs.Reads.{place_of, text_of}
use Rattle.cmark_leaf_text.specs.declared.leaf_text.LeafText.{LeafText}
use Rattle.cmark_inline.specs.declared.steps.Steps.{Steps}

-- the number of bytes of the source that the first `count` bytes of a text take, with the bytes between its lines
abbrev pub extent_up_to : LeafText → (count : ℕ) → ℕ
extent_up_to leaf zero = 0
extent_up_to leaf (suc count) = suc (place_of leaf count) - place_of leaf 0

-- the number of bytes of the source that the whole text takes, with the bytes between its lines
abbrev pub extent_of : LeafText → ℕ
extent_of leaf = extent_up_to leaf (length (text_of leaf))

abbrev pub total : Steps → ℕ
total steps = steps.html + (steps.openers + steps.closers)

-- no counter falls. The searches for the ends of markup and for closing runs take at most 64 steps for each byte of the source that the
-- leaf takes. Those for open runs take at most 64 steps for each byte of its text
pub record Counts (leaf : LeafText) (old new : Steps) : Type 0 where
  pub html_grows : old.html ≤ new.html
  pub openers_grow : old.openers ≤ new.openers
  pub closers_grow : old.closers ≤ new.closers
  pub found : new.html + new.closers ≤ (old.html + old.closers) + 64 * extent_of leaf
  pub opened : new.openers ≤ old.openers + 64 * length (text_of leaf)
