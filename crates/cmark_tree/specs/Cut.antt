-- The siblings that are left after a cut: all from the first that does not end before a place are removed.
use Rattle.std.specs.Prelude.{ℕ, nat_lt, Option, Some, None, if◌then◌else◌}
use Rattle.cmark_tree.specs.Forest.{Forest, Nil, Node}
use Rattle.cmark_tree.specs.Truncating.{Spans}

module _ {T : Type 0} (s : Spans T) (to : ℕ) where
  -- the siblings up to the first that does not end before the place
  abbrev pub ending_before : Forest T → Forest T
  ending_before Nil = Nil
  ending_before (Node x inside after) = if nat_lt (s.end x) to then Node x inside (ending_before after) else Nil

  -- the start of the first sibling that does not end before the place
  abbrev pub reaching_start : Forest T → Option ℕ
  reaching_start Nil = None
  reaching_start (Node x inside after) = if nat_lt (s.end x) to then reaching_start after else Some (s.start x)
