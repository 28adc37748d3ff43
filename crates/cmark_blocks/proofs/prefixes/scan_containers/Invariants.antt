use Rattle.std.proofs.Common.{◌+◌, ◌<◌, ◌^◌, length}
use Rattle.std.specs.Slice.Iter.{iter_rest}
use Rattle.cmark_tree.specs.Tree.{Holds}
use Rattle.cmark_tree.specs.Zip.{Zip}
use Rattle.cmark_items.specs.declared.item.Item.{Item}
use Rattle.cmark_values.specs.Shown.{shown_options}
use Rattle.cmark_blocks.proofs.PrefixSteps.{Continuation}
use Rattle.cmark_blocks.proofs.prefixes.scan_containers.Given as goal

abbrev pub invariant-loop-ix : goal.invariant-loop-ix
invariant-loop-ix l =
    (goal.iterator-loop-ix).can_next l.ix-iterator × (goal.iterator-loop-ix).is_finite l.ix-iterator
    × (l.count + length (iter_rest l.ix-iterator) < 2 ^ 63)
    × ((z : Zip Item) → Holds l.tree z → Continuation (shown_options l.options) l.tree z.up l.fn.line l.line l.count (iter_rest l.ix-iterator))
