use Rattle.std.proofs.Common.{◌≡◌, ◌≤◌, false, ◌∷◌, map, None, string_bytes}
use Rattle.std.specs.Iterator.{size}
use Rattle.cmark_merge.specs.Merge.{joined}
use Rattle.cmark_merge.specs.Reading.{CanGo, items_left}
use Rattle.cmark_merge.specs.Steps.{ReadsTexts}
use Rattle.cmark_merge.specs.Streams.{ranged_ahead, text_at}
use Rattle.cmark_merge.proofs.offset.TextMergeWithOffset.join.Given as goal

abbrev pub invariant-loop-more : goal.invariant-loop-more
invariant-loop-more g l = record {
  goes : CanGo g.I.Iterator.can_next g.I.Iterator.remaining (ranged_ahead l.self);
  not_over : (ranged_ahead l.self).is_over ≡ false;
  nothing_held : (ranged_ahead l.self).held ≡ None;
  no_more : size (items_left g.I.Iterator.remaining (ranged_ahead l.self)) ≤ size (items_left g.I.Iterator.remaining (ranged_ahead l.fn.self));
  run : ReadsTexts g.I.Iterator.next_gives (ranged_ahead l.fn.self) (ranged_ahead l.self);
  are : record { text = string_bytes l.text; start = l.fn.first.1.start; end = l.end } ≡ joined (text_at l.fn.first) (text_at l.fn.second ∷ map text_at run.texts);
}

abbrev pub decreases-loop-more : goal.decreases-loop-more
decreases-loop-more g l = size (items_left g.I.Iterator.remaining (ranged_ahead l.self))
