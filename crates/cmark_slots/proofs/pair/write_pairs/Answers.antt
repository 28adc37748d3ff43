use Rattle.std.proofs.Common.{◌+◌, drop, ap, subst}
use Rattle.std.specs.Prelude.{map}
use Rattle.cmark_emphasis.specs.Shown.{shown_pair}
use Rattle.cmark_values.specs.Shown.{shown_options}
use Rattle.cmark_slots.specs.PairSlots.{AreOpen, CanWrite, spans_of_pairs}
use Rattle.cmark_slots.proofs.SpanSlots.{WritesOn, can-first, pairs-next, writes-more}
use Rattle.cmark_slots.proofs.pair.write_pairs.Goals as goal

pub write_pair-requires-clause-texts : goal.write_pair-requires-clause-texts
write_pair-requires-clause-texts c =
    can-first c.loop-pair.slots.items _ (spans_of_pairs (map shown_pair (drop (c.loop-pair.pair-index + 1) c.args.pairs.now)))
    (subst (CanWrite c.loop-pair.slots.items) (ap spans_of_pairs (pairs-next c.args.pairs.now c.loop-pair.pair-index _ c.loop-pair-test.true)) c.loop-pair.invariant.1.can)

pub loop-pair-preserved : goal.loop-pair-preserved
loop-pair-preserved c =
    let options = shown_options c.args.options in
    let all = spans_of_pairs (map shown_pair c.args.pairs.now) in
    let old = c.args.slots.now.items in
    let now = c.loop-pair.slots.items in
    let next = pairs-next c.args.pairs.now c.loop-pair.pair-index _ c.loop-pair-test.true in (
      (subst AreOpen next c.loop-pair.invariant.0).1,
      writes-more options all _ (spans_of_pairs (map shown_pair (drop (c.loop-pair.pair-index + 1) c.args.pairs.now))) old now c.write_pair.new.slots.items (subst (λ l. WritesOn options all l old now) (ap spans_of_pairs next) c.loop-pair.invariant.1)
          c.write_pair.ensures.keeps c.write_pair.ensures.others c.write_pair.ensures.before c.write_pair.ensures.spans,
    )

pub returns-clause-before : goal.returns-clause-before
returns-clause-before c = λ low h. (c.loop-pair.invariant.1.before low h).0
