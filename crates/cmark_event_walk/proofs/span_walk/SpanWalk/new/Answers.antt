use Rattle.std.proofs.Common.{refl, subst}
use Rattle.cmark_grammar.specs.SpanDocuments.{Left}
use Rattle.cmark_event_walk.specs.Walking.{IsReadBy}
use Rattle.cmark_block_walk.proofs.OneRemainder.{one-remainder}
use Rattle.cmark_event_walk.proofs.Walks.{begin-able, new-stands}
use Rattle.cmark_event_walk.proofs.Readings.{outside-remains, remains-outside}
use Rattle.cmark_event_walk.proofs.span_walk.SpanWalk.new.Goals as goal

pub returns-clause-stands : goal.returns-clause-stands
returns-clause-stands g c = λ left remains same few short.
    (left, new-stands _ c.args.text.now left refl c.new-2.ensures.source c.special_bytes.ensures remains same few (begin-able _ c.args.text.now left c.with_limit.ensures.steps c.with_limit.ensures.live short))

pub returns-clause-begins : goal.returns-clause-begins
returns-clause-begins g c = λ reader left remains same few short placed read.
    let stands = new-stands _ c.args.text.now left refl c.new-2.ensures.source c.special_bytes.ensures remains same few (begin-able _ c.args.text.now left c.with_limit.ensures.steps c.with_limit.ensures.live short) in
    let by : IsReadBy g.E.EntityLookup.replacement reader _ = record { left = left; stands = stands; placed = placed; same = read } in
    (by, λ exchanges events h. outside-remains g.E.EntityLookup.replacement reader _ by refl exchanges events h)

pub returns-clause-reads : goal.returns-clause-reads
returns-clause-reads g c = λ reader left exchanges events remains m.
    subst (λ l. Left reader l c.with_limit.result.expansion_left exchanges events) (one-remainder c.args.walk m.read_by.left left m.read_by.stands.blocks.remains remains)
    (remains-outside g.E.EntityLookup.replacement reader _ m.read_by refl exchanges events m)
