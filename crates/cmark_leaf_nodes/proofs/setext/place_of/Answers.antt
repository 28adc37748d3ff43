use Rattle.std.proofs.Common.{length, ap, ◌∙◌}
use Rattle.cmark_leaf_nodes.proofs.ContentPlaces.{place-first, place-last}
use Rattle.cmark_leaf_nodes.proofs.setext.place_of.Goals as goal

pub overflow_sub-result-then-left-len : goal.overflow_sub-result-then-left-len
overflow_sub-result-then-left-len c =
    (place-first c.args.before.now c.args.last c.rest-item.result c.loop-rest.rest-index c.loop-rest.left (length c.bytes-len.result.now) c.content_end.result c.loop-rest-test.true c.rest-item.is c.content_end.ensures.place (ap length c.bytes-len.ensures) c.if-left-len.true).0

pub returns-then-left-len : goal.returns-then-left-len
returns-then-left-len c =
    (place-first c.args.before.now c.args.last c.rest-item.result c.loop-rest.rest-index c.loop-rest.left (length c.bytes-len.result.now) c.content_end.result c.loop-rest-test.true c.rest-item.is c.content_end.ensures.place (ap length c.bytes-len.ensures) c.if-left-len.true).1
    ∙ c.loop-rest.invariant.place

pub overflow_sub-result-3 : goal.overflow_sub-result-3
overflow_sub-result-3 c =
    (place-last c.args.before.now c.args.last c.loop-rest.rest-index c.loop-rest.left (length c.bytes.result.now) c.content_end-2.result c.loop-rest-test.false c.content_end-2.ensures.place (ap length c.bytes.ensures) c.loop-rest.invariant.within).0

pub returns : goal.returns
returns c =
    (place-last c.args.before.now c.args.last c.loop-rest.rest-index c.loop-rest.left (length c.bytes.result.now) c.content_end-2.result c.loop-rest-test.false c.content_end-2.ensures.place (ap length c.bytes.ensures) c.loop-rest.invariant.within).1
    ∙ c.loop-rest.invariant.place
