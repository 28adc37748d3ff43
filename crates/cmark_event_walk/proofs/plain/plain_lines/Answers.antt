use Rattle.std.specs.Prelude.{◌-◌}
use Rattle.std.proofs.Common.{◌≡◌, ◌+◌, ◌<◌, [], length, refl, sym, ◌∙◌, subst, arith}
use Rattle.cmark_inline.specs.PlainStretches.{StandUpTo}
use Rattle.cmark_event_walk.specs.Plain.{StandFor}
use Rattle.cmark_event_walk.proofs.PlainSteps.{ended-on, ended-whole}
use Rattle.cmark_event_walk.proofs.plain.plain_lines.Goals as goal

pub loop-from-init : goal.loop-from-init
loop-from-init c = record { within = omega arith; alone = λ single. refl; lines = []; ended = refl }

pub next-at-requires-clause-from : goal.next-at-requires-clause-from
next-at-requires-clause-from c = c.loop-from.invariant.within

pub loop-from-smaller : goal.loop-from-smaller
loop-from-smaller c =
    let q : length c.args.bytes.now - (c.next-at.result + 1) < length c.args.bytes.now - c.loop-from.from = omega (arith, c.if-at-bytes.false, c.next-at.ensures.following) in
    q

pub loop-from-preserved : goal.loop-from-preserved
loop-from-preserved c =
    ended-on c.args.special.now c.args.bytes.now c.args.joins c.loop-from.from c.next-at.result c.loop-from.invariant (omega (arith, c.if-at-from.false, c.next-at.ensures.following)) c.if-at-bytes.false
    (sym c.is_lone_line_feed.ensures ∙ c.if-not-is_lone_line_feed.false) c.if-not-joins.false c.next-at.ensures.plain

pub returns-then-from-eq0-clause-plain : goal.returns-then-from-eq0-clause-plain
returns-then-from-eq0-clause-plain c options lookup is_cell set =
    let bytes = c.args.bytes.now in
    let end : c.next-at.result ≡ length bytes = omega (arith, c.if-at-bytes.true, c.next-at.ensures.within) in
    subst (λ n. StandUpTo options lookup is_cell bytes n (length bytes)) c.if-from-eq0.true
    (subst (StandUpTo options lookup is_cell bytes c.loop-from.from) end (c.next-at.ensures.plain options lookup is_cell set))

pub returns-else-from-eq0-clause-plain : goal.returns-else-from-eq0-clause-plain
returns-else-from-eq0-clause-plain c =
    let special = c.args.special.now in
    let bytes = c.args.bytes.now in
    let end : c.next-at.result ≡ length bytes = omega (arith, c.if-at-bytes.true, c.next-at.ensures.within) in
    ended-whole special bytes c.args.joins c.loop-from.from c.loop-from.invariant (omega (arith, end, c.if-at-from.false, c.next-at.ensures.following))
    (subst (StandFor special bytes c.loop-from.from) end c.next-at.ensures.plain)

pub returns-else-from-eq0-clause-joins : goal.returns-else-from-eq0-clause-joins
returns-else-from-eq0-clause-joins c single = absurd (c.if-from-eq0.false (c.loop-from.invariant.alone single))
