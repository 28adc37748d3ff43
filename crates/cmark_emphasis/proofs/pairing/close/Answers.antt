use Rattle.std.proofs.Common.{◌≡◌, sym, ap, ◌∙◌, subst, arith, ◌<◌, ◌≤◌, ◌+◌, ◌-◌, ◌*◌, List, length, if◌then◌else◌}
use Rattle.std.proofs.lemmas.Grind.{elements}
use Rattle.cmark_grammar.specs.Emphasis as grammar
use Rattle.cmark_emphasis.specs.Shown.{shown_run, open_runs}
use Rattle.cmark_emphasis.specs.Bottoms.{AreBottoms, active_runs, bottom_of}
use Rattle.cmark_emphasis.specs.Counts.{put_back, searches, total_of}
use Rattle.cmark_emphasis.specs.Least.{AreStanding, Standing, left_standing}
use Rattle.cmark_emphasis.specs.Nearest.{IsNearest}
use Rattle.cmark_emphasis.specs.Stack.{NoneAgree, course_from, still_open}
use Rattle.cmark_emphasis.proofs.Agreeing.{closing}
use Rattle.cmark_emphasis.proofs.Counting.{bottom-within, none-pays, pair-pays, put_back-most, rest-delimiter, total-within}
use Rattle.cmark_emphasis.proofs.LeastSteps.{IsSeeking, seeking-end, seeking-next, standing-noted}
use Rattle.cmark_emphasis.proofs.Noted.{rest_bottoms}
use Rattle.cmark_emphasis.proofs.Stacks.{course_next, course_end, nearest_in}
use Rattle.cmark_emphasis.proofs.pairing.close.Goals as goal

pub nearest-requires-clause-bottoms : goal.nearest-requires-clause-bottoms
nearest-requires-clause-bottoms c = subst (AreBottoms c.loop-found.bottoms) (sym c.deref.ensures.value) c.loop-found.invariant.bottoms

pub nearest-requires-clause-room : goal.nearest-requires-clause-room
nearest-requires-clause-room c =
    let most = total-within c.loop-found.bottoms c.loop-found.stack.items c.loop-found.invariant.bottoms in
    let all : length c.deref.result.now ≡ length c.loop-found.stack.items = ap length c.deref.ensures.value in
    omega (arith, c.requires.room, c.loop-found.invariant.pays, most, all, put_back-most c.loop-found.closer.left)

-- the bottoms of the stack that is cut
cut_bottoms : (c : goal.After-rest_of_closer-closer) → AreBottoms c.lower.new.self c.truncate.new.self.items
cut_bottoms c = subst (AreBottoms c.lower.new.self) (sym c.truncate.ensures.items) (c.lower.ensures.bottoms c.loop-found.stack.items c.loop-found.invariant.bottoms)

next : (c : goal.After-rest_of_closer-closer)
    → (course_from (shown_run c.rest_of_closer-closer.result) (active_runs c.lower.new.self.inactive_below c.put_on.new.stack.items) c.push.new.self.items ≡ course_from (shown_run c.loop-found.closer) (active_runs c.loop-found.bottoms.inactive_below c.loop-found.stack.items) c.loop-found.pairs.items)
    × (length c.put_on.new.stack.items + c.rest_of_closer-closer.result.left < length c.loop-found.stack.items + c.loop-found.closer.left)
next c =
    let near : IsNearest (shown_run c.loop-found.closer) c.loop-found.bottoms.inactive_below c.loop-found.stack.items c.in-Some.found =
    subst (λ l. IsNearest (shown_run c.loop-found.closer) c.loop-found.bottoms.inactive_below l c.in-Some.found) c.deref.ensures.value c.in-Some.ensures.value in
    let same : active_runs c.lower.new.self.inactive_below c.truncate.new.self.items ≡ active_runs c.loop-found.bottoms.inactive_below c.truncate.new.self.items =
    subst (λ l. active_runs c.lower.new.self.inactive_below l ≡ active_runs c.loop-found.bottoms.inactive_below l) (sym c.truncate.ensures.items) (c.lower.ensures.opens c.loop-found.stack.items) in
    let n =
    course_next (shown_run c.loop-found.closer) c.index-opener.result.now c.rest_of_opener.result c.loop-found.stack.items c.truncate.new.self.items c.put_on.new.stack.items c.loop-found.pairs.items c.push.new.self.items c.pair_up.result
    c.in-Some.found c.loop-found.bottoms.inactive_below c.lower.new.self.inactive_below near (nearest_in _ _ _ _ near) c.index-opener.ensures c.truncate.ensures.items (cut_bottoms c).inactive_below same c.in_ok-put_on.ensures.value c.rest_of_opener.ensures.value
    c.in_ok-push.ensures.items c.pair_up.ensures in
    let e = sym c.rest_of_closer-closer.ensures.value in (
      subst (λ r. course_from r (active_runs c.lower.new.self.inactive_below c.put_on.new.stack.items) c.push.new.self.items ≡ course_from (shown_run c.loop-found.closer) (active_runs c.loop-found.bottoms.inactive_below c.loop-found.stack.items) c.loop-found.pairs.items) e n.0,
      subst (λ (r : grammar.Run). length c.put_on.new.stack.items + r.left < length c.loop-found.stack.items + c.loop-found.closer.left) e n.1,
    )

near : (c : goal.After-rest_of_closer-closer) → IsNearest (shown_run c.loop-found.closer) c.loop-found.bottoms.inactive_below c.loop-found.stack.items c.in-Some.found
near c = subst (λ l. IsNearest (shown_run c.loop-found.closer) c.loop-found.bottoms.inactive_below l c.in-Some.found) c.deref.ensures.value c.in-Some.ensures.value

-- the runs examined are paid for
paid : (c : goal.After-rest_of_closer-closer) → c.nearest.new.examined + 15 * length c.put_on.new.stack.items + total_of c.args.bottoms.now ≤ c.args.examined.now + 15 * length c.args.stack.now.items + total_of c.lower.new.self + put_back c.rest_of_closer-closer.result.left
paid c =
    let n = near c in
    let left = ap (λ (r : grammar.Run). r.left) c.rest_of_closer-closer.ensures.value in
    subst (λ left. c.nearest.new.examined + 15 * length c.put_on.new.stack.items + total_of c.args.bottoms.now ≤ c.args.examined.now + 15 * length c.args.stack.now.items + total_of c.lower.new.self + put_back left) (sym left)
    (pair-pays (shown_run c.index-opener.result.now) (shown_run c.loop-found.closer) c.rest_of_opener.result c.loop-found.bottoms c.lower.new.self c.loop-found.stack.items c.truncate.new.self.items c.put_on.new.stack.items c.in-Some.found
    (total_of c.args.bottoms.now) c.loop-found.examined c.nearest.new.examined (c.args.examined.now + 15 * length c.args.stack.now.items) (closing (shown_run n.opener) (shown_run c.loop-found.closer) n.agree).left (nearest_in _ _ _ _ n) c.truncate.ensures.items
    c.in_ok-put_on.ensures.value c.rest_of_opener.ensures.value (c.lower.ensures.falls c.loop-found.stack.items c.loop-found.invariant.bottoms) (c.in-Some.ensures.counts ∙ ap (λ l. c.loop-found.examined + (length l - c.in-Some.found)) c.deref.ensures.value) c.loop-found.invariant.pays)

-- the open runs among which the search continues
seeks-on : (c : goal.After-rest_of_closer-closer) (standing : List Standing) → AreStanding c.args.bottoms.now c.args.stack.now.items standing
    → IsSeeking (shown_run c.args.run) standing c.args.examined.now c.lower.new.self c.put_on.new.stack.items (shown_run c.rest_of_closer-closer.result) c.nearest.new.examined
seeks-on c standing are =
    let o = c.index-opener.result.now in
    subst (λ r. IsSeeking (shown_run c.args.run) standing c.args.examined.now c.lower.new.self c.put_on.new.stack.items r c.nearest.new.examined) (sym c.rest_of_closer-closer.ensures.value)
    (seeking-next (shown_run c.args.run) (shown_run c.loop-found.closer) standing c.args.examined.now c.loop-found.examined c.nearest.new.examined c.loop-found.bottoms c.lower.new.self o c.rest_of_opener.result
    c.loop-found.stack.items c.truncate.new.self.items c.put_on.new.stack.items c.in-Some.found (c.loop-found.invariant.seeks standing are) (near c) c.index-opener.ensures c.truncate.ensures.items (cut_bottoms c) c.lower.ensures.lows c.lower.ensures.inactive
    c.in_ok-put_on.ensures.value c.rest_of_opener.ensures.value (c.in-Some.ensures.counts ∙ ap (λ l. c.loop-found.examined + (length l - c.in-Some.found)) c.deref.ensures.value))

pub loop-found-preserved : goal.loop-found-preserved
loop-found-preserved c = record {
  stack = c.in_ok-put_on.ensures.placed;
  closer = c.rest_of_closer-closer.ensures.placed;
  known = rest-delimiter (shown_run c.index-opener.result.now) (shown_run c.loop-found.closer) c.rest_of_closer-closer.result c.rest_of_closer-closer.ensures.value c.loop-found.invariant.known;
  pays = paid c;
  seeks = λ standing are. seeks-on c standing are;
  bottoms = subst (AreBottoms c.lower.new.self) (sym c.in_ok-put_on.ensures.value) (rest_bottoms c.lower.new.self c.truncate.new.self.items c.rest_of_opener.result (cut_bottoms c));
  course = (next c).0 ∙ c.loop-found.invariant.course;
}

pub loop-found-smaller : goal.loop-found-smaller
loop-found-smaller c = omega (arith, (next c).1, c.put_on.new.stack.ok.0, c.loop-found.stack.ok.0)

pub returns-clause-value : goal.returns-clause-value
returns-clause-value c =
    sym c.loop-found.invariant.course
    ∙ course_end (shown_run c.loop-found.closer) (active_runs c.loop-found.bottoms.inactive_below c.loop-found.stack.items) (active_runs c.note.new.self.inactive_below c.loop-found.stack.items) c.loop-found.pairs.items
    (subst (λ l. NoneAgree (shown_run c.loop-found.closer) (open_runs (active_runs c.loop-found.bottoms.inactive_below l))) c.deref.ensures.value c.in_default.ensures.value)
    (subst (λ l. open_runs (active_runs c.note.new.self.inactive_below l) ≡ still_open (shown_run c.loop-found.closer) (open_runs (active_runs c.loop-found.bottoms.inactive_below l))) c.deref-2.ensures.value c.note.ensures.opens)

pub pair_up-requires : goal.pair_up-requires
pair_up-requires c = grind (arith, elements)

pub rest_of_opener-requires : goal.rest_of_opener-requires
rest_of_opener-requires c = grind (arith, elements)

pub index-opener-requires : goal.index-opener-requires
index-opener-requires c =
    let n : c.in-Some.found < length c.loop-found.stack.items = nearest_in (shown_run c.loop-found.closer) c.loop-found.bottoms.inactive_below c.loop-found.stack.items c.in-Some.found (subst (λ l. IsNearest (shown_run c.loop-found.closer) c.loop-found.bottoms.inactive_below l c.in-Some.found) c.deref.ensures.value c.in-Some.ensures.value) in
    omega (arith, n, c.loop-found.stack.ok.0)

pub returns-in_err-push-clause-counts : goal.returns-in_err-push-clause-counts
returns-in_err-push-clause-counts c =
    let most = total-within c.loop-found.bottoms c.loop-found.stack.items c.loop-found.invariant.bottoms in
    let all : length c.deref.result.now ≡ length c.loop-found.stack.items = ap length c.deref.ensures.value in
    omega (arith, c.in-Some.ensures.counts, c.loop-found.invariant.pays, most, all, put_back-most c.loop-found.closer.left)

pub returns-in_err-put_on-clause-counts : goal.returns-in_err-put_on-clause-counts
returns-in_err-put_on-clause-counts c =
    let most = total-within c.loop-found.bottoms c.loop-found.stack.items c.loop-found.invariant.bottoms in
    let all : length c.deref.result.now ≡ length c.loop-found.stack.items = ap length c.deref.ensures.value in
    omega (arith, c.in-Some.ensures.counts, c.loop-found.invariant.pays, most, all, put_back-most c.loop-found.closer.left)

-- a search that found nothing
none-paid : (c : goal.After-note) → c.nearest.new.examined + 15 * length c.loop-found.stack.items + total_of c.args.bottoms.now ≤ c.args.examined.now + 15 * length c.args.stack.now.items + total_of c.note.new.self + put_back c.loop-found.closer.left
none-paid c =
    let closer = shown_run c.loop-found.closer in
    none-pays closer c.loop-found.bottoms c.note.new.self (length c.loop-found.stack.items) (total_of c.args.bottoms.now) c.loop-found.examined c.nearest.new.examined (c.args.examined.now + 15 * length c.args.stack.now.items)
    (bottom-within closer c.loop-found.bottoms c.loop-found.stack.items c.loop-found.invariant.bottoms)
    (subst (λ l. c.nearest.new.examined ≡ c.loop-found.examined + (if searches closer then length l - bottom_of c.loop-found.bottoms closer else 0)) c.deref.ensures.value c.in_default.ensures.counts)
    (λ on. c.note.ensures.rises c.loop-found.invariant.known on ∙ ap (λ l. total_of c.loop-found.bottoms + length l) c.deref-2.ensures.value)
    c.note.ensures.rests c.loop-found.invariant.pays

pub returns-clause-counts : goal.returns-clause-counts
returns-clause-counts c =
    let most = total-within c.note.new.self c.loop-found.stack.items (subst (AreBottoms c.note.new.self) c.deref-2.ensures.value c.note.ensures.bottoms) in
    omega (arith, none-paid c, most, put_back-most c.loop-found.closer.left)

pub returns-clause-pays : goal.returns-clause-pays
returns-clause-pays c = none-paid c

pub returns-clause-least : goal.returns-clause-least
returns-clause-least c = λ standing are.
    let closer = shown_run c.loop-found.closer in
    seeking-end (shown_run c.args.run) closer standing c.args.examined.now c.loop-found.examined c.nearest.new.examined c.loop-found.bottoms c.note.new.self c.loop-found.stack.items (c.loop-found.invariant.seeks standing are) c.loop-found.invariant.bottoms
    (subst (λ l. NoneAgree closer (open_runs (active_runs c.loop-found.bottoms.inactive_below l))) c.deref.ensures.value c.in_default.ensures.value)
    (subst (λ l. c.nearest.new.examined ≡ c.loop-found.examined + (if searches closer then length l - bottom_of c.loop-found.bottoms closer else 0)) c.deref.ensures.value c.in_default.ensures.counts)
    (λ now stands. subst (λ l. AreStanding c.note.new.self l (left_standing closer now)) c.deref-2.ensures.value
    (standing-noted closer c.loop-found.bottoms c.note.new.self c.deref-2.result.now now c.note.ensures.bottoms (subst (λ l. AreStanding c.loop-found.bottoms l now) (sym c.deref-2.ensures.value) stands) c.note.ensures.rests c.note.ensures.inactive c.note.ensures.kinds))
