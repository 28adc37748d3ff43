use Rattle.std.proofs.Common.{◌≡◌, ◌+◌, Some, drop, length, map, sym, ap, subst, ◌∙◌, arith}
use Rattle.std.proofs.lemmas.List.{length-drop}
use Rattle.std.proofs.lemmas.Result.{err_from_is_err_and}
use Rattle.std.specs.List.{prefix_len}
use Rattle.cmark_flat.specs.Decode.{each, groups, ranged_at, ranged_of}
use Rattle.cmark_flat.specs.Gives.{Fails}
use Rattle.cmark_flat.specs.Records.{shown_record}
use Rattle.cmark_text.specs.Ranged.{shown_ranged}
use Rattle.cmark_flat.proofs.Loop.{with_front}
use Rattle.cmark_flat.proofs.GroupLoop.{all_grouped, fails, is_part, step}
use Rattle.cmark_flat.proofs.events.events_of.Goals as goal

pub loop-at-preserved : goal.loop-at-preserved
loop-at-preserved c =
    let rs = c.args.records.now in
    let at = c.loop-at.at in
    let i = c.loop-at.invariant in
    let total = each ranged_of (groups (map shown_record rs)) in
    let e = c.in_ok-ranged.ranged in
    let h = subst (λ l. ranged_at (map shown_record l) ≡ Some (shown_ranged e)) c.rest_from.ensures c.in_ok-ranged.ensures in
    let number = c.parts_len.ensures.value ∙ ap (prefix_len is_part) c.rest_from-in-loop-at.ensures in
    record {
      within = omega (arith, c.loop-at-test.true, c.parts_len.ensures.within, ap length c.rest_from-in-loop-at.ensures, length-drop (at + 1) rs);
      so_far = subst (λ items. with_front (map shown_ranged items) (each ranged_of (groups (map shown_record (drop (at + (1 + c.parts_len.result)) rs)))) ≡ total) (sym c.in_ok-push.ensures.items)
          (step ranged_of shown_ranged rs at c.parts_len.result c.loop-at.events.items e total c.loop-at-test.true number h i.so_far);
    }

pub returns-in_err-ranged : goal.returns-in_err-ranged
returns-in_err-ranged c =
    let rs = c.args.records.now in
    let e = c.in_err-ranged.field-0.0 in
    let p = err_from_is_err_and c.from_residual.result c.from_residual.ensures.1 in
    let h = subst (λ l. Fails e (ranged_at (map shown_record l))) c.rest_from.ensures c.in_err-ranged.ensures in
    rw (p.1, p.2) (fails ranged_of shown_ranged rs c.loop-at.at e (map shown_ranged c.loop-at.events.items) (each ranged_of (groups (map shown_record rs))) c.loop-at-test.true h c.loop-at.invariant.so_far)

pub returns : goal.returns
returns c = all_grouped ranged_of shown_ranged c.args.records.now c.loop-at.at (map shown_ranged c.loop-at.events.items) (each ranged_of (groups (map shown_record c.args.records.now))) c.loop-at-test.false c.loop-at.invariant.so_far
