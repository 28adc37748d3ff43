use Rattle.std.proofs.Common.{◌≡◌, ◌-◌, Some, length, drop, sym, ap, subst, ◌∙◌, arith}
use Rattle.std.specs.Str.{IsCharBoundary}
use Rattle.cmark_grammar.specs.Tags.{after_ending}
use Rattle.cmark_link_scan.proofs.RestSteps.{EndsAt, ending_at, ending_place, dropped}
use Rattle.cmark_link_scan.proofs.blank.after_ending.Goals as goal

pub range_from-requires : goal.range_from-requires
range_from-requires c = λ some.
    let text = c.args.text.now in
    let rest = c.in_ok-rest.rest.now in
    let e : EndsAt text rest = ending_at text rest c.utf8.text (sym (c.in_ok-rest.ensures.value ∙ ap after_ending c.as_bytes.ensures.value)) in
    subst (IsCharBoundary text) (ending_place text rest e) e.boundary

pub returns-clause-value : goal.returns-clause-value
returns-clause-value c =
    let text = c.args.text.now in
    let rest = c.in_ok-rest.rest.now in
    let is : Some rest ≡ after_ending text = c.in_ok-rest.ensures.value ∙ ap after_ending c.as_bytes.ensures.value in
    let e : EndsAt text rest = ending_at text rest c.utf8.text (sym is) in
    ap Some (c.range_from.ensures.value ∙ ap (λ n. drop n text) (sym (ending_place text rest e)) ∙ sym e.is) ∙ is

pub returns-clause-rest : goal.returns-clause-rest
returns-clause-rest c = dropped c.args.text.now c.range_from.result.now (length c.args.text.now - length c.in_ok-rest.rest.now) (omega arith) c.range_from.ensures.value
