use Rattle.std.proofs.Common.{◌≡◌, ◌+◌, Some, None, drop, length, map, sym, ap, subst, ◌∙◌, arith}
use Rattle.std.proofs.lemmas.List.{length-drop, map_push}
use Rattle.cmark_flat.specs.Decode.{attribute_at, attributes_of}
use Rattle.cmark_flat.specs.Records.{shown_record}
use Rattle.cmark_values.specs.Shown.{shown_attribute}
use Rattle.cmark_flat.proofs.Loop.{attribute_fails, attribute_step, attributes_done, with_front}
use Rattle.cmark_flat.proofs.parts.attributes_of.Goals as goal

pub loop-at-preserved : goal.loop-at-preserved
loop-at-preserved c =
    let rs = c.args.parts.now in
    let at = c.loop-at.at in
    let items = c.loop-at.attributes.items in
    let a = c.in-Some.attribute in
    let total = attributes_of (map shown_record rs) in
    let h = subst (λ l. attribute_at (map shown_record l) ≡ Some (shown_attribute a)) c.rest_from.ensures c.in-Some.ensures.reads in
    let pushed = ap (map shown_attribute) c.in_ok-push.ensures.items ∙ map_push shown_attribute items a in
    record {
      within = omega (arith, c.loop-at-test.true, c.in-Some.ensures.two, ap length c.rest_from.ensures, length-drop at rs);
      so_far = subst (λ l. with_front l (attributes_of (map shown_record (drop (at + 2) rs))) ≡ total) (sym pushed)
          (attribute_step rs at (map shown_attribute items) (shown_attribute a) total h c.loop-at.invariant.so_far);
    }

pub returns-in_default : goal.returns-in_default
returns-in_default c =
    let rs = c.args.parts.now in
    let h = subst (λ l. attribute_at (map shown_record l) ≡ None) c.rest_from.ensures c.in_default.ensures.reads in
    attribute_fails rs c.loop-at.at (map shown_attribute c.loop-at.attributes.items) (attributes_of (map shown_record rs)) c.loop-at-test.true h c.loop-at.invariant.so_far

pub returns : goal.returns
returns c = attributes_done c.args.parts.now c.loop-at.at (map shown_attribute c.loop-at.attributes.items) (attributes_of (map shown_record c.args.parts.now)) c.loop-at-test.false c.loop-at.invariant.so_far
