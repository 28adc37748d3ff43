use Rattle.std.proofs.Common.{◌≡◌, ◌<◌, length, map, sym, subst, ◌∙◌}
use Rattle.std.proofs.lemmas.Bool.{eqb-true}
use Rattle.std.proofs.lemmas.List.{map_push}
use Rattle.cmark_flat.specs.Decode.{records_of}
use Rattle.cmark_flat.specs.Records.{shown_record}
use Rattle.cmark_flat.proofs.ReadLoop.{SoFar, all_read, ends, goes_on, some_left}
use Rattle.cmark_flat.proofs.read.records_of.Goals as goal

pub returns-in_default : goal.returns-in_default
returns-in_default c =
    let some : 0 < length c.loop-rest.rest.now = some_left (length c.loop-rest.rest.now) (sym c.is_empty.ensures ∙ c.loop-rest-test.true) in
    ends (map shown_record c.loop-rest.records.items) c.loop-rest.rest.now (records_of c.args.bytes.now) c.loop-rest.invariant c.in_default.ensures.reads some

pub loop-rest-preserved : goal.loop-rest-preserved
loop-rest-preserved c =
    let total = records_of c.args.bytes.now in
    let after = c.in-Some.after.now in
    subst (λ l. SoFar (map shown_record l) after total) (sym c.in_ok-push.ensures.items)
    (subst (λ l. SoFar l after total) (sym (map_push shown_record c.loop-rest.records.items c.in-Some.first))
    (goes_on (map shown_record c.loop-rest.records.items) c.loop-rest.rest.now (shown_record c.in-Some.first) after total c.loop-rest.invariant c.in-Some.ensures.reads c.in-Some.ensures.shorter))

pub returns : goal.returns
returns c =
    let none : length c.loop-rest.rest.now ≡ 0 = eqb-true (length c.loop-rest.rest.now) 0 (sym c.is_empty.ensures ∙ c.loop-rest-test.false) in
    all_read (map shown_record c.loop-rest.records.items) c.loop-rest.rest.now (records_of c.args.bytes.now) c.loop-rest.invariant none
