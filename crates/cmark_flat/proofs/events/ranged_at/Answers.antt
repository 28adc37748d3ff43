use Rattle.std.proofs.Common.{map, sym, subst}
use Rattle.cmark_flat.specs.Decode.{ranged_of}
use Rattle.cmark_flat.specs.Gives.{Gives}
use Rattle.cmark_flat.specs.Records.{shown_record}
use Rattle.cmark_text.specs.Ranged.{shown_ranged}
use Rattle.cmark_flat.proofs.GroupLoop.{first_is}
use Rattle.cmark_flat.proofs.events.ranged_at.Goals as goal

pub returns : goal.returns
returns c =
    let own = c.in-Some.own.now in
    let after = c.in-Some.after.now in
    let given = subst (λ l. Gives shown_ranged c.ranged_of.result (ranged_of (record { own = shown_record own; parts = map shown_record l }))) c.front_of.ensures c.ranged_of.ensures in
    subst (λ read. Gives shown_ranged c.ranged_of.result read) (sym (first_is ranged_of shown_ranged c.args.records.now own after c.parts_len-count.result c.in-Some.ensures.cases.0 c.parts_len-count.ensures.value)) given
