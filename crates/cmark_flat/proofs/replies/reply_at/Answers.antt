use Rattle.std.proofs.Common.{map, sym, subst}
use Rattle.cmark_flat.specs.Gives.{Reads}
use Rattle.cmark_flat.specs.Questions.{reply_of}
use Rattle.cmark_flat.specs.Records.{shown_record}
use Rattle.cmark_flat.specs.Replies.{shown_reply}
use Rattle.cmark_flat.proofs.GroupLoop.{first_is}
use Rattle.cmark_flat.proofs.replies.reply_at.Goals as goal

pub returns : goal.returns
returns c =
    let own = c.in_ok-own.own.now in
    let after = c.in_ok-own.after.now in
    let given = subst (λ l. Reads shown_reply c.reply_of.result (reply_of (record { own = shown_record own; parts = map shown_record l }))) c.front_of.ensures c.reply_of.ensures in
    subst (λ read. Reads shown_reply c.reply_of.result read) (sym (first_is reply_of shown_reply c.args.records.now own after c.parts_len-count.result c.in_ok-own.ensures.cases.0 c.parts_len-count.ensures.value)) given
