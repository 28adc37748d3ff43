use Rattle.std.proofs.Common.{◌≡◌, ◌+◌, Some, None, drop, length, map, sym, ap, subst, ◌∙◌, arith}
use Rattle.std.proofs.lemmas.List.{length-drop}
use Rattle.std.specs.List.{prefix_len}
use Rattle.cmark_flat.specs.Decode.{each, groups}
use Rattle.cmark_flat.specs.Questions.{reply_of}
use Rattle.cmark_flat.specs.Records.{shown_record}
use Rattle.cmark_flat.specs.Replies.{reply_at, shown_reply}
use Rattle.cmark_flat.specs.declared.error.DecodeError.TheVariants.{Malformed}
use Rattle.cmark_flat.proofs.Loop.{with_front}
use Rattle.cmark_flat.proofs.GroupLoop.{all_grouped, fails, is_part, step}
use Rattle.cmark_flat.proofs.replies.replies_of.Goals as goal

pub loop-at-preserved : goal.loop-at-preserved
loop-at-preserved c =
    let rs = c.args.records.now in
    let at = c.loop-at.at in
    let i = c.loop-at.invariant in
    let total = each reply_of (groups (map shown_record rs)) in
    let e = c.in-Some.reply in
    let h = subst (λ l. reply_at (map shown_record l) ≡ Some (shown_reply e)) c.rest_from.ensures c.in-Some.ensures in
    let number = c.parts_len.ensures.value ∙ ap (prefix_len is_part) c.rest_from-in-loop-at.ensures in
    record {
      within = omega (arith, c.loop-at-test.true, c.parts_len.ensures.within, ap length c.rest_from-in-loop-at.ensures, length-drop (at + 1) rs);
      so_far = subst (λ items. with_front (map shown_reply items) (each reply_of (groups (map shown_record (drop (at + (1 + c.parts_len.result)) rs)))) ≡ total) (sym c.in_ok-push.ensures.items)
          (step reply_of shown_reply rs at c.parts_len.result c.loop-at.replies.items e total c.loop-at-test.true number h i.so_far);
    }

pub returns-in_default : goal.returns-in_default
returns-in_default c =
    let rs = c.args.records.now in
    let h = subst (λ l. reply_at (map shown_record l) ≡ None) c.rest_from.ensures c.in_default.ensures in
    fails reply_of shown_reply rs c.loop-at.at Malformed (map shown_reply c.loop-at.replies.items) (each reply_of (groups (map shown_record rs))) c.loop-at-test.true h c.loop-at.invariant.so_far

pub returns : goal.returns
returns c = all_grouped reply_of shown_reply c.args.records.now c.loop-at.at (map shown_reply c.loop-at.replies.items) (each reply_of (groups (map shown_record c.args.records.now))) c.loop-at-test.false c.loop-at.invariant.so_far
