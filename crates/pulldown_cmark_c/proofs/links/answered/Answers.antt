use Rattle.std.proofs.Common.{map, ap, ◌∙◌}
use Rattle.cmark_flat.specs.Questions.{answer_at}
use Rattle.cmark_flat.specs.Replies.{shown_reply}
use Rattle.cmark_flat_links.specs.Table.{answer_in}
use Rattle.pulldown_cmark_c.proofs.AnswerSteps.{all_answered}
use Rattle.pulldown_cmark_c.proofs.links.answered.Goals as goal

pub returns-clause-answered : goal.returns-clause-answered
returns-clause-answered g c =
    all_answered g.E.EntityLookup.replacement c.in_ok-parser.parser c.into_offset_iter-iter.result c.answered_of_rest.new.iter c.args.text.now _ _ c.args.answers.now c.in_ok-answered_of_rest.field-0.items c.new-callback.result
    (map shown_reply c.in_ok-replies.replies.items) c.in_ok-replies.ensures c.into_offset_iter-iter.ensures.walk c.in_ok-parser.ensures.callback c.new-callback.ensures.asked
    (λ start end. ap (λ t. answer_in t start end) c.new-callback.ensures.answers ∙ c.in_ok-table.ensures start end ∙ ap (λ l. answer_at start end (map shown_reply l)) c.as_slice.ensures.value)
    c.in_ok-parser.ensures.reads c.in_ok-answered_of_rest.ensures
