use Rattle.std.proofs.Common.{map, take}
use Rattle.cmark_flat.specs.Replies.{shown_answer, shown_reply}
use Rattle.cmark_flat_links.proofs.TableSteps.{Has}
use Rattle.cmark_flat_links.proofs.table.AnswerTable.new.Given as goal

abbrev pub invariant-loop-reply : goal.invariant-loop-reply
invariant-loop-reply l = Has shown_answer l.answers (map shown_reply (take l.reply-index l.replies))
