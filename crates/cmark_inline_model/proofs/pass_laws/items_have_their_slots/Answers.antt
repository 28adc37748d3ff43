use Rattle.cmark_inline_model.proofs.RowPasses.{reached-own, reached-run, reached-quote, reached-autolink}
use Rattle.cmark_inline_model.proofs.pass_laws.items_have_their_slots.Goals as goal

pub returns-clause-own : goal.returns-clause-own
returns-clause-own c = reached-own

pub returns-clause-run : goal.returns-clause-run
returns-clause-run c = reached-run

pub returns-clause-quote : goal.returns-clause-quote
returns-clause-quote c = reached-quote

pub returns-clause-autolink : goal.returns-clause-autolink
returns-clause-autolink c = reached-autolink
