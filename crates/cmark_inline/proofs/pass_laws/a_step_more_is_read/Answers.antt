use Rattle.cmark_inline.proofs.ReachedSteps.{own-read, run-read, quote-read, opening-read}
use Rattle.cmark_inline.proofs.pass_laws.a_step_more_is_read.Goals as goal

pub returns-clause-own : goal.returns-clause-own
returns-clause-own c = own-read

pub returns-clause-run : goal.returns-clause-run
returns-clause-run c = run-read

pub returns-clause-quote : goal.returns-clause-quote
returns-clause-quote c = quote-read

pub returns-clause-opening : goal.returns-clause-opening
returns-clause-opening c = opening-read
