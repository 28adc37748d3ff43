use Rattle.std.proofs.lemmas.Result.{on_ok_weaker, on_err_weaker}
use Rattle.cmark_html.proofs.push_html.Goals as goal

pub returns-clause-ok : goal.returns-clause-ok
returns-clause-ok g c = on_ok_weaker c.push_lent.result (λ h. (h.0, (c.push_lent.new.iter, h.1), h.2)) c.push_lent.ensures.ok

pub returns-clause-err : goal.returns-clause-err
returns-clause-err g c = on_err_weaker c.push_lent.result (λ h. (c.push_lent.new.iter, h)) c.push_lent.ensures.err
