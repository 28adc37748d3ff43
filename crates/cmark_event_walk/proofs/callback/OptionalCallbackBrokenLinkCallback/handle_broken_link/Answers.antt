use Rattle.std.specs.Prelude.{IfSome}
use Rattle.std.proofs.Common.{Option, Some, refl, sym, subst}
use Rattle.cmark_event_walk.specs.Callback.{AnswersIfAny}
use Rattle.cmark_event_walk.proofs.callback.OptionalCallbackBrokenLinkCallback.handle_broken_link.Goals as goal

pub returns-in-Some-clause-answers : goal.returns-in-Some-clause-answers
returns-in-Some-clause-answers g c =
    subst (λ (before : Option g.row.F.Denot). AnswersIfAny g.F.BrokenLinkCallback.answers before c.args.link c.handle_broken_link.result (Some c.handle_broken_link.new.self)) (sym c.in-Some.is)
    (c.handle_broken_link.new.self, c.handle_broken_link.ensures.answers, refl)

pub returns-in-Some-clause-again : goal.returns-in-Some-clause-again
returns-in-Some-clause-again g c = λ x e. subst (λ o. IfSome o g.F.BrokenLinkCallback.ready) e c.handle_broken_link.ensures.again
