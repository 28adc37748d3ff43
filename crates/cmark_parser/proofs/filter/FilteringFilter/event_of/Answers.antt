use Rattle.std.proofs.Common.{ap, sym, ◌∙◌}
use Rattle.std.proofs.lemmas.Result.{IfOk-weaker}
use Rattle.cmark_text.specs.Shown.{shown}
use Rattle.cmark_parser.specs.Filters.{filtered_by}
use Rattle.cmark_parser.proofs.filter.FilteringFilter.event_of.Goals as goal

pub returns-in-AsTheyAre : goal.returns-in-AsTheyAre
returns-in-AsTheyAre c = sym (ap (λ f. filtered_by f (shown c.args.event)) c.in-AsTheyAre.is)

pub returns-in-Safe : goal.returns-in-Safe
returns-in-Safe c = IfOk-weaker c.safe_event.result _ _ (λ made same. same ∙ sym (ap (λ f. filtered_by f (shown c.args.event)) c.in-Safe.is)) c.safe_event.ensures.value
