use Rattle.std.proofs.Common.{ap, sym, ◌∙◌}
use Rattle.cmark_text.specs.Short.{shown_short}
use Rattle.cmark_parser.specs.Filters.{filtered_by}
use Rattle.cmark_parser.proofs.filter.FilteringFilter.short_of.Goals as goal

pub returns-in-AsTheyAre : goal.returns-in-AsTheyAre
returns-in-AsTheyAre c = sym (ap (λ f. filtered_by f (shown_short c.args.short)) c.in-AsTheyAre.is)

pub returns-in-Safe : goal.returns-in-Safe
returns-in-Safe c = c.safe_short.ensures c.in-Safe.field-0.now ∙ sym (ap (λ f. filtered_by f (shown_short c.args.short)) c.in-Safe.is)
