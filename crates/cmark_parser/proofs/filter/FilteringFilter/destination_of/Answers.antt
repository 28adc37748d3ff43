use Rattle.std.proofs.Common.{ap, sym, ◌∙◌}
use Rattle.cmark_grammar.specs.Event.{Start}
use Rattle.cmark_grammar.specs.Tag.{Link}
use Rattle.cmark_safe.specs.SafeEvents.{safe_destination}
use Rattle.cmark_parser.specs.Filters.{filtered_by}
use Rattle.cmark_parser.specs.Rendering.{leads_to}
use Rattle.cmark_parser.proofs.filter.FilteringFilter.destination_of.Goals as goal

pub returns-in-AsTheyAre : goal.returns-in-AsTheyAre
returns-in-AsTheyAre c link e = ap (λ f. filtered_by f (Start (Link link))) c.in-AsTheyAre.is ∙ ap (λ x. Start (Link (leads_to x link))) e

pub returns-in-Safe : goal.returns-in-Safe
returns-in-Safe c link e = ap (λ f. filtered_by f (Start (Link link))) c.in-Safe.is ∙ ap (λ x. Start (Link (leads_to x link))) (ap (safe_destination c.in-Safe.further.now) e ∙ sym c.safe_destination.ensures)
