-- The HTML of the safe forms of a text's events is safe.
use Rattle.std.proofs.Common.{◌≡◌, ℕ, List, [], ◌∷◌, map, refl, sym, ap, ◌∙◌, subst}
use Rattle.cmark_grammar.specs.Answers.{Lookup}
use Rattle.cmark_grammar.specs.Event.{Event, Ranged}
use Rattle.cmark_grammar.specs.Headline.{events_of, usual_limit}
use Rattle.cmark_grammar.specs.Html.{html}
use Rattle.cmark_grammar.specs.Options.{Options}
use Rattle.cmark_safe.proofs.SafeLaw.{safe_events_are_safe}
use Rattle.cmark_safe.specs.SafeEvents.{safe}
use Rattle.cmark_safe.specs.SafeHtml.{IsSafe}
use Rattle.cmark_parser.specs.Rendering.{IsHtmlBy, IsSafeHtmlOf, filtered_of}

each_filtered : (filtered : Event → Event) (rs : List Ranged) → filtered_of filtered rs ≡ map filtered (events_of rs)
each_filtered filtered [] = refl
each_filtered filtered (r ∷ rs) = ap (λ es. filtered r.event ∷ es) (each_filtered filtered rs)

pub safe_html_of : (text : List ℕ) (options : Options) (lookup : Lookup) (further output : List ℕ) → IsHtmlBy (usual_limit text) (safe further) text options lookup output → IsSafeHtmlOf text options lookup further output
safe_html_of text options lookup further output h = record { events = h.events; reading = h.reading; output_is = h.output_is ∙ ap html (each_filtered (safe further) h.events) }

pub safe_html : (text : List ℕ) (options : Options) (lookup : Lookup) (further output : List ℕ) → IsHtmlBy (usual_limit text) (safe further) text options lookup output → IsSafe further output
safe_html text options lookup further output h =
    subst (IsSafe further) (sym (h.output_is ∙ ap html (each_filtered (safe further) h.events))) (safe_events_are_safe further (events_of h.events))
