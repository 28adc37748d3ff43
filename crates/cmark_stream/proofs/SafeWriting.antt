-- The HTML of the safe forms of events is safe.
use Rattle.std.proofs.Common.{◌≡◌, ℕ, List, [], ◌∷◌, map, refl, sym, ap, ◌∙◌, subst}
use Rattle.cmark_grammar.specs.Event.{Ranged}
use Rattle.cmark_grammar.specs.Headline.{events_of}
use Rattle.cmark_grammar.specs.Html.{html}
use Rattle.cmark_parser.specs.Rendering.{filtered_of}
use Rattle.cmark_safe.proofs.SafeLaw.{safe_events_are_safe}
use Rattle.cmark_safe.specs.SafeEvents.{safe}
use Rattle.cmark_safe.specs.SafeHtml.{IsSafe}

each-safe : (further : List ℕ) (rs : List Ranged) → filtered_of (safe further) rs ≡ map (safe further) (events_of rs)
each-safe further [] = refl
each-safe further (r ∷ rs) = ap (λ es. safe further r.event ∷ es) (each-safe further rs)

pub written-safely : (further output : List ℕ) (rs : List Ranged) → output ≡ html (filtered_of (safe further) rs) → IsSafe further output
written-safely further output rs e = subst (IsSafe further) (sym (e ∙ ap html (each-safe further rs))) (safe_events_are_safe further (events_of rs))
