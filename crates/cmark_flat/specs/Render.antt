-- The HTML that flat records stand for.
use Rattle.std.specs.Prelude.{ℕ, List, map, Option, Some}
use Rattle.cmark_grammar.specs.Event.{Event, Ranged}
use Rattle.cmark_grammar.specs.Html.{html}
use Rattle.cmark_safe.specs.SafeEvents.{safe}
use Rattle.cmark_flat.specs.Decode.{◌>>=◌, decode}

-- events without their ranges
abbrev pub bare : List Ranged → List Event
bare rs = map (λ r. r.event) rs

-- the HTML of the events, if the bytes stand for some
abbrev pub rendered : List ℕ → Option (List ℕ)
rendered bytes = decode bytes >>= λ events. Some (html (bare events))

-- the HTML of the safe forms of the events, if the bytes stand for some; `further` has the names of further schemes
abbrev pub safely_rendered : (further bytes : List ℕ) → Option (List ℕ)
safely_rendered further bytes = decode bytes >>= λ events. Some (html (map (safe further) (bare events)))
