-- The effect of writing an iterator's events that was cut short.
use Rattle.std.specs.Prelude.{◌⊎◌, ℕ, List, map, Option, Some, None, Result, Ok, Err}
use Rattle.std.specs.declared.alloc.AllocError.{AllocError}
use Rattle.std.specs.Iterator.{Yields, YieldsThen}
use Rattle.cmark_grammar.specs.Html.{pieces, html}
use Rattle.cmark_text.specs.declared.event.Event.{Event}
use Rattle.cmark_text.specs.Appended.{AppendsFront}
use Rattle.cmark_text.specs.Shown.{shown}

module _ {S : Type 0} (steps : S → Option (Result Event AllocError) → S → Type 0) where
  -- the calls led from s to t and gave these events, and then perhaps an error item
  abbrev pub GaveTo : S → List Event → S → Type 0
  GaveTo s events t = Yields steps s (map Ok events) t ⊎ ((e : AllocError) × YieldsThen steps s (map Ok events) (Some (Err e)) t)

  -- the calls led from s to t, and the old text is followed by a beginning of the HTML of the events that they gave; the HTML that closes
  -- an image begins only if the iterator has ended
  abbrev pub StopsAt : S → S → List ℕ → List ℕ → Type 0
  StopsAt s t old new =
      (events : List Event) × ((GaveTo s events t × AppendsFront old new (pieces (map shown events)))
      ⊎ (YieldsThen steps s (map Ok events) None t × AppendsFront old new (html (map shown events))))

  -- like StopsAt, for an iterator that is dropped by the call
  abbrev pub Stops : S → List ℕ → List ℕ → Type 0
  Stops s old new = (t : S) × StopsAt s t old new
