use Rattle.std.proofs.Common.{◌≡◌, ◌++◌, length}
use Rattle.std.specs.Prelude.{map}
use Rattle.cmark_slots.specs.declared.quote.PlacedQuote.{PlacedQuote}
use Rattle.cmark_slots.proofs.quote.gather.Given as goal

abbrev pub invariant-loop-next : goal.invariant-loop-next
invariant-loop-next l = l.quotes.items ++ map (λ (p : PlacedQuote). p.quote) l.rest ≡ map (λ (p : PlacedQuote). p.quote) l.placed

abbrev pub decreases-loop-next : goal.decreases-loop-next
decreases-loop-next l = length l.rest
