use Rattle.std.proofs.Common.{map, reverse, take}
use Rattle.cmark_emphasis.specs.Shown.{shown_quote}
use Rattle.cmark_emphasis.specs.QuoteSteps.{IsAfter}
use Rattle.cmark_emphasis.proofs.quotes.quote_characters.Given as goal

abbrev pub invariant-loop-quote : goal.invariant-loop-quote
invariant-loop-quote l = IsAfter (reverse (map shown_quote (take l.quote-index l.quotes))) l.opened.single l.opened.double l.characters.items
