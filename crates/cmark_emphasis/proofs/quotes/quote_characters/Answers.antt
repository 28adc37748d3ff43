use Rattle.std.proofs.Common.{arith}
use Rattle.std.proofs.lemmas.Grind.{common_steps}
use Rattle.cmark_emphasis.specs.Shown.{shown_quote}
use Rattle.cmark_emphasis.proofs.Quoted.{after_taken}
use Rattle.cmark_emphasis.proofs.quotes.quote_characters.Goals as goal

pub returns : goal.returns
returns c = after_taken shown_quote c.args.quotes.now c.loop-quote.quote-index _ _ _ c.loop-quote-test.false c.loop-quote.invariant

pub loop-quote-preserved : goal.loop-quote-preserved
loop-quote-preserved c = grind (arith, common_steps)
