use Rattle.cmark_emphasis.specs.Shown.{shown_quote}
use Rattle.cmark_emphasis.proofs.Quoted.{after_double, after_single, after_within}
use Rattle.cmark_emphasis.proofs.quotes.add_quote.Goals as goal

pub add_single-requires : goal.add_single-requires
add_single-requires c = after_within c.requires.0 c.args.opened.single c.args.opened.double c.args.characters.now.items c.requires.1

pub returns-then-quote : goal.returns-then-quote
returns-then-quote c before h = after_double (shown_quote c.args.quote) before _ _ _ _ _ h c.if-quote.true c.in_ok-double.ensures.double c.in_ok-double.ensures.characters

pub returns : goal.returns
returns c before h = after_single (shown_quote c.args.quote) before _ _ _ _ _ h c.if-quote.false c.in_ok-single.ensures.single c.in_ok-single.ensures.characters
