use Rattle.std.proofs.Common.{rules, ◌≡◌, ◌++◌, ◌∷◌, [], List, ap, sym, ◌∙◌, append_assoc}
use Rattle.std.specs.Prelude.{map}
use Rattle.cmark_emphasis.specs.declared.quotes.Quote.{Quote}
use Rattle.cmark_slots.specs.declared.quote.PlacedQuote.{PlacedQuote}
use Rattle.cmark_slots.proofs.quote.gather.Goals as goal

abbrev quotes : List PlacedQuote → List Quote
quotes ps = map (λ (p : PlacedQuote). p.quote) ps

pub loop-next-preserved : goal.loop-next-preserved
loop-next-preserved c =
    let before : List Quote = c.loop-next.quotes.items in
    let q : Quote = c.in-Some.next.now.quote in
    let others : List PlacedQuote = c.in-Some.others.now in
    let e : c.loop-next.rest.now ≡ c.in-Some.next.now ∷ others = search rules in
    ap (λ (l : List Quote). l ++ quotes others) c.in_ok-push.ensures.items
    ∙ append_assoc before (q ∷ []) (quotes others)
    ∙ ap (λ (ps : List PlacedQuote). before ++ quotes ps) (sym e)
    ∙ c.loop-next.invariant
