use Rattle.std.proofs.Common.{rules, ◌≡◌, List, sym, ap, ◌∙◌, drop, length, arith}
use Rattle.std.proofs.lemmas.List.{drop_all}
use Rattle.cmark_slots.specs.QuoteSlots.{characters_of, with_characters}
use Rattle.cmark_slots.specs.declared.quote.PlacedQuote.{PlacedQuote}
use Rattle.cmark_slots.specs.SlotViews.{shown_slots}
use Rattle.cmark_slots.proofs.Quotes.{many}
use Rattle.cmark_slots.proofs.QuotedSlots.{quotes-shown}
use Rattle.cmark_slots.proofs.quote.Quotes.resolve.Goals as goal

pub returns-then-len-first-clause-value : goal.returns-then-len-first-clause-value
returns-then-len-first-clause-value c =
    let none = drop_all c.args.first c.args.self.now.placed.items (omega (arith, c.if-len-first.true, c.len.ensures)) in
    sym (ap (λ (l : List PlacedQuote). with_characters l (characters_of l) c.args.slots.now.items) none)

pub returns-clause-quotes : goal.returns-clause-quotes
returns-clause-quotes c = λ leaf texts links.
    let mine : List PlacedQuote = drop c.args.first c.args.self.now.placed.items in
    let v : c.write.new.slots.items ≡ with_characters mine (characters_of mine) c.args.slots.now.items = search rules in
    ap (shown_slots leaf texts links) v ∙ quotes-shown leaf texts links mine c.args.slots.now.items c.requires.texts

pub write-requires-clause-characters : goal.write-requires-clause-characters
write-requires-clause-characters c =
    let mine : List PlacedQuote = drop c.args.first c.args.self.now.placed.items in
    let made : c.as_slice-3.result.now ≡ characters_of mine = search rules in
    let left : c.quotes_from-2.result.now ≡ mine = search rules in
    ap length made ∙ many mine ∙ ap length (sym left)
