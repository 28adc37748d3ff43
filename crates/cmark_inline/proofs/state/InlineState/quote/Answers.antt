use Rattle.std.proofs.Common.{◌≡◌, ◌+◌, ◌==◌, ◌++◌, ◌∷◌, [], ℕ, List, length, get_or, drop, refl, sym, ap, ◌∙◌, rules, arith}
use Rattle.std.specs.Prelude.{chars}
use Rattle.cmark_grammar.specs.InlineTokens.{first_of, item_at}
use Rattle.cmark_grammar.specs.Items.{Quoted}
use Rattle.cmark_grammar.specs.Quotes.{quote_beside}
use Rattle.cmark_inline.specs.declared.state.InlineState.{InlineState}
use Rattle.cmark_inline.proofs.MarkSteps.{quote-begins}
use Rattle.cmark_inline.proofs.state.InlineState.quote.Goals as goal

-- the other parts of a state stay
made : (old new between : InlineState) → new ≡ between → between ≡ record old { slots = new.slots; quotes = between.quotes } → new ≡ record old { slots = new.slots; quotes = new.quotes }
made old new between e f = e ∙ f ∙ ap (λ (s : InlineState). record old { slots = new.slots; quotes = s.quotes }) (sym e)

pub returns-clause-token : goal.returns-clause-token
returns-clause-token c = λ o l cell smart is.
    let text : List ℕ = c.args.text.now in
    let at : ℕ = c.args.here.at in
    let end = c.following-end.ensures.value in
    let same : length c.flush.new.self.slots.items ≡ c.len.result = search rules in
    record {
      quote = c.quote_of-quote.result;
      token =
          quote-begins o l cell text at c.requires.byte.within smart (get_or text at 0) c.character_before-before.result c.character_at-after.result refl is c.character_before-before.ensures (c.character_at-after.ensures ∙ ap (λ (k : ℕ). first_of (chars (drop k text))) end)
          ∙ ap (λ q. item_at (Quoted q) at (at + 1)) (ap (λ (bs : List ℕ). quote_beside (get_or bs at 0 == 34) c.character_before-before.result c.character_at-after.result) (sym c.as_bytes.ensures.value) ∙ sym c.quote_of-quote.ensures)
          ∙ ap (item_at (Quoted _) at) (sym end);
      size = end;
      pending = refl;
      before = c.flush.new.self.slots.items;
      text_is = c.in_ok-flush.ensures.slots;
      slots = c.in_ok-add.ensures.slots;
      placed =
          ap (λ (s : InlineState). s.quotes.placed.items) c.in_ok-add.ensures.others ∙ c.in_ok-push.ensures
          ∙ ap (λ (s : InlineState). s.quotes.placed.items ++ (record { slot = c.len.result; quote = c.quote_of-quote.result } ∷ [])) c.in_ok-flush.ensures.others
          ∙ ap (λ (n : ℕ). c.args.self.now.quotes.placed.items ++ (record { slot = n; quote = c.quote_of-quote.result } ∷ [])) (sym same);
      others = made c.args.self.now c.add.new.self _ c.in_ok-add.ensures.others (ap (λ (s : InlineState). record s { slots = c.add.new.self.slots; quotes = c.push.new.self }) c.in_ok-flush.ensures.others);
    }

pub add-requires-clause-slot : goal.add-requires-clause-slot
add-requires-clause-slot c = record { part = c.following-end.ensures.part; before = omega arith; content = tt }
