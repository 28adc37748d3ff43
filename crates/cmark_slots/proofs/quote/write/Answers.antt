use Rattle.std.proofs.Common.{◌+◌, List, drop, sym, ap, ◌∙◌, arith}
use Rattle.cmark_slots.specs.QuoteSlots.{with_characters}
use Rattle.cmark_slots.specs.declared.slot.Slot.{Slot}
use Rattle.cmark_slots.proofs.Quotes.{all-written, one-more}
use Rattle.cmark_slots.proofs.Placing.{no-quote}
use Rattle.cmark_slots.proofs.quote.write.Goals as goal

pub become_character-requires : goal.become_character-requires
become_character-requires c =
    let n = c.loop-at.invariant.1 in
    let m = (c.requires.texts c.loop-at.at no-quote c.loop-at-test.true).0 in
    record { there = omega (arith, n, m) }

pub loop-at-preserved : goal.loop-at-preserved
loop-at-preserved c =
    let i = c.loop-at.invariant in (
      (λ text place h. c.become_character.ensures.slots text place (i.0 text place h)),
      c.become_character.ensures.length ∙ i.1,
      (λ from h. c.become_character.ensures.links from (i.2 from h)),
      ap (λ (l : List Slot). with_characters (drop (c.loop-at.at + 1) c.args.placed.now) (drop (c.loop-at.at + 1) c.args.characters.now) l) c.become_character.ensures.value
          ∙ one-more c.args.placed.now c.args.characters.now c.loop-at.slots.items c.loop-at.at no-quote c.index-characters-at.result c.loop-at-test.true c.requires.characters c.index-characters-at.is
          ∙ i.3,
    )

pub returns-clause-value : goal.returns-clause-value
returns-clause-value c =
    let over = c.loop-at-test.false in
    let most = c.loop-at.auto.at-end in
    sym (all-written c.args.placed.now c.args.characters.now c.loop-at.slots.items c.loop-at.at (omega (arith, over, most))) ∙ c.loop-at.invariant.3
