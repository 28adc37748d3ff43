use Rattle.std.proofs.Common.{ℕ, List, ◌≡◌, ◌+◌, true, false, drop, true≢false, sym, ap, ◌∙◌, rules}
use Rattle.std.specs.Prelude.{IfSome, Option, Some, None}
use Rattle.cmark_leaf_text.specs.Reads.{IsPart}
use Rattle.cmark_leaf_text.specs.declared.leaf_text.LeafText.{LeafText}
use Rattle.cmark_slots.specs.Slots.{IsContent, begins_link}
use Rattle.cmark_slots.specs.declared.slot.SlotKind.TheVariants as kind
use Rattle.cmark_inline.specs.Sought.{CanBeSlot}
use Rattle.cmark_inline.specs.declared.markup.FoundHtml.{FoundHtml}
use Rattle.cmark_inline.specs.Tokens.{opens_markup}
use Rattle.cmark_inline.proofs.PaidSteps.{paid-tag}
use Rattle.cmark_inline.proofs.markup.Unclosed.inline_html.Goals as goal

-- a tag can be a slot
fits-tag : (leaf : LeafText) (text : List ℕ) (at : ℕ) (tag : Option FoundHtml) → IfSome tag (λ (found : FoundHtml). IsPart text at found.end) → IfSome tag (λ (found : FoundHtml). IsContent text found.end found.kind)
    → IfSome tag (λ (found : FoundHtml). begins_link found.kind ≡ false) → IfSome tag (λ (found : FoundHtml). (end : ℕ) → found.kind ≡ kind.SourceHtml end → ⊥) → IfSome tag (CanBeSlot leaf text at)
fits-tag leaf text at None part content link edge = tt
fits-tag leaf text at (Some found) part content link edge = record { part = part; content = content; kind_is = link; edge = λ end e. absurd (edge end e) }

pub returns-then-not-opens_in_source-clause-fits : goal.returns-then-not-opens_in_source-clause-fits
returns-then-not-opens_in_source-clause-fits c = fits-tag c.args.leaf.now c.args.text.now c.args.at c.tag.result c.tag.ensures.part c.tag.ensures.content c.tag.ensures.kind c.tag.ensures.edge

pub returns-then-not-opens_in_source-clause-paid : goal.returns-then-not-opens_in_source-clause-paid
returns-then-not-opens_in_source-clause-paid c = paid-tag c.args.leaf.now c.requires.text.read c.args.text.now c.args.at c.args.self.now c.tag.result c.tag.ensures.part c.requires.sought.paid

pub returns-clause-none : goal.returns-clause-none
returns-clause-none c = λ none.
    let opens : opens_markup (drop (c.args.at + 1) c.args.text.now) ≡ true = search rules in
    record { tag = λ e. absurd (true≢false (sym opens ∙ ap (λ t. opens_markup (drop (c.args.at + 1) t)) c.requires.text.same ∙ e)); markup = λ e. c.in_source.ensures.none none }

pub returns-then-not-opens_in_source-clause-searches : goal.returns-then-not-opens_in_source-clause-searches
returns-then-not-opens_in_source-clause-searches c = record {
  grows = search rules;
  passes = (λ opens.
      let none : opens_markup (drop (c.args.at + 1) c.args.text.now) ≡ false = search rules in
      absurd (true≢false (sym opens ∙ none)));
}
