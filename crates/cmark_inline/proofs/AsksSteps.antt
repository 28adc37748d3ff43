-- The questions that were asked, if memory was refused.
use Rattle.std.specs.Prelude.{Option, Some, None}
use Rattle.std.proofs.Common.{◌≡◌, ℕ, List, inl, inr, sym, subst}
use Rattle.cmark_grammar.specs.Answers.{Lookup}
use Rattle.cmark_grammar.specs.BracketDecisions.{following, link_or}
use Rattle.cmark_grammar.specs.BracketStates.{Asks, Decision, Outcome, Settled}
use Rattle.cmark_grammar.specs.LinkTails.{link_tail_in}
use Rattle.cmark_grammar.specs.Options.{Options}
use Rattle.cmark_inline.specs.Closers.{AsksOfLink, LinksTaken}
use Rattle.cmark_inline.specs.Decided.{AsksOf, AsksOfTarget, ComesTo, TargetDecides}
use Rattle.cmark_inline.specs.declared.callback.BrokenLink.{BrokenLink}
use Rattle.cmark_inline.specs.declared.link.Target.{Target}
use Rattle.cmark_inline.specs.declared.state.InlineState.{InlineState}
use Rattle.cmark_inline.specs.declared.step.Cursor.{Cursor}
use Rattle.cmark_leaf_text.specs.declared.leaf_text.LeafText.{LeafText}
use Rattle.cmark_references.specs.declared.definitions.RefDefs.{RefDefs}
use Rattle.cmark_slots.specs.declared.bracket.Bracket.{Bracket}
use Rattle.cmark_values.specs.declared.text.CowStr.{CowStr}

module _ {F : Type 0} (R : F → BrokenLink → Option (CowStr × CowStr) → F → Type 0) where
  pub asks-none : (d : Decision) (before after : F) → after ≡ before → AsksOf R d before after
  asks-none (Settled settled) before after same = same
  asks-none (Asks question answered) before after same = inl same

  -- the question of a decision was asked
  pub comes-asks : (d : Decision) (outcome : Outcome) (before after : F) → ComesTo R d outcome before after → AsksOf R d before after
  comes-asks (Settled settled) outcome before after h = h.1
  comes-asks (Asks question answered) outcome before after h = inr (h.0, h.1)

  module _ (options : Options) (lookup : Lookup) (references : RefDefs) (leaf : LeafText) (text : List ℕ) (close : ℕ) where
    pub target-none : (bracket : Bracket) (old : InlineState) (before after : F) → after ≡ before → AsksOfTarget R options lookup references leaf text bracket close old before after
    target-none bracket old before after same = λ footnotes reader read place taken closer s r c p mem none. asks-none (link_or reader read (link_tail_in (following reader read closer.end)) taken closer s) before after same

    pub decides-asks : (bracket : Bracket) (old new : InlineState) (found : Option Target) (before after : F) → TargetDecides R options lookup references leaf text bracket close old new found before after
        → AsksOfTarget R options lookup references leaf text bracket close old before after
    decides-asks bracket old new found before after decides = λ footnotes reader read place taken closer s r c p mem none.
        comes-asks (link_or reader read (link_tail_in (following reader read closer.end)) taken closer s) _ before after (decides footnotes reader read place taken closer s r c p mem none).0.comes

    pub bracket-asks : (taken : Option Bracket) (bracket : Bracket) (old : InlineState) (before after : F) → taken ≡ Some bracket → AsksOfTarget R options lookup references leaf text bracket close old before after
        → AsksOfLink R options lookup references leaf text taken close old before after
    bracket-asks taken bracket old before after is asks = subst (λ (t : Option Bracket). AsksOfLink R options lookup references leaf text t close old before after) (sym is) asks

    -- a link was formed, or nothing
    pub links-ask : (taken : Option Bracket) (old new : InlineState) (next : Option Cursor) (before after : F) → LinksTaken R options lookup references leaf text taken close old new next before after
        → AsksOfLink R options lookup references leaf text taken close old before after
    links-ask None old new next before after links = links.2
    links-ask (Some bracket) old new next before after links = decides-asks bracket old links.between links.target before after links.decides
